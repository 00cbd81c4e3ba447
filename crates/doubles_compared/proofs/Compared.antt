-- Two doubles compared by their patterns: units are in the order of magnitudes, and infinities above them; a NaN compares to nothing.
use mathlib.Core.Path.{◌≡◌, refl, sym, ap, ◌∙◌}
use mathlib.Core.Bool.{Bool, true, false, not, ◌&&◌, ◌||◌, beq, true≢false}
use mathlib.Core.Logic.{◌⊎◌, inl, inr}
use Prim.Native.Nat.{ℕ, ◌+◌, ◌*◌, ◌/◌, ◌^◌, ◌≤◌, ◌<◌}
use native.Mathlib.Nat.{zero-mul, mul_comm, mul_assoc, mul_right_comm, mul-pos, eq-or-lt_of_le}
use native.Mathlib.Omega.{arith}
use lib.Dec.{ltb, leb, eqb}
use lib.IntN.{ℤ}
use lib.Pow.{pow_pos}
use borrow.Author.Tests.{le-leb, lt-leb, lt-ltb, le-ltb, eq-eqb, ne_eqb, ltb-false, eqb-true, eqb-false}
use lib.Ieee.{Float, nan, inf, fin, binary64, low, up, down, lt, le, eq, below, level, of_bits, is_nan}
use lib.Ieee.Bits.{nan_bits_is, nan_bits_above}
use lib.Ieee.Fits.{down_pos}
use lib.Ieee.Exact.{HasValue}
use Rattle.doubles_patterns.specs.Doubles.{is_less, is_equal, is_unordered}
use Rattle.doubles_patterns.specs.Patterns.{word, top_place, infinity, magnitude, negative, units_of}
use Rattle.doubles_patterns.proofs.Sizes.{le_or_lt}
use Rattle.doubles_patterns.proofs.Values.{less, sums}
use Rattle.doubles_patterns.proofs.Magnitudes.{units_less, units_zero, units_some}
use Rattle.doubles_patterns.proofs.Specials.{value_of, nan_of, inf_of}
use Rattle.doubles_patterns.proofs.Signs.{signs_unlike}

-- ---- values in units
below_scale : (s t : Bool) (A B c X Y L : ℕ) → 0 < c → 0 < L → A * L ≡ X * c → B * L ≡ Y * c → below s A t B ≡ below s X t Y
below_scale false false A B c X Y L C l x y = less A B c X Y L C l x y
below_scale false true A B c X Y L C l x y = refl
below_scale true false A B c X Y L C l x y = less 0 (A + B) c 0 (X + Y) L C l (zero-mul L ∙ sym (zero-mul c)) (sums A B c X Y L C l x y)
below_scale true true A B c X Y L C l x y = less B A c Y X L C l y x

-- two tests of equality that say the same, by the two orders
eqb_by_order : (A B X Y : ℕ) → ltb A B ≡ ltb X Y → ltb B A ≡ ltb Y X → eqb A B ≡ eqb X Y
eqb_by_order A B X Y p q = go (eqb X Y) refl
  where
    go : (t : Bool) → eqb X Y ≡ t → eqb A B ≡ t
    go true e =
        let x : X ≡ Y = eqb-true X Y e in
        let a : B ≤ A = ltb-false A B (p ∙ le-ltb X Y (omega arith)) in
        let b : A ≤ B = ltb-false B A (q ∙ le-ltb Y X (omega arith)) in
        eq-eqb A B (omega arith)
    go false e = ne_eqb A B (λ (h : A ≡ B). apart h)
      where
        apart : A ≡ B → ⊥
        apart h =
            let a : Y ≤ X = ltb-false X Y (sym p ∙ le-ltb A B (omega arith)) in
            let b : X ≤ Y = ltb-false Y X (sym q ∙ le-ltb B A (omega arith)) in
            eqb-false X Y e (omega arith)

level_by : (s t : Bool) (A B X Y : ℕ) → eqb A B ≡ eqb X Y → eqb A 0 ≡ eqb X 0 → level s A t B ≡ level s X t Y
level_by s t A B X Y p q = ap (λ (b : Bool). b && (beq s t || eqb A 0)) p ∙ ap (λ (b : Bool). eqb X Y && (beq s t || b)) q

lt_opened : (s : Bool) (m : ℕ) (e : ℤ) (t : Bool) (n : ℕ) (d : ℤ)
    → lt (fin s m e) (fin t n d) ≡ below s (m * up e * down d) t (n * up d * down e)
unfolding lt
lt_opened s m e t n d = refl

eq_opened : (s : Bool) (m : ℕ) (e : ℤ) (t : Bool) (n : ℕ) (d : ℤ)
    → eq (fin s m e) (fin t n d) ≡ level s (m * up e * down d) t (n * up d * down e)
unfolding eq
eq_opened s m e t n d = refl

values : (x y : Float) (s : Bool) (X : ℕ) (t : Bool) (Y L : ℕ) → 0 < L → HasValue x s X L → HasValue y t Y L
    → (lt x y ≡ below s X t Y) × (eq x y ≡ level s X t Y)
values nan y s X t Y L l h k = absurd h
values (inf u) y s X t Y L l h k = absurd h
values (fin u m e) nan s X t Y L l h k = absurd k
values (fin u m e) (inf v) s X t Y L l h k = absurd k
values (fin u m e) (fin v n d) s X t Y L l h k =
    let A = m * up e * down d in
    let B = n * up d * down e in
    let c = down e * down d in
    let C : 0 < c = mul-pos (down_pos e) (down_pos d) in
    let x : A * L ≡ X * c = mul_right_comm (m * up e) (down d) L ∙ ap (λ (z : ℕ). z * down d) h.1 ∙ mul_assoc X (down e) (down d) in
    let y : B * L ≡ Y * c =
    mul_right_comm (n * up d) (down e) L ∙ ap (λ (z : ℕ). z * down e) k.1 ∙ mul_assoc Y (down d) (down e)
    ∙ ap (λ (z : ℕ). Y * z) (mul_comm (down d) (down e)) in
    let o : 0 * L ≡ 0 * c = zero-mul L ∙ sym (zero-mul c) in (
      lt_opened u m e v n d ∙ ap (λ (b : Bool). below b A v B) h.0 ∙ ap (λ (b : Bool). below s A b B) k.0
          ∙ below_scale s t A B c X Y L C l x y,
      eq_opened u m e v n d ∙ ap (λ (b : Bool). level b A v B) h.0 ∙ ap (λ (b : Bool). level s A b B) k.0
          ∙ level_by s t A B X Y (eqb_by_order A B X Y (less A B c X Y L C l x y) (less B A c Y X L C l y x))
          (eqb_by_order A 0 X 0 (less A 0 c X 0 L C l x o) (less 0 A c 0 X L C l o x)),
    )

-- ---- units are in the patterns' order
units_order : (p o : ℕ) → p < infinity → o < infinity → ltb (units_of p) (units_of o) ≡ ltb p o
units_order p o hp ho = go (le_or_lt o p)
  where
    go : (o ≤ p) ⊎ (p < o) → ltb (units_of p) (units_of o) ≡ ltb p o
    go (inr l) = lt-ltb (units_of p) (units_of o) (units_less o p ho l) ∙ sym (lt-ltb p o l)
    go (inl l) = le-ltb (units_of p) (units_of o) (at_most (eq-or-lt_of_le l)) ∙ sym (le-ltb p o l)
      where
        at_most : (o ≡ p) ⊎ (o < p) → units_of o ≤ units_of p
        at_most (inl e) = native_le (ap units_of e)
          where
            native_le : units_of o ≡ units_of p → units_of o ≤ units_of p
            native_le e = omega arith
        at_most (inr g) = let h = units_less p o hp g in omega arith

units_some_order : (p o : ℕ) → p < infinity → o < infinity → ltb 0 (units_of p + units_of o) ≡ ltb 0 (p + o)
units_some_order p o hp ho = go (le_or_lt 1 p) (le_or_lt 1 o)
  where
    none : (p : ℕ) → p < 1 → units_of p ≡ 0
    none p h = ap units_of (zero_is p h) ∙ units_zero
      where
        zero_is : (p : ℕ) → p < 1 → p ≡ 0
        zero_is p h = omega arith

    go : (1 ≤ p) ⊎ (p < 1) → (1 ≤ o) ⊎ (o < 1) → ltb 0 (units_of p + units_of o) ≡ ltb 0 (p + o)
    go (inl a) y = let h = units_some p hp a in lt-ltb 0 (units_of p + units_of o) (omega arith) ∙ sym (lt-ltb 0 (p + o) (omega arith))
    go (inr a) (inl b) =
        let h = units_some o ho b in lt-ltb 0 (units_of p + units_of o) (omega arith) ∙ sym (lt-ltb 0 (p + o) (omega arith))
    go (inr a) (inr b) =
        let h = none p a in let k = none o b in le-ltb 0 (units_of p + units_of o) (omega arith) ∙ sym (le-ltb 0 (p + o) (omega arith))

below_units : (s t : Bool) (p o : ℕ) → p < infinity → o < infinity → below s (units_of p) t (units_of o) ≡ below s p t o
below_units false false p o hp ho = units_order p o hp ho
below_units false true p o hp ho = refl
below_units true false p o hp ho = units_some_order p o hp ho
below_units true true p o hp ho = units_order o p ho hp

level_units : (s t : Bool) (p o : ℕ) → p < infinity → o < infinity → level s (units_of p) t (units_of o) ≡ level s p t o
level_units s t p o hp ho =
    level_by s t (units_of p) (units_of o) p o (eqb_by_order (units_of p) (units_of o) p o (units_order p o hp ho) (units_order o p ho hp))
    (ap (eqb (units_of p)) (sym units_zero)
    ∙ eqb_by_order (units_of p) (units_of 0) p 0 (units_order p 0 hp (omega arith)) (units_order 0 p (omega arith) hp))

-- ---- infinities
inf_fin : (s t : Bool) (y : Float) (Y L o : ℕ) → HasValue y t Y L → o < infinity
    → (lt (inf s) y ≡ below s infinity t o) × (eq (inf s) y ≡ level s infinity t o) × (lt y (inf s) ≡ below t o s infinity) ×
    (eq y (inf s) ≡ level t o s infinity)
unfolding lt eq
inf_fin s t nan Y L o h g = absurd h
inf_fin s t (inf u) Y L o h g = absurd h
inf_fin s t (fin u n d) Y L o h g = (
  one s t,
  ap (λ (b : Bool). b && (beq s t || eqb infinity 0)) (sym (ne_eqb infinity o (λ e. apart o g e))),
  two t s,
  ap (λ (b : Bool). b && (beq t s || eqb o 0)) (sym (ne_eqb o infinity (λ e. apart o g (sym e)))),
)
  where
    apart : (o : ℕ) → o < infinity → infinity ≡ o → ⊥
    apart o g e = omega arith

    one : (s t : Bool) → s ≡ below s infinity t o
    one false false = sym (le-ltb infinity o (omega arith))
    one false true = refl
    one true false = sym (lt-ltb 0 (infinity + o) (omega arith))
    one true true = sym (lt-ltb o infinity g)

    two : (t s : Bool) → not s ≡ below t o s infinity
    two false false = sym (lt-ltb o infinity g)
    two false true = refl
    two true false = sym (lt-ltb 0 (o + infinity) (omega arith))
    two true true = sym (le-ltb infinity o (omega arith))

inf_inf : (s t : Bool) → (lt (inf s) (inf t) ≡ below s infinity t infinity) × (eq (inf s) (inf t) ≡ level s infinity t infinity)
unfolding lt eq
inf_inf false false = (refl, refl)
inf_inf false true = (refl, refl)
inf_inf true false = (refl, refl)
inf_inf true true = (refl, refl)

-- ---- the law
pub compared : (a b : ℕ) → magnitude a ≤ infinity → magnitude b ≤ infinity
    → (is_less a b ≡ below (negative a) (magnitude a) (negative b) (magnitude b))
    × (is_equal a b ≡ level (negative a) (magnitude a) (negative b) (magnitude b))
compared a b ha hb = go (eq-or-lt_of_le ha) (eq-or-lt_of_le hb)
  where
    go : (magnitude a ≡ infinity) ⊎ (magnitude a < infinity) → (magnitude b ≡ infinity) ⊎ (magnitude b < infinity)
        → (is_less a b ≡ below (negative a) (magnitude a) (negative b) (magnitude b))
        × (is_equal a b ≡ level (negative a) (magnitude a) (negative b) (magnitude b))
    go (inr x) (inr y) =
        let v =
        values (of_bits binary64 a) (of_bits binary64 b) (negative a) (units_of (magnitude a)) (negative b) (units_of (magnitude b))
        (2 ^ low binary64) (pow_pos (low binary64)) (value_of a x) (value_of b y) in (
          v.0 ∙ below_units (negative a) (negative b) (magnitude a) (magnitude b) x y,
          v.1 ∙ level_units (negative a) (negative b) (magnitude a) (magnitude b) x y,
        )
    go (inl x) (inl y) =
        let v = inf_inf (negative a) (negative b) in (
          ap (λ (z : Float). lt z (of_bits binary64 b)) (inf_of a x) ∙ ap (lt (inf (negative a))) (inf_of b y) ∙ v.0
              ∙ ap (λ (z : ℕ). below (negative a) z (negative b) infinity) (sym x)
              ∙ ap (below (negative a) (magnitude a) (negative b)) (sym y),
          ap (λ (z : Float). eq z (of_bits binary64 b)) (inf_of a x) ∙ ap (eq (inf (negative a))) (inf_of b y) ∙ v.1
              ∙ ap (λ (z : ℕ). level (negative a) z (negative b) infinity) (sym x)
              ∙ ap (level (negative a) (magnitude a) (negative b)) (sym y),
        )
    go (inl x) (inr y) =
        let v =
        inf_fin (negative a) (negative b) (of_bits binary64 b) (units_of (magnitude b)) (2 ^ low binary64)
        (magnitude b) (value_of b y) y in (
          ap (λ (z : Float). lt z (of_bits binary64 b)) (inf_of a x) ∙ v.0
              ∙ ap (λ (z : ℕ). below (negative a) z (negative b) (magnitude b)) (sym x),
          ap (λ (z : Float). eq z (of_bits binary64 b)) (inf_of a x) ∙ v.1
              ∙ ap (λ (z : ℕ). level (negative a) z (negative b) (magnitude b)) (sym x),
        )
    go (inr x) (inl y) =
        let v =
        inf_fin (negative b) (negative a) (of_bits binary64 a) (units_of (magnitude a)) (2 ^ low binary64)
        (magnitude a) (value_of a x) x in (
          ap (lt (of_bits binary64 a)) (inf_of b y) ∙ v.2 ∙ ap (below (negative a) (magnitude a) (negative b)) (sym y),
          ap (eq (of_bits binary64 a)) (inf_of b y) ∙ v.3 ∙ ap (level (negative a) (magnitude a) (negative b)) (sym y),
        )

-- ---- NaN
nan_left : (y : Float) → (lt nan y ≡ false) × (eq nan y ≡ false)
unfolding lt eq
nan_left y = (refl, refl)

nan_right : (x : Float) → (lt x nan ≡ false) × (eq x nan ≡ false)
unfolding lt eq
nan_right nan = (refl, refl)
nan_right (inf s) = (refl, refl)
nan_right (fin s m e) = (refl, refl)

module _ (a b : ℕ) where
  pub nan_first : infinity < magnitude a → (false ≡ is_less a b) × (false ≡ is_equal a b)
  nan_first h = (
    sym (ap (λ (z : Float). lt z (of_bits binary64 b)) (nan_of a h) ∙ (nan_left (of_bits binary64 b)).0),
    sym (ap (λ (z : Float). eq z (of_bits binary64 b)) (nan_of a h) ∙ (nan_left (of_bits binary64 b)).1),
  )

  pub nan_second : infinity < magnitude b → (false ≡ is_less a b) × (false ≡ is_equal a b)
  nan_second h = (
    sym (ap (lt (of_bits binary64 a)) (nan_of b h) ∙ (nan_right (of_bits binary64 a)).0),
    sym (ap (eq (of_bits binary64 a)) (nan_of b h) ∙ (nan_right (of_bits binary64 a)).1),
  )

-- ---- as the code has them
module _ (a b : ℕ) (ha : magnitude a ≤ infinity) (hb : magnitude b ≤ infinity) where
  lt_at : (s t : Bool) → negative a ≡ s → negative b ≡ t → below s (magnitude a) t (magnitude b) ≡ is_less a b
  lt_at s t x y =
      sym ((compared a b ha hb).0 ∙ ap (λ (z : Bool). below z (magnitude a) (negative b) (magnitude b)) x
      ∙ ap (λ (z : Bool). below s (magnitude a) z (magnitude b)) y)

  pub lt_above : a < top_place → b < top_place → ltb (magnitude a) (magnitude b) ≡ is_less a b
  lt_above x y = lt_at false false (lt-leb top_place a x) (lt-leb top_place b y)

  pub lt_down : a < top_place → top_place ≤ b → false ≡ is_less a b
  lt_down x y = lt_at false true (lt-leb top_place a x) (le-leb top_place b y)

  pub lt_up : top_place ≤ a → b < top_place → ltb 0 (magnitude a + magnitude b) ≡ is_less a b
  lt_up x y = lt_at true false (le-leb top_place a x) (lt-leb top_place b y)

  pub lt_below : top_place ≤ a → top_place ≤ b → ltb (magnitude b) (magnitude a) ≡ is_less a b
  lt_below x y = lt_at true true (le-leb top_place a x) (le-leb top_place b y)

  pub eq_zero : magnitude a ≡ 0 → eqb (magnitude b) 0 ≡ is_equal a b
  eq_zero z =
      sym ((compared a b ha hb).1 ∙ ap (λ (p : ℕ). level (negative a) p (negative b) (magnitude b)) z
      ∙ go (negative a) (negative b) (magnitude b))
    where
      turned : (o : ℕ) → eqb 0 o ≡ eqb o 0
      turned o = t (eqb o 0) refl
        where
          t : (x : Bool) → eqb o 0 ≡ x → eqb 0 o ≡ x
          t true e = eq-eqb 0 o (sym (eqb-true o 0 e))
          t false e = ne_eqb 0 o (λ q. eqb-false o 0 e (sym q))

      either : (x : Bool) → x || true ≡ true
      either true = refl
      either false = refl

      both : (x : Bool) → x && true ≡ x
      both true = refl
      both false = refl

      go : (s t : Bool) (o : ℕ) → level s 0 t o ≡ eqb o 0
      go s t o = ap (λ (x : Bool). eqb 0 o && x) (either (beq s t)) ∙ both (eqb 0 o) ∙ turned o

  pub eq_other : a < word → b < word → (magnitude a ≡ 0 → ⊥) → eqb a b ≡ is_equal a b
  eq_other sa sb z = go (eqb a b) refl ∙ sym (compared a b ha hb).1
    where
      beq_same : (s t : Bool) → s ≡ t → beq s t || eqb (magnitude a) 0 ≡ true
      beq_same true true e = refl
      beq_same false false e = refl
      beq_same true false e = absurd (true≢false e)
      beq_same false true e = absurd (true≢false (sym e))

      beq_other : (s t : Bool) → (s ≡ t → ⊥) → beq s t ≡ false
      beq_other true true e = absurd (e refl)
      beq_other false false e = absurd (e refl)
      beq_other true false e = refl
      beq_other false true e = refl

      none : (x : Bool) → x && false ≡ false
      none true = refl
      none false = refl

      go : (t : Bool) → eqb a b ≡ t → t ≡ level (negative a) (magnitude a) (negative b) (magnitude b)
      go true e =
          let x : a ≡ b = eqb-true a b e in
          sym (ap (λ (y : Bool). y && (beq (negative a) (negative b) || eqb (magnitude a) 0))
          (eq-eqb (magnitude a) (magnitude b) (ap (λ (y : ℕ). magnitude y) x))
          ∙ beq_same (negative a) (negative b) (ap (leb top_place) x))
      go false e = sym (apart (eqb (magnitude a) (magnitude b)) refl)
        where
          apart : (t : Bool) → eqb (magnitude a) (magnitude b) ≡ t
              → t && (beq (negative a) (negative b) || eqb (magnitude a) 0) ≡ false
          apart false f = refl
          apart true f =
              let p = eqb-true (magnitude a) (magnitude b) f in
              ap (λ (y : Bool). y || eqb (magnitude a) 0)
              (beq_other (negative a) (negative b)
              (signs_unlike a b sa sb (λ (q : a / top_place ≡ b / top_place). eqb-false a b e (same a b q p))))
              ∙ ne_eqb (magnitude a) 0 z
            where
              same : (a b : ℕ) → a / top_place ≡ b / top_place → magnitude a ≡ magnitude b → a ≡ b
              same a b q p = omega arith

pub le_less : (x y : Float) → lt x y ≡ true → true ≡ le x y
unfolding le
le_less x y h = sym (ap (λ (b : Bool). b || eq x y) h)

pub le_other : (x y : Float) → lt x y ≡ false → eq x y ≡ le x y
unfolding le
le_other x y h = sym (ap (λ (b : Bool). b || eq x y) h)

-- ---- whether one is a NaN
nan_is : (a : ℕ) → ltb infinity (magnitude a) ≡ is_nan (of_bits binary64 a)
nan_is a = sym (nan_bits_above binary64 a) ∙ nan_bits_is binary64 a

unordered : (a b : ℕ) → ltb infinity (magnitude a) || ltb infinity (magnitude b) ≡ is_unordered a b
unordered a b = ap (λ (x : Bool). x || ltb infinity (magnitude b)) (nan_is a) ∙ ap (λ (x : Bool). is_nan (of_bits binary64 a) || x) (nan_is b)

module _ (a b : ℕ) where
  pub unordered_first : infinity < magnitude a → true ≡ is_unordered a b
  unordered_first h = sym (sym (unordered a b) ∙ ap (λ (x : Bool). x || ltb infinity (magnitude b)) (lt-ltb infinity (magnitude a) h))

  pub unordered_second : magnitude a ≤ infinity → ltb infinity (magnitude b) ≡ is_unordered a b
  unordered_second h = sym (sym (unordered a b) ∙ ap (λ (x : Bool). x || ltb infinity (magnitude b)) (le-ltb infinity (magnitude a) h))

-- one of two is a NaN
pub one_nan : (a b : ℕ) → (magnitude a ≤ infinity → infinity < magnitude b) → (false ≡ is_less a b) × (false ≡ is_equal a b)
one_nan a b other = go (le_or_lt (magnitude a) infinity)
  where
    go : (magnitude a ≤ infinity) ⊎ (infinity < magnitude a) → (false ≡ is_less a b) × (false ≡ is_equal a b)
    go (inl x) = nan_second a b (other x)
    go (inr x) = nan_first a b x
