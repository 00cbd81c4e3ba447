-- `lt`, `le` and `eq` of floats that fit and are no NaN, the infinities among them, are those of their places.
use mathlib.Core.Path.{◌≡◌, refl, sym, ap, ◌∙◌, subst}
use mathlib.Core.Bool.{Bool, true, false, ◌&&◌, ◌||◌, cond, true≢false}
use Prim.Native.Nat.{ℕ, zero, suc, ◌+◌, ◌-◌, ◌*◌, ◌^◌, ◌≤◌, ◌<◌}
use native.Mathlib.Nat.{mul_comm, zero-mul, mul-pos, mul-lt-mul_of_pos_right, lt_of_mul-lt-mul_right, eq_of_mul-eq-mul_right}
use native.Mathlib.Omega.{arith}
use lib.Dec.{T, ltb, leb, eqb}
use lib.IntN.{ℤ}
use lib.Pow.{pow_pos}
use borrow.Author.Tests.{ltb-true, ltb-false, eqb-true, eqb-false, lt-ltb, le-ltb, eq-eqb, ne_eqb, le-leb, lt-leb}
use lib.Ieee.{Float, nan, inf, fin, Format, emax, low, up, down, fits, lt, le, eq, below, level}
use lib.Ieee.Fits.{down_pos}
use lib.Ieee.Scale.{overflow, finite}
use Rattle.base_floats.specs.Place.{magnitude, place_in}
use Rattle.base_floats.proofs.Units.{magnitude_under, magnitude_across}

-- ---- two pairs of numbers in one order

-- a and b are X and Y on another scale
record Scales (X Y a b : ℕ) : Type 0 where
  less : X < Y → a < b
  less_back : a < b → X < Y
  more : Y < X → b < a
  more_back : b < a → Y < X
  same : X ≡ Y → a ≡ b
  same_back : a ≡ b → X ≡ Y
  left_zero : X ≡ 0 → a ≡ 0
  left_zero_back : a ≡ 0 → X ≡ 0
  right_zero : Y ≡ 0 → b ≡ 0
  right_zero_back : b ≡ 0 → Y ≡ 0

scale_less : (X Y a b L D : ℕ) → 0 < L → X * L ≡ a * D → Y * L ≡ b * D → X < Y → a < b
scale_less X Y a b L D l p q h =
    lt_of_mul-lt-mul_right D (subst (λ (x : ℕ). x < b * D) p (subst (λ (y : ℕ). X * L < y) q (mul-lt-mul_of_pos_right h l)))

scale_same : (X Y a b L D : ℕ) → 0 < D → X * L ≡ a * D → Y * L ≡ b * D → X ≡ Y → a ≡ b
scale_same X Y a b L D d p q h = eq_of_mul-eq-mul_right D d a b (sym p ∙ ap (λ (x : ℕ). x * L) h ∙ q)

scale_zero : (X a L D : ℕ) → 0 < D → X * L ≡ a * D → X ≡ 0 → a ≡ 0
scale_zero X a L D d p h = scale_same X 0 a 0 L D d p (zero-mul L ∙ sym (zero-mul D)) h

scales : (f : Format) (s : Bool) (m : ℕ) (e : ℤ) (t : Bool) (n : ℕ) (d : ℤ) → T (fits f (fin s m e)) → T (fits f (fin t n d))
    → Scales (m * up e * down d) (n * up d * down e) (magnitude f m e) (magnitude f n d)
scales f s m e t n d p q =
    let X = m * up e * down d in
    let Y = n * up d * down e in
    let a = magnitude f m e in
    let b = magnitude f n d in
    let L = 2 ^ low f in
    let D = down e * down d in
    let l : 0 < L = pow_pos (low f) in
    let k : 0 < D = mul-pos (down_pos e) (down_pos d) in
    let x : X * L ≡ a * D = magnitude_across f s m e d p in
    let y : Y * L ≡ b * D = magnitude_across f t n d e q ∙ ap (λ (z : ℕ). b * z) (mul_comm (down d) (down e)) in
    record {
      less = scale_less X Y a b L D l x y;
      less_back = scale_less a b X Y D L k (sym x) (sym y);
      more = scale_less Y X b a L D l y x;
      more_back = scale_less b a Y X D L k (sym y) (sym x);
      same = scale_same X Y a b L D k x y;
      same_back = scale_same a b X Y D L l (sym x) (sym y);
      left_zero = scale_zero X a L D k x;
      left_zero_back = scale_zero a X D L l (sym x);
      right_zero = scale_zero Y b L D k y;
      right_zero_back = scale_zero b Y D L l (sym y);
    }

-- ---- two tests that say the same

ltb_same : (a b c d : ℕ) → (a < b → c < d) → (c < d → a < b) → ltb a b ≡ ltb c d
ltb_same a b c d h k = go (ltb a b) refl
  where
    not_less : (c d : ℕ) → (c < d → ⊥) → d ≤ c
    not_less c d n = omega arith

    apart : (a b : ℕ) → b ≤ a → a < b → ⊥
    apart a b p q = omega arith

    go : (t : Bool) → ltb a b ≡ t → t ≡ ltb c d
    go true e = sym (lt-ltb c d (h (ltb-true a b e)))
    go false e = sym (le-ltb c d (not_less c d (λ l. apart a b (ltb-false a b e) (k l))))

eqb_same : (a b c d : ℕ) → (a ≡ b → c ≡ d) → (c ≡ d → a ≡ b) → eqb a b ≡ eqb c d
eqb_same a b c d h k = go (eqb a b) refl
  where
    go : (t : Bool) → eqb a b ≡ t → t ≡ eqb c d
    go true e = sym (eq-eqb c d (h (eqb-true a b e)))
    go false e = sym (ne_eqb c d (λ l. eqb-false a b e (k l)))

-- ---- two signs and two magnitudes

and_true : (t : Bool) → t && true ≡ t
and_true true = refl
and_true false = refl

some : (x y : ℕ) → (x ≡ 0 → y ≡ 0 → ⊥) → 0 < x + y
some zero zero n = absurd (n refl refl)
some zero (suc y) n = omega arith
some (suc x) y n = omega arith

not_both : (x y : ℕ) → 0 < x + y → x ≡ 0 → y ≡ 0 → ⊥
not_both x y h p q = omega arith

both_zero : (X Y c d : ℕ) → (X ≡ 0 → Y ≡ 0 → c ≡ d) → (c ≡ d → (X ≡ 0) × (Y ≡ 0)) → eqb X Y && eqb X 0 ≡ eqb c d
both_zero X Y c d h k = go (eqb X Y) refl (eqb X 0) refl
  where
    go : (t : Bool) → eqb X Y ≡ t → (u : Bool) → eqb X 0 ≡ u → t && u ≡ eqb c d
    go true p true q = sym (eq-eqb c d (h (eqb-true X 0 q) (sym (eqb-true X Y p) ∙ eqb-true X 0 q)))
    go true p false q = sym (ne_eqb c d (λ l. eqb-false X 0 q (k l).0))
    go false p u q = sym (ne_eqb c d (λ l. eqb-false X Y p ((k l).0 ∙ sym (k l).1)))

-- B is the place of the zeros
module _ (B X Y a b : ℕ) (A : a < B) (A' : b < B) (S : Scales X Y a b) where
  lt_signed : (s t : Bool) → below s X t Y ≡ ltb (cond s (B - a) (B + a)) (cond t (B - b) (B + b))
  lt_signed false false = ltb_same X Y (B + a) (B + b) (λ h. let g = S.less h in omega arith) (λ h. S.less_back (omega arith))
  lt_signed false true = sym (le-ltb (B + a) (B - b) (omega arith))
  lt_signed true false =
      ltb_same 0 (X + Y) (B - a) (B + b)
      (λ h. let g = some a b (λ p q. not_both X Y h (S.left_zero_back p) (S.right_zero_back q)) in omega arith)
      (λ h. some X Y (λ p q. let g = S.left_zero p in let k = S.right_zero q in omega arith))
  lt_signed true true = ltb_same Y X (B - a) (B - b) (λ h. let g = S.more h in omega arith) (λ h. S.more_back (omega arith))

  eq_signed : (s t : Bool) → level s X t Y ≡ eqb (cond s (B - a) (B + a)) (cond t (B - b) (B + b))
  eq_signed false false =
      and_true (eqb X Y) ∙ eqb_same X Y (B + a) (B + b) (λ h. let g = S.same h in omega arith) (λ h. S.same_back (omega arith))
  eq_signed true true =
      and_true (eqb X Y) ∙ eqb_same X Y (B - a) (B - b) (λ h. let g = S.same h in omega arith) (λ h. S.same_back (omega arith))
  eq_signed false true =
      both_zero X Y (B + a) (B - b) (λ p q. let g = S.left_zero p in let k = S.right_zero q in omega arith)
      (λ h. (S.left_zero_back (omega arith), S.right_zero_back (omega arith)))
  eq_signed true false =
      both_zero X Y (B - a) (B + b) (λ p q. let g = S.left_zero p in let k = S.right_zero q in omega arith)
      (λ h. (S.left_zero_back (omega arith), S.right_zero_back (omega arith)))

-- ---- finite values

pub place_signed : (f : Format) (s : Bool) (m : ℕ) (e : ℤ)
    → cond s (overflow f - magnitude f m e) (overflow f + magnitude f m e) ≡ place_in f (fin s m e)
unfolding place_in
place_signed f true m e = refl
place_signed f false m e = refl

module _ (f : Format) (s : Bool) (m : ℕ) (e : ℤ) (p : T (fits f (fin s m e))) where
  lt_finite : (t : Bool) (n : ℕ) (d : ℤ) → T (fits f (fin t n d))
      → lt (fin s m e) (fin t n d) ≡ ltb (place_in f (fin s m e)) (place_in f (fin t n d))
  unfolding lt
  lt_finite t n d q =
      lt_signed (overflow f) (m * up e * down d) (n * up d * down e) (magnitude f m e) (magnitude f n d) (magnitude_under f s m e p)
      (magnitude_under f t n d q) (scales f s m e t n d p q) s t
      ∙ (cc (place_signed f s m e, place_signed f t n d))

  eq_finite : (t : Bool) (n : ℕ) (d : ℤ) → T (fits f (fin t n d))
      → eq (fin s m e) (fin t n d) ≡ eqb (place_in f (fin s m e)) (place_in f (fin t n d))
  unfolding eq
  eq_finite t n d q =
      eq_signed (overflow f) (m * up e * down d) (n * up d * down e) (magnitude f m e) (magnitude f n d) (magnitude_under f s m e p)
      (magnitude_under f t n d q) (scales f s m e t n d p q) s t
      ∙ (cc (place_signed f s m e, place_signed f t n d))

-- they lie between the infinities
above_lowest : (f : Format) (s : Bool) (m : ℕ) (e : ℤ) → T (fits f (fin s m e)) → 0 < place_in f (fin s m e)
unfolding place_in
above_lowest f true m e p = let h = magnitude_under f true m e p in omega arith
above_lowest f false m e p = let h = magnitude_under f false m e p in omega arith

below_highest : (f : Format) (s : Bool) (m : ℕ) (e : ℤ) → T (fits f (fin s m e)) → place_in f (fin s m e) < overflow f + overflow f
unfolding place_in
below_highest f true m e p = let h = magnitude_under f true m e p in omega arith
below_highest f false m e p = let h = magnitude_under f false m e p in omega arith

between_infinities : (f : Format) (x : Float) → T (fits f x) → finite x ≡ true
    → (0 < place_in f x) × (place_in f x < overflow f + overflow f)
between_infinities f nan p h = absurd (true≢false (sym h))
between_infinities f (inf s) p h = absurd (true≢false (sym h))
between_infinities f (fin s m e) p h = (above_lowest f s m e p, below_highest f s m e p)

highest_positive : (f : Format) → 0 < overflow f + overflow f
highest_positive f = let h : 0 < overflow f = pow_pos (low f + suc (emax f)) in omega arith

-- a finite number is no NaN
pub no_nan : (x : Float) → finite x ≡ true → x ≡ nan → ⊥
no_nan x h e = true≢false (sym h ∙ ap finite e)

-- ---- the laws

-- a number that lies between two finite ones is finite, unless it is NaN
pub finite_between :
    (f : Format) (low_end x high_end : Float) → T (fits f low_end) → T (fits f high_end) → finite low_end ≡ true → finite high_end ≡ true
    → (x ≡ nan → ⊥)
    → place_in f low_end ≤ place_in f x → place_in f x ≤ place_in f high_end → finite x ≡ true
unfolding place_in
finite_between f a nan b p q h k real lower upper = absurd (real refl)
finite_between f a (inf true) b p q h k real lower upper = let within = between_infinities f a p h in absurd (omega (arith, within.0))
finite_between f a (inf false) b p q h k real lower upper = let within = between_infinities f b q k in absurd (omega (arith, within.1))
finite_between f a (fin s m e) b p q h k real lower upper = refl

pub lt_places : (f : Format) (x y : Float) → T (fits f x) → T (fits f y) → (x ≡ nan → ⊥) → (y ≡ nan → ⊥)
    → lt x y ≡ ltb (place_in f x) (place_in f y)
unfolding lt place_in
lt_places f nan y p q a b = absurd (a refl)
lt_places f (inf s) nan p q a b = absurd (b refl)
lt_places f (inf true) (inf true) p q a b = sym (le-ltb 0 0 (omega arith))
lt_places f (inf true) (inf false) p q a b = sym (lt-ltb 0 (overflow f + overflow f) (highest_positive f))
lt_places f (inf false) (inf true) p q a b = sym (le-ltb (overflow f + overflow f) 0 (omega arith))
lt_places f (inf false) (inf false) p q a b = sym (le-ltb (overflow f + overflow f) (overflow f + overflow f) (omega arith))
lt_places f (inf true) (fin t n d) p q a b = sym (lt-ltb 0 (place_in f (fin t n d)) (above_lowest f t n d q))
lt_places f (inf false) (fin t n d) p q a b =
    sym (le-ltb (overflow f + overflow f) (place_in f (fin t n d)) (let h = below_highest f t n d q in omega arith))
lt_places f (fin s m e) nan p q a b = absurd (b refl)
lt_places f (fin s m e) (inf true) p q a b = sym (le-ltb (place_in f (fin s m e)) 0 (omega arith))
lt_places f (fin s m e) (inf false) p q a b = sym (lt-ltb (place_in f (fin s m e)) (overflow f + overflow f) (below_highest f s m e p))
lt_places f (fin s m e) (fin t n d) p q a b = lt_finite f s m e p t n d q

pub eq_places : (f : Format) (x y : Float) → T (fits f x) → T (fits f y) → (x ≡ nan → ⊥) → (y ≡ nan → ⊥)
    → eq x y ≡ eqb (place_in f x) (place_in f y)
unfolding eq place_in
eq_places f nan y p q a b = absurd (a refl)
eq_places f (inf s) nan p q a b = absurd (b refl)
eq_places f (inf true) (inf true) p q a b = sym (eq-eqb 0 0 refl)
eq_places f (inf true) (inf false) p q a b = sym (ne_eqb 0 (overflow f + overflow f) (λ z. let h = highest_positive f in omega arith))
eq_places f (inf false) (inf true) p q a b = sym (ne_eqb (overflow f + overflow f) 0 (λ z. let h = highest_positive f in omega arith))
eq_places f (inf false) (inf false) p q a b = sym (eq-eqb (overflow f + overflow f) (overflow f + overflow f) refl)
eq_places f (inf true) (fin t n d) p q a b = sym (ne_eqb 0 (place_in f (fin t n d)) (λ z. let h = above_lowest f t n d q in omega arith))
eq_places f (inf false) (fin t n d) p q a b =
    sym (ne_eqb (overflow f + overflow f) (place_in f (fin t n d)) (λ z. let h = below_highest f t n d q in omega arith))
eq_places f (fin s m e) nan p q a b = absurd (b refl)
eq_places f (fin s m e) (inf true) p q a b = sym (ne_eqb (place_in f (fin s m e)) 0 (λ z. let h = above_lowest f s m e p in omega arith))
eq_places f (fin s m e) (inf false) p q a b =
    sym (ne_eqb (place_in f (fin s m e)) (overflow f + overflow f) (λ z. let h = below_highest f s m e p in omega arith))
eq_places f (fin s m e) (fin t n d) p q a b = eq_finite f s m e p t n d q

pub le_places : (f : Format) (x y : Float) → T (fits f x) → T (fits f y) → (x ≡ nan → ⊥) → (y ≡ nan → ⊥)
    → le x y ≡ leb (place_in f x) (place_in f y)
unfolding le
le_places f x y p q a b =
    ap (λ (t : Bool). t || eq x y) (lt_places f x y p q a b)
    ∙ ap (λ (t : Bool). ltb (place_in f x) (place_in f y) || t) (eq_places f x y p q a b)
    ∙ either (place_in f x) (place_in f y)
  where
    either : (i j : ℕ) → ltb i j || eqb i j ≡ leb i j
    either i j = go (ltb i j) refl (eqb i j) refl
      where
        go : (t : Bool) → ltb i j ≡ t → (u : Bool) → eqb i j ≡ u → t || u ≡ leb i j
        go true h u k = let g = ltb-true i j h in sym (le-leb i j (omega arith))
        go false h true k = let g = eqb-true i j k in sym (le-leb i j (omega arith))
        go false h false k = let g = ltb-false i j h in let n : i ≡ j → ⊥ = eqb-false i j k in sym (lt-leb i j (omega arith))
