-- The sum of two doubles by their patterns, case by case, the larger magnitude that of the pattern a; and the difference as a sum.
use mathlib.Core.Path.{◌≡◌, refl, sym, ap, ◌∙◌}
use mathlib.Core.Bool.{Bool, true, false, not, ◌&&◌, beq, cond}
use Prim.Native.Nat.{ℕ, ◌+◌, ◌-◌, ◌*◌, ◌^◌, ◌<◌}
use native.Mathlib.Nat.{add_comm, mul_comm, mul_assoc, mul_right_comm, mul-pos}
use native.Mathlib.Omega.{arith}
use lib.Dec.{ltb}
use lib.IntN.{ℤ}
use lib.Pow.{pow_pos}
use borrow.Author.Tests.{lt-ltb, le-ltb}
use lib.Ieee.{Float, nan, inf, fin, Format, binary64, low, up, down, size, round, sum, add, sub, neg, of_bits, to_bits}
use lib.Ieee.Fits.{down_pos}
use lib.Ieee.Exact.{HasValue}
use lib.Ieee.Scale.{round_same}
use Rattle.base_floats.proofs.Operations.{difference_of_same}
use Rattle.doubles_patterns.specs.Patterns.{word, infinity, not_a_number, magnitude, negative, sign_weight, pattern, units_of}
use Rattle.doubles_patterns.proofs.Packing.{round_pattern}
use Rattle.doubles_patterns.proofs.Values.{less, sums, differences}
use Rattle.doubles_patterns.proofs.Specials.{value_of, nan_of, to_bits_nan, inf_of, to_bits_inf, whole}
use Rattle.doubles_sum.specs.BothOrders.{BothOrders}

-- ---- a sum on another scale
sum_scale : (f : Format) (s : Bool) (A : ℕ) (t : Bool) (B c X Y L : ℕ) → 0 < c → 0 < L → A * L ≡ X * c → B * L ≡ Y * c
    → sum f s A t B c ≡ sum f s X t Y L
unfolding sum
sum_scale f s A t B c X Y L C l x y =
    ap (λ (v : Float). cond (beq s t) v (cond (ltb A B) (round f t (B - A) c) (round f (s && ltb B A) (A - B) c)))
    (round_same f s (A + B) c (X + Y) L C l (sums A B c X Y L C l x y))
    ∙ ap (λ (v : Float). cond (beq s t) (round f s (X + Y) L) (cond (ltb A B) v (round f (s && ltb B A) (A - B) c)))
    (round_same f t (B - A) c (Y - X) L C l (differences B A c Y X L C l y x))
    ∙ ap (λ (v : Float). cond (beq s t) (round f s (X + Y) L) (cond (ltb A B) (round f t (Y - X) L) v))
    (round_same f (s && ltb B A) (A - B) c (X - Y) L C l (differences A B c X Y L C l x y))
    ∙ ap (λ (b : Bool). cond (beq s t) (round f s (X + Y) L) (cond b (round f t (Y - X) L) (round f (s && ltb B A) (X - Y) L)))
    (less A B c X Y L C l x y)
    ∙ ap (λ (b : Bool). cond (beq s t) (round f s (X + Y) L) (cond (ltb X Y) (round f t (Y - X) L) (round f (s && b) (X - Y) L)))
    (less B A c Y X L C l y x)

opened : (f : Format) (u : Bool) (m : ℕ) (e : ℤ) (v : Bool) (n : ℕ) (d : ℤ)
    → add f (fin u m e) (fin v n d) ≡ sum f u (m * up e * down d) v (n * up d * down e) (down e * down d)
unfolding add
opened f u m e v n d = refl

add_values : (f : Format) (x y : Float) (s : Bool) (X : ℕ) (t : Bool) (Y L : ℕ) → 0 < L → HasValue x s X L → HasValue y t Y L
    → add f x y ≡ sum f s X t Y L
add_values f nan y s X t Y L l h k = absurd h
add_values f (inf u) y s X t Y L l h k = absurd h
add_values f (fin u m e) nan s X t Y L l h k = absurd k
add_values f (fin u m e) (inf v) s X t Y L l h k = absurd k
add_values f (fin u m e) (fin v n d) s X t Y L l h k =
    opened f u m e v n d
    ∙ ap (λ (b : Bool). sum f b (m * up e * down d) v (n * up d * down e) (down e * down d)) h.0
    ∙ ap (λ (b : Bool). sum f s (m * up e * down d) b (n * up d * down e) (down e * down d)) k.0
    ∙ sum_scale f s (m * up e * down d) t (n * up d * down e) (down e * down d) X Y L (mul-pos (down_pos e) (down_pos d)) l
    (mul_right_comm (m * up e) (down d) L ∙ ap (λ (z : ℕ). z * down d) h.1 ∙ mul_assoc X (down e) (down d))
    (mul_right_comm (n * up d) (down e) L ∙ ap (λ (z : ℕ). z * down e) k.1 ∙ mul_assoc Y (down d) (down e)
    ∙ ap (λ (z : ℕ). Y * z) (mul_comm (down d) (down e)))

-- ---- `sum` of numbers of units
sum_alike : (f : Format) (s : Bool) (x y l : ℕ) → sum f s x s y l ≡ round f s (x + y) l
unfolding sum
sum_alike f true x y l = refl
sum_alike f false x y l = refl

sum_over : (f : Format) (s : Bool) (x y l : ℕ) → y < x → sum f s x (not s) y l ≡ round f s (x - y) l
unfolding sum
sum_over f true x y l h =
    ap (λ (b : Bool). cond b (round f false (y - x) l) (round f (ltb y x) (x - y) l)) (le-ltb x y (omega arith))
    ∙ ap (λ (b : Bool). round f b (x - y) l) (lt-ltb y x h)
sum_over f false x y l h = ap (λ (b : Bool). cond b (round f true (y - x) l) (round f false (x - y) l)) (le-ltb x y (omega arith))

sum_under : (f : Format) (s : Bool) (x y l : ℕ) → y < x → sum f (not s) y s x l ≡ round f s (x - y) l
unfolding sum
sum_under f true x y l h = ap (λ (b : Bool). cond b (round f true (x - y) l) (round f false (y - x) l)) (lt-ltb y x h)
sum_under f false x y l h = ap (λ (b : Bool). cond b (round f false (x - y) l) (round f (true && ltb x y) (y - x) l)) (lt-ltb y x h)

nothing : pattern binary64 0 1 ≡ 0
unfolding pattern size
nothing = refl

-- ---- finite patterns
unlike_is : (s t : Bool) → (s ≡ t → ⊥) → t ≡ not s
unlike_is true true h = absurd (h refl)
unlike_is true false h = refl
unlike_is false true h = refl
unlike_is false false h = absurd (h refl)

module _ (x y : Float) (s t : Bool) (X Y : ℕ) (h : HasValue x s X (2 ^ low binary64)) (k : HasValue y t Y (2 ^ low binary64)) where
  add_is : add binary64 x y ≡ sum binary64 s X t Y (2 ^ low binary64)
  add_is = add_values binary64 x y s X t Y (2 ^ low binary64) (pow_pos (low binary64)) h k

  alike : s ≡ t → to_bits binary64 (add binary64 x y) ≡ sign_weight s + pattern binary64 (X + Y) 1
  alike e =
      ap (to_bits binary64) (add_is ∙ ap (λ (b : Bool). sum binary64 s X b Y (2 ^ low binary64)) (sym e)
      ∙ sum_alike binary64 s X Y (2 ^ low binary64)) ∙ round_pattern binary64 s (X + Y)

  over : (s ≡ t → ⊥) → Y < X → to_bits binary64 (add binary64 x y) ≡ sign_weight s + pattern binary64 (X - Y) 1
  over e l =
      ap (to_bits binary64) (add_is ∙ ap (λ (b : Bool). sum binary64 s X b Y (2 ^ low binary64)) (unlike_is s t e)
      ∙ sum_over binary64 s X Y (2 ^ low binary64) l) ∙ round_pattern binary64 s (X - Y)

  under : (s ≡ t → ⊥) → X < Y → to_bits binary64 (add binary64 x y) ≡ sign_weight t + pattern binary64 (Y - X) 1
  under e l =
      ap (to_bits binary64) (add_is ∙ ap (λ (b : Bool). sum binary64 b X t Y (2 ^ low binary64)) (unlike_is t s (λ (g : t ≡ s). e (sym g)))
      ∙ sum_under binary64 t Y X (2 ^ low binary64) l) ∙ round_pattern binary64 t (Y - X)

  equal : (s ≡ t → ⊥) → X ≡ Y → to_bits binary64 (add binary64 x y) ≡ 0
  equal e l =
      ap (to_bits binary64)
      (add_is ∙ ap (λ (b : Bool). sum binary64 s X b Y (2 ^ low binary64)) (unlike_is s t e)
      ∙ ap (λ (z : ℕ). sum binary64 s X (not s) z (2 ^ low binary64)) (sym l)
      ∙ difference_of_same binary64 s X (2 ^ low binary64))
      ∙ round_pattern binary64 false 0 ∙ ap (λ (z : ℕ). 0 + z) nothing

-- ---- the answers at finite patterns
module _ (a b r : ℕ) (ha : magnitude a < infinity) (hb : magnitude b < infinity) where
  pub sum_of_alike : negative a ≡ negative b
      → r ≡ sign_weight (negative a) + pattern binary64 (units_of (magnitude a) + units_of (magnitude b)) 1 → BothOrders a b r
  sum_of_alike e h =
      let s = negative a in
      let t = negative b in
      let X = units_of (magnitude a) in
      let Y = units_of (magnitude b) in
      record {
        forward = h ∙ sym (alike (of_bits binary64 a) (of_bits binary64 b) s t X Y (value_of a ha) (value_of b hb) e);
        backward =
            h ∙ ap (λ (z : ℕ). sign_weight s + pattern binary64 z 1) (add_comm X Y)
            ∙ ap (λ (z : Bool). sign_weight z + pattern binary64 (Y + X) 1) e
            ∙ sym (alike (of_bits binary64 b) (of_bits binary64 a) t s Y X (value_of b hb) (value_of a ha) (sym e));
      }

  pub sum_of_unlike : (negative a ≡ negative b → ⊥) → units_of (magnitude b) < units_of (magnitude a)
      → r ≡ sign_weight (negative a) + pattern binary64 (units_of (magnitude a) - units_of (magnitude b)) 1 → BothOrders a b r
  sum_of_unlike e l h =
      let s = negative a in
      let t = negative b in
      let X = units_of (magnitude a) in
      let Y = units_of (magnitude b) in
      record {
        forward = h ∙ sym (over (of_bits binary64 a) (of_bits binary64 b) s t X Y (value_of a ha) (value_of b hb) e l);
        backward =
            h ∙ sym (under (of_bits binary64 b) (of_bits binary64 a) t s Y X (value_of b hb) (value_of a ha) (λ (g : t ≡ s). e (sym g)) l);
      }

  pub sum_of_equal : (negative a ≡ negative b → ⊥) → magnitude a ≡ magnitude b → r ≡ 0 → BothOrders a b r
  sum_of_equal e l h =
      let s = negative a in
      let t = negative b in
      let X = units_of (magnitude a) in
      let Y = units_of (magnitude b) in
      record {
        forward = h ∙ sym (equal (of_bits binary64 a) (of_bits binary64 b) s t X Y (value_of a ha) (value_of b hb) e (ap units_of l));
        backward =
            h ∙ sym (equal (of_bits binary64 b) (of_bits binary64 a) t s Y X (value_of b hb) (value_of a ha) (λ (g : t ≡ s). e (sym g))
            (ap units_of (sym l)));
      }

-- ---- NaN
add_nan : (y : Float) → add binary64 nan y ≡ nan
unfolding add
add_nan y = refl

add_nan_back : (y : Float) → add binary64 y nan ≡ nan
unfolding add
add_nan_back nan = refl
add_nan_back (inf s) = refl
add_nan_back (fin s m e) = refl

pub sum_of_nan : (a b r : ℕ) → infinity < magnitude a → r ≡ not_a_number → BothOrders a b r
sum_of_nan a b r h e =
    let n = nan_of a h in
    record {
      forward =
          e ∙ sym (ap (λ (x : Float). to_bits binary64 (add binary64 x (of_bits binary64 b))) n
          ∙ ap (to_bits binary64) (add_nan (of_bits binary64 b)) ∙ to_bits_nan);
      backward =
          e ∙ sym (ap (λ (x : Float). to_bits binary64 (add binary64 (of_bits binary64 b) x)) n
          ∙ ap (to_bits binary64) (add_nan_back (of_bits binary64 b)) ∙ to_bits_nan);
    }

-- ---- infinity
add_inf_finite : (s t : Bool) (y : Float) (Y l : ℕ) → HasValue y t Y l → (add binary64 (inf s) y ≡ inf s) × (add binary64 y (inf s) ≡ inf s)
unfolding add
add_inf_finite s t nan Y l h = absurd h
add_inf_finite s t (inf u) Y l h = absurd h
add_inf_finite s t (fin u m e) Y l h = (refl, refl)

add_inf_alike : (s : Bool) → add binary64 (inf s) (inf s) ≡ inf s
unfolding add
add_inf_alike true = refl
add_inf_alike false = refl

add_inf_unlike : (s t : Bool) → (s ≡ t → ⊥) → add binary64 (inf s) (inf t) ≡ nan
unfolding add
add_inf_unlike true true h = absurd (h refl)
add_inf_unlike true false h = refl
add_inf_unlike false true h = refl
add_inf_unlike false false h = absurd (h refl)

module _ (a b r : ℕ) (small : a < word) (ia : magnitude a ≡ infinity) where
  inf_bits : to_bits binary64 (inf (negative a)) ≡ a
  inf_bits = to_bits_inf (negative a) ∙ whole a small ia

  pub sum_of_inf : magnitude b < infinity → r ≡ a → BothOrders a b r
  sum_of_inf hb e =
      let s = negative a in
      let y = of_bits binary64 b in
      let both = add_inf_finite s (negative b) y (units_of (magnitude b)) (2 ^ low binary64) (value_of b hb) in
      record {
        forward =
            e ∙ sym (ap (λ (x : Float). to_bits binary64 (add binary64 x y)) (inf_of a ia) ∙ ap (to_bits binary64) both.0 ∙ inf_bits);
        backward =
            e ∙ sym (ap (λ (x : Float). to_bits binary64 (add binary64 y x)) (inf_of a ia) ∙ ap (to_bits binary64) both.1 ∙ inf_bits);
      }

  pub sum_of_infs : magnitude b ≡ infinity → negative a ≡ negative b → r ≡ a → BothOrders a b r
  sum_of_infs ib g e =
      let s = negative a in
      let ib' : of_bits binary64 b ≡ inf s = inf_of b ib ∙ ap inf (sym g) in
      record {
        forward =
            e ∙ sym (ap (λ (x : Float). to_bits binary64 (add binary64 x (of_bits binary64 b))) (inf_of a ia)
            ∙ ap (λ (y : Float). to_bits binary64 (add binary64 (inf s) y)) ib' ∙ ap (to_bits binary64) (add_inf_alike s) ∙ inf_bits);
        backward =
            e ∙ sym (ap (λ (x : Float). to_bits binary64 (add binary64 (of_bits binary64 b) x)) (inf_of a ia)
            ∙ ap (λ (y : Float). to_bits binary64 (add binary64 y (inf s))) ib' ∙ ap (to_bits binary64) (add_inf_alike s) ∙ inf_bits);
      }

  pub sum_of_infs_unlike : magnitude b ≡ infinity → (negative a ≡ negative b → ⊥) → r ≡ not_a_number → BothOrders a b r
  sum_of_infs_unlike ib g e =
      let s = negative a in
      let t = negative b in
      record {
        forward =
            e ∙ sym (ap (λ (x : Float). to_bits binary64 (add binary64 x (of_bits binary64 b))) (inf_of a ia)
            ∙ ap (λ (y : Float). to_bits binary64 (add binary64 (inf s) y)) (inf_of b ib) ∙ ap (to_bits binary64) (add_inf_unlike s t g)
            ∙ to_bits_nan);
        backward =
            e ∙ sym (ap (λ (x : Float). to_bits binary64 (add binary64 (of_bits binary64 b) x)) (inf_of a ia)
            ∙ ap (λ (y : Float). to_bits binary64 (add binary64 y (inf s))) (inf_of b ib)
            ∙ ap (to_bits binary64) (add_inf_unlike t s (λ (q : t ≡ s). g (sym q))) ∙ to_bits_nan);
      }

-- ---- a difference is the sum with the opposite number
pub sub_is : (x y z : Float) → z ≡ neg y → to_bits binary64 (add binary64 x z) ≡ to_bits binary64 (sub binary64 x y)
unfolding sub
sub_is x y z h = ap (λ (w : Float). to_bits binary64 (add binary64 x w)) h
