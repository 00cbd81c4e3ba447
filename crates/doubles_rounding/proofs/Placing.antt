-- What stands for a fraction has the fraction's pattern, times a power of two or over one; and what moving down makes stands for what was
-- there.
use mathlib.Core.Path.{◌≡◌, refl, sym, ap, ◌∙◌}
use mathlib.Core.Logic.{◌⊎◌, inl, inr}
use Prim.Native.Nat.{ℕ, suc, ◌+◌, ◌-◌, ◌*◌, ◌/◌, ◌%◌, ◌^◌, ◌≤◌, ◌<◌}
use native.Mathlib.Nat.{
  le_trans,
  le_of_eq,
  lt_of_le_of_lt,
  mul-one,
  one-mul,
  zero-mul,
  mul_comm,
  mul_assoc,
  mul_left_comm,
  suc-mul,
  mul-pos,
  add-mul,
  mul-le-mul_right,
  lt_of_mul-lt-mul_right,
  le_of_mul-le-mul_right,
  le-div_iff_mul-le,
  div-mul-le_self,
  div-add-mod',
  mod-lt,
  mod-eq_of_lt,
}
use native.Mathlib.Omega.{arith}
use lib.Dec.{lit<}
use lib.Pow.{pow-add, pow_pos, pow_mono}
use lib.Ieee.{Format, binary64, size}
use Rattle.doubles_patterns.specs.Patterns.{word, leading, pattern}
use Rattle.doubles_rounding.specs.Standing.{Near, StandsFor}
use Rattle.doubles_patterns.proofs.Sizes.{le_or_lt, more_digits}
use Rattle.doubles_patterns.proofs.Packing.{pattern_same}
use Rattle.doubles_rounding.proofs.Raising.{near_over, near_raised}

-- ---- what stands for a number that is large is large
pub standing_least : (c r u v : ℕ) → 0 < v → StandsFor r u v → c * v ≤ u → c ≤ r
standing_least c r u v some j h = go j.stands
  where
    go : (r * v ≡ u) ⊎ Near r u v → c ≤ r
    go (inl e) = le_of_mul-le-mul_right (le_trans h (le_of_eq (sym e))) some
    go (inr n) =
        let a : c * v < suc r * v = let b = n.below in let d : suc r * v ≡ r * v + v = suc-mul r v in omega arith in
        let k : c < suc r = lt_of_mul-lt-mul_right v a in
        omega arith

-- ---- a power of two above and one below
split : (t y x : ℕ) → t + y ≡ x → 2 ^ x ≡ 2 ^ t * 2 ^ y
split t y x e = ap (λ (z : ℕ). 2 ^ z) (sym e) ∙ pow-add 2 t y

above : (r d P D : ℕ) → r * (P * D) * d ≡ r * P * (d * D)
above r d P D = simp (mul_assoc, mul_comm, mul_left_comm)

below : (r d P U : ℕ) → r * U * (d * P) ≡ r * (d * (P * U))
below r d P U = simp (mul_assoc, mul_comm, mul_left_comm)

-- over d, where the power above is the larger, and where it is the smaller
pub place_above : (f : Format) (r d x y : ℕ) → 0 < d → y ≤ x → pattern f (r * 2 ^ x) (d * 2 ^ y) ≡ pattern f (r * 2 ^ (x - y)) d
place_above f r d x y D h =
    pattern_same f (r * 2 ^ x) (d * 2 ^ y) (r * 2 ^ (x - y)) d (mul-pos D (pow_pos y)) D
    (ap (λ (z : ℕ). r * z * d) (split (x - y) y x (omega arith)) ∙ above r d (2 ^ (x - y)) (2 ^ y))

pub place_below : (f : Format) (r d x y : ℕ) → 0 < d → x ≤ y → pattern f (r * 2 ^ x) (d * 2 ^ y) ≡ pattern f r (d * 2 ^ (y - x))
place_below f r d x y D h =
    pattern_same f (r * 2 ^ x) (d * 2 ^ y) r (d * 2 ^ (y - x)) (mul-pos D (pow_pos y)) (mul-pos D (pow_pos (y - x)))
    (below r d (2 ^ (y - x)) (2 ^ x) ∙ ap (λ (z : ℕ). r * (d * z)) (sym (split (y - x) x y (omega arith))))

-- ---- what stands for u / v, over a multiple of four, with all the digits that are kept
regroup : (d v D : ℕ) → d * v * D ≡ v * (d * D)
regroup d v D = simp (mul_assoc, mul_left_comm)

across : (r v X c : ℕ) → r * X * (v * c) ≡ r * v * X * c
across r v X c = simp (mul_assoc, mul_left_comm)

module _ (w r u v x y : ℕ) (W : 0 < w) (some : 0 < v) (long : leading * (4 * w) ≤ r) where
  over_four : 0 < 4 * w
  over_four = mul-pos (lit< tt) W

  digits : 53 ≤ size (r / (4 * w))
  digits = more_digits 52 (r / (4 * w)) ((le-div_iff_mul-le over_four).1 long)

  pub standing_placed : StandsFor r u v → pattern binary64 (r * 2 ^ x) (4 * w * 2 ^ y) ≡ pattern binary64 (u * 2 ^ x) (v * (4 * w * 2 ^ y))
  standing_placed standing = go standing.stands (le_or_lt y x)
    where
      go : (r * v ≡ u) ⊎ Near r u v → (y ≤ x) ⊎ (x < y)
          → pattern binary64 (r * 2 ^ x) (4 * w * 2 ^ y) ≡ pattern binary64 (u * 2 ^ x) (v * (4 * w * 2 ^ y))
      go (inl e) o =
          let below : 0 < 4 * w * 2 ^ y = mul-pos over_four (pow_pos y) in
          pattern_same binary64 (r * 2 ^ x) (4 * w * 2 ^ y) (u * 2 ^ x) (v * (4 * w * 2 ^ y)) below (mul-pos some below)
          (across r v (2 ^ x) (4 * w * 2 ^ y) ∙ ap (λ (z : ℕ). z * 2 ^ x * (4 * w * 2 ^ y)) e)
      go (inr n) (inl h) =
          place_above binary64 r (4 * w) x y over_four h
          ∙ near_raised binary64 r u v w (x - y) n some W (size (r / (4 * w))) refl digits (lit< tt)
          ∙ ap (pattern binary64 (u * 2 ^ (x - y))) (sym (mul_assoc 4 w v))
          ∙ sym (place_above binary64 u (4 * w * v) x y (mul-pos over_four some) h)
          ∙ ap (pattern binary64 (u * 2 ^ x)) (regroup (4 * w) v (2 ^ y))
      go (inr n) (inr h) =
          place_below binary64 r (4 * w) x y over_four (omega arith)
          ∙ ap (pattern binary64 r) (mul_assoc 4 w (2 ^ (y - x)))
          ∙ near_over binary64 r u v (w * 2 ^ (y - x)) n some (mul-pos W (pow_pos (y - x)))
          ∙ ap (pattern binary64 u) (turn w (2 ^ (y - x)) v)
          ∙ sym (place_below binary64 u (4 * w * v) x y (mul-pos over_four some) (omega arith))
          ∙ ap (pattern binary64 (u * 2 ^ x)) (regroup (4 * w) v (2 ^ y))
        where
          turn : (w P v : ℕ) → 4 * (w * P * v) ≡ 4 * w * v * P
          turn w P v = simp (mul_assoc, mul_comm)

-- ---- the code's two answers: r moved up, and r moved down with what is lost made odd
pub placed_down : (s r x y : ℕ) → StandsFor s r (2 ^ (y - x)) → x < y
    → pattern binary64 (s * 2 ^ 0) 1024 ≡ pattern binary64 (r * 2 ^ x) (1024 * 2 ^ y)
placed_down s r x y j h =
    ap (λ (z : ℕ). pattern binary64 z 1024) (mul-one s) ∙ go j.stands ∙ sym (place_below binary64 r 1024 x y (lit< tt) (omega arith))
  where
    go : (s * 2 ^ (y - x) ≡ r) ⊎ Near s r (2 ^ (y - x)) → pattern binary64 s 1024 ≡ pattern binary64 r (1024 * 2 ^ (y - x))
    go (inl e) =
        pattern_same binary64 s 1024 r (1024 * 2 ^ (y - x)) (lit< tt) (mul-pos (lit< tt) (pow_pos (y - x)))
        (mul_left_comm s 1024 (2 ^ (y - x)) ∙ mul_comm 1024 (s * 2 ^ (y - x)) ∙ ap (λ (z : ℕ). z * 1024) e)
    go (inr n) =
        near_over binary64 s r (2 ^ (y - x)) 256 n (pow_pos (y - x)) (lit< tt)
        ∙ ap (pattern binary64 r) (sym (mul_assoc 4 256 (2 ^ (y - x))))

-- ---- moved down
module _ (n d : ℕ) (short : n < word) where
  pub up_again : n / 2 ^ d * 2 ^ d % word ≡ n / 2 ^ d * 2 ^ d
  up_again = mod-eq_of_lt (lt_of_le_of_lt (div-mul-le_self n (2 ^ d)) short)

  pub standing_exact : n / 2 ^ d * 2 ^ d ≡ n → StandsFor (n / 2 ^ d) n (2 ^ d)
  standing_exact h = record { stands = inl h }

  pub standing_none : n ≡ 0 → StandsFor 0 n (2 ^ d)
  standing_none e = record { stands = inl (zero-mul (2 ^ d) ∙ sym e) }

  pub standing_far : (n ≡ 0 → ⊥) → 64 ≤ d → StandsFor 1 n (2 ^ d)
  standing_far e h =
      let p : word ≤ 2 ^ d = pow_mono {i = 64} {j = d} h in
      let one : 1 * 2 ^ d ≡ 2 ^ d = one-mul (2 ^ d) in
      let some : 0 < n = positive n e in
      record { stands = inr (record { odd = refl; above = omega arith; below = omega arith }) }
    where
      positive : (n : ℕ) → (n ≡ 0 → ⊥) → 0 < n
      positive n e = omega arith

at_most : (k : ℕ) → k / 2 * 2 + 1 ≤ k + 1
at_most k = omega arith

at_least : (k : ℕ) → k ≤ k / 2 * 2 + 1
at_least k = omega arith

is_odd : (k : ℕ) → (k / 2 * 2 + 1) % 2 ≡ 1
is_odd k = omega arith

-- k whole, and something left: the odd one of k and k + 1 stands for it
pub odd_near : (k n v : ℕ) → k * v < n → n < k * v + v → Near (k / 2 * 2 + 1) n v
odd_near k n v l h =
    let upper : (k / 2 * 2 + 1) * v ≤ (k + 1) * v = mul-le-mul_right v (at_most k) in
    let upper_is : (k + 1) * v ≡ k * v + 1 * v = add-mul k 1 v in
    let one : 1 * v ≡ v = one-mul v in
    let lower : k * v ≤ (k / 2 * 2 + 1) * v = mul-le-mul_right v (at_least k) in
    record { odd = is_odd k; above = omega arith; below = omega arith }

pub standing_lost : (n v : ℕ) → 0 < v → (n / v * v ≡ n → ⊥) → StandsFor (n / v / 2 * 2 + 1) n v
standing_lost n v some h =
    let whole : n / v * v + n % v ≡ n = div-add-mod' n v in
    let rest : n % v < v = mod-lt n some in
    record { stands = inr (odd_near (n / v) n v (less (n / v * v) n (n % v) whole h) (omega arith)) }
  where
    less : (a b r : ℕ) → a + r ≡ b → (a ≡ b → ⊥) → a < b
    less a b r e h = omega arith
