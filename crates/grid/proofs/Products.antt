-- Sums and products of points in their range, the bounds that keep them in 64 bits, and what is left of sizes on fewer axes.
use mathlib.Core.Path.{◌≡◌, refl}
use mathlib.Core.Logic.{⊎_elim}
use Prim.Native.Nat.{ℕ, zero, suc, ◌+◌, ◌*◌, ◌^◌, ◌<◌, ◌≤◌}
use native.Mathlib.Nat.{
  mul-le-mul,
  pow-succ',
  mul_comm,
  le_trans,
  le_refl,
  le-mul_of_pos_right,
  pow-le-pow_right,
  not-suc-le-zero,
  le_of_suc-le-suc,
  eq-or-lt_of_le,
  lt_of_le_of_lt,
}
use native.Mathlib.Numerals.{add-one}
use native.Mathlib.Omega.{arith}
use lib.Dec.{lit<}
use mir.Val.{Fits}
use mir.Syntax.{w64}
use Rattle.rules.specs.Sizes.{sum_below, product_below}
use Rattle.grid.specs.GridOfCall.{SizesGiven}

module _ (n : ℕ → ℕ) where
  pub sum_none : sum_below n 0 ≡ 0
  unfolding sum_below
  sum_none = refl

  pub sum_more : (i : ℕ) → sum_below n (i + 1) ≡ sum_below n i + n i
  unfolding sum_below
  sum_more i = rw add-one

  -- an axis's part of the sum lies within the whole
  pub sum_within : (i axes : ℕ) → i < axes → sum_below n i + n i ≤ sum_below n axes
  unfolding sum_below
  sum_within i zero l = absurd (not-suc-le-zero l)
  sum_within i (suc axes) l =
      ⊎_elim (λ e. rw e (le_refl _)) (λ lt. let h = sum_within i axes lt in omega arith) (eq-or-lt_of_le (le_of_suc-le-suc l))

  pub product_none : product_below n 0 ≡ 1
  unfolding product_below
  product_none = refl

  pub product_more : (i : ℕ) → product_below n (i + 1) ≡ product_below n i * n i
  unfolding product_below
  product_more i = rw add-one

-- a product of so many numbers of at most 256, and one more
pub product_bound : (product points i : ℕ) → product ≤ 256 ^ i → points ≤ 256 → product * points ≤ 256 ^ (i + 1)
product_bound product points i a b = rw (add-one, pow-succ', mul_comm 256 (256 ^ i)) (mul-le-mul a b)

-- four of them at most
pub of_four : (product i : ℕ) → product ≤ 256 ^ i → i ≤ 4 → product ≤ 4294967296
of_four product i a b = le_trans a (pow-le-pow_right (lit< tt) {i = i} {j = 4} b)

-- a grid of at most four axes, times its masks
pub with_masks : {places masks : ℕ} → places ≤ 4294967296 → masks ≤ 16 → places * masks ≤ 68719476736
with_masks h k = mul-le-mul h k

pub fits_64 : {a : ℕ} → a ≤ 68719476736 → Fits w64 a
fits_64 h = record { fits = lt_of_le_of_lt h (lit< tt) }

pub fits_small : {a : ℕ} → a ≤ 4096 → Fits w64 a
fits_small h = record { fits = lt_of_le_of_lt h (lit< tt) }

-- the first of some sizes have no larger product than all
pub product_grows : (n : ℕ → ℕ) (i d : ℕ) → ((j : ℕ) → j < d → 0 < n j) → i ≤ d → product_below n i ≤ product_below n d
unfolding product_below
product_grows n i zero some le = let e : i ≡ 0 = omega arith in rw e (le_refl 1)
product_grows n i (suc d) some le =
    ⊎_elim (λ e. rw e (le_refl _))
    (λ lt.
    le_trans (product_grows n i d (λ j l. some j (omega arith)) (le_of_suc-le-suc lt))
    (le-mul_of_pos_right (product_below n d) (some d (omega arith))))
    (eq-or-lt_of_le le)

-- one axis fewer
pub sizes_fewer : {axes : ℕ} {n : ℕ → ℕ} → SizesGiven axes n → (fewer : ℕ) → fewer ≤ axes → SizesGiven fewer n
sizes_fewer {axes} {n} given fewer le = record {
  few_axes = omega (arith, given.few_axes);
  some_points = λ j l. given.some_points j (omega arith);
  small = le_trans (product_grows n fewer axes given.some_points le) given.small;
}
