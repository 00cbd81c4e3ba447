-- The numbers of a tensor are numbers of an f64 where its samples are: samples, and results of operations.
use mathlib.Core.Path.{◌≡◌, refl, sym, subst}
use mathlib.Core.Bool.{Bool, true, false}
use mathlib.Core.List.{List}
use Prim.Native.Nat.{ℕ, zero, suc, ◌-◌, ◌+◌, ◌^◌, ◌<◌}
use native.Mathlib.Omega.{arith}
use lib.Dec.{T, ltb}
use lib.ListN.{length, get_or-eq_default}
use lib.Ieee.{Float, nan, binary64, fits}
use lib.Ieee.Fits.{nan-fits, cond-fits, add-fits, sub-fits}
use borrow.Author.Tests.{ltb-true, ltb-false}
use Rattle.rules.specs.Numbers.{◌⊕◌, ◌⊖◌, ◌⊗◌, ◌⊘◌, two, six, at, table}
use Rattle.rules.specs.Ends.{condition_at}
use Rattle.rules.specs.Sizes.{Grid, points, condition, knots, tensor_length, Place, moved, flat}
use Rattle.rules.specs.Steps.{h, s}
use Rattle.rules.specs.Moments.{moments}
use Rattle.rules.specs.Curve.{knot_slope, lane_slope}
use Rattle.rules.specs.Tensor.{slope_along, entry, sample, place_at, mask_at, tensor}
use Rattle.rules.proofs.Tables.{length_table, at_table}
use Rattle.base_floats.specs.Place.{AllFit}

-- a list whose numbers are numbers of an f64: past its end stands NaN, which is one
pub all_fit : (xs : List Float) (n : ℕ) → length xs ≡ n → ((k : ℕ) → k < n → T (fits binary64 (at xs k))) → AllFit xs
all_fit xs n long each k = go (ltb k n) refl
  where
    go : (b : Bool) → ltb k n ≡ b → T (fits binary64 (at xs k))
    go true e = each k (ltb-true k n e)
    go false e =
        subst (λ (x : Float). T (fits binary64 x)) (sym (get_or-eq_default xs nan {n = k} (omega (arith, ltb-false k n e))))
        (nan-fits binary64)

knot_slope_fits : (x : List Float) (n : ℕ) (y m : List Float) (i : ℕ) → T (fits binary64 (knot_slope x n y m i))
unfolding knot_slope
knot_slope_fits x n y m i =
    let after : Float = h x i ⊗ (two ⊗ at m i ⊕ at m (i + 1)) ⊘ six in
    let before : Float = h x (n - 1) ⊗ (at m (n - 1) ⊕ two ⊗ at m n) ⊘ six in
    cond-fits binary64 (ltb i n) (s x y i ⊖ after) (s x y (n - 1) ⊕ before)
    (sub-fits binary64 (s x y i) after) (add-fits binary64 (s x y (n - 1)) before)

slope_fits : (g : Grid) (i mask : ℕ) (numbers : Place → Float) (p : Place) → T (fits binary64 (slope_along g i mask numbers p))
unfolding slope_along lane_slope
slope_fits g i mask numbers p =
    let y : List Float = table (points g i) (λ k. numbers (moved p i k)) in
    let m : List Float = moments (knots g i) (points g i - 1) (condition_at mask (condition g i)) y in
    knot_slope_fits (knots g i) (points g i - 1) y m (p i)

entry_fits :
    (g : Grid) (samples : Place → Float) → ((p : Place) → T (fits binary64 (samples p))) → (i mask : ℕ) (p : Place)
    → T (fits binary64 (entry g samples i mask p))
unfolding entry
entry_fits g samples each zero mask p = each p
entry_fits g samples each (suc i) mask p =
    go (ltb mask (2 ^ i)) _ _ (entry_fits g samples each i mask p) (slope_fits g i (mask - 2 ^ i) (entry g samples i (mask - 2 ^ i)) p)
  where
    go : (b : Bool) (v w : Float) → T (fits binary64 v) → T (fits binary64 w) → T (fits binary64 (elim b [ true ↦ v | false ↦ w ]))
    go true v w p q = p
    go false v w p q = q

pub tensor_fits : (g : Grid) (samples : List Float) → AllFit samples → AllFit (tensor g samples)
unfolding tensor sample
tensor_fits g samples fit =
    let number : ℕ → Float = λ e. entry g (sample g samples) g.axes (mask_at g e) (place_at g e) in
    all_fit (tensor g samples) (tensor_length g) (length_table (tensor_length g) number) (λ e l.
    subst (λ (x : Float). T (fits binary64 x)) (sym (at_table (tensor_length g) number e nan l))
    (entry_fits g (sample g samples) (λ p. fit (flat (points g) g.axes p)) g.axes (mask_at g e) (place_at g e)))
