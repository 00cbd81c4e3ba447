-- The knots of an axis that refusals 7 and 8 let pass are finite and rise, and no cell of them is refused.
use native.Mathlib.Omega.{arith}
use mathlib.Core.Path.{◌≡◌, refl, ap, ◌∙◌}
use mathlib.Core.Bool.{false}
use Prim.Native.Nat.{ℕ, ◌+◌, ◌-◌, ◌<◌}
use lib.ListN.{length}
use Rattle.rules.specs.Numbers.{at}
use Rattle.rules.specs.Sizes.{Grid, points, knots, sum_below, knots_length}
use Rattle.rules.specs.Refusals.{number_refused, some_number_refused, step_refused, knots_refused, found_cell_refused}
use Rattle.base_numbers.proofs.Scan.{any_at, any_never}
use Rattle.grid.proofs.Products.{sum_within}
use Rattle.grid.proofs.Knots.{knots_of_axis, knot_at}
use Rattle.axis_locate.specs.CellFound.{Rising}
use Rattle.axis_locate.proofs.Accepted.{accepted_rise}

module _ (g : Grid) (exact : length g.flat_knots ≡ knots_length g) (numbers : some_number_refused g.flat_knots ≡ false) (i : ℕ)
    (lt : i < g.axes) where
  pub axis_numbers : some_number_refused (knots g i) ≡ false
  axis_numbers =
      any_never (λ k. number_refused (at (knots g i) k)) (length (knots g i)) λ k h.
      let below : k < points g i = omega (arith, knots_of_axis g exact i lt) in
      ap number_refused (knot_at g i k below)
      ∙ any_at (λ j. number_refused (at g.flat_knots j)) (length g.flat_knots) numbers (sum_below (points g) i + k)
      (omega (arith, exact, sum_within (points g) i g.axes lt))

  pub rising_on_axis : knots_refused (knots g i) (points g i) ≡ false → Rising (knots g i) (points g i)
  rising_on_axis = accepted_rise (knots g i) (points g i) (knots_of_axis g exact i lt) axis_numbers

  pub cell_accepted :
      knots_refused (knots g i) (points g i) ≡ false → (l : ℕ) → l + 1 < points g i → found_cell_refused (knots g i) l ≡ false
  unfolding found_cell_refused
  cell_accepted rise l inside =
      let rising = rising_on_axis rise in
      rw (
        rising.finite l (omega arith),
        rising.finite (l + 1) inside,
        any_at (step_refused (knots g i)) (points g i - 1) rise l (omega arith),
      )
      refl
