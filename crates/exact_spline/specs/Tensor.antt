-- The chapter Tensor of docs/RULES.md, over any arithmetic: a tensor's numbers as a function of the samples, by place and mask.
use Rattle.std.proofs.Math.Bool.{true, false}
use Rattle.std.specs.Prelude.{List, ltb}
use Prim.Native.Nat.{ℕ, zero, suc, ◌-◌, ◌*◌, ◌/◌, ◌%◌, ◌^◌}
use Rattle.rules.specs.Numbers.{table}
use Rattle.rules.specs.Sizes.{Place, moved, flat, unflat, product_below}
use Rattle.exact_arithmetic.specs.Arithmetic.{Arithmetic}
use Rattle.exact_spline.specs.Numbers.{at}
use Rattle.exact_spline.specs.Ends.{condition_at}
use Rattle.exact_spline.specs.Sizes.{Grid}
use Rattle.exact_spline.specs.Curve.{lane_slope}

module _ (A : Arithmetic) where
  open A use {Number}

  -- the slope along axis i, at a place, of the curve through the numbers at one mask
  unfoldable pub slope_along : Grid A → ℕ → ℕ → (Place → Number) → Place → Number
  unfolding lane_slope
  slope_along g i mask numbers p =
      lane_slope A (g.knots i) (g.points i - 1) (condition_at A mask (g.condition i))
      (table (g.points i) (λ k. numbers (moved p i k))) (p i)

  -- the number at a place and a mask once the axes below i are done
  unfoldable pub entry : Grid A → (Place → Number) → ℕ → ℕ → Place → Number
  unfolding slope_along
  entry g samples zero mask p = samples p
  entry g samples (suc i) mask p =
      elim (ltb mask (2 ^ i)) [
        | true ↦ entry g samples i mask p
        | false ↦ slope_along g i (mask - 2 ^ i) (entry g samples i (mask - 2 ^ i)) p
      ]

  -- the whole tensor, all axes done
  unfoldable pub tensor : Grid A → (Place → Number) → List Number
  unfolding entry
  tensor g samples =
      table (product_below g.points g.axes * 2 ^ g.axes)
      (λ e. entry g samples g.axes (e % 2 ^ g.axes) (unflat g.points g.axes (e / 2 ^ g.axes)))

  -- the sample at a place
  unfoldable pub sample : Grid A → List Number → Place → Number
  sample g samples p = at A samples (flat g.points g.axes p)
