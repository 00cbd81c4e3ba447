-- The query on one axis: where slopes meet, the rules' knot slopes are those of the curve, and the blend of a cell is its cubic.
use mathlib.Core.Path.{◌≡◌, sym, ◌∙◌, ap₂}
use Prim.Native.Nat.{ℕ, ◌+◌, ◌-◌, ◌<◌}
use native.Mathlib.Decide.{dec_lt}
use native.Mathlib.Omega.{arith}
use lib.Dec.{ltb}
use borrow.Author.Tests.{lt-ltb, le-ltb}
use Rattle.exact_arithmetic.specs.Arithmetic.{Arithmetic, IsField}
use Rattle.exact_spline.specs.Steps as Steps
use Rattle.exact_spline.specs.Curve.{curve_in_cell, knot_slope, upper_slope}
use Rattle.exact_spline.specs.Derivatives.{slope_in_cell}
use Rattle.exact_spline.specs.Query.{hermite, fraction}
use Rattle.exact_spline.proofs.Cell as Cell
use Rattle.exact_spline.proofs.Knots as Knots
use Rattle.exact_spline.proofs.Tests.{cond_true, cond_false}

module _ (A : Arithmetic) (F : IsField A) (x y m : ℕ → A.Number) (n : ℕ) (wide : (i : ℕ) → i < n → ¬ (Steps.h A x i ≡ A.nought))
    (meet : (i : ℕ) → i + 1 < n → slope_in_cell A x y m i (x (i + 1)) ≡ slope_in_cell A x y m (i + 1) (x (i + 1))) where
  open A use {Number}

  -- the slope at the lower knot of a cell
  pub knot_slope_lower : (i : ℕ) → i < n → knot_slope A x y m n i ≡ slope_in_cell A x y m i (x i)
  unfolding knot_slope
  knot_slope_lower i b = cond_true (ltb i n) _ _ (lt-ltb i n b) ∙ sym (Knots.slope_at_lower_knot A F x y m i (wide i b))

  -- the slope at its upper knot
  pub knot_slope_upper : (i : ℕ) → i < n → knot_slope A x y m n (i + 1) ≡ slope_in_cell A x y m i (x (i + 1))
  unfolding knot_slope
  knot_slope_upper i b = go (dec_lt (i + 1) n)
    where
      go : Dec (i + 1 < n) → knot_slope A x y m n (i + 1) ≡ slope_in_cell A x y m i (x (i + 1))
      go (yes c) = knot_slope_lower (i + 1) c ∙ sym (meet i c)
      go (no c) =
          let e : n - 1 ≡ i = omega arith in
          let f : n ≡ i + 1 = omega arith in
          cond_false (ltb (i + 1) n) _ _ (le-ltb (i + 1) n (omega arith))
          ∙ ap₂ (λ j k. upper_slope A (Steps.h A x j) (Steps.s A x y j) (m j) (m k)) e f
          ∙ sym (Knots.slope_at_upper_knot A F x y m i (wide i b))

  -- the blend of a cell is the curve
  pub blend_is_curve : (i : ℕ) → i < n → (point : Number) →
      hermite A (y i) (knot_slope A x y m n i) (y (i + 1)) (knot_slope A x y m n (i + 1)) (Steps.h A x i) (fraction A x i point)
      ≡ curve_in_cell A x y m i point
  unfolding fraction curve_in_cell Steps.s
  blend_is_curve i b point =
      ap₂ (λ p q. hermite A (y i) p (y (i + 1)) q (Steps.h A x i) (fraction A x i point))
      (knot_slope_lower i b ∙ Knots.slope_at_lower_knot A F x y m i (wide i b))
      (knot_slope_upper i b ∙ Knots.slope_at_upper_knot A F x y m i (wide i b))
      ∙ Cell.blend_is_cubic A F (Steps.h A x i) (y i) (y (i + 1)) (m i) (m (i + 1)) (wide i b) (A.minus point (x i))
