-- The chapter Curve of docs/RULES.md, over any arithmetic: the value and the slopes of the curve with knots x, samples y
-- and moments m, n + 1 of each.
use Rattle.std.specs.Prelude.{cond, List, ℕ, ◌+◌, ◌-◌, ltb}
use Rattle.exact_arithmetic.specs.Arithmetic.{Arithmetic}
use Rattle.exact_spline.specs.Numbers.{at}
use Rattle.exact_spline.specs.Ends.{Condition}
use Rattle.exact_spline.specs.Steps as Steps
use Rattle.exact_spline.specs.Moments.{moments}

module _ (A : Arithmetic) where
  infixl 60 ◌⊕◌
  infixl 60 ◌⊖◌
  infixl 70 ◌⊗◌
  infixl 70 ◌⊘◌
  open A use {Number, two, six, plus as ◌⊕◌, minus as ◌⊖◌, times as ◌⊗◌, over as ◌⊘◌}

  -- the cubic of a cell of a given width, with samples y0, y1 and moments m0, m1 at its knots, at a distance dx from its lower knot
  abbrev pub cubic : Number → Number → Number → Number → Number → Number → Number
  cubic width y0 y1 m0 m1 dx =
      let dx_r : Number = width ⊖ dx in
      let six_h : Number = six ⊗ width in
      let h2_over_six : Number = width ⊗ width ⊘ six in
      m0 ⊗ dx_r ⊗ dx_r ⊗ dx_r ⊘ six_h
      ⊕ m1 ⊗ dx ⊗ dx ⊗ dx ⊘ six_h
      ⊕ (y0 ⊖ m0 ⊗ h2_over_six) ⊗ dx_r ⊘ width
      ⊕ (y1 ⊖ m1 ⊗ h2_over_six) ⊗ dx ⊘ width

  -- the slope at its lower knot, from the slope of the straight line and the moments
  abbrev pub lower_slope : Number → Number → Number → Number → Number
  lower_slope width straight m0 m1 = straight ⊖ width ⊗ (two ⊗ m0 ⊕ m1) ⊘ six

  -- the slope at its upper knot
  abbrev pub upper_slope : Number → Number → Number → Number → Number
  upper_slope width straight m0 m1 = straight ⊕ width ⊗ (m0 ⊕ two ⊗ m1) ⊘ six

  module _ (x y m : ℕ → Number) where
    -- the cubic of cell i at a point
    unfoldable pub curve_in_cell : ℕ → Number → Number
    curve_in_cell i point = cubic (Steps.h A x i) (y i) (y (i + 1)) (m i) (m (i + 1)) (point ⊖ x i)

    -- the slope at knot i, from the interval after it; at the last knot from the one before it
    unfoldable pub knot_slope : ℕ → ℕ → Number
    knot_slope n i =
        cond (ltb i n)
        (lower_slope (Steps.h A x i) (Steps.s A x y i) (m i) (m (i + 1)))
        (upper_slope (Steps.h A x (n - 1)) (Steps.s A x y (n - 1)) (m (n - 1)) (m n))

  -- the knot slope at i of the spline through y under a condition: what a lane's numbers become
  unfoldable pub lane_slope : (ℕ → Number) → ℕ → Condition Number → List Number → ℕ → Number
  unfolding moments knot_slope
  lane_slope x n condition y i = knot_slope x (at A y) (at A (moments A x n condition y)) n i
