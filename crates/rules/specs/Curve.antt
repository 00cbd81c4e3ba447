-- The chapter Curve of docs/RULES.md: the value and the slopes of the curve with knots x, samples y and moments m, n + 1 of each.
use Rattle.std.specs.Prelude.{cond, List, ℕ, ◌+◌, ◌-◌, ltb, Float}
use Rattle.rules.specs.Numbers.{◌⊕◌, ◌⊖◌, ◌⊗◌, ◌⊘◌, two, six, at, table}
use Rattle.rules.specs.Steps.{h, s}
use Rattle.rules.specs.Locate.{locate}
use Rattle.rules.specs.Moments.{moments}
use Rattle.rules.specs.declared.Condition.{Condition}

-- the cubic of cell i at a point, with the names that the Rust has in `evaluate_spline_from_m`
unfoldable pub curve_in_cell : List Float → List Float → List Float → ℕ → Float → Float
unfolding h
curve_in_cell x y m i point =
    let dx : Float = point ⊖ at x i in
    let dx_r : Float = h x i ⊖ dx in
    let six_h : Float = six ⊗ h x i in
    let h2_over_six : Float = h x i ⊗ h x i ⊘ six in
    at m i ⊗ dx_r ⊗ dx_r ⊗ dx_r ⊘ six_h
    ⊕ at m (i + 1) ⊗ dx ⊗ dx ⊗ dx ⊘ six_h
    ⊕ (at y i ⊖ at m i ⊗ h2_over_six) ⊗ dx_r ⊘ h x i
    ⊕ (at y (i + 1) ⊖ at m (i + 1) ⊗ h2_over_six) ⊗ dx ⊘ h x i

-- the curve's value at a point: the cubic of the point's cell
unfoldable pub curve : List Float → ℕ → List Float → List Float → Float → Float
unfolding curve_in_cell locate
curve x n y m point = curve_in_cell x y m (locate x n point) point

-- the slope at knot i, from the interval after it; at the last knot from the one before it
unfoldable pub knot_slope : List Float → ℕ → List Float → List Float → ℕ → Float
unfolding h s
knot_slope x n y m i =
    cond (ltb i n)
    (s x y i ⊖ h x i ⊗ (two ⊗ at m i ⊕ at m (i + 1)) ⊘ six)
    (s x y (n - 1) ⊕ h x (n - 1) ⊗ (at m (n - 1) ⊕ two ⊗ at m n) ⊘ six)

-- all n + 1 knot slopes
unfoldable pub knot_slopes : List Float → ℕ → List Float → List Float → List Float
unfolding knot_slope
knot_slopes x n y m = table (n + 1) (knot_slope x n y m)

-- the knot slope at i of the spline through y under a condition: what a lane's numbers become
unfoldable pub lane_slope : List Float → ℕ → Condition → List Float → ℕ → Float
unfolding moments knot_slope
lane_slope x n condition y i = knot_slope x n y (moments x n condition y) i
