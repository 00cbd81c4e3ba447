-- The chapter Spline of docs/RULES.md: what it is for moments to make a cubic spline, and what its ends do under a condition.
use Rattle.std.specs.Prelude.{◌≡◌, ℕ, ◌+◌, ◌-◌, ◌<◌}
use Rattle.exact_arithmetic.specs.Arithmetic.{Arithmetic}
use Rattle.exact_spline.specs.Ends.{End, NotAKnot, FirstDerivative, SecondDerivative, Condition, Endpoints, Periodic}
use Rattle.exact_spline.specs.Curve.{curve_in_cell}
use Rattle.exact_spline.specs.Derivatives.{slope_in_cell, second_in_cell, third_in_cell}

-- the curve of knots x, samples y and moments m, n + 1 of each
module _ (A : Arithmetic) (x y : ℕ → A.Number) (n : ℕ) (m : ℕ → A.Number) where
  open A use {Number}

  pub record IsSpline : Type 0 where
    pub lower_sample : (i : ℕ) → i < n → curve_in_cell A x y m i (x i) ≡ y i
    pub upper_sample : (i : ℕ) → i < n → curve_in_cell A x y m i (x (i + 1)) ≡ y (i + 1)
    pub slopes_meet : (i : ℕ) → i + 1 < n → slope_in_cell A x y m i (x (i + 1)) ≡ slope_in_cell A x y m (i + 1) (x (i + 1))
    pub seconds_meet : (i : ℕ) → i + 1 < n → second_in_cell A x y m i (x (i + 1)) ≡ second_in_cell A x y m (i + 1) (x (i + 1))

  -- the lower end does what it says: its third derivative does not change at knot 1, or its first or second derivative is as given
  abbrev pub LowerEnd : End Number → Type 0
  LowerEnd NotAKnot = third_in_cell A x y m 0 ≡ third_in_cell A x y m 1
  LowerEnd (FirstDerivative v) = slope_in_cell A x y m 0 (x 0) ≡ v
  LowerEnd (SecondDerivative v) = second_in_cell A x y m 0 (x 0) ≡ v

  -- the upper end likewise
  abbrev pub UpperEnd : End Number → Type 0
  UpperEnd NotAKnot = third_in_cell A x y m (n - 2) ≡ third_in_cell A x y m (n - 1)
  UpperEnd (FirstDerivative v) = slope_in_cell A x y m (n - 1) (x n) ≡ v
  UpperEnd (SecondDerivative v) = second_in_cell A x y m (n - 1) (x n) ≡ v

  -- a periodic curve comes back with the slope and the second derivative that it began with
  pub record Closed : Type 0 where
    pub slopes_close : slope_in_cell A x y m (n - 1) (x n) ≡ slope_in_cell A x y m 0 (x 0)
    pub seconds_close : second_in_cell A x y m (n - 1) (x n) ≡ second_in_cell A x y m 0 (x 0)

  -- the ends of a condition do what they say
  abbrev pub EndsHold : Condition Number → Type 0
  EndsHold (Endpoints lower upper) = LowerEnd lower × UpperEnd upper
  EndsHold Periodic = Closed

  -- the curve is a spline under a condition
  pub record IsSplineUnder (condition : Condition Number) : Type 0 where
    pub spline : IsSpline
    pub ends : EndsHold condition
