-- The chapter Nested of docs/RULES.md: the spline of splines on several axes, and what is asked of a grid for it.
use Rattle.std.proofs.Math.Bool.{cond}
use Rattle.std.specs.Prelude.{List, eqb}
use Prim.Native.Nat.{ℕ, zero, suc, ◌+◌, ◌-◌, ◌/◌, ◌%◌, ◌<◌, ◌≤◌}
use Rattle.rules.specs.Numbers.{table}
use Rattle.rules.specs.Sizes.{Place}
use Rattle.exact_arithmetic.specs.Arithmetic.{Arithmetic, IsOrdered}
use Rattle.exact_spline.specs.Curve.{curve_in_cell}
use Rattle.exact_spline.specs.Derivatives.{slope_in_cell}
use Rattle.exact_spline.specs.Ends.{fewest_points, crossed}
use Rattle.exact_spline.specs.Sizes.{Grid}
use Rattle.exact_spline.specs.Steps as Steps
use Rattle.exact_spline.specs.Numbers.{at}
use Rattle.exact_spline.specs.Moments.{moments}

-- a place by its index on the lowest axis and the place on the others
abbrev pub on_axes : ℕ → Place → Place
on_axes k p zero = k
on_axes k p (suc i) = p i

-- what stands at axis d and at the next, exchanged
abbrev pub exchanged : {X : Type 0} → ℕ → (ℕ → X) → ℕ → X
exchanged zero f zero = f 1
exchanged zero f (suc zero) = f 0
exchanged zero f (suc (suc i)) = f (suc (suc i))
exchanged (suc d) f zero = f 0
exchanged (suc d) f (suc i) = exchanged d (λ i. f (suc i)) i

module _ (A : Arithmetic) where
  open A use {Number, nought}

  -- the other axes, of which there are so many
  abbrev pub other_axes : Grid A → ℕ → Grid A
  other_axes g axes =
      record { axes = axes; points = λ i. g.points (suc i); knots = λ i. g.knots (suc i); condition = λ i. g.condition (suc i) }

  -- the samples along the lowest axis at a place of the others
  abbrev pub lowest_lane : Grid A → (Place → Number) → Place → List Number
  lowest_lane g samples p = table (g.points 0) (λ k. samples (on_axes k p))

  -- the value there of the spline along the lowest axis
  unfoldable pub along_lowest : Grid A → (Place → Number) → ℕ → Number → Place → Number
  along_lowest g samples cell coordinate p =
      curve_in_cell A (g.knots 0) (at A (lowest_lane g samples p))
      (at A (moments A (g.knots 0) (g.points 0 - 1) (g.condition 0) (lowest_lane g samples p))) cell coordinate

  -- the spline of splines: along the lowest axis first, then along the next, each under the condition of its axis
  unfoldable pub nested_splines : ℕ → Grid A → (Place → Number) → Place → (ℕ → Number) → Number
  nested_splines zero g samples cells point = samples cells
  nested_splines (suc axes) g samples cells point =
      nested_splines axes (other_axes g axes) (along_lowest g samples (cells 0) (point 0)) (λ i. cells (suc i)) (λ i. point (suc i))

  -- a grid with two of its axes exchanged
  abbrev pub exchanged_grid : ℕ → Grid A → Grid A
  exchanged_grid d g =
      record {
        axes = g.axes;
        points = exchanged d g.points;
        knots = exchanged d g.knots;
        condition = exchanged d g.condition;
      }

  -- the grid with the crossed conditions: under them the splines through derivatives lie
  abbrev pub crossed_grid : Grid A → Grid A
  crossed_grid g =
      record { axes = g.axes; points = g.points; knots = g.knots; condition = λ i. crossed A (g.condition i) }

  -- what is taken of a lane, from its knots, samples, moments, a cell and a coordinate: a derivative there
  abbrev pub OfLane : Type 0
  OfLane = (ℕ → Number) → (ℕ → Number) → (ℕ → Number) → ℕ → Number → Number

  -- that of the lanes along the lowest axis
  unfoldable pub of_lowest : OfLane → Grid A → (Place → Number) → ℕ → Number → Place → Number
  of_lowest D g samples cell coordinate p =
      D (g.knots 0) (at A (lowest_lane g samples p))
      (at A (moments A (g.knots 0) (g.points 0 - 1) (g.condition 0) (lowest_lane g samples p))) cell coordinate

  -- a derivative of the spline of splines along one of its axes: at that axis the derivatives of its lanes stand for their values, and
  -- along
  -- the axes after it lie splines through them
  unfoldable pub nested_derivative : OfLane → ℕ → ℕ → Grid A → (Place → Number) → Place → (ℕ → Number) → Number
  unfolding of_lowest along_lowest nested_splines
  nested_derivative D axis zero g samples cells point = nought
  nested_derivative D zero (suc axes) g samples cells point =
      nested_splines axes (crossed_grid (other_axes g axes)) (of_lowest D g samples (cells 0) (point 0)) (λ i. cells (suc i))
      (λ i. point (suc i))
  nested_derivative D (suc axis) (suc axes) g samples cells point =
      nested_derivative D axis axes (other_axes g axes) (along_lowest g samples (cells 0) (point 0)) (λ i. cells (suc i))
      (λ i. point (suc i))

  -- the mixed derivative that a mask names: the slope along each axis of the mask, one after the other, and along the others the value
  unfoldable pub nested_mixed : ℕ → ℕ → Grid A → (Place → Number) → Place → (ℕ → Number) → Number
  unfolding of_lowest along_lowest
  nested_mixed mask zero g samples cells point = samples cells
  nested_mixed mask (suc axes) g samples cells point =
      cond (eqb (mask % 2) 1)
      (nested_mixed (mask / 2) axes (crossed_grid (other_axes g axes)) (of_lowest (slope_in_cell A) g samples (cells 0) (point 0))
      (λ i. cells (suc i)) (λ i. point (suc i)))
      (nested_mixed (mask / 2) axes (other_axes g axes) (along_lowest g samples (cells 0) (point 0))
      (λ i. cells (suc i)) (λ i. point (suc i)))

  -- what is asked of a grid: knots that rise, points enough for the condition, and on each axis a cell
  pub record Sound (O : IsOrdered A) (g : Grid A) (cells : Place) : Type 0 where
    pub rising : (i : ℕ) → i < g.axes → (k : ℕ) → k + 1 < g.points i → O.Positive (Steps.h A (g.knots i) k)
    pub enough : (i : ℕ) → i < g.axes → fewest_points (g.condition i) ≤ g.points i
    pub inside : (i : ℕ) → i < g.axes → cells i + 1 < g.points i
