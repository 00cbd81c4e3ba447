-- What refusals 8 and 9 let pass on an axis is all that the exact spline asks for: its knots rise, and its points are enough. So there is
-- one
-- spline through the exact values, and the rules computed without rounding give it.
use mathlib.Core.Path.{◌≡◌, refl, ap₂}
use mathlib.Core.Bool.{false}
use mathlib.Core.List.{List}
use Prim.Native.Nat.{ℕ, ◌+◌, ◌<◌, ◌≤◌}
use native.Mathlib.Omega.{arith}
use lib.Ieee.{Float, binary64}
use borrow.Author.Tests.{ltb-false}
use Rattle.rules.specs.Numbers.{at}
use Rattle.rules.specs.Ends as Rules
use Rattle.rules.specs.Steps as Steps
use Rattle.rules.specs.Refusals.{knots_refused, fewness_refused}
use Rattle.rules.specs.declared.End.{End}
use Rattle.rules.specs.declared.End.TheVariants.{NotAKnot, FirstDerivative, SecondDerivative}
use Rattle.rules.specs.declared.Condition.{Condition}
use Rattle.rules.specs.declared.Condition.TheVariants.{Endpoints, Periodic}
use Rattle.base_numbers.proofs.Finite.{finite_difference}
use Rattle.grid_checks.proofs.Accepted.{knots_step}
use Rattle.exact_rationals.specs.Rationals.{ℚ, rationals, Positive}
use Rattle.exact_rationals.proofs.OrderedField.{rationals_are_a_field, rationals_are_ordered}
use Rattle.exact_rationals.proofs.Comparisons.{less_is_less}
use Rattle.exact_spline.specs.Ends as Exact
use Rattle.exact_spline.specs.Steps.{h}
use Rattle.exact_spline.specs.Moments.{moment}
use Rattle.exact_spline.specs.Spline.{IsSplineUnder}
use Rattle.exact_spline.proofs.TheSpline.{moments_are_a_spline, moments_are_the_only_spline}
use Rattle.exact_calls.specs.Exactly.{exact, exact_end, exact_condition}

-- knots that rise by the rules' test, with finite steps, have exact values that rise
pub knots_rise : (x : List Float) (n : ℕ) → knots_refused x n ≡ false → (k : ℕ) → k + 1 < n → Positive (h rationals (exact x) k)
unfolding h Steps.h
knots_rise x n eight k inside =
    let step = knots_step x n eight k inside in
    let both = finite_difference binary64 (at x (k + 1)) (at x k) step.1 in
    less_is_less (at x k) (at x (k + 1)) both.1 both.0 step.0

same_dropped : (e : End) → Exact.dropped (exact_end e) ≡ Rules.dropped e
same_dropped NotAKnot = refl
same_dropped (FirstDerivative v) = refl
same_dropped (SecondDerivative v) = refl

same_fewest : (c : Condition) → Exact.fewest_points (exact_condition c) ≡ Rules.fewest_points c
same_fewest (Endpoints lower upper) = ap₂ (λ i j. 2 + i + j) (same_dropped lower) (same_dropped upper)
same_fewest Periodic = refl

pub points_enough : (c : Condition) (n : ℕ) → fewness_refused c n ≡ false → Exact.fewest_points (exact_condition c) ≤ n
points_enough c n nine = omega (arith, same_fewest c, ltb-false n (Rules.fewest_points c) nine)

-- an axis of n + 1 points with knots x, samples y and a condition, that refusals 8 and 9 let pass
module _
    (x y : List Float) (n : ℕ) (c : Condition)
    (eight : knots_refused x (n + 1) ≡ false) (nine : fewness_refused c (n + 1) ≡ false) where
  rising : (k : ℕ) → k < n → Positive (h rationals (exact x) k)
  rising k inside = knots_rise x (n + 1) eight k (omega arith)

  -- the rules, computed without rounding, give a spline under the condition
  pub accepted_spline :
      IsSplineUnder rationals (exact x) (exact y) n (moment rationals (exact x) (exact y) n (exact_condition c)) (exact_condition c)
  accepted_spline =
      moments_are_a_spline rationals rationals_are_a_field rationals_are_ordered (exact x) (exact y) n rising
      (exact_condition c) (points_enough c (n + 1) nine)

  -- and there is no other
  pub accepted_spline_only :
      (m : ℕ → ℚ) → IsSplineUnder rationals (exact x) (exact y) n m (exact_condition c)
      → (k : ℕ) → k ≤ n → m k ≡ moment rationals (exact x) (exact y) n (exact_condition c) k
  accepted_spline_only =
      moments_are_the_only_spline rationals rationals_are_a_field rationals_are_ordered (exact x) (exact y) n rising
      (exact_condition c) (points_enough c (n + 1) nine)
