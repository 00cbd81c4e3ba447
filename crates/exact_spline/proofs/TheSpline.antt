-- In any ordered field, on rising knots: the moments of the rules make a spline under the condition, no others do, and the query's blend is
-- that spline.
use mathlib.Core.Path.{◌≡◌}
use Prim.Native.Nat.{ℕ, ◌+◌, ◌<◌, ◌≤◌}
use native.Mathlib.Omega.{arith}
use Rattle.exact_arithmetic.specs.Arithmetic.{Arithmetic, IsField, IsOrdered}
use Rattle.exact_spline.specs.Steps.{h}
use Rattle.exact_spline.specs.Ends.{Condition, Endpoints, Periodic, fewest_points}
use Rattle.exact_spline.specs.Moments.{moment}
use Rattle.exact_spline.specs.Curve.{curve_in_cell, knot_slope}
use Rattle.exact_spline.specs.Query.{hermite, fraction}
use Rattle.exact_spline.specs.Spline.{IsSplineUnder}
use Rattle.exact_spline.proofs.Endpoints as Ends
use Rattle.exact_spline.proofs.Periodic as Per
use Rattle.exact_spline.proofs.OnlyEndpoints as OnlyEnds
use Rattle.exact_spline.proofs.OnlyPeriodic as OnlyPer
use Rattle.exact_spline.proofs.OneAxis as OneAxis

-- in any ordered field, on n + 1 rising knots x with samples y
module _ (A : Arithmetic) (F : IsField A) (O : IsOrdered A) (x y : ℕ → A.Number) (n : ℕ)
    (rising : (i : ℕ) → i < n → O.Positive (h A x i)) where
  -- the moments of the rules make a spline under the condition
  pub moments_are_a_spline : (condition : Condition A.Number) → fewest_points condition ≤ n + 1
      → IsSplineUnder A x y n (moment A x y n condition) condition
  moments_are_a_spline (Endpoints lower upper) enough =
      record {
        spline = Ends.endpoints_spline A F O x y n rising lower upper (omega arith);
        ends = (Ends.lower_end A F O x y n rising lower upper (omega arith), Ends.upper_end A F O x y n rising lower upper (omega arith));
      }
  moments_are_a_spline Periodic enough =
      record {
        spline = (Per.periodic_spline A F O x y n rising (omega arith)).0;
        ends = (Per.periodic_spline A F O x y n rising
            (omega arith)).1;
      }

  -- no other moments do
  pub moments_are_the_only_spline : (condition : Condition A.Number) → fewest_points condition ≤ n + 1
      → (m : ℕ → A.Number) → IsSplineUnder A x y n m condition → (k : ℕ) → k ≤ n → m k ≡ moment A x y n condition k
  moments_are_the_only_spline (Endpoints lower upper) enough m s =
      OnlyEnds.endpoints_only A F O x y n rising m s.spline lower upper (omega arith) s.ends.0 s.ends.1
  moments_are_the_only_spline Periodic enough m s = OnlyPer.periodic_only A F O x y n rising m s.spline s.ends (omega arith)

  -- on one axis the query's blend of a cell is the curve's cubic
  pub blend_is_the_spline : (condition : Condition A.Number) → fewest_points condition ≤ n + 1 → (i : ℕ) → i < n → (point : A.Number) →
      hermite A (y i) (knot_slope A x y (moment A x y n condition) n i) (y (i + 1)) (knot_slope A x y (moment A x y n condition) n (i + 1))
      (h A x i) (fraction A x i point)
      ≡ curve_in_cell A x y (moment A x y n condition) i point
  blend_is_the_spline condition enough =
      OneAxis.blend_is_curve A F x y (moment A x y n condition) n (λ i b. O.positive_not_nought _ (rising i b))
      (moments_are_a_spline condition enough).spline.slopes_meet
