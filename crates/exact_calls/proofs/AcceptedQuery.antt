-- A query without rounding, on a grid that the build's refusals let pass and at a point of finite coordinates: its value is that of the
-- spline
-- of splines, in a cell that on each axis holds the coordinate where this lies inside, and where hold has moved it.
use mathlib.Core.Path.{◌≡◌, refl, sym, subst}
use mathlib.Core.Bool.{Bool, true, false, cond, true≢false}
use mathlib.Core.List.{List}
use Prim.Native.Nat.{ℕ, ◌+◌, ◌-◌, ◌<◌, ◌≤◌}
use native.Mathlib.Decide.{dec_lt}
use native.Mathlib.Omega.{arith}
use lib.Dec.{ltb}
use lib.ListN.{length}
use lib.Ieee.{Float, lt, binary64}
use lib.Ieee.Scale.{finite}
use borrow.Author.Tests.{ltb-false}
use Rattle.rules.specs.Numbers.{at}
use Rattle.rules.specs.Sizes as Sizes
use Rattle.rules.specs.Steps as Steps
use Rattle.rules.specs.Outside.{side, nearest, outside, mode_at, placed_on}
use Rattle.rules.specs.Query.{cell_of}
use Rattle.rules.specs.Refusals.{points_refused, some_points_refused, knots_refused, some_knots_refused, some_fewness_refused}
use Rattle.rules.specs.declared.Side.TheVariants.{Below, Inside, Above}
use Rattle.rules.specs.declared.Mode.TheVariants.{Hold}
use Rattle.base_numbers.proofs.Scan.{any_at, neither}
use Rattle.base_numbers.proofs.Finite.{finite_difference}
use Rattle.grid.proofs.Knots.{knots_of_axis}
use Rattle.grid_checks.proofs.Accepted.{knots_step}
use Rattle.exact_rationals.specs.Rationals.{rationals}
use Rattle.exact_rationals.specs.Values.{value}
use Rattle.exact_spline.specs.Tensor.{sample}
use Rattle.exact_spline.specs.Query.{value_from}
use Rattle.exact_spline.specs.Nested.{nested_splines}
use Rattle.exact_calls.specs.Exactly.{exact, values, exact_grid, HoldsPoint}
use Rattle.exact_calls.proofs.AcceptedAxis.{knots_rise}
use Rattle.exact_calls.proofs.AcceptedGrid.{accepted_surface}
use Rattle.exact_calls.proofs.Located as Located

-- the knots of an axis that refusal 8 lets pass are finite
pub finite_knots : (x : List Float) (n : ℕ) → 0 < n → knots_refused x (n + 1) ≡ false → (k : ℕ) → k ≤ n → finite (at x k) ≡ true
unfolding Steps.h
finite_knots x n some eight k inside = go (dec_lt k n)
  where
    both : (j : ℕ) → j < n → (finite (at x (j + 1)) ≡ true) × (finite (at x j) ≡ true)
    both j l = finite_difference binary64 (at x (j + 1)) (at x j) (knots_step x (n + 1) eight j (omega arith)).1

    go : Dec (k < n) → finite (at x k) ≡ true
    go (yes l) = (both k l).1
    go (no l) = let same : n - 1 + 1 ≡ k = omega arith in subst (λ j. finite (at x j) ≡ true) same (both (n - 1) (omega arith)).0

-- a point that is not outside, and one that hold has moved, by the two tests of its side
inside_tests : (below above : Bool) → outside (cond below Below (cond above Above Inside)) ≡ false → (below ≡ false) × (above ≡ false)
inside_tests true above e = absurd (true≢false e)
inside_tests false true e = absurd (true≢false e)
inside_tests false false e = (refl, refl)

nearest_is : (below above : Bool) (x : List Float) (p : Float)
    → nearest (cond below Below (cond above Above Inside)) x p ≡ cond below (at x 0) (cond above (at x (length x - 1)) p)
nearest_is true above x p = refl
nearest_is false true x p = refl
nearest_is false false x p = refl

module _
    (g : Sizes.Grid)
    (two : some_points_refused g ≡ false) (four : length g.flat_knots ≡ Sizes.knots_length g)
    (eight : some_knots_refused g ≡ false) (nine : some_fewness_refused g ≡ false)
    (point : ℕ → Float) (seven : (i : ℕ) → i < g.axes → finite (point i) ≡ true) where
  module _ (i : ℕ) (used : i < g.axes) where
    abbrev x : List Float
    x = Sizes.knots g i

    abbrev n : ℕ
    n = Sizes.points g i - 1

    points_two : 2 ≤ Sizes.points g i
    points_two =
        let range = neither (ltb (Sizes.points g i) 2) (ltb 256 (Sizes.points g i))
        (any_at (λ j. points_refused (Sizes.points g j)) g.axes two i used) in
        ltb-false (Sizes.points g i) 2 range.0

    whole : n + 1 ≡ Sizes.points g i
    whole = omega (arith, points_two)

    last : length x - 1 ≡ n
    last = omega (arith, knots_of_axis g four i used)

    knots_passed : knots_refused x (n + 1) ≡ false
    knots_passed =
        subst (λ k. knots_refused x k ≡ false) (sym whole)
        (any_at (λ j. knots_refused (Sizes.knots g j) (Sizes.points g j)) g.axes eight i used)

    some : 0 < n
    some = omega (arith, points_two)

    pub cell_inside : cell_of g point i + 1 < Sizes.points g i
    unfolding cell_of
    cell_inside =
        subst (λ k. cell_of g point i + 1 < k) whole
        (Located.locate_inside x n (point i) some (finite_knots x n some knots_passed)
        (λ k l. knots_rise x (n + 1) knots_passed k (omega arith)) (seven i used))

    -- inside, the cell holds the coordinate
    pub cell_holds : outside (side x (point i)) ≡ false → HoldsPoint (exact x) (cell_of g point i) (value (point i))
    unfolding cell_of side
    cell_holds inside =
        let tests = inside_tests (lt (point i) (at x 0)) (lt (at x (length x - 1)) (point i)) inside in
        Located.located x n (point i) some (finite_knots x n some knots_passed)
        (λ k l. knots_rise x (n + 1) knots_passed k (omega arith)) (seven i used)
        tests.0 (subst (λ k. lt (at x k) (point i) ≡ false) last tests.1)

    -- hold leaves it there, or moves it to the end knot of the cell
    pub held_in_cell : mode_at g i ≡ Hold → HoldsPoint (exact x) (cell_of g point i) (value (placed_on g point i))
    unfolding cell_of side
    held_in_cell mode =
        rw mode
        (subst (λ v. HoldsPoint (exact x) (cell_of g point i) (value v))
        (sym (nearest_is (lt (point i) (at x 0)) (lt (at x (length x - 1)) (point i)) x (point i)))
        (subst (λ k. HoldsPoint (exact x) (cell_of g point i)
        (value (cond (lt (point i) (at x 0)) (at x 0) (cond (lt (at x k) (point i)) (at x k) (point i)))))
        (sym last)
        (Located.held x n (point i) some (finite_knots x n some knots_passed)
        (λ k l. knots_rise x (n + 1) knots_passed k (omega arith)) (seven i used))))

  -- the query without rounding: in the cell that the rules find, at the coordinates as the modes place them
  pub accepted_query :
      (samples : List Float)
      → value_from rationals (exact_grid g) (sample rationals (exact_grid g) (values samples)) (cell_of g point)
      (λ i. value (placed_on g point i))
      ≡ nested_splines rationals g.axes (exact_grid g) (sample rationals (exact_grid g) (values samples)) (cell_of g point)
      (λ i. value (placed_on g point i))
  accepted_query samples = accepted_surface g eight nine samples (cell_of g point) cell_inside (λ i. value (placed_on g point i))
