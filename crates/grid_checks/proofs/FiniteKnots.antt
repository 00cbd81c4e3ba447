-- Knots that rise by finite steps are finite themselves: where refusal 8 does not apply, they need not be looked at for refusal 7.
use mathlib.Core.Path.{◌≡◌, refl, sym, ap, subst, ◌∙◌}
use mathlib.Core.Bool.{Bool, true, false, not}
use mathlib.Core.List.{List}
use Prim.Native.Nat.{ℕ, zero, suc, ◌+◌, ◌-◌, ◌<◌, ◌≤◌}
use native.Mathlib.Nat.{not-suc-le-zero, le_refl}
use native.Mathlib.Numerals.{add-one}
use native.Mathlib.Omega.{arith}
use lib.Dec.{ltb}
use lib.ListN.{length, take, drop}
use lib.Seq.{get_or-take, get_or-drop}
use lib.Ieee.{Float, nan, binary64}
use lib.Ieee.Scale.{finite}
use borrow.Author.Tests.{not-false, ltb-true, ltb-false}
use Rattle.rules.specs.Numbers.{at, any}
use Rattle.rules.specs.Steps.{h}
use Rattle.rules.specs.Sizes.{sum_below, knots_length}
use Rattle.rules.specs.Refusals.{points_refused, number_refused, some_number_refused, knots_refused, some_knots_refused}
use Rattle.rules.specs.declared.Axis.{Axis}
use Rattle.base_numbers.proofs.Scan.{neither, any_at, any_never}
use Rattle.base_numbers.proofs.Finite.{finite_difference}
use Rattle.grid_checks.specs.Checked.{FiniteUnless}
use Rattle.grid_checks.specs.Check.{knots_of_points_refused}
use Rattle.grid.specs.GridOfCall.{grid, sizes_of, points_of, InRange}
use Rattle.grid_checks.proofs.Accepted.{knots_step}

-- each knot has a neighbour, and the step between them is finite
knot_finite : (x : List Float) (n : ℕ) → 2 ≤ n → knots_refused x n ≡ false → (k : ℕ) → k < n → finite (at x k) ≡ true
unfolding h
knot_finite x n two e zero l = (finite_difference binary64 (at x 1) (at x 0) (knots_step x n e 0 (omega arith)).1).1
knot_finite x n two e (suc k) l =
    subst (λ (j : ℕ). finite (at x j) ≡ true) (add-one k)
    (finite_difference binary64 (at x (k + 1)) (at x k) (knots_step x n e k (omega arith)).1).0

none_refused : (x : List Float) → ((k : ℕ) → k < length x → finite (at x k) ≡ true) → some_number_refused x ≡ false
none_refused x each = any_never (λ k. number_refused (at x k)) (length x) (λ k l. ap not (each k l))

-- the knots of one axis
pub axis_finite : (x : List Float) (n : ℕ) {refused : Bool} → points_refused n ≡ false → length x ≡ n → refused ≡ knots_refused x (length x)
    → FiniteUnless refused x
axis_finite x n range exact is e =
    let two : 2 ≤ length x = omega (arith, ltb-false n 2 (neither (ltb n 2) (ltb 256 n) range).0) in
    none_refused x (knot_finite x (length x) two (sym is ∙ e))

-- the knots of axes with n i points on axis i: all are finite where those of each axis are
module _ (axes : ℕ) (n : ℕ → ℕ) (x : List Float) where
  abbrev of_axis : ℕ → List Float
  of_axis i = take (n i) (drop (sum_below n i) x)

  module _ (each : (i : ℕ) → i < axes → (j : ℕ) → j < n i → finite (at (of_axis i) j) ≡ true) where
    below_finite : (i : ℕ) → i ≤ axes → (k : ℕ) → k < sum_below n i → finite (at x k) ≡ true
    unfolding sum_below
    below_finite zero l k h = absurd (not-suc-le-zero h)
    below_finite (suc i) l k h = go (ltb k (sum_below n i)) refl (below_finite i (omega arith) k)
      where
        go : (b : Bool) → ltb k (sum_below n i) ≡ b → (k < sum_below n i → finite (at x k) ≡ true) → finite (at x k) ≡ true
        go true e before = before (ltb-true k (sum_below n i) e)
        go false e before =
            let start = sum_below n i in
            let from : start ≤ k = ltb-false k start e in
            let j : ℕ = k - start in
            let here : start + j ≡ k = omega arith in
            subst (λ (v : Float). finite v ≡ true)
            (get_or-take (n i) (drop start x) j nan (omega arith)
            ∙ get_or-drop start x j nan
            ∙ ap (at x) here)
            (each i (omega arith) j (omega arith))

    all_finite : length x ≡ sum_below n axes → some_number_refused x ≡ false
    all_finite exact = none_refused x (λ k l. below_finite axes (le_refl axes) k (omega (arith, exact)))

  pub axes_finite : length x ≡ sum_below n axes
      → ((i : ℕ) → i < axes → any (λ k. number_refused (at (of_axis i) k)) (n i) ≡ false) → some_number_refused x ≡ false
  axes_finite exact none =
      all_finite (λ i l j h. not-false _ (any_at (λ k. number_refused (at (of_axis i) k)) (n i) (none i l) j h)) exact

  pub points_finite : InRange axes n → {refused : Bool} → length x ≡ sum_below n axes → refused ≡ knots_of_points_refused axes n x
      → FiniteUnless refused x
  points_finite range exact is e =
      all_finite
      (λ i l. knot_finite (of_axis i) (n i) (range.some_points i l) (any_at (λ a. knots_refused (of_axis a) (n a)) axes (sym is ∙ e) i l))
      exact

-- the knots of a grid
pub grid_finite : (axes : ℕ) (entries : List Axis) (x : List Float) {refused : Bool} → InRange axes (points_of entries)
    → length x ≡ knots_length (sizes_of axes entries) → refused ≡ some_knots_refused (grid axes entries x) → FiniteUnless refused x
grid_finite axes entries x range = points_finite axes (points_of entries) x range
