-- What the stepped surface answers: the number that its sizes, its knots and samples or its coordinates meet, or the sample at the indices
-- of the steps, and these.
use mathlib.Core.Path.{◌≡◌, refl, sym, ap, ◌∙◌}
use mathlib.Core.Logic.{◌≢◌}
use mathlib.Core.Bool.{Bool, true, false, cond, ◌||◌}
use mathlib.Core.List.{List}
use Prim.Native.Nat.{ℕ, zero, suc, ◌<◌}
use native.Mathlib.Omega.{arith}
use lib.Dec.{ltb}
use lib.ListN.{length}
use lib.Ieee.{Float}
use borrow.Author.Tests.{ltb-true, ltb-false}
use Rattle.rules.specs.Numbers.{at}
use Rattle.rules.specs.Sizes.{most_axes, Grid, points, sum_below, place_of, Place, flat}
use Rattle.rules.specs.Refusals.{points_refused, some_number_refused, some_knots_refused}
use Rattle.rules.specs.Step.{stepped_place, stepped}
use Rattle.rules.specs.Calls.{or_else, answered, labelled}
use Rattle.rules.specs.StepCalls.{direction, stepped_refusal, step_indices, stepped_answer, SteppedPromise}
use Rattle.rules.specs.declared.Axis.{Axis}
use Rattle.rules.specs.declared.StepDirection.{StepDirection}
use Rattle.rules.specs.Answers.{SteppedAnswer}
use Rattle.rules.proofs.Places.{One, flat_below, flat_ext}
use Rattle.rules.proofs.Refused.{or_else_met, any_ext}
use Rattle.rules.proofs.Sums.{sum_ext, product_ext}
use Rattle.rules.proofs.Tables.{table_is}
use Rattle.grid.specs.GridOfCall.{grid, points_of}
use Rattle.grid_checks.specs.Check.{knots_of_points_refused, knots_and_coordinates_rows, knots_and_coordinates_check}
use Rattle.grid_checks.proofs.Rows.{rows_then, none_applies}
use Rattle.step_checks.specs.StepChecks.{stepped_sizes_rows, stepped_sizes_check, stepped_check}
use Rattle.step_checks.specs.StepsChecked.{AxesGiven}
use Rattle.step_checks.proofs.Accepted.{axes_given, sizes_accepted}
use Rattle.step_surface.specs.OnPoints.{SurfaceFits, refused_with}
use Rattle.step_surface.specs.Indices.{OnAxes}

-- the refusal is the check's, since no outcome is looked at
pub stepped_checked : (g : Grid) (directions : List StepDirection) (samples coordinates : List Float)
    → stepped_refusal g directions samples coordinates ≡ stepped_check g samples coordinates
unfolding stepped_refusal stepped_check
stepped_checked g directions samples coordinates = refl

-- ---- a refusal

-- after one an answer says nothing else
nothing : (refusal number : ℕ) (value : Float) (indices : List ℕ) → refusal ≡ number → number ≢ 0
    → refused_with number ≡ record { refusal = refusal; value = answered refusal value; indices = labelled refusal indices }
nothing refusal zero value indices e some = absurd (some refl)
nothing refusal (suc number) value indices e some = rw e refl

module _ (axes : ℕ) (all : List Axis) (x : List Float) (directions : List StepDirection) (samples coordinates : List Float) where
  abbrev given : Grid
  given = grid axes all x

  pub refused_by : {number : ℕ} → stepped_refusal given directions samples coordinates ≡ number → number ≢ 0
      → (r : SteppedAnswer) → r ≡ refused_with number → SteppedPromise given directions samples coordinates r
  unfolding stepped_answer
  refused_by met some r is = record {
    answer = is
        ∙ nothing (stepped_refusal given directions samples coordinates) _
        (stepped given (direction directions) samples (at coordinates)) (step_indices given directions samples coordinates) met some;
  }

  -- what is met of the numbers
  abbrev later : ℕ
  later =
      cond (some_number_refused x || some_number_refused samples || some_number_refused coordinates) 7
      (cond (some_knots_refused given) 8 0)

  -- sizes and lengths come first
  sizes_first : stepped_refusal given directions samples coordinates
      ≡ or_else (stepped_sizes_check axes (points_of all) (length x) (length samples) (length coordinates)) later
  unfolding stepped_refusal stepped_sizes_check
  sizes_first = rows_then (stepped_sizes_rows axes (points_of all) (length x) (length samples) (length coordinates)) later tt

  pub sizes_refuse :
      (points_in : List ℕ) → place_of points_in ≡ points_of all → {number : ℕ}
      → number ≡ stepped_sizes_check axes (place_of points_in) (length x) (length samples) (length coordinates) → number ≢ 0
      → (r : SteppedAnswer) → r ≡ refused_with number → SteppedPromise given directions samples coordinates r
  sizes_refuse points_in same {number} is some =
      let met : stepped_sizes_check axes (points_of all) (length x) (length samples) (length coordinates) ≡ number =
      sym (is ∙ ap (λ (n : ℕ → ℕ). stepped_sizes_check axes n (length x) (length samples) (length coordinates)) same) in
      refused_by (sizes_first ∙ rw met (or_else_met number later some)) some

-- ---- where sizes and lengths are not refused, on any axes that have the points

-- the number of a place on axes of as many points
same_points : (n m : ℕ → ℕ) (d : ℕ) (p : Place) → One d n m → flat n d p ≡ flat m d p
unfolding flat
same_points n m zero p one = refl
same_points n m (suc d) p one = cc (same_points n m d p (λ j below. one j (omega arith)), one d (omega arith))

-- 7 of the last of three tests may be asked first
asked_first : (numbers coordinates : Bool) (below : ℕ) → cond (numbers || coordinates) 7 below ≡ cond coordinates 7 (cond numbers 7 below)
asked_first true true below = refl
asked_first true false below = refl
asked_first false coordinates below = refl

module _ (axes : ℕ) (points_in : List ℕ) (x samples coordinates : List Float)
    (fits : SurfaceFits axes points_in x samples coordinates) (met : ℕ)
    (checked : met ≡ knots_and_coordinates_check axes (place_of points_in) x samples) (directions : List StepDirection) where
  module _ (all : List Axis) (are : One axes (points_of all) (place_of points_in)) where
    abbrev g : Grid
    g = grid axes all x

    sizes_same : stepped_sizes_check axes (points_of all) (length x) (length samples) (length coordinates) ≡ 0
    unfolding stepped_sizes_check
    sizes_same =
        rw (
          any_ext (λ i. points_refused (points_of all i)) (λ i. points_refused (place_of points_in i)) axes
              (λ i l. ap points_refused (are i l)),
          product_ext (points_of all) (place_of points_in) axes are,
          sum_ext (points_of all) (place_of points_in) axes are,
        )
        fits.none_refused

    -- the knots begin at the same place on each axis, and are as many
    begin_same : (i : ℕ) → i < axes → sum_below (points_of all) i ≡ sum_below (place_of points_in) i
    begin_same i l = sum_ext (points_of all) (place_of points_in) i (λ k h. are k (omega arith))

    knots_same : some_knots_refused g ≡ knots_of_points_refused axes (place_of points_in) x
    knots_same = any_ext _ _ axes (λ i l. rw (are i l, begin_same i l) refl)

    -- the coordinates may be asked first
    pub refusal_is : stepped_refusal g directions samples coordinates ≡ cond (some_number_refused coordinates) 7 met
    unfolding knots_and_coordinates_check
    refusal_is =
        sizes_first axes all x directions samples coordinates
        ∙ rw (
          sizes_same,
          knots_same,
          asked_first (some_number_refused x || some_number_refused samples) (some_number_refused coordinates)
              (cond (knots_of_points_refused axes (place_of points_in) x) 8 0),
          checked,
        )
        refl

    module _ (finite : some_number_refused coordinates ≡ false) (none : met ≡ 0) (number : ℕ) (indices : List ℕ)
        (on : OnAxes (place_of points_in) x directions coordinates axes number indices) where
      -- the indices are those of the rules
      index_is : (i : ℕ) → i < axes → place_of indices i ≡ stepped_place g (direction directions) (at coordinates) i
      unfolding stepped_place
      index_is i l = on.found i l ∙ rw (are i l, begin_same i l) refl

      value_is : at samples number ≡ stepped g (direction directions) samples (at coordinates)
      unfolding stepped
      value_is =
          ap (at samples)
          (on.numbered
          ∙ sym (same_points (points_of all) (place_of points_in) axes (place_of indices) are)
          ∙ flat_ext (points g) axes (place_of indices) (stepped_place g (direction directions) (at coordinates)) index_is)

      indices_are : indices ≡ step_indices g directions samples coordinates
      unfolding step_indices
      indices_are = table_is 0 indices most_axes _ on.four (λ i h. go i h (ltb i axes) refl)
        where
          go : (i : ℕ) → i < most_axes → (b : Bool) → ltb i axes ≡ b
              → place_of indices i ≡ cond b (stepped_place g (direction directions) (at coordinates) i) 0
          go i h true e = index_is i (ltb-true i axes e)
          go i h false e = on.unused i (ltb-false i axes e) h

      pub place_answers :
          SteppedPromise g directions samples coordinates (record { refusal = 0; value = at samples number; indices = indices })
      unfolding stepped_answer
      place_answers = record { answer = rw (refusal_is, finite, none, value_is, ← indices_are) refl }

  -- ---- the place of the steps

  module _ (finite : some_number_refused coordinates ≡ false) (none : met ≡ 0) where
    pub axes_accepted : AxesGiven axes (place_of points_in) x coordinates
    unfolding knots_and_coordinates_check
    axes_accepted =
        let sizes = sizes_accepted axes (place_of points_in) (length x) (length samples) (length coordinates) fits.none_refused in
        let rows = none_applies (knots_and_coordinates_rows axes (place_of points_in) x samples) tt (sym checked ∙ none) in
        axes_given axes (place_of points_in) x coordinates sizes.0 sizes.1 sizes.2 sizes.4 rows.1.0 finite

    pub place_within :
        (number : ℕ) (indices : List ℕ) → OnAxes (place_of points_in) x directions coordinates axes number indices
        → number < length samples
    place_within number indices on =
        let sizes = sizes_accepted axes (place_of points_in) (length x) (length samples) (length coordinates) fits.none_refused in
        omega (arith, on.numbered, sizes.3, flat_below (place_of points_in) axes (place_of indices) on.inside)
