-- An accepted stepped surface gives on each axis in use the index that a step in the axis's own direction means, and the sample there.
use mathlib.Core.Path.{◌≡◌, refl, sym, ap, ◌∙◌}
use mathlib.Core.Bool.{Bool, true, false, cond}
use mathlib.Core.List.{List}
use Prim.Native.Nat.{ℕ, ◌-◌, ◌<◌, ◌≤◌}
use native.Mathlib.Omega.{arith}
use lib.Dec.{ltb}
use lib.ListN.{get_or-eq_default}
use lib.Ieee.{Float}
use borrow.Author.Tests.{ltb-true, ltb-false, lt-ltb, le-ltb}
use Rattle.rules.specs.Numbers.{at}
use Rattle.rules.specs.Sizes.{most_axes, Grid, points, knots, sum_below, Place, place_of}
use Rattle.rules.specs.Step.{step_index, stepped_place, stepped}
use Rattle.rules.specs.StepCalls.{direction, stepped_refusal, step_indices, stepped_answer, SteppedPromise}
use Rattle.rules.specs.declared.StepDirection.{StepDirection}
use Rattle.rules.specs.declared.StepDirection.TheVariants.{Lower, Upper}
use Rattle.rules.specs.Answers.{SteppedAnswer}
use Rattle.rules.proofs.Tables.{length_table, at_table}
use Rattle.rules.proofs.Places.{flat_ext}
use Rattle.base_floats.specs.Place.{AllFit}
use Rattle.base_floats.proofs.Parts.{part_fits}
use Rattle.step_checks.specs.StepsChecked.{PointGiven}
use Rattle.step_checks.proofs.Accepted.{stepped_given}
use Rattle.step_axis.proofs.Meaning.{downward, upward}
use Rattle.step_surface.specs.SteppedMeaning.{InDirection, SteppedMeaning}
use Rattle.step_surface.proofs.Answers.{stepped_checked}
use Rattle.step_surface.proofs.OneSample.{place_on_grid}

module _ (g : Grid) (directions : List StepDirection) (samples coordinates : List Float)
    (knots_fit : AllFit g.flat_knots) (coordinates_fit : AllFit coordinates) where
  abbrev place : Place
  place = stepped_place g (direction directions) (at coordinates)

  -- the indices of the answer: those of the place, and 0 past the axes in use
  abbrev indices : List ℕ
  indices = step_indices g directions samples coordinates

  abbrev entry : ℕ → ℕ
  entry i = cond (ltb i g.axes) (place i) 0

  index_in_use : (i : ℕ) → i < g.axes → i < most_axes → place_of indices i ≡ place i
  unfolding step_indices
  index_in_use i l few = at_table most_axes entry i 0 few ∙ rw (lt-ltb i g.axes l) refl

  index_unused : (i : ℕ) → g.axes ≤ i → place_of indices i ≡ 0
  unfolding step_indices
  index_unused i l = go (ltb i most_axes) refl
    where
      go : (b : Bool) → ltb i most_axes ≡ b → place_of indices i ≡ 0
      go true e = at_table most_axes entry i 0 (ltb-true i most_axes e) ∙ rw (le-ltb i g.axes l) refl
      go false e =
          get_or-eq_default indices 0 {n = i}
          (omega (arith, ltb-false i most_axes e, length_table most_axes entry))

  -- a step on one axis
  on_axis :
      (direction : StepDirection) (i : ℕ) → PointGiven (points g i) (knots g i) (at coordinates i)
      → InDirection direction (knots g i) (points g i) (at coordinates i)
      (step_index direction (knots g i) (points g i - 1) (at coordinates i))
  on_axis Lower i given =
      downward (knots g i) (points g i) (at coordinates i) given.rising
      (part_fits g.flat_knots (sum_below (points g) i) (points g i) knots_fit)
      (record { fits = coordinates_fit i; finite = given.point_finite }) given.some_points
  on_axis Upper i given =
      upward (knots g i) (points g i) (at coordinates i) given.rising
      (part_fits g.flat_knots (sum_below (points g) i) (points g i) knots_fit)
      (record { fits = coordinates_fit i; finite = given.point_finite }) given.some_points

  pub step_indices_mean :
      stepped_refusal g directions samples coordinates ≡ 0
      → SteppedMeaning g directions samples coordinates indices (stepped g (direction directions) samples (at coordinates))
  unfolding stepped stepped_place
  step_indices_mean none =
      let given = stepped_given g samples coordinates (sym (stepped_checked g directions samples coordinates) ∙ none) in
      let few = given.axes_given.in_range.few_axes in
      let found : (i : ℕ) → i < g.axes → place_of indices i ≡ place i = λ i l. index_in_use i l (omega arith) in
      record {
        steps = λ i l. rw (found i l) (on_axis (direction directions i) i (given.axes_given.on_axis i l));
        on_grid = λ i l. rw (found i l) (place_on_grid g (direction directions) (at coordinates) given.axes_given.in_range i l);
        unused = index_unused;
        sample = ap (at samples) (sym (flat_ext (points g) g.axes (place_of indices) place found));
      }

  -- so of every answer that keeps the promise
  pub stepped_means :
      (given : SteppedAnswer) → SteppedPromise g directions samples coordinates given → given.refusal ≡ 0
      → SteppedMeaning g directions samples coordinates given.indices given.value
  unfolding stepped_answer
  stepped_means given promise none =
      let accepted : stepped_refusal g directions samples coordinates ≡ 0 =
      sym (ap (λ (a : SteppedAnswer). a.refusal) promise.answer) ∙ none in
      rw (promise.answer, accepted) (step_indices_mean accepted)
