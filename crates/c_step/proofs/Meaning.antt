-- An accepted call of the stepped surface from C: on each axis in use the index in its slot is what a step downward means where the axis's
-- number is 0, and what a step upward means where it is 1; and the value in its slot is the sample there.
use mathlib.Core.Path.{◌≡◌, refl, sym, ◌∙◌}
use mathlib.Core.Bool.{false, ◌||◌}
use mathlib.Core.List.{List, [], ◌∷◌}
use Prim.Native.Nat.{ℕ, ◌<◌, ◌≤◌}
use native.Mathlib.Omega.{arith}
use lib.ListN.{length}
use lib.Ieee.{Float}
use borrow.Author.Tests.{ltb-false, lt-ltb}
use Rattle.rules.specs.Numbers.{at}
use Rattle.rules.specs.Sizes.{most_axes, Grid, points, knots, knots_length, samples_length, place_of, flat}
use Rattle.rules.specs.Refusals.{length_refused}
use Rattle.rules.specs.StepCalls.{direction, stepped_answer}
use Rattle.rules.specs.declared.StepDirection.TheVariants.{Lower}
use Rattle.rules.specs.Answers.{SteppedAnswer}
use Rattle.rules.proofs.Tables.{at_table}
use Rattle.rules.proofs.Refused.{or_else_passed}
use Rattle.base_numbers.proofs.Scan.{neither, any_at}
use Rattle.base_floats.specs.Place.{AllFit}
use Rattle.grid_checks.proofs.Rows.{NoneApplies, none_applies, axes_few}
use Rattle.step_axis.specs.Meaning.{Downward, Upward}
use Rattle.step_surface.proofs.SteppedMeaning.{stepped_means}
use Rattle.c_axes.specs.Axes.{grid_without_ends}
use Rattle.c_refusals.specs.OwnRefusals.{sizes_given, query_slots_refused}
use Rattle.c_step.specs.Directions.{
  direction_refused,
  direction_of_number,
  some_direction_refused,
  direction_given,
  directions_given,
}
use Rattle.c_step.specs.StepExports.{stepped_slots_refused, stepped_own_rows, stepped_own_refusal, SteppedExport}

module _ (axes : ℕ) (points_in numbers : List ℕ) (knots_in samples coordinates : List Float) where
  abbrev g : Grid
  g = grid_without_ends axes points_in knots_in

  -- what stands in the slots: of each axis in use by its number, and the sample at the indices
  pub record HostSteps (value_later : List Float) (indices_later : List ℕ) : Type 0 where
    pub downward :
        (i : ℕ) → i < axes → place_of numbers i ≡ 0
        → Downward (knots g i) (points g i) (at coordinates i) (place_of indices_later i)
    pub upward :
        (i : ℕ) → i < axes → place_of numbers i ≡ 1
        → Upward (knots g i) (points g i) (at coordinates i) (place_of indices_later i)
    pub no_other : (i : ℕ) → i < axes → place_of numbers i ≤ 1
    pub unused : (i : ℕ) → axes ≤ i → place_of indices_later i ≡ 0
    pub sample : value_later ≡ at samples (flat (points g) axes (place_of indices_later)) ∷ []

  -- the direction of an axis in use is that of its number
  direction_is :
      (i : ℕ) → i < axes → axes ≤ most_axes
      → direction (directions_given axes numbers) i ≡ direction_of_number (place_of numbers i)
  unfolding directions_given direction_given
  direction_is i l few = at_table most_axes (direction_given axes numbers) i Lower (omega arith) ∙ rw (lt-ltb i axes l) refl

  module _ (value_lent : List Float) (indices_lent : List ℕ) (knots_fit : AllFit knots_in) (coordinates_fit : AllFit coordinates) where
    abbrev own : ℕ
    own = stepped_own_refusal axes points_in numbers knots_in samples coordinates value_lent indices_lent

    abbrev called : SteppedAnswer
    called = stepped_answer g (directions_given axes numbers) samples coordinates

    module _ (own_none : own ≡ 0) where
      rows_pass : NoneApplies (stepped_own_rows axes points_in numbers knots_in samples coordinates value_lent indices_lent)
      unfolding stepped_own_refusal
      rows_pass = none_applies (stepped_own_rows axes points_in numbers knots_in samples coordinates value_lent indices_lent) tt own_none

      few : axes ≤ most_axes
      few = (axes_few {axes = axes} rows_pass.0).1

      slots_stand : query_slots_refused value_lent indices_lent ≡ false
      slots_stand =
          let sizes = sizes_given axes points_in in
          let slots =
          (neither (stepped_slots_refused numbers value_lent indices_lent)
          (length_refused (length knots_in) (knots_length sizes)
          || length_refused (length samples) (samples_length sizes)
          || length_refused (length coordinates) axes)
          rows_pass.1.1.1.1.0).0 in
          (neither (length_refused (length numbers) most_axes) (query_slots_refused value_lent indices_lent) slots).1

      number_few : (i : ℕ) → i < axes → place_of numbers i ≤ 1
      unfolding some_direction_refused
      number_few i l =
          ltb-false 1 (place_of numbers i)
          (any_at (λ j. direction_refused (place_of numbers j)) axes rows_pass.1.1.1.1.1.0 i l)

    pub host_steps_mean :
        {refusal : ℕ} {value_later : List Float} {indices_later : List ℕ}
        → SteppedExport axes points_in numbers knots_in samples coordinates value_lent indices_lent refusal value_later indices_later
        → refusal ≡ 0 → HostSteps value_later indices_later
    host_steps_mean export none =
        let passed = or_else_passed own called.refusal (sym export.answer ∙ none) in
        let own_none = passed.0 in
        let meaning =
        stepped_means g (directions_given axes numbers) samples coordinates knots_fit coordinates_fit called
        (record { answer = refl }) passed.1 in
        let value_is = export.answer_stored.slot in
        let indices_are = export.answer_stored.slots in
        rw (value_is, indices_are, slots_stand own_none, own_none)
        (record {
          downward = λ i l zero. rw (direction_is i l (few own_none), zero) at (meaning.steps i l);
          upward = λ i l one. rw (direction_is i l (few own_none), one) at (meaning.steps i l);
          no_other = number_few own_none;
          unused = meaning.unused;
          sample = rw meaning.sample refl;
        })
