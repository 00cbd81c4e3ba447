-- What was measured is read through the exports of queries: asked at the knots of a place, each answers 0, and in its slots the tensor's
-- number at mask 0 there with the labels of the cell, in every mode.
use mathlib.Core.Path.{◌≡◌, refl, sym, ◌∙◌}
use mathlib.Core.Bool.{false, cond}
use mathlib.Core.List.{List, [], ◌∷◌}
use Prim.Native.Nat.{ℕ}
use lib.ListN.{length, get_or}
use lib.Ieee.{Float}
use Rattle.rules.specs.Numbers.{at}
use Rattle.rules.specs.Sizes.{Grid, knots_length, tensor_length, Place, spot}
use Rattle.rules.specs.Refusals.{some_points_refused, tensor_refused, length_refused}
use Rattle.rules.specs.Outside.{ButForModes}
use Rattle.rules.specs.EvenCalls.{even_query_answer}
use Rattle.rules.specs.declared.Axis.{Axis}
use Rattle.rules.specs.Answers.{EvenAnswer, QueryAnswer}
use Rattle.rules.proofs.WithoutModes.{points_refused_same, knots_length_same, tensor_length_same}
use Rattle.grid_checks.specs.Tables.{lowest}
use Rattle.grid_checks.proofs.Rows.{length_fits}
use Rattle.query_measured.specs.Measured.{Surface, AtPlace, Reads}
use Rattle.query_measured.specs.EvenMeasured.{EvenGrid, EvenReads}
use Rattle.query_measured.proofs.Measured.{measured_is_read, quick_measured_is_read}
use Rattle.query_measured.proofs.EvenMeasured.{even_measured_is_read}
use Rattle.c_axes.specs.Axes.{axis_without_ends, axes_without_ends, axes_in_modes, grid_in_modes, some_modes_refused}
use Rattle.c_axes.proofs.InModes.{modes_put_in}
use Rattle.c_refusals.specs.OwnRefusals.{sizes_given, axes_rows, query_slots_refused, query_later_rows}
use Rattle.c_refusals.specs.OwnRefusals.{query_own_refusal, even_query_own_refusal}
use Rattle.c_refusals.specs.Slots.{even_slots_refused}
use Rattle.c_query.specs.QueryExports.{AnswerExport, QueryExport, QuickQueryExport, EvenQueryExport}

-- what the host looks at itself: the points and the modes of four axes, modes that it knows, and slots for value and labels
pub record Lent (axes : ℕ) (points modes : List ℕ) (value : List Float) (labels : List ℕ) : Type 0 where
  pub four_points : length points ≡ 4
  pub four_modes : length modes ≡ 4
  pub known_modes : some_modes_refused axes modes ≡ false
  pub one_value : length value ≡ 1
  pub four_labels : length labels ≡ 4

-- the answer that an export gives by its number and its slots
abbrev pub told : ℕ → List Float → List ℕ → QueryAnswer
told refusal value labels = record { refusal = refusal; value = at value 0; labels = labels }

abbrev pub even_told : ℕ → List Float → List ℕ → List ℕ → EvenAnswer
even_told refusal value labels uneven =
    record { refusal = refusal; value = at value 0; labels = labels; axis = get_or uneven 0 0; interval = get_or uneven 1 0 }

-- ---- where the host refuses nothing itself, that is the call's answer

told_is :
    (own : ℕ) (given : QueryAnswer) (value : List Float) (labels : List ℕ) (r : ℕ) (v : List Float) (l : List ℕ)
    → own ≡ 0 → query_slots_refused value labels ≡ false → AnswerExport own given value labels r v l → told r v l ≡ given
told_is own given value labels r v l none fine export =
    let number : r ≡ given.refusal = rw none at export.answer in
    let slot : v ≡ given.value ∷ [] = rw (none, fine) at export.answer_stored.slot in
    let slots : l ≡ given.labels = rw (none, fine) at export.answer_stored.slots in
    rw (number, slot, slots) refl

module _
    (axes : ℕ) (points modes : List ℕ) (knots tensor coordinates value : List Float) (labels : List ℕ) (place : Place)
    (lent : Lent axes points modes value labels) (S : Surface (grid_in_modes axes points modes knots) tensor)
    (A : AtPlace (grid_in_modes axes points modes knots) place coordinates)
  where
    abbrev g : Grid
    g = grid_in_modes axes points modes knots

    -- ---- the host's own refusal: its sizes are those of the grid, which differs in its modes alone

    abbrev moded : List Axis
    moded = axes_in_modes axes (axes_without_ends axes points) modes

    but_for_modes : ButForModes (sizes_given axes points) moded
    unfolding axes_without_ends
    but_for_modes = modes_put_in (axis_without_ends axes points) axes modes []

    points_fine : some_points_refused (sizes_given axes points) ≡ false
    points_fine = points_refused_same (sizes_given axes points) moded but_for_modes ∙ S.points_fine

    numbers_same : tensor_length (sizes_given axes points) ≡ tensor_length g
    numbers_same = tensor_length_same (sizes_given axes points) moded but_for_modes

    tensor_fine : tensor_refused (sizes_given axes points) ≡ false
    tensor_fine = rw numbers_same S.tensor_fine

    knots_exact : length knots ≡ knots_length (sizes_given axes points)
    knots_exact = S.knots_exact ∙ sym (knots_length_same (sizes_given axes points) moded but_for_modes)

    tensor_exact : length tensor ≡ tensor_length (sizes_given axes points)
    tensor_exact = S.tensor_exact ∙ sym numbers_same

    axes_pass : (number : ℕ) → lowest (axes_rows axes points) number ≡ number
    axes_pass number = rw (S.axes_fine, length_fits (length points) 4 lent.four_points, points_fine, tensor_fine) refl

    abbrev later : ℕ
    later = lowest (query_later_rows axes points modes knots tensor coordinates value labels) 0

    later_pass : later ≡ 0
    later_pass =
        rw (
          length_fits (length modes) 4 lent.four_modes,
          length_fits (length value) 1 lent.one_value,
          length_fits (length labels) 4 lent.four_labels,
          length_fits (length knots) (knots_length (sizes_given axes points)) knots_exact,
          length_fits (length tensor) (tensor_length (sizes_given axes points)) tensor_exact,
          length_fits (length coordinates) axes A.exact,
          lent.known_modes,
        ) refl

    no_own : query_own_refusal axes points modes knots tensor coordinates value labels ≡ 0
    unfolding query_own_refusal
    no_own = axes_pass later ∙ later_pass

    slots_fine : query_slots_refused value labels ≡ false
    slots_fine = rw (length_fits (length value) 1 lent.one_value, length_fits (length labels) 4 lent.four_labels) refl

    -- ---- the theorems

    pub export_reads :
        (r : ℕ) (v : List Float) (l : List ℕ) → QueryExport axes points modes knots tensor coordinates value labels r v l
        → Reads g place (at tensor (spot g place 0)) (told r v l)
    export_reads r v l export =
        measured_is_read g tensor coordinates place (told r v l) S A
        (record { answer = told_is _ _ value labels r v l no_own slots_fine export })

    pub quick_export_reads :
        (r : ℕ) (v : List Float) (l : List ℕ) → QuickQueryExport axes points modes knots tensor coordinates value labels r v l
        → Reads g place (at tensor (spot g place 0)) (told r v l)
    quick_export_reads r v l export =
        quick_measured_is_read g tensor coordinates place (told r v l) S A
        (record { answer = told_is _ _ value labels r v l no_own slots_fine export })

    -- the query of even axes has a third slot
    module _ (uneven : List ℕ) (two : length uneven ≡ 2) (E : EvenGrid g) where
      no_own_even : even_query_own_refusal axes points modes knots tensor coordinates value labels uneven ≡ 0
      unfolding even_query_own_refusal
      no_own_even = axes_pass (cond (length_refused (length uneven) 2) 4 later) ∙ rw (length_fits (length uneven) 2 two) later_pass

      all_fine : even_slots_refused value labels uneven ≡ false
      all_fine = rw (slots_fine, length_fits (length uneven) 2 two) refl

      abbrev given : EvenAnswer
      given = even_query_answer g tensor coordinates

      pub even_export_reads :
          (r : ℕ) (v : List Float) (l u : List ℕ) → EvenQueryExport axes points modes knots tensor coordinates value labels uneven r v l u
          → EvenReads g place (at tensor (spot g place 0)) (even_told r v l u)
      even_export_reads r v l u export =
          let number : r ≡ given.refusal = rw no_own_even at export.answer in
          let slot : v ≡ given.value ∷ [] = rw (no_own_even, all_fine) at export.answer_stored.slot in
          let slots : l ≡ given.labels = rw (no_own_even, all_fine) at export.answer_stored.slots in
          let axis : u ≡ given.axis ∷ given.interval ∷ [] = rw (no_own_even, all_fine) at export.answer_stored.told in
          even_measured_is_read g tensor coordinates place (even_told r v l u) S E A
          (record { answer = rw (number, slot, slots, axis) refl })
