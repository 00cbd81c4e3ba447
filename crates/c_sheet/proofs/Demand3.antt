-- Demand 3 of a tensor that `hullashlar_sheet_tensor` left, on the axes that it hands over: it stands as built, so the four statements of
-- `c_tensor` hold of it.
use mathlib.Core.Path.{◌≡◌, refl, sym, ◌∙◌}
use mathlib.Core.List.{List, [], ◌∷◌}
use Prim.Native.Nat.{ℕ, ◌≤◌}
use lib.ListN.{take, get_or}
use lib.Ieee.{Float}
use Rattle.rules.specs.Sizes.{Grid, knots_length, samples_length}
use Rattle.rules.specs.Outside.{with_axes, ButForModes}
use Rattle.rules.specs.declared.Axis.{Axis}
use Rattle.rules.proofs.Refused.{or_else_passed}
use Rattle.rules.proofs.WithoutModes.{knots_length_same, samples_length_same, build_without_modes}
use Rattle.grid_checks.proofs.Rows.{axes_few}
use Rattle.tensor.proofs.Demand3.{Stands, built_stands}
use Rattle.sheet_read.specs.Fields.{edition as edition_said, axes as axes_said, sheet_grid}
use Rattle.sheet_build.specs.SheetTensor.{answer_of, reading_refusal, sheet_tensor_refusal, SheetPromise}
use Rattle.sheet_build.specs.SheetTensor.{SheetAnswer}
use Rattle.sheet_build.proofs.Builds.{answered_refusal}
use Rattle.sheet_build.proofs.Demand3.{grid_made, samples_made, tensor_made, sheet_is_built}
use Rattle.c_axes.specs.Axes.{axes_given, grid_given, points_found, kinds_found, values_found}
use Rattle.c_refusals.specs.OwnRefusals.{sheet_tensor_own_refusal}
use Rattle.c_tensor.proofs.Demand3.{Made}
use Rattle.c_tensor.proofs.Accepted.{Fine}
use Rattle.c_sheet.specs.SheetExports.{SheetTensorExport}
use Rattle.c_sheet.proofs.SheetAxes.{sheet_axes_again, sheet_axes_fine}

module _
    (bytes : List ℕ) (knots_lent samples_lent : List Float) (axes_lent points_lent kinds_lent : List ℕ) (values_lent : List Float)
    (modes_lent edition_lent : List ℕ) (tensor_lent scratch_lent : List Float) (length_lent : List ℕ)
    (k s : List Float) (a p n : List ℕ) (v : List Float) (m e : List ℕ) (t w : List Float) (l : List ℕ)
    (called : SheetTensorExport bytes knots_lent samples_lent axes_lent points_lent kinds_lent values_lent modes_lent edition_lent
    tensor_lent scratch_lent length_lent 0 k s a p n v m e t w l)
  where
    abbrev reading : ℕ
    reading = reading_refusal bytes knots_lent samples_lent tensor_lent scratch_lent

    abbrev refusal : ℕ
    refusal = sheet_tensor_refusal bytes knots_lent samples_lent tensor_lent scratch_lent

    abbrev answer : SheetAnswer
    answer = answer_of reading refusal (edition_said bytes) (sheet_grid bytes)

    -- the grid without its knots, and the parts in the first places of their buffers
    abbrev sizes_handed : Grid
    sizes_handed = grid_given (get_or a 0 0) p n v []

    both : (sheet_tensor_own_refusal axes_lent points_lent kinds_lent values_lent modes_lent edition_lent length_lent ≡ 0) × (refusal ≡ 0)
    both =
        or_else_passed (sheet_tensor_own_refusal axes_lent points_lent kinds_lent values_lent modes_lent edition_lent length_lent) refusal
        (sym called.answer)

    as_sheet : SheetPromise bytes knots_lent samples_lent tensor_lent scratch_lent answer k s t w
    as_sheet = record {
      answer = refl;
      knots = rw both.0 at called.knots;
      samples = rw both.0 at called.samples;
      output = rw both.0 at called.output;
      scratch = rw both.0 at called.scratch;
    }

    none : answer.refusal ≡ 0
    none = answered_refusal reading refusal (edition_said bytes) (sheet_grid bytes) ∙ both.1

    stands_made : Stands (grid_made answer k) (samples_made answer s) (tensor_made answer t)
    stands_made =
        built_stands _ _ _ _ _ _ (sheet_is_built bytes knots_lent samples_lent tensor_lent scratch_lent answer k s t w as_sheet none)

    reading_none : reading ≡ 0
    unfolding sheet_tensor_refusal
    reading_none = (or_else_passed reading _ both.1).0

    -- the axes handed over are those that were read, but for their modes, which neither a build nor a change reads
    abbrev handed : List Axis
    handed = axes_given answer.axes (points_found answer.all) (kinds_found answer.all) (values_found answer.all)

    again : ButForModes (grid_made answer k) handed
    unfolding sheet_grid
    again = rw reading_none (sheet_axes_again bytes (axes_said bytes) _)

    stands_handed : Stands (with_axes (grid_made answer k) handed) (samples_made answer s) (tensor_made answer t)
    stands_handed =
        built_stands _ _ _ _ _ _
        (build_without_modes (grid_made answer k) handed again _ _ _
        (sheet_is_built bytes knots_lent samples_lent tensor_lent scratch_lent answer k s t w as_sheet none))

    handed_fine : Fine answer.axes (points_found answer.all) (kinds_found answer.all) (values_found answer.all)
    unfolding sheet_grid
    handed_fine =
        let few : answer.axes ≤ 4 = (axes_few {axes = answer.axes} stands_made.sound.axes_fine).1 in
        let said : axes_said bytes ≤ 4 = rw reading_none at few in
        rw reading_none (sheet_axes_fine bytes (axes_said bytes) said)

    pub sheet_tensor_made :
        Made (get_or a 0 0) p n v (take (knots_length sizes_handed) k) (take (samples_length sizes_handed) s) (take (get_or l 0 0) t)
    sheet_tensor_made =
        let axes_are : a ≡ answer.axes ∷ [] = rw both.0 at called.found.slot in
        let points_are : p ≡ points_found answer.all = rw both.0 at called.found.points in
        let kinds_are : n ≡ kinds_found answer.all = rw both.0 at called.found.kinds in
        let values_are : v ≡ values_found answer.all = rw both.0 at called.found.values in
        let length_is : l ≡ answer.length ∷ [] = rw both.0 at called.slot in
        rw (axes_are, points_are, kinds_are, values_are, length_is) (record {
          fine = handed_fine;
          stands =
              rw (← knots_length_same (grid_made answer k) handed again, ← samples_length_same (grid_made answer k) handed again)
              stands_handed;
        })
