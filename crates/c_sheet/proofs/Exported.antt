-- Each export of sheets refuses as the host's own refusal says, or answers as the call promises for what was given.
use mathlib.Core.Path.{◌≡◌, sym, ap, ◌∙◌}
use mathlib.Core.List.{List, [], ◌∷◌}
use Prim.Native.Nat.{ℕ}
use lib.ListN.{set}
use lib.Ieee.{Float}
use Rattle.rules.specs.declared.Axis.{Axis}
use Rattle.sheet_read.specs.Fields.{edition as edition_said, sheet_grid}
use Rattle.sheet_read.specs.Read.{ReadPromise, Edition1Promise}
use Rattle.sheet_read.specs.Read.{ReadAnswer}
use Rattle.sheet_read.specs.Read.{Edition1Answer}
use Rattle.sheet_read.proofs.Promises.{answer_refusal}
use Rattle.sheet_build.specs.SheetTensor.{reading_refusal, sheet_tensor_refusal, SheetPromise}
use Rattle.sheet_build.specs.SheetTensor.{SheetAnswer}
use Rattle.sheet_build.proofs.Builds.{answered_refusal}
use Rattle.sheet_write.specs.Write.{write_answer, WritePromise}
use Rattle.sheet_write.specs.Write.{WriteAnswer}
use Rattle.c_axes.specs.Axes.{axes_given, axes_in_modes, modes_found, AxesStored}
use Rattle.c_refusals.specs.OwnRefusals.{write_own_refusal, read_own_refusal, read_edition_1_own_refusal, sheet_tensor_own_refusal}
use Rattle.c_refusals.specs.Slots.{in_slot}
use Rattle.c_sheet.specs.SheetExports.{FoundStored, EditionStored, ReadExport, ReadEdition1Export, SheetTensorExport, WriteExport}
use Rattle.c_refusals.proofs.Exported.{own_answer, untouched, no_count, call_answer, left}
use Rattle.c_refusals.proofs.Lengths.{read_lengths, read_edition_1_lengths, sheet_tensor_lengths}
use Rattle.c_axes.proofs.Slots.{one_stored}

-- ---- the sheet

module _ (own axes : ℕ) (all : List Axis) (axes_lent points_lent kinds_lent : List ℕ) (values_lent : List Float) {r : ℕ} (e : r ≡ own) where
  found_refused : (r ≡ 0 → ⊥)
      → FoundStored own axes all axes_lent points_lent kinds_lent values_lent axes_lent points_lent kinds_lent values_lent
  found_refused some = record {
    slot = untouched _ _ _ e some;
    points = untouched _ _ _ e some;
    kinds = untouched _ _ _ e some;
    values = untouched _ _ _ e some;
  }

  found_stored :
      r ≡ 0 → {axes_later points_later kinds_later : List ℕ} {values_later : List Float} → axes_later ≡ axes ∷ []
      → AxesStored all points_later kinds_later values_later
      → FoundStored own axes all axes_lent points_lent kinds_lent values_lent axes_later points_later kinds_later values_later
  found_stored none slot_stored axes_stored = record {
    slot = left _ _ e none slot_stored;
    points = left _ _ e none axes_stored.points;
    kinds = left _ _ e none axes_stored.kinds;
    values = left _ _ e none axes_stored.values;
  }

-- modes and edition
module _ (own edition : ℕ) (all : List Axis) (modes_lent edition_lent : List ℕ) {r : ℕ} (e : r ≡ own) where
  told_refused : (r ≡ 0 → ⊥) → EditionStored own edition all modes_lent edition_lent modes_lent edition_lent
  told_refused some = record { modes = untouched _ _ _ e some; slot = untouched _ _ _ e some }

  told_stored : r ≡ 0 → {modes_later edition_later : List ℕ} → (modes_later ≡ modes_found all) × (edition_later ≡ edition ∷ [])
      → EditionStored own edition all modes_lent edition_lent modes_later edition_later
  told_stored none told = record { modes = left _ _ e none told.0; slot = left _ _ e none told.1 }

module _ (bytes : List ℕ) (knots_lent samples_lent : List Float) (axes_lent points_lent kinds_lent : List ℕ) (values_lent : List Float)
    (modes_lent edition_lent : List ℕ) {r : ℕ}
    (e : r ≡ read_own_refusal axes_lent points_lent kinds_lent values_lent modes_lent edition_lent) where
  pub read_refused :
      (r ≡ 0 → ⊥)
      → ReadExport bytes knots_lent samples_lent axes_lent points_lent kinds_lent values_lent modes_lent edition_lent r knots_lent
      samples_lent axes_lent points_lent kinds_lent values_lent modes_lent edition_lent
  read_refused some = record {
    answer = own_answer _ _ e some;
    knots = untouched _ _ _ e some;
    samples = untouched _ _ _ e some;
    found = found_refused _ _ _ _ _ _ _ e some;
    told = told_refused _ _ _ _ _ e some;
  }

  pub read_called :
      r ≡ 0
      → (a : ReadAnswer) {k s : List Float} {points_later kinds_later : List ℕ} {values_later : List Float}
      {modes_later edition_later : List ℕ}
      → ReadPromise bytes knots_lent samples_lent a k s
      → AxesStored a.all points_later kinds_later values_later
      → (modes_later ≡ modes_found a.all) × (edition_later ≡ a.edition ∷ [])
      → ReadExport bytes knots_lent samples_lent axes_lent points_lent kinds_lent values_lent modes_lent edition_lent a.refusal k s
      (set axes_lent 0 a.axes) points_later kinds_later values_later modes_later edition_later
  read_called none a p axes_stored told = record {
    answer = call_answer _ e none (ap (λ (b : ReadAnswer). b.refusal) p.answer ∙ answer_refusal _ _ _ _);
    knots = left _ _ e none p.knots;
    samples = left _ _ e none p.samples;
    found =
        rw (sym p.answer)
        (found_stored _ a.axes a.all _ _ _ _ e none
        (one_stored axes_lent a.axes
        (read_lengths axes_lent points_lent kinds_lent values_lent modes_lent edition_lent (sym e ∙ none)).one_slot)
        axes_stored);
    told = rw (sym p.answer) (told_stored _ a.edition a.all _ _ e none told);
  }

-- ---- the sheet of edition 1

module _ (bytes : List ℕ) (knots_lent samples_lent : List Float) (axes_lent points_lent kinds_lent : List ℕ) (values_lent : List Float)
    {r : ℕ} (e : r ≡ read_edition_1_own_refusal axes_lent points_lent kinds_lent values_lent) where
  pub read_edition_1_refused :
      (r ≡ 0 → ⊥)
      → ReadEdition1Export bytes knots_lent samples_lent axes_lent points_lent kinds_lent values_lent r knots_lent samples_lent axes_lent
      points_lent kinds_lent values_lent
  read_edition_1_refused some = record {
    answer = own_answer _ _ e some;
    knots = untouched _ _ _ e some;
    samples = untouched _ _ _ e some;
    found = found_refused _ _ _ _ _ _ _ e some;
  }

  pub read_edition_1_called :
      r ≡ 0 → (a : Edition1Answer) {k s : List Float} {points_later kinds_later : List ℕ} {values_later : List Float}
      → Edition1Promise bytes knots_lent samples_lent a k s
      → AxesStored a.all points_later kinds_later values_later
      → ReadEdition1Export bytes knots_lent samples_lent axes_lent points_lent kinds_lent values_lent a.refusal k s
      (set axes_lent 0 a.axes) points_later kinds_later values_later
  read_edition_1_called none a p axes_stored =
      let axes_are = sym (ap (λ (b : Edition1Answer). b.axes) p.answer) in
      let all_are = sym (ap (λ (b : Edition1Answer). b.all) p.answer) in
      record {
        answer = call_answer _ e none (ap (λ (b : Edition1Answer). b.refusal) p.answer ∙ answer_refusal _ _ _ _);
        knots = left _ _ e none p.knots;
        samples = left _ _ e none p.samples;
        found =
            rw (axes_are, all_are)
            (found_stored _ a.axes a.all _ _ _ _ e none
            (one_stored axes_lent a.axes (read_edition_1_lengths axes_lent points_lent kinds_lent values_lent (sym e ∙ none)).0)
            axes_stored);
      }

-- ---- the sheet's tensor

module _ (bytes : List ℕ) (knots_lent samples_lent : List Float) (axes_lent points_lent kinds_lent : List ℕ) (values_lent : List Float)
    (modes_lent edition_lent : List ℕ) (tensor_lent scratch_lent : List Float) (length_lent : List ℕ) {r : ℕ}
    (e : r ≡ sheet_tensor_own_refusal axes_lent points_lent kinds_lent values_lent modes_lent edition_lent length_lent) where
  pub sheet_tensor_refused :
      (r ≡ 0 → ⊥)
      → SheetTensorExport bytes knots_lent samples_lent axes_lent points_lent kinds_lent values_lent modes_lent edition_lent tensor_lent
      scratch_lent length_lent r knots_lent samples_lent axes_lent points_lent kinds_lent values_lent modes_lent edition_lent
      tensor_lent scratch_lent length_lent
  sheet_tensor_refused some = record {
    answer = own_answer _ _ e some;
    knots = untouched _ _ _ e some;
    samples = untouched _ _ _ e some;
    found = found_refused _ _ _ _ _ _ _ e some;
    told = told_refused _ _ _ _ _ e some;
    output = untouched _ _ _ e some;
    scratch = untouched _ _ _ e some;
    slot = untouched _ _ _ e some;
  }

  pub sheet_tensor_called :
      r ≡ 0
      → (a : SheetAnswer) {k s t w : List Float} {points_later kinds_later : List ℕ} {values_later : List Float}
      {modes_later edition_later : List ℕ}
      → SheetPromise bytes knots_lent samples_lent tensor_lent scratch_lent a k s t w
      → AxesStored a.all points_later kinds_later values_later
      → (modes_later ≡ modes_found a.all) × (edition_later ≡ a.edition ∷ [])
      → SheetTensorExport bytes knots_lent samples_lent axes_lent points_lent kinds_lent values_lent modes_lent edition_lent tensor_lent
      scratch_lent length_lent a.refusal k s (set axes_lent 0 a.axes) points_later kinds_later values_later modes_later
      edition_later t w (set length_lent 0 a.length)
  sheet_tensor_called none a p axes_stored told =
      let lengths = sheet_tensor_lengths axes_lent points_lent kinds_lent values_lent modes_lent edition_lent length_lent (sym e ∙ none) in
      record {
        answer = call_answer _ e none (ap (λ (b : SheetAnswer). b.refusal) p.answer
            ∙ answered_refusal (reading_refusal bytes knots_lent samples_lent tensor_lent scratch_lent)
            (sheet_tensor_refusal bytes knots_lent samples_lent tensor_lent scratch_lent) (edition_said bytes) (sheet_grid bytes));
        knots = left _ _ e none p.knots;
        samples = left _ _ e none p.samples;
        found =
            rw (sym p.answer)
            (found_stored _ a.axes a.all _ _ _ _ e none (one_stored axes_lent a.axes lengths.0.one_slot) axes_stored);
        told = rw (sym p.answer) (told_stored _ a.edition a.all _ _ e none told);
        output = left _ _ e none p.output;
        scratch = left _ _ e none p.scratch;
        slot =
            left _ _ e none
            (one_stored length_lent a.length lengths.1 ∙ ap (λ (b : SheetAnswer). b.length ∷ []) p.answer);
      }

-- ---- the writer

module _ (axes : ℕ) (points kinds : List ℕ) (values : List Float) (modes : List ℕ) (knots samples : List Float) (edition : ℕ)
    (bytes_lent length_lent : List ℕ) {r : ℕ} (e : r ≡ write_own_refusal axes points kinds values modes knots samples length_lent) where
  pub write_refused :
      (r ≡ 0 → ⊥) → {l : List ℕ} → l ≡ in_slot length_lent 0
      → WriteExport axes points kinds values modes knots samples edition bytes_lent length_lent r bytes_lent l
  write_refused some in_place = record {
    answer = own_answer _ _ e some;
    output = untouched _ _ _ e some;
    slot = in_place ∙ ap (in_slot length_lent) (no_count _ _ e some);
  }

  pub write_called :
      r ≡ 0 → (given all : List Axis) → given ≡ axes_given axes points kinds values → all ≡ axes_in_modes axes given modes
      → (a : WriteAnswer) {b l : List ℕ}
      → WritePromise edition (record { axes = axes; entries = all; flat_knots = knots }) samples bytes_lent a b
      → l ≡ in_slot length_lent a.length
      → WriteExport axes points kinds values modes knots samples edition bytes_lent length_lent a.refusal b l
  unfolding write_answer
  write_called none given all ends in_modes a p in_place =
      let q = rw (in_modes, ends) at p in
      record {
        answer = call_answer _ e none (ap (λ (w : WriteAnswer). w.refusal) q.answer);
        output = left _ _ e none q.output;
        slot = rw (sym e ∙ none) (in_place ∙ ap (λ (w : WriteAnswer). in_slot length_lent w.length) q.answer);
      }
