-- The chapter SheetExports of docs/RULES.md: the exported calls of sheets, in the manner of CurveExports.
use Rattle.std.specs.Prelude.{◌≡◌, List, [], ◌∷◌, ℕ, Float}
use Rattle.rules.specs.Tensor.{tensor}
use Rattle.rules.specs.Calls.{or_else, stored, scratch_after, counted}
use Rattle.rules.specs.declared.Axis.{Axis}
use Rattle.sheet_read.specs.Fields.{edition as edition_said, axes as axes_said, entries, knots_below, sheet_grid, sheet_samples}
use Rattle.sheet_read.specs.Read.{over, read_refusal, read_edition_1_refusal, answer_of as read_answer_of, edition_1_answer}
use Rattle.sheet_read.specs.Read.{ReadAnswer}
use Rattle.sheet_read.specs.Read.{Edition1Answer}
use Rattle.sheet_build.specs.SheetTensor.{answer_of, reading_refusal, sheet_tensor_refusal}
use Rattle.sheet_build.specs.SheetTensor.{SheetAnswer}
use Rattle.sheet_write.specs.SheetOf.{sheet_of}
use Rattle.sheet_write.specs.Write.{write_refusal, write_answer}
use Rattle.rules.specs.Sizes.{Grid}
use Rattle.c_axes.specs.Axes.{axes_given, axes_in_modes, points_found, kinds_found, values_found, modes_found}
use Rattle.c_refusals.specs.OwnRefusals.{write_own_refusal, read_own_refusal, read_edition_1_own_refusal, sheet_tensor_own_refusal}
use Rattle.c_refusals.specs.Slots.{in_slot}

-- ---- the sheet

-- what stands in these after axes were found, where the host refuses nothing
pub record FoundStored (own axes : ℕ) (all : List Axis) (axes_lent points_lent kinds_lent : List ℕ) (values_lent : List Float)
    (axes_later points_later kinds_later : List ℕ) (values_later : List Float) : Type 0 where
  pub slot : axes_later ≡ stored own axes_lent (axes ∷ [])
  pub points : points_later ≡ stored own points_lent (points_found all)
  pub kinds : kinds_later ≡ stored own kinds_lent (kinds_found all)
  pub values : values_later ≡ stored own values_lent (values_found all)

-- what stands in the modes and in the slot of the edition, likewise
pub record EditionStored (own edition : ℕ) (all : List Axis) (modes_lent edition_lent modes_later edition_later : List ℕ) : Type 0 where
  pub modes : modes_later ≡ stored own modes_lent (modes_found all)
  pub slot : edition_later ≡ stored own edition_lent (edition ∷ [])

module _ (bytes : List ℕ) (knots_lent samples_lent : List Float) (axes_lent points_lent kinds_lent : List ℕ) (values_lent : List Float)
    (modes_lent edition_lent : List ℕ) where
  -- what the call refuses of what was given
  abbrev given_read_refusal : ℕ
  given_read_refusal = read_refusal bytes knots_lent samples_lent

  -- what the call answers
  abbrev given_read_answer : ReadAnswer
  given_read_answer = read_answer_of given_read_refusal (edition_said bytes) (axes_said bytes) (entries bytes (axes_said bytes))

  -- the host's own refusal of what was given
  abbrev read_own : ℕ
  read_own = read_own_refusal axes_lent points_lent kinds_lent values_lent modes_lent edition_lent

  -- what is promised: the refusal, both buffers, the axes in their slices, and the edition in its slot
  pub record ReadExport (refusal : ℕ) (knots_later samples_later : List Float) (axes_later points_later kinds_later : List ℕ)
      (values_later : List Float) (modes_later edition_later : List ℕ) : Type 0 where
    pub answer : refusal ≡ or_else read_own given_read_refusal
    pub knots :
        knots_later
        ≡ stored read_own knots_lent (stored given_read_refusal knots_lent (over (knots_below bytes (axes_said bytes)) knots_lent))
    pub samples :
        samples_later ≡ stored read_own samples_lent (stored given_read_refusal samples_lent (over (sheet_samples bytes) samples_lent))
    pub found :
        FoundStored read_own given_read_answer.axes given_read_answer.all
        axes_lent points_lent kinds_lent values_lent axes_later points_later kinds_later values_later
    pub told : EditionStored read_own given_read_answer.edition given_read_answer.all modes_lent edition_lent modes_later
        edition_later

-- ---- the sheet of edition 1

module _ (bytes : List ℕ) (knots_lent samples_lent : List Float) (axes_lent points_lent kinds_lent : List ℕ)
    (values_lent : List Float) where
  -- what the call refuses of what was given
  abbrev given_edition_1_refusal : ℕ
  given_edition_1_refusal = read_edition_1_refusal bytes knots_lent samples_lent

  -- what the call answers
  abbrev given_edition_1_answer : Edition1Answer
  given_edition_1_answer =
      edition_1_answer (read_answer_of given_edition_1_refusal (edition_said bytes) (axes_said bytes) (entries bytes (axes_said bytes)))

  -- the host's own refusal of what was given
  abbrev edition_1_own : ℕ
  edition_1_own = read_edition_1_own_refusal axes_lent points_lent kinds_lent values_lent

  -- what is promised: the refusal, both buffers, and the axes in their slices
  pub record ReadEdition1Export (refusal : ℕ) (knots_later samples_later : List Float) (axes_later points_later kinds_later : List ℕ)
      (values_later : List Float) : Type 0 where
    pub answer : refusal ≡ or_else edition_1_own given_edition_1_refusal
    pub knots :
        knots_later
        ≡ stored edition_1_own knots_lent
        (stored given_edition_1_refusal knots_lent (over (knots_below bytes (axes_said bytes)) knots_lent))
    pub samples :
        samples_later
        ≡ stored edition_1_own samples_lent (stored given_edition_1_refusal samples_lent (over (sheet_samples bytes) samples_lent))
    pub found :
        FoundStored edition_1_own given_edition_1_answer.axes given_edition_1_answer.all
        axes_lent points_lent kinds_lent values_lent axes_later points_later kinds_later values_later

-- ---- the sheet's tensor

module _ (bytes : List ℕ) (knots_lent samples_lent : List Float) (axes_lent points_lent kinds_lent : List ℕ) (values_lent : List Float)
    (modes_lent edition_lent : List ℕ) (tensor_lent scratch_lent : List Float) (length_lent : List ℕ) where
  -- what is met before the build
  abbrev given_reading_refusal : ℕ
  given_reading_refusal = reading_refusal bytes knots_lent samples_lent tensor_lent scratch_lent

  -- what the call refuses of what was given
  abbrev given_sheet_refusal : ℕ
  given_sheet_refusal = sheet_tensor_refusal bytes knots_lent samples_lent tensor_lent scratch_lent

  -- short names for what the record is said by
  abbrev given_sheet_answer : SheetAnswer
  given_sheet_answer = answer_of given_reading_refusal given_sheet_refusal (edition_said bytes) (sheet_grid bytes)

  abbrev sheet_own : ℕ
  sheet_own = sheet_tensor_own_refusal axes_lent points_lent kinds_lent values_lent modes_lent edition_lent length_lent

  -- what is promised: the refusal, the three buffers, the axes in their slices, the edition, the scratch, and the length in its slot
  pub record SheetTensorExport (refusal : ℕ) (knots_later samples_later : List Float) (axes_later points_later kinds_later : List ℕ)
      (values_later : List Float) (modes_later edition_later : List ℕ) (tensor_later scratch_later : List Float)
      (length_later : List ℕ) : Type 0 where
    pub answer : refusal ≡ or_else sheet_own given_sheet_refusal
    pub knots :
        knots_later
        ≡ stored sheet_own knots_lent (stored given_reading_refusal knots_lent (over (sheet_grid bytes).flat_knots knots_lent))
    pub samples :
        samples_later
        ≡ stored sheet_own samples_lent (stored given_reading_refusal samples_lent (over (sheet_samples bytes) samples_lent))
    pub found :
        FoundStored sheet_own given_sheet_answer.axes given_sheet_answer.all
        axes_lent points_lent kinds_lent values_lent axes_later points_later kinds_later values_later
    pub told : EditionStored sheet_own given_sheet_answer.edition given_sheet_answer.all modes_lent edition_lent modes_later
        edition_later
    pub output :
        tensor_later
        ≡ stored sheet_own tensor_lent
        (stored given_sheet_refusal tensor_lent (over (tensor (sheet_grid bytes) (sheet_samples bytes)) tensor_lent))
    pub scratch : scratch_later ≡ stored sheet_own scratch_lent (scratch_after given_sheet_refusal scratch_lent)
    pub slot : length_later ≡ stored sheet_own length_lent (given_sheet_answer.length ∷ [])

-- ---- the writer

-- the grid of axes that are given with their ends and modes
abbrev pub grid_with_modes : ℕ → List ℕ → List ℕ → List Float → List ℕ → List Float → Grid
grid_with_modes axes points kinds values modes knots =
    record { axes = axes; entries = axes_in_modes axes (axes_given axes points kinds values) modes; flat_knots = knots }

module _ (axes : ℕ) (points kinds : List ℕ) (values : List Float) (modes : List ℕ) (knots samples : List Float) (edition : ℕ)
    (bytes_lent length_lent : List ℕ) where
  -- what the call refuses of what was given
  abbrev given_write_refusal : ℕ
  given_write_refusal = write_refusal edition (grid_with_modes axes points kinds values modes knots) samples bytes_lent

  -- the host's own refusal of what was given
  abbrev write_own : ℕ
  write_own = write_own_refusal axes points kinds values modes knots samples length_lent

  -- what is promised: the refusal, the bytes, and the length in its slot
  pub record WriteExport (refusal : ℕ) (bytes_later length_later : List ℕ) : Type 0 where
    pub answer : refusal ≡ or_else write_own given_write_refusal
    pub output :
        bytes_later
        ≡ stored write_own bytes_lent
        (stored given_write_refusal bytes_lent
        (over (sheet_of edition (grid_with_modes axes points kinds values modes knots) samples) bytes_lent))
    pub slot :
        length_later
        ≡ in_slot length_lent
        (counted write_own (write_answer edition (grid_with_modes axes points kinds values modes knots) samples bytes_lent).length)
