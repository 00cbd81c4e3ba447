-- The chapter SheetTensor of docs/RULES.md: the public call `tensor_of_sheet`, its refusal, its answer, and what stands afterwards in all
-- that it was lent.
use Rattle.std.specs.Prelude.{◌≡◌, Bool, true, false, cond, List, ℕ, zero, suc, ◌≤◌, length, take, Float, Result, Ok, Err}
use Rattle.rules.specs.Numbers.{zeros, table}
use Rattle.rules.specs.Sizes.{most_axes, most_in_a_tensor, unused_axis, Grid, knots_length, samples_length, tensor_length, scratch_length}
use Rattle.rules.specs.Refusals.{length_refused}
use Rattle.rules.specs.Tensor.{tensor}
use Rattle.rules.specs.Calls.{or_else, stored, counted, scratch_after, build_refusal}
use Rattle.rules.specs.Answers.{number_of}
use Rattle.rules.specs.declared.Axis.{Axis}
use Rattle.grid.specs.GridOfCall.{grid, sizes_of, points_of, InRange}
use Rattle.grid_codes.specs.Classes.{class}
use Rattle.grid_codes.specs.declared.classes.Class.TheVariants.{Reading, Building}
use Rattle.sheet_read.specs.Fields.{edition, sheet_grid, sheet_samples}
use Rattle.sheet_read.specs.Faults.{sheet_refusal}
use Rattle.sheet_read.specs.Read.{over, read_refusal}
use Rattle.sheet_build.specs.declared.BuiltSheet.{BuiltSheet}
use Rattle.sheet_build.specs.declared.SheetRefusal.{SheetRefusal}
use Rattle.sheet_build.specs.declared.SheetRefusal.TheVariants.{Unread, Unbuilt}

-- the answer in numbers: the refusal, the edition, how many axes there are, the four axes, and how many numbers the tensor has
pub record SheetAnswer : Type 0 where
  pub refusal : ℕ
  pub edition : ℕ
  pub axes : ℕ
  pub all : List Axis
  pub length : ℕ

-- the answer of a sheet that is not read: no edition, no axes, all four as not in use, and no numbers
abbrev pub unread_answer : ℕ → SheetAnswer
unread_answer refusal = record { refusal = refusal; edition = 0; axes = 0; all = table most_axes (λ i. unused_axis); length = 0 }

-- the answer of a sheet that was read: its edition, its axes, and the length of a tensor that is built, 0 where the build refuses
abbrev pub read_answer : ℕ → ℕ → Grid → SheetAnswer
read_answer refusal edition g = record {
  refusal = refusal;
  edition = edition;
  axes = g.axes;
  all = g.entries;
  length = counted refusal (tensor_length g);
}

-- the answer of what is met before the build, 0 for nothing, of the whole call's refusal, and of what was found
abbrev pub answer_of : ℕ → ℕ → ℕ → Grid → SheetAnswer
answer_of zero refusal edition g = read_answer refusal edition g
answer_of (suc reading) refusal edition g = unread_answer refusal

-- the answer of what the call gives
abbrev pub sheet_told : Result BuiltSheet SheetRefusal → SheetAnswer
sheet_told (Ok built) = record {
  refusal = 0;
  edition = built.sheet.edition;
  axes = built.sheet.axes;
  all = built.sheet.all;
  length = built.length;
}
sheet_told (Err (Unread refusal)) = unread_answer (number_of refusal)
sheet_told (Err (Unbuilt refusal sheet)) = record {
  refusal = number_of refusal;
  edition = sheet.edition;
  axes = sheet.axes;
  all = sheet.all;
  length = 0;
}

-- the class of the number tells which of the two refusals it is: Reading of a sheet that is not read, Building of one that is not built
abbrev pub SheetGiven : Result BuiltSheet SheetRefusal → Type 0
SheetGiven (Ok built) = Unit {0}
SheetGiven (Err (Unread refusal)) = class (number_of refusal) ≡ Reading
SheetGiven (Err (Unbuilt refusal sheet)) = class (number_of refusal) ≡ Building

-- whether what is given is of a sheet that was read
abbrev pub of_read : Result BuiltSheet SheetRefusal → Bool
of_read (Ok built) = true
of_read (Err (Unread refusal)) = false
of_read (Err (Unbuilt refusal sheet)) = true

-- ---- a build whose numbers stand in the first places of buffers

-- axes that are not refused, and buffers with room for their numbers
pub record PartsGiven (axes : ℕ) (all : List Axis) (knots samples tensor_lent : List Float) : Type 0 where
  pub in_range : InRange axes (points_of all)
  pub knots_room : knots_length (sizes_of axes all) ≤ length knots
  pub samples_room : samples_length (sizes_of axes all) ≤ length samples
  pub tensor_room : tensor_length (sizes_of axes all) ≤ length tensor_lent

-- the grid that such buffers hold
abbrev pub grid_in : ℕ → List Axis → List Float → Grid
grid_in axes all knots = grid axes all (take (knots_length (sizes_of axes all)) knots)

-- the samples that such buffers hold
abbrev pub samples_in : ℕ → List Axis → List Float → List Float
samples_in axes all samples = take (samples_length (sizes_of axes all)) samples

module _ (g : Grid) (samples tensor_lent scratch_lent : List Float) where
  -- the build is lent the places that the tensor needs
  abbrev pub parts_refusal : ℕ
  parts_refusal = build_refusal g samples (take (tensor_length g) tensor_lent) scratch_lent

  -- what that build promises of a sheet that says its edition: the answer, the tensor in the first places, the scratch
  pub record PartsPromise (said : ℕ) (given : SheetAnswer) (tensor_later scratch_later : List Float) : Type 0 where
    pub answer : given ≡ read_answer parts_refusal said g
    pub output : tensor_later ≡ stored parts_refusal tensor_lent (over (tensor g samples) tensor_lent)
    pub scratch : scratch_later ≡ scratch_after parts_refusal scratch_lent

-- ---- the sheet

-- what its build refuses that has a tensor and a scratch of the lengths that it asks for
unfoldable pub building_refusal : List ℕ → ℕ
building_refusal bytes =
    build_refusal (sheet_grid bytes) (sheet_samples bytes) (zeros (tensor_length (sheet_grid bytes)))
    (zeros (scratch_length (sheet_grid bytes)))

-- the refusal that its bytes alone decide: its fault, and then what its build refuses
unfoldable pub own_refusal : List ℕ → ℕ
own_refusal bytes = or_else (sheet_refusal bytes) (building_refusal bytes)

module _ (bytes : List ℕ) (knots_lent samples_lent tensor_lent scratch_lent : List Float) where
  -- what is met before the build: 4 for the tensor's buffer, before all else, then what the reader meets
  unfoldable pub reading_refusal : ℕ
  reading_refusal = cond (length_refused (length tensor_lent) most_in_a_tensor) 4 (read_refusal bytes knots_lent samples_lent)

  -- its refusal: what is met before the build, and then the build's
  unfoldable pub sheet_tensor_refusal : ℕ
  sheet_tensor_refusal = or_else reading_refusal (parts_refusal (sheet_grid bytes) (sheet_samples bytes) tensor_lent scratch_lent)

  -- the answer has the axes, and the buffers of knots and samples change, where the reader refuses nothing; those of the tensor where the
  -- build does not either
  pub record SheetPromise (given : SheetAnswer) (knots_later samples_later tensor_later scratch_later : List Float) : Type 0 where
    pub answer : given ≡ answer_of reading_refusal sheet_tensor_refusal (edition bytes) (sheet_grid bytes)
    pub knots : knots_later ≡ stored reading_refusal knots_lent (over (sheet_grid bytes).flat_knots knots_lent)
    pub samples : samples_later ≡ stored reading_refusal samples_lent (over (sheet_samples bytes) samples_lent)
    pub output : tensor_later ≡ stored sheet_tensor_refusal tensor_lent (over (tensor (sheet_grid bytes) (sheet_samples bytes)) tensor_lent)
    pub scratch : scratch_later ≡ scratch_after sheet_tensor_refusal scratch_lent
