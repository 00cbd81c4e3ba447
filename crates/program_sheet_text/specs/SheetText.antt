-- The chapter SheetText of docs/RULES.md: all that the sheet program prints of a sheet, and the public call `sheet_text`, which writes it
-- to a text that it is lent.
use Rattle.std.specs.Prelude.{◌≡◌, Bool, cond, ◌||◌, List, ℕ, zero, suc, ◌+◌, ◌*◌, ltb, length, Float, Result, Ok, Err}
use Rattle.rules.specs.Sizes.{most_in_a_tensor, scratch_of_rows}
use Rattle.rules.specs.Refusals.{length_refused, scratch_refused}
use Rattle.rules.specs.Tensor.{tensor}
use Rattle.rules.specs.Calls.{or_else, stored, counted, scratch_after}
use Rattle.sheet_read.specs.Fields.{sheet_grid, sheet_samples}
use Rattle.sheet_read.specs.Faults.{sheet_refusal}
use Rattle.sheet_read.specs.Read.{buffer_length, over}
use Rattle.sheet_build.specs.SheetTensor.{own_refusal}
use Rattle.base_text.specs.Lines.{refused_line, written}
use Rattle.program_tensor_text.specs.TensorText.{tensor_text}
use Rattle.rules.specs.Answers.{number_of}
use Rattle.rules.specs.declared.Refusal.{Refusal}

-- ---- the text

-- the text of a refusal, or where it is 0 of the tensor
abbrev pub text_of : ℕ → List Float → List ℕ
text_of zero numbers = tensor_text numbers
text_of (suc refusal) numbers = refused_line (suc refusal)

-- all that is printed of a sheet
unfoldable pub sheet_text : List ℕ → List ℕ
sheet_text bytes = text_of (own_refusal bytes) (tensor (sheet_grid bytes) (sheet_samples bytes))

-- ---- the call

-- how long a text must be at least: "tensor 4096" and LF, and a line of 17 bytes for each number of the longest tensor
abbrev pub text_length : ℕ
text_length = 12 + 17 * most_in_a_tensor

-- 15: the text is shorter than that
abbrev pub text_refused : ℕ → Bool
text_refused given = ltb given text_length

-- its refusal, by the lengths of all that it is lent: 4 for knots, samples or tensor, then 5 for the scratch, then 15 for the text
abbrev pub lent_refusal : ℕ → ℕ → ℕ → ℕ → ℕ → ℕ
lent_refusal knots samples tensor scratch text =
    cond (length_refused knots buffer_length || length_refused samples buffer_length || length_refused tensor most_in_a_tensor) 4
    (cond (scratch_refused scratch (most_in_a_tensor + scratch_of_rows)) 5 (cond (text_refused text) 15 0))

-- the answer in numbers: the refusal, and how many bytes of the text are the sheet's
pub record TextAnswer : Type 0 where
  pub refusal : ℕ
  pub length : ℕ

-- the answer of what the call gives
abbrev pub text_told : Result ℕ Refusal → TextAnswer
text_told (Ok length) = record { refusal = 0; length = length }
text_told (Err refusal) = record { refusal = number_of refusal; length = 0 }

module _ (bytes : List ℕ) (knots_lent samples_lent tensor_lent scratch_lent : List Float) (text_lent : List ℕ) where
  -- the same, of the slices
  abbrev pub text_refusal : ℕ
  text_refusal = lent_refusal (length knots_lent) (length samples_lent) (length tensor_lent) (length scratch_lent) (length text_lent)

  -- its answer: the refusal, and how long the sheet's text is
  unfoldable pub text_answer : TextAnswer
  text_answer = record { refusal = text_refusal; length = counted text_refusal (length (sheet_text bytes)) }

  -- what it promises: the answer, and the sheet's text at the front of the text that it is lent; the other four are left as by the sheet's
  -- read and build
  pub record TextPromise (given : TextAnswer) (knots_later samples_later tensor_later scratch_later : List Float)
      (text_later : List ℕ) : Type 0 where
    pub answer : given ≡ text_answer
    pub knots : knots_later
        ≡ stored (or_else text_refusal (sheet_refusal bytes)) knots_lent (over (sheet_grid bytes).flat_knots knots_lent)
    pub samples : samples_later ≡ stored (or_else text_refusal (sheet_refusal bytes)) samples_lent (over (sheet_samples bytes) samples_lent)
    pub output :
        tensor_later
        ≡ stored (or_else text_refusal (own_refusal bytes)) tensor_lent (over (tensor (sheet_grid bytes) (sheet_samples bytes)) tensor_lent)
    pub scratch : scratch_later ≡ stored text_refusal scratch_lent (scratch_after (own_refusal bytes) scratch_lent)
    pub text : text_later ≡ stored text_refusal text_lent (written (sheet_text bytes) text_lent)
