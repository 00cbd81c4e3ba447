-- The chapter Write of docs/RULES.md: the public call `write`, its refusal, its answer, and what stands afterwards in the buffer.
use Rattle.std.specs.Prelude.{◌≡◌, Bool, cond, ◌||◌, List, ℕ, ltb, get_or, Float, Result, Ok, Err}
use Rattle.std.proofs.Math.ListN.{length}
use Rattle.rules.specs.Numbers.{any}
use Rattle.rules.specs.Sizes.{unused_axis, Grid, knots_length, samples_length}
use Rattle.rules.specs.Refusals.{
  axes_refused,
  some_points_refused,
  tensor_refused,
  length_refused,
  some_number_refused,
  some_ends_refused,
  some_knots_refused,
  some_fewness_refused,
}
use Rattle.rules.specs.Answers.{number_of}
use Rattle.rules.specs.Calls.{or_else, stored, counted}
use Rattle.rules.specs.declared.Refusal.{Refusal}
use Rattle.grid_codes.specs.Editions.{unknown_edition, mode_refused}
use Rattle.sheet_read.specs.Read.{over}
use Rattle.sheet_write.specs.SheetOf.{sheet_of}

-- what is refused of the parts, the first of 1 2 3 4 7 8 9 that applies: the build's tests but for 5 and 10
unfoldable pub no_sheet_refusal : Grid → List Float → ℕ
no_sheet_refusal g samples =
    cond (axes_refused g) 1
    (cond (some_points_refused g) 2
    (cond (tensor_refused g) 3
    (cond (length_refused (length g.flat_knots) (knots_length g) || length_refused (length samples) (samples_length g)) 4
    (cond (some_number_refused g.flat_knots || some_ends_refused g || some_number_refused samples) 7
    (cond (some_knots_refused g) 8
    (cond (some_fewness_refused g) 9 0))))))

-- 23 of a grid: so for an axis in use
abbrev pub some_mode_refused : ℕ → Grid → Bool
some_mode_refused edition g = any (λ i. mode_refused edition (get_or g.entries i unused_axis).mode) g.axes

-- what is refused of the edition: 12 for one that there is not, then 23
unfoldable pub edition_refusal : ℕ → Grid → ℕ
unfolding unknown_edition mode_refused
edition_refusal edition g = cond (unknown_edition edition) 12 (cond (some_mode_refused edition g) 23 0)

-- the answer in numbers: the refusal, and how many bytes the sheet has
pub record WriteAnswer : Type 0 where
  pub refusal : ℕ
  pub length : ℕ

-- the answer of what the call gives
abbrev pub write_told : Result ℕ Refusal → WriteAnswer
write_told (Ok length) = record { refusal = 0; length = length }
write_told (Err refusal) = record { refusal = number_of refusal; length = 0 }

module _ (edition : ℕ) (g : Grid) (samples : List Float) (buffer : List ℕ) where
  -- its refusal: that of the parts, that of the edition, and then 15 for a buffer that is shorter than the sheet
  unfoldable pub write_refusal : ℕ
  unfolding sheet_of
  write_refusal =
      or_else (no_sheet_refusal g samples)
      (or_else (edition_refusal edition g) (cond (ltb (length buffer) (length (sheet_of edition g samples))) 15 0))

  -- its answer: the refusal, and how many bytes the sheet has
  unfoldable pub write_answer : WriteAnswer
  unfolding write_refusal
  write_answer = record { refusal = write_refusal; length = counted write_refusal (length (sheet_of edition g samples)) }

  -- what it promises: the answer, and the buffer, which a refusal leaves as it was
  pub record WritePromise (given : WriteAnswer) (buffer_later : List ℕ) : Type 0 where
    pub answer : given ≡ write_answer
    pub output : buffer_later ≡ stored write_refusal buffer (over (sheet_of edition g samples) buffer)
