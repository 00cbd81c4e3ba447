-- The chapter Read of docs/RULES.md: the public calls `read` and `read_edition_1`, their refusals, their answers, and what stands
-- afterwards in both buffers.
use Rattle.std.specs.Prelude.{◌≡◌, Bool, cond, ◌||◌, List, ◌++◌, ℕ, zero, suc, length, drop, Float, Result, Ok, Err}
use Rattle.rules.specs.Numbers.{table}
use Rattle.rules.specs.Sizes.{most_axes, unused_axis}
use Rattle.rules.specs.Refusals.{length_refused}
use Rattle.rules.specs.Calls.{stored}
use Rattle.rules.specs.Answers.{number_of}
use Rattle.rules.specs.declared.Axis.{Axis}
use Rattle.rules.specs.declared.Refusal.{Refusal}
use Rattle.sheet_read.specs.Fields.{edition, axes, entries, knots_below, sheet_samples}
use Rattle.sheet_read.specs.Faults.{sheet_refusal, edition_1_refusal}
use Rattle.sheet_read.specs.declared.Sheet.{Sheet}
use Rattle.sheet_read.specs.declared.Edition1Sheet.{Edition1Sheet}

-- how long each of the two buffers is
abbrev pub buffer_length : ℕ
buffer_length = 1024

-- the answer in numbers: the refusal, the edition, how many axes there are, and the four axes
pub record ReadAnswer : Type 0 where
  pub refusal : ℕ
  pub edition : ℕ
  pub axes : ℕ
  pub all : List Axis

-- that of the reader of edition 1: the same without the edition
pub record Edition1Answer : Type 0 where
  pub refusal : ℕ
  pub axes : ℕ
  pub all : List Axis

-- the answer of a refusal: no edition, no axes, and all four as not in use
abbrev pub refused_answer : ℕ → ReadAnswer
refused_answer refusal = record { refusal = refusal; edition = 0; axes = 0; all = table most_axes (λ i. unused_axis) }

-- the answer of a refusal, 0 for none, and what was found
abbrev pub answer_of : ℕ → ℕ → ℕ → List Axis → ReadAnswer
answer_of zero edition axes all = record { refusal = 0; edition = edition; axes = axes; all = all }
answer_of (suc refusal) edition axes all = refused_answer (suc refusal)

-- the answer of the reader of edition 1: the same, and it says no edition
abbrev pub edition_1_answer : ReadAnswer → Edition1Answer
edition_1_answer given = record { refusal = given.refusal; axes = given.axes; all = given.all }

-- the answers of what the two readers give
abbrev pub read_told : Result Sheet Refusal → ReadAnswer
read_told (Ok sheet) = record { refusal = 0; edition = sheet.edition; axes = sheet.axes; all = sheet.all }
read_told (Err refusal) = refused_answer (number_of refusal)

abbrev pub edition_1_told : Result Edition1Sheet Refusal → Edition1Answer
edition_1_told (Ok sheet) = record { refusal = 0; axes = sheet.axes; all = sheet.all }
edition_1_told (Err refusal) = edition_1_answer (refused_answer (number_of refusal))

-- a buffer with new elements in its first places; behind them it is as it was
abbrev pub over : {A : Type 0} → List A → List A → List A
over new old = new ++ drop (length new) old

-- 4: a buffer of another length
abbrev pub buffers_refused : List Float → List Float → Bool
buffers_refused knots_lent samples_lent =
    length_refused (length knots_lent) buffer_length || length_refused (length samples_lent) buffer_length

module _ (bytes : List ℕ) (knots_lent samples_lent : List Float) where
  -- the refusal of `read`: 4 before a bit is looked at, and then the sheet's fault
  unfoldable pub read_refusal : ℕ
  read_refusal = cond (buffers_refused knots_lent samples_lent) 4 (sheet_refusal bytes)

  -- what it promises: the answer, and both buffers, which a refusal leaves as they were
  pub record ReadPromise (given : ReadAnswer) (knots_later samples_later : List Float) : Type 0 where
    pub answer : given ≡ answer_of read_refusal (edition bytes) (axes bytes) (entries bytes (axes bytes))
    pub knots : knots_later ≡ stored read_refusal knots_lent (over (knots_below bytes (axes bytes)) knots_lent)
    pub samples : samples_later ≡ stored read_refusal samples_lent (over (sheet_samples bytes) samples_lent)

  -- the refusal of `read_edition_1`: the same with the fault of a sheet that must be of edition 1
  unfoldable pub read_edition_1_refusal : ℕ
  read_edition_1_refusal = cond (buffers_refused knots_lent samples_lent) 4 (edition_1_refusal bytes)

  -- and what it promises
  pub record Edition1Promise (given : Edition1Answer) (knots_later samples_later : List Float) : Type 0 where
    pub answer : given ≡ edition_1_answer (answer_of read_edition_1_refusal (edition bytes) (axes bytes) (entries bytes (axes bytes)))
    pub knots : knots_later ≡ stored read_edition_1_refusal knots_lent (over (knots_below bytes (axes bytes)) knots_lent)
    pub samples : samples_later ≡ stored read_edition_1_refusal samples_lent (over (sheet_samples bytes) samples_lent)
