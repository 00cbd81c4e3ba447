-- The promise of the call, for each way that it ends: what it is lent is refused, or the sheet's text is written. No text is longer than
-- the length that is asked for.
use mathlib.Core.Path.{◌≡◌, refl, ◌∙◌}
use mathlib.Core.List.{List}
use Prim.Native.Nat.{ℕ, zero, suc, ◌-◌, ◌≤◌}
use native.Mathlib.Nat.{sub-zero}
use native.Mathlib.Omega.{arith}
use borrow.Author.Tests.{ltb-false}
use lib.ListN.{length, take}
use lib.Ieee.{Float}
use Rattle.rules.specs.Sizes.{Grid}
use Rattle.rules.specs.Tensor.{tensor}
use Rattle.rules.specs.Calls.{or_else, counted}
use Rattle.rules.proofs.Refused.{or_else_passed, unchanged, counted_most}
use Rattle.grid_checks.proofs.Rows.{exact_3}
use Rattle.sheet_read.specs.Fields.{sheet_grid, sheet_samples}
use Rattle.sheet_read.specs.Faults.{sheet_refusal}
use Rattle.sheet_build.specs.SheetTensor.{own_refusal, SheetPromise, SheetAnswer}
use Rattle.sheet_build.specs.LentEnough.{Enough}
use Rattle.sheet_build.proofs.Builds.{length_tensor}
use Rattle.sheet_build.proofs.Few.{own_few}
use Rattle.sheet_build.proofs.Enough.{reading_is, refusal_is}
use Rattle.sheet_build.proofs.Alone.{read_alone, few_numbers, answered_alone, tensor_alone}
use Rattle.base_text.specs.PutBytes.{Put}
use Rattle.base_text.proofs.Puts.{put_written}
use Rattle.rules.proofs.Cases.{passed as no_test}
use Rattle.program_sheet_text.specs.SheetText.{text_of, sheet_text, text_length, lent_refusal, text_refusal, text_answer, TextPromise, TextAnswer}
use Rattle.program_tensor_text.proofs.Texts.{length_most as tensor_text_most}
use Rattle.program_sheet_text.proofs.Told.{length_refused_line}

-- what no refusal says of the lengths
pub record Lent (k s t w x : ℕ) : Type 0 where
  pub knots : k ≡ 1024
  pub samples : s ≡ 1024
  pub tensor : t ≡ 4096
  pub scratch : 6144 ≤ w
  pub text : 69644 ≤ x

pub lent : (k s t w x : ℕ) → lent_refusal k s t w x ≡ 0 → Lent k s t w x
lent k s t w x none =
    let lengths = no_test _ 3 _ none in
    let rest = no_test _ 4 _ lengths.1 in
    let last = no_test _ 14 0 rest.1 in
    let exact = exact_3 k 1024 s 1024 t 4096 lengths.0 in
    record {
      knots = exact.0;
      samples = exact.1;
      tensor = exact.2;
      scratch = ltb-false w 6144 rest.0;
      text = ltb-false x 69644 last.0;
    }

refused_answer : (r refusal count : ℕ) → r ≡ refusal → (r ≡ 0 → ⊥)
    → ◌≡◌ {A = TextAnswer} (record { refusal = r; length = 0 }) (record { refusal = refusal; length = counted refusal count })
refused_answer r zero count e met = absurd (met e)
refused_answer r (suc refusal) count e met = rw e

-- so the sheet's call is lent enough
enough : {k s t w x : ℕ} → Lent k s t w x → Enough k s t w
enough long = record { knots = long.knots; samples = long.samples; tensor = long.tensor; scratch = long.scratch }

module _ (bytes : List ℕ) where
  abbrev g : Grid
  g = sheet_grid bytes

  abbrev y : List Float
  y = sheet_samples bytes

  -- no text is longer than the length that is asked for
  pub text_fits : length (sheet_text bytes) ≤ text_length
  unfolding sheet_text
  text_fits = go (own_refusal bytes) refl
    where
      go : (number : ℕ) → own_refusal bytes ≡ number → length (text_of (own_refusal bytes) (tensor g y)) ≤ text_length
      go zero e = rw e (tensor_text_most (tensor g y) (omega (arith, length_tensor g y, few_numbers bytes (read_alone bytes e))))
      go (suc number) e = rw e (let most = length_refused_line (suc number) (omega (arith, own_few bytes, e)) in omega arith)

  -- ---- the two ways to end

  -- the text of what the sheet's call has answered and left
  text_is : (refusal n : ℕ) (t : List Float) → refusal ≡ own_refusal bytes → (own_refusal bytes ≡ 0 → take n t ≡ tensor g y)
      → text_of refusal (take (n - 0) t) ≡ sheet_text bytes
  unfolding sheet_text
  text_is refusal n t answered front = rw (answered, sub-zero n) (go (own_refusal bytes) refl)
    where
      go : (number : ℕ) → own_refusal bytes ≡ number → text_of (own_refusal bytes) (take n t) ≡ text_of (own_refusal bytes) (tensor g y)
      go zero e = rw (front e)
      go (suc number) e = rw e

  module _ (knots samples lent_tensor scratch : List Float) (text : List ℕ) where
    abbrev refusal : ℕ
    refusal = text_refusal bytes knots samples lent_tensor scratch text

    -- what is lent is refused
    pub lent_refused : (r : ℕ) → r ≡ refusal → (r ≡ 0 → ⊥)
        → TextPromise bytes knots samples lent_tensor scratch text (record { refusal = r; length = 0 }) knots samples lent_tensor scratch
        text
    unfolding text_answer
    lent_refused r e met =
        let first : (later : ℕ) → or_else refusal later ≡ 0 → ⊥ = λ later z. met (e ∙ (or_else_passed refusal later z).0) in
        record {
          answer = refused_answer r refusal _ e met;
          knots = unchanged _ knots _ (first (sheet_refusal bytes));
          samples = unchanged _ samples _ (first (sheet_refusal bytes));
          output = unchanged _ lent_tensor _ (first (own_refusal bytes));
          scratch = unchanged _ scratch _ (λ z. met (e ∙ z));
          text = unchanged _ text _ (λ z. met (e ∙ z));
        }

    module _ (none : refusal ≡ 0) where
      pub long : Lent (length knots) (length samples) (length lent_tensor) (length scratch) (length text)
      long = lent _ _ _ _ _ none

      -- the sheet was read and built, or not, and its text is put
      pub text_written : (a : SheetAnswer) (k s t w : List Float) (later : List ℕ) (end : ℕ)
          → SheetPromise bytes knots samples lent_tensor scratch a k s t w
          → Put (text_of a.refusal (take (a.length - 0) t)) text 0 later end
          → TextPromise bytes knots samples lent_tensor scratch text (record { refusal = 0; length = end }) k s t w later
      unfolding text_answer
      text_written a k s t w later end p put =
          let reading = reading_is bytes knots samples lent_tensor scratch (enough long) in
          let whole = refusal_is bytes knots samples lent_tensor scratch (enough long) in
          let answered = answered_alone bytes knots samples lent_tensor scratch (enough long) a k s t w p in
          let front = tensor_alone bytes knots samples lent_tensor scratch (enough long) a k s t w p in
          let is = text_is a.refusal a.length t answered front in
          let done = put_written (rw is at put) (omega (arith, text_fits, long.text)) in
          record {
            answer = rw (none, done.1);
            knots = rw none (rw reading at p.knots);
            samples = rw none (rw reading at p.samples);
            output = rw none (rw whole at p.output);
            scratch = rw none (rw whole at p.scratch);
            text = rw none done.0;
          }

-- ---- what a caller knows of the answer

-- the text has no more bytes than the length that is asked for
pub length_most :
    (bytes : List ℕ) (knots samples lent_tensor scratch : List Float) (text : List ℕ) (given : TextAnswer) (k s t w : List Float)
    (later : List ℕ)
    → TextPromise bytes knots samples lent_tensor scratch text given k s t w later → given.length ≤ text_length
unfolding text_answer
length_most bytes knots samples lent_tensor scratch text given k s t w later p =
    rw p.answer (counted_most (text_refusal bytes knots samples lent_tensor scratch text) (text_fits bytes))
