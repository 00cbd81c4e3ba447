-- The promise of the call, for each way that it ends. No text of a curve is longer than the length that is asked for.
use mathlib.Core.Path.{◌≡◌, refl, ap, ◌∙◌}
use mathlib.Core.Bool.{Bool, true, false, cond}
use mathlib.Core.List.{List}
use Prim.Native.Nat.{ℕ, zero, suc, ◌+◌, ◌<◌, ◌≤◌}
use native.Mathlib.Omega.{arith}
use lib.ListN.{length}
use borrow.Author.Tests.{lt-ltb, le-ltb}
use Rattle.std.specs.Prelude.{Result, Ok, Err}
use Rattle.std.specs.Result.{IsOk}
use Rattle.base_text.specs.Lines.{refused_line}
use Rattle.base_text.specs.PutBytes.{Put}
use Rattle.base_text.proofs.Puts.{put_written}
use Rattle.base_text.proofs.Decimals.{decimal_length, length_word_line}
use Rattle.device_cursor.specs.DeviceCurve.{whole_cells, all_in_range, cells, curve_refusal, curve_numbers}
use Rattle.device_cursor.proofs.Judged.{Whole, length_known}
use Rattle.rules.specs.declared.Refusal.{Refusal}
use Rattle.rules.proofs.Given.{number_some}
use Rattle.rules.proofs.Refused.{counted_most}
use Rattle.program_device_text.specs.DeviceText.{
  signed_lines,
  curve_text_of,
  device_text,
  device_text_length,
  device_text_refusal,
  CurveTextAnswer,
  curve_text_told,
  device_text_answer,
  DeviceTextPromise,
}
use Rattle.program_device_text.proofs.Lines.{lines_length}

-- ---- how long the text is

few : (a b : Bool) → cond a (cond b 0 19) 20 ≤ 20
few true true = omega arith
few true false = omega arith
few false b = omega arith

few_refusals : (curve : List ℕ) → curve_refusal curve ≤ 20
unfolding curve_refusal
few_refusals curve = few (whole_cells (length curve)) (all_in_range curve (cells curve))

refused_line_length : (r : ℕ) → r ≤ 20 → length (refused_line r) ≤ 11
unfolding refused_line
refused_line_length r h =
    let digits = decimal_length 1 r (omega arith) (omega arith) in rw (length_word_line _ r) (omega arith)

-- the line of the curve's refusal has room
pub refused_line_fits : (curve text : List ℕ) → device_text_length ≤ length text
    → 0 + length (refused_line (curve_refusal curve)) ≤ length text
refused_line_fits curve text h = let l = refused_line_length (curve_refusal curve) (few_refusals curve) in omega arith

pub text_fits : (curve : List ℕ) → length (device_text curve) ≤ device_text_length
unfolding device_text
text_fits curve = go (curve_refusal curve) refl
  where
    go : (r : ℕ) → curve_refusal curve ≡ r → length (curve_text_of (curve_refusal curve) (curve_numbers curve)) ≤ device_text_length
    go zero e =
        let w : Whole (length curve) = length_known curve e in
        rw e (omega (arith, lines_length curve e))
    go (suc r) e =
        rw e (let l = refused_line_length (suc r) (omega (arith, e, few_refusals curve)) in omega arith)

-- ---- what is put is the curve's text

pub numbers_told : (curve : List ℕ) → curve_refusal curve ≡ 0 → signed_lines (curve_numbers curve) ≡ device_text curve
unfolding device_text
numbers_told curve e = rw e

pub refused_told : (curve : List ℕ) (r : ℕ) → r ≡ curve_refusal curve → (r ≡ 0 → ⊥) → refused_line r ≡ device_text curve
unfolding device_text
refused_told curve r e some = rw (← e) (told r some)
  where
    told : (r : ℕ) → (r ≡ 0 → ⊥) → refused_line r ≡ curve_text_of r (curve_numbers curve)
    told zero some = absurd (some refl)
    told (suc r) some = refl

-- ---- the two ways to end

module _ (curve text : List ℕ) where
  pub text_refused : length text < device_text_length → DeviceTextPromise curve text (record { refusal = 15; length = 0 }) text
  unfolding device_text_answer
  text_refused h =
      let e = lt-ltb (length text) device_text_length h in
      record { answer = rw e; text = rw e }

  pub text_written : {later : List ℕ} {end : ℕ} → device_text_length ≤ length text → Put (device_text curve) text 0 later end
      → DeviceTextPromise curve text (record { refusal = 0; length = end }) later
  unfolding device_text_answer
  text_written h put =
      let e = le-ltb (length text) device_text_length h in
      let done = put_written put (omega (arith, text_fits curve)) in
      record { answer = rw (e, done.1); text = rw e done.0 }

-- ---- what a caller knows of the answer

-- a text that has room for the longest is not refused
pub given_for_room : (curve text : List ℕ) (given : Result ℕ Refusal) (later : List ℕ)
    → DeviceTextPromise curve text (curve_text_told given) later → device_text_length ≤ length text → IsOk given
unfolding device_text_answer
given_for_room curve text (Ok end) later p room = refl
given_for_room curve text (Err refusal) later p room =
    absurd (number_some refusal (ap (λ (a : CurveTextAnswer). a.refusal) p.answer ∙ rw (le-ltb (length text) device_text_length room)))

-- the text has no more bytes than the length that is asked for
pub length_most : (curve text : List ℕ) (given : CurveTextAnswer) (later : List ℕ) → DeviceTextPromise curve text given later
    → given.length ≤ device_text_length
unfolding device_text_answer
length_most curve text given later p =
    rw p.answer (counted_most (device_text_refusal (length text)) (text_fits curve))
