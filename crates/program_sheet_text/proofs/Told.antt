-- The text of a refusal's number: a tensor's text where it is 0, and else the line of the refusal, which is short.
use mathlib.Core.Path.{◌≡◌, refl}
use mathlib.Core.List.{List}
use Prim.Native.Nat.{ℕ, zero, suc, ◌<◌, ◌≤◌}
use native.Mathlib.Omega.{arith}
use lib.ListN.{length}
use lib.Ieee.{Float}
use Rattle.base_text.specs.Lines.{refused_line}
use Rattle.base_text.specs.PutBytes.{Put}
use Rattle.base_text.proofs.Decimals.{decimal_length, length_word_line}
use Rattle.program_tensor_text.specs.TensorText.{tensor_text}
use Rattle.program_sheet_text.specs.SheetText.{text_of}

pub tensor_told : (refusal : ℕ) (numbers : List Float) → refusal ≡ 0 → tensor_text numbers ≡ text_of refusal numbers
tensor_told refusal numbers e = rw e

pub refused_told : (refusal : ℕ) (numbers : List Float) → (refusal ≡ 0 → ⊥) → refused_line refusal ≡ text_of refusal numbers
refused_told zero numbers met = absurd (met refl)
refused_told (suc refusal) numbers met = refl

-- so no number shows in it
pub refusal_put :
    (refusal number : ℕ) (numbers others : List Float) {text later : List ℕ} {at end : ℕ} → number ≡ refusal → (refusal ≡ 0 → ⊥)
    → Put (text_of number others) text at later end → Put (text_of refusal numbers) text at later end
refusal_put refusal number numbers others e met put =
    rw (← refused_told refusal numbers met, refused_told refusal others met, ← e) put

-- the line of a refusal, whatever 64-bit number it is
pub length_refused_line : (refusal : ℕ) → refusal < 18446744073709551616 → length (refused_line refusal) ≤ 29
unfolding refused_line
length_refused_line refusal h =
    let digits = decimal_length 19 refusal (omega arith) (omega arith) in
    rw (length_word_line _ refusal) (omega arith)
