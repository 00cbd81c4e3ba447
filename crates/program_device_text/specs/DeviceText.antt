-- The chapter DeviceText of docs/RULES.md: all that the device's program prints of a curve, and the public call `device_text`, which writes
-- it to a text that it is lent.
use Rattle.std.specs.Prelude.{◌≡◌, cond, Result, Ok, Err, List, [], ◌∷◌, ◌++◌, ℕ, zero, suc, ◌+◌, ◌*◌, ltb, ℤ, pos, negsuc, nat_abs, length}
use Rattle.rules.specs.Answers.{number_of}
use Rattle.rules.specs.Calls.{stored, counted}
use Rattle.rules.specs.declared.Refusal.{Refusal}
use Rattle.base_text.specs.Lines.{word_line, refused_line, written}
use Rattle.device_cursor.specs.DeviceCurve.{curve_refusal, curve_numbers}

-- ---- the text

-- "-" before a number below zero
abbrev pub sign : ℤ → List ℕ
sign (pos n) = []
sign (negsuc n) = 45 ∷ []

-- the line of a number: its sign and its decimal
unfoldable pub signed_line : ℤ → List ℕ
signed_line number = word_line (sign number) (nat_abs number)

-- a line for each number
unfoldable pub signed_lines : List ℤ → List ℕ
signed_lines [] = []
signed_lines (number ∷ more) = signed_line number ++ signed_lines more

-- the text of a refusal, or where it is 0 of the numbers
abbrev pub curve_text_of : ℕ → List ℤ → List ℕ
curve_text_of zero numbers = signed_lines numbers
curve_text_of (suc refusal) numbers = refused_line (suc refusal)

-- all that is printed of a curve
unfoldable pub device_text : List ℕ → List ℕ
device_text curve = curve_text_of (curve_refusal curve) (curve_numbers curve)

-- ---- the call

-- how long a text must be at least: a line of "-65536" and LF for each number of 255 cells
abbrev pub device_text_length : ℕ
device_text_length = 7 * (256 * 255 + 1)

-- 15: the text is shorter than that
abbrev pub device_text_refusal : ℕ → ℕ
device_text_refusal given = cond (ltb given device_text_length) 15 0

-- the call as C is told it: the number of the refusal, 0 for none, and how long the curve's text is, 0 after a refusal
pub record CurveTextAnswer : Type 0 where
  pub refusal : ℕ
  pub length : ℕ

abbrev pub curve_text_told : Result ℕ Refusal → CurveTextAnswer
curve_text_told (Ok length) = record { refusal = 0; length = length }
curve_text_told (Err refusal) = record { refusal = number_of refusal; length = 0 }

module _ (curve text_lent : List ℕ) where
  -- its answer: the refusal, and how long the curve's text is
  unfoldable pub device_text_answer : CurveTextAnswer
  device_text_answer = record {
    refusal = device_text_refusal (length text_lent);
    length = counted (device_text_refusal (length text_lent)) (length (device_text curve));
  }

  -- what it promises: the answer, and the curve's text at the front of the text that it is lent
  pub record DeviceTextPromise (given : CurveTextAnswer) (text_later : List ℕ) : Type 0 where
    pub answer : given ≡ device_text_answer
    pub text : text_later ≡ stored (device_text_refusal (length text_lent)) text_lent (written (device_text curve) text_lent)
