-- How long the text of a tensor is, and how the lines of its numbers are put one after the other.
use mathlib.Core.Path.{◌≡◌, refl, ◌∙◌}
use mathlib.Core.List.{List, [], ◌∷◌, ◌++◌, append-nil, append_assoc}
use Prim.Native.Nat.{ℕ, ◌+◌, ◌*◌, ◌<◌, ◌≤◌}
use native.Mathlib.Numerals.{add-one}
use native.Mathlib.Omega.{arith}
use lib.ListN.{length, get_or, take, length-append}
use lib.Seq.{length-take-le, take-suc}
use lib.Ieee.{Float, nan, binary64, to_bits}
use Rattle.base_text.specs.Lines.{decimal}
use Rattle.base_text.specs.PutBytes.{Put}
use Rattle.base_text.proofs.Puts.{put_more}
use Rattle.base_text.proofs.HexDigits.{length_hex_digits}
use Rattle.base_text.proofs.Decimals.{decimal_length, length_word_line}
use Rattle.program_tensor_text.specs.TensorText.{number_line, number_lines, tensor_line, tensor_text}

-- ---- lines of numbers

lines_more : (first more : List Float) → number_lines (first ++ more) ≡ number_lines first ++ number_lines more
unfolding number_lines
lines_more [] more = refl
lines_more (number ∷ first) more = rw (lines_more first more, append_assoc)

line_of_one : (number : Float) → number_lines (number ∷ []) ≡ number_line number
unfolding number_lines
line_of_one number = append-nil (number_line number)

length_line : (number : Float) → length (number_line number) ≡ 17
unfolding number_line
length_line number = rw (length-append, length_hex_digits 16 (to_bits binary64 number))

length_lines : (numbers : List Float) → length (number_lines numbers) ≡ 17 * length numbers
unfolding number_lines
length_lines [] = refl
length_lines (number ∷ more) =
    length-append (number_line number) (number_lines more) ∙ rw (length_line number, length_lines more) (omega arith)

-- the next line goes right behind those of the first i numbers
pub lines_place : (numbers : List Float) (i : ℕ) {before text : List ℕ} {at behind : ℕ} → Put (number_lines (take i numbers)) before at text behind
    → i ≤ length numbers → behind ≡ at + 17 * i
lines_place numbers i p most = p.end ∙ rw (length_lines (take i numbers), length-take-le i numbers most)

pub line_more : (numbers : List Float) (i : ℕ) {before text after : List ℕ} {at behind end : ℕ}
    → Put (number_lines (take i numbers)) before at text behind → i < length numbers → Put (number_line (get_or numbers i nan)) text behind after end
    → Put (number_lines (take (i + 1) numbers)) before at after end
line_more numbers i p more q =
    rw (add-one i, take-suc numbers i nan more, lines_more (take i numbers) (get_or numbers i nan ∷ []), line_of_one (get_or numbers i nan))
    (put_more p q)

-- ---- the whole text

pub length_text : (numbers : List Float) → length (tensor_text numbers) ≡ 8 + length (decimal (length numbers)) + 17 * length numbers
unfolding tensor_line tensor_text
length_text numbers =
    length-append (tensor_line (length numbers)) (number_lines numbers)
    ∙ rw (length_lines numbers, length_word_line _ (length numbers)) (omega arith)

-- of a tensor that is not too long: "tensor 4096" and LF, and 4,096 lines of 17 bytes
pub length_most : (numbers : List Float) → length numbers ≤ 4096 → length (tensor_text numbers) ≤ 12 + 17 * 4096
length_most numbers few =
    let digits = decimal_length 3 (length numbers) (omega arith) (omega arith) in
    omega (arith, length_text numbers)
