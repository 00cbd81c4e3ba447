-- The chapter TensorText of docs/RULES.md: the text of a tensor.
use Rattle.std.specs.Prelude.{List, [], ◌∷◌, ◌++◌, ℕ, length, Float}
use Rattle.std.specs.Float.{binary64}
use Rattle.std.specs.Float.Ieee.{to_bits}
use Rattle.base_text.specs.Lines.{line_end, hex_digits, word_line}

-- the line of a number: the 16 hex digits of its pattern
unfoldable pub number_line : Float → List ℕ
number_line number = hex_digits 16 (to_bits binary64 number) ++ line_end

-- a line for each number
unfoldable pub number_lines : List Float → List ℕ
number_lines [] = []
number_lines (number ∷ more) = number_line number ++ number_lines more

-- "tensor " and how many numbers follow
unfoldable pub tensor_line : ℕ → List ℕ
tensor_line count = word_line (116 ∷ 101 ∷ 110 ∷ 115 ∷ 111 ∷ 114 ∷ 32 ∷ []) count

-- the text of a tensor
unfoldable pub tensor_text : List Float → List ℕ
tensor_text numbers = tensor_line (length numbers) ++ number_lines numbers
