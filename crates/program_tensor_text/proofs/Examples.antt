-- The text of the example's tensor, which docs/RULES.md shows, byte by byte.
use mathlib.Core.Path.{◌≡◌, refl}
use mathlib.Core.List.{List, [], ◌∷◌, ◌++◌}
use Prim.Native.Nat.{ℕ}
use lib.Ieee.{Float, binary64, of_bits, to_bits}
use Rattle.base_text.specs.Lines.{hex_digits, word_line}
use Rattle.program_tensor_text.specs.TensorText.{number_line, number_lines, tensor_line, tensor_text}

-- tensor 4
abbrev first_line : List ℕ
first_line = 116 ∷ 101 ∷ 110 ∷ 115 ∷ 111 ∷ 114 ∷ 32 ∷ 52 ∷ 10 ∷ []

-- 0000000000000000
abbrev zero_line : List ℕ
zero_line = 48 ∷ 48 ∷ 48 ∷ 48 ∷ 48 ∷ 48 ∷ 48 ∷ 48 ∷ 48 ∷ 48 ∷ 48 ∷ 48 ∷ 48 ∷ 48 ∷ 48 ∷ 48 ∷ 10 ∷ []

-- 3FF0000000000000
abbrev one_line : List ℕ
one_line = 51 ∷ 70 ∷ 70 ∷ 48 ∷ 48 ∷ 48 ∷ 48 ∷ 48 ∷ 48 ∷ 48 ∷ 48 ∷ 48 ∷ 48 ∷ 48 ∷ 48 ∷ 48 ∷ 10 ∷ []

abbrev zero : Float
zero = of_bits binary64 0x0000_0000_0000_0000

abbrev one : Float
one = of_bits binary64 0x3FF0_0000_0000_0000

pub shown : tensor_text (zero ∷ one ∷ one ∷ one ∷ []) ≡ first_line ++ (zero_line ++ (one_line ++ (one_line ++ one_line)))
unfolding of_bits to_bits hex_digits word_line number_line number_lines tensor_line tensor_text
shown = refl
