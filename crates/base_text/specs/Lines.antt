-- The chapter Lines of docs/RULES.md: the lines that the programs print, as lists of bytes.
use Rattle.std.specs.Prelude.{cond, List, [], ◌∷◌, ◌++◌, ℕ, zero, suc, ◌+◌, ◌/◌, ◌%◌, ltb, length, drop}

-- the byte of a decimal digit: "0" is 48
abbrev pub decimal_digit : ℕ → ℕ
decimal_digit d = 48 + d

-- the byte of a capital hex digit: "A" is 65
abbrev pub hex_digit : ℕ → ℕ
hex_digit d = cond (ltb d 10) (48 + d) (55 + d)

-- LF, with which each line ends
abbrev pub line_end : List ℕ
line_end = 10 ∷ []

-- the last k hex digits of a number, the most significant first
unfoldable pub hex_digits : ℕ → ℕ → List ℕ
hex_digits zero n = []
hex_digits (suc k) n = hex_digits k (n / 16) ++ (hex_digit (n % 16) ∷ [])

-- the decimal digits, without leading zeros, of a number that has at most k of them
unfoldable pub decimal_digits : ℕ → ℕ → List ℕ
decimal_digits zero n = []
decimal_digits (suc k) n = cond (ltb n 10) (decimal_digit n ∷ []) (decimal_digits k (n / 10) ++ (decimal_digit (n % 10) ∷ []))

-- those of a number below 2 ^ 64, which has at most 20
unfoldable pub decimal : ℕ → List ℕ
unfolding decimal_digits
decimal n = decimal_digits 20 n

-- a word, which brings its space, and a number
unfoldable pub word_line : List ℕ → ℕ → List ℕ
unfolding decimal
word_line word number = word ++ (decimal number ++ line_end)

-- "refused " and the refusal's number
unfoldable pub refused_line : ℕ → List ℕ
unfolding word_line
refused_line number = word_line (114 ∷ 101 ∷ 102 ∷ 117 ∷ 115 ∷ 101 ∷ 100 ∷ 32 ∷ []) number

-- a buffer with a text at its front; behind the text it is as it was
abbrev pub written : List ℕ → List ℕ → List ℕ
written text buffer = text ++ drop (length text) buffer
