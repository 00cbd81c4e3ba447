-- The chapter Doubles of docs/RULES.md: the arithmetic and the comparisons of doubles, on their bit patterns.
use Rattle.std.specs.Prelude.{Bool, ◌||◌, ℕ}
use Rattle.std.specs.Float.{binary64}
use Rattle.std.specs.Float.Ieee.{add, sub, mul, div, lt, le, eq, is_nan, of_bits, to_bits}

-- ---- arithmetic: the pattern of the IEEE operation's answer

abbrev pub sum_pattern : ℕ → ℕ → ℕ
sum_pattern a b = to_bits binary64 (add binary64 (of_bits binary64 a) (of_bits binary64 b))

abbrev pub difference_pattern : ℕ → ℕ → ℕ
difference_pattern a b = to_bits binary64 (sub binary64 (of_bits binary64 a) (of_bits binary64 b))

abbrev pub product_pattern : ℕ → ℕ → ℕ
product_pattern a b = to_bits binary64 (mul binary64 (of_bits binary64 a) (of_bits binary64 b))

abbrev pub quotient_pattern : ℕ → ℕ → ℕ
quotient_pattern a b = to_bits binary64 (div binary64 (of_bits binary64 a) (of_bits binary64 b))

-- ---- comparisons

abbrev pub is_less : ℕ → ℕ → Bool
is_less a b = lt (of_bits binary64 a) (of_bits binary64 b)

abbrev pub is_at_most : ℕ → ℕ → Bool
is_at_most a b = le (of_bits binary64 a) (of_bits binary64 b)

abbrev pub is_equal : ℕ → ℕ → Bool
is_equal a b = eq (of_bits binary64 a) (of_bits binary64 b)

-- one of the two is a NaN
abbrev pub is_unordered : ℕ → ℕ → Bool
is_unordered a b = is_nan (of_bits binary64 a) || is_nan (of_bits binary64 b)
