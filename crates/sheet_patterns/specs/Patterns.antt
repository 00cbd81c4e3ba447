-- The chapter Patterns of docs/RULES.md: coordinates, a value and a refusal as 64-bit patterns.
use Rattle.std.specs.Prelude.{Bool, not, List, ℕ, zero, suc, ◌+◌, ◌-◌, eqb, get_or, Float, Result, Ok, Err}
use Rattle.std.specs.Float.{binary64}
use Rattle.std.specs.Float.Ieee.{of_bits, to_bits}
use Rattle.rules.specs.Numbers.{any, table}
use Rattle.rules.specs.Sizes.{most_axes}
use Rattle.rules.specs.Answers.{number_of}
use Rattle.rules.specs.declared.Refusal.{Refusal}

-- the pattern of coordinate i of the four
abbrev pub pattern : List ℕ → ℕ → ℕ
pattern patterns i = get_or patterns i 0

-- the coordinates of the axes in use; each pattern of a NaN gives the one NaN
abbrev pub coordinates : ℕ → List ℕ → List Float
coordinates axes patterns = table axes (λ i. of_bits binary64 (pattern patterns i))

-- 17: a pattern past the axes in use is not 0, as that of -0.0 is not
abbrev pub unused_refused : ℕ → List ℕ → Bool
unused_refused axes patterns = any (λ k. not (eqb (pattern patterns (axes + k)) 0)) (most_axes - axes)

-- the pattern of a refusal: that of a NaN, with the number in its lowest bits
abbrev pub refusal_pattern : ℕ → ℕ
refusal_pattern refusal = 0x7FF8_0000_0000_0000 + refusal

-- the pattern of an answer: of its refusal, or of its value where that is 0
abbrev pub answer_pattern : ℕ → Float → ℕ
answer_pattern zero value = to_bits binary64 value
answer_pattern (suc refusal) value = refusal_pattern (suc refusal)

-- the pattern of what a call gives
abbrev pub pattern_told : Result Float Refusal → ℕ
pattern_told (Ok value) = to_bits binary64 value
pattern_told (Err refusal) = refusal_pattern (number_of refusal)
