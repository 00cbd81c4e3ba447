-- The chapter Kinds of docs/RULES.md: from the numbers of kinds to ends, and back.
use Rattle.std.specs.Prelude.{Bool, not, cond, ◌||◌, ℕ, ltb, eqb, Float}
use Rattle.rules.specs.Numbers.{plus_zero}
use Rattle.rules.specs.declared.End.{End}
use Rattle.rules.specs.declared.End.TheVariants.{NotAKnot, FirstDerivative, SecondDerivative}
use Rattle.rules.specs.declared.Condition.{Condition}
use Rattle.rules.specs.declared.Condition.TheVariants.{Endpoints, Periodic}
use Rattle.grid_codes.specs.Ranges.{among}

-- a number that is none of the kinds
abbrev pub unknown_kind : ℕ → Bool
unknown_kind kind = ltb 3 kind

-- how many floats an end of a kind has in a sheet
unfoldable pub values_of_kind : ℕ → ℕ
values_of_kind kind = cond (among 1 2 kind) 1 0

-- the end of a kind, with its number where the kind has one
unfoldable pub end_of_kind : ℕ → Float → End
end_of_kind kind value =
    cond (eqb kind 1) (FirstDerivative value) (cond (eqb kind 2) (SecondDerivative value) NotAKnot)

-- the condition of two ends, where `kind` is that of the lower one: 3 stands at both ends
unfoldable pub condition_of_kind : ℕ → End → End → Condition
condition_of_kind kind lower upper = cond (eqb kind 3) Periodic (Endpoints lower upper)

-- 13 of an axis in a sheet: Periodic at one end and another kind at the other
unfoldable pub periodic_at_one_end : ℕ → ℕ → Bool
periodic_at_one_end lower upper = cond (eqb lower 3) (not (eqb upper 3)) (eqb upper 3)

-- 13 of an axis whose kinds may be any numbers: that, or a number that is no kind
unfoldable pub kinds_refused : ℕ → ℕ → Bool
unfolding periodic_at_one_end
kinds_refused lower upper = unknown_kind lower || unknown_kind upper || periodic_at_one_end lower upper

-- ---- the other way

-- the kind of an end
abbrev pub kind_of_end : End → ℕ
kind_of_end NotAKnot = 0
kind_of_end (FirstDerivative value) = 1
kind_of_end (SecondDerivative value) = 2

-- the value of an end, +0.0 where its kind has none
abbrev pub value_of_end : End → Float
value_of_end NotAKnot = plus_zero
value_of_end (FirstDerivative value) = value
value_of_end (SecondDerivative value) = value

-- the kind of a condition's lower end
abbrev pub lower_kind_of : Condition → ℕ
lower_kind_of (Endpoints lower upper) = kind_of_end lower
lower_kind_of Periodic = 3

-- the kind of a condition's upper end
abbrev pub upper_kind_of : Condition → ℕ
upper_kind_of (Endpoints lower upper) = kind_of_end upper
upper_kind_of Periodic = 3

-- the value of a condition's lower end
abbrev pub lower_value_of : Condition → Float
lower_value_of (Endpoints lower upper) = value_of_end lower
lower_value_of Periodic = plus_zero

-- the value of a condition's upper end
abbrev pub upper_value_of : Condition → Float
upper_value_of (Endpoints lower upper) = value_of_end upper
upper_value_of Periodic = plus_zero
