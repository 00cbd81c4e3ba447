-- The chapter Directions of docs/RULES.md: directions as numbers, 0 for lower and 1 for upper, and how the numbers of axes make their
-- directions.
use Rattle.std.specs.Prelude.{Bool, cond, List, ℕ, zero, suc, ltb, get_or}
use Rattle.rules.specs.Numbers.{table, any}
use Rattle.rules.specs.Sizes.{most_axes}
use Rattle.rules.specs.declared.StepDirection.{StepDirection}
use Rattle.rules.specs.declared.StepDirection.TheVariants.{Lower, Upper}

-- the direction of a number; of one that is refused it is not asked
abbrev pub direction_of_number : ℕ → StepDirection
direction_of_number zero = Lower
direction_of_number (suc number) = Upper

-- 22 of a direction: its number is neither 0 nor 1
abbrev pub direction_refused : ℕ → Bool
direction_refused number = ltb 1 number

-- 22 of the directions of the axes in use
unfoldable pub some_direction_refused : ℕ → List ℕ → Bool
some_direction_refused axes numbers = any (λ i. direction_refused (get_or numbers i 0)) axes

-- entry i of the four: the direction so given, and Lower where the axis is not in use
unfoldable pub direction_given : ℕ → List ℕ → ℕ → StepDirection
direction_given axes numbers i = cond (ltb i axes) (direction_of_number (get_or numbers i 0)) Lower

-- the four directions so given
unfoldable pub directions_given : ℕ → List ℕ → List StepDirection
unfolding direction_given
directions_given axes numbers = table most_axes (direction_given axes numbers)
