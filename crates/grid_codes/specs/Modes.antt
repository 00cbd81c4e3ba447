-- The chapter Modes of docs/RULES.md: from the numbers of modes to modes. Their numbers stand in Outside.
use Rattle.std.specs.Prelude.{Bool, cond, ℕ, ltb, eqb}
use Rattle.rules.specs.declared.Mode.{Mode}
use Rattle.rules.specs.declared.Mode.TheVariants.{Extend, Hold, Refuse}

-- 22 of a number that is none of the modes
abbrev pub unknown_mode : ℕ → Bool
unknown_mode number = ltb 2 number

-- the mode of a number
unfoldable pub mode_of_number : ℕ → Mode
mode_of_number number = cond (eqb number 1) Hold (cond (eqb number 2) Refuse Extend)
