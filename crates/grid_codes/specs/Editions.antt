-- The chapter Editions of docs/RULES.md: the editions of a packed sheet by their numbers, and what each has of the modes.
use Rattle.std.specs.Prelude.{Bool, not, cond, ◌&&◌, ℕ, eqb}
use Rattle.rules.specs.Outside.{mode_number}
use Rattle.rules.specs.declared.Mode.{Mode}
use Rattle.grid_codes.specs.Ranges.{among}

-- 12 of a number that is none of the editions
unfoldable pub unknown_edition : ℕ → Bool
unknown_edition edition = not (among 1 2 edition)

-- how many bits the mode of an axis has in a sheet of an edition: the first edition has none
unfoldable pub mode_width : ℕ → ℕ
mode_width edition = cond (eqb edition 2) 2 0

-- 23 of a mode: edition 1, which has no bits for it, and another mode than extend
unfoldable pub mode_refused : ℕ → Mode → Bool
mode_refused edition mode = eqb edition 1 && not (eqb (mode_number mode) 0)
