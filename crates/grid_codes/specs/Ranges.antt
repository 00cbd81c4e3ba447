-- The chapter Ranges of docs/RULES.md: what kinds and refusals are decided by.
use Rattle.std.specs.Prelude.{Bool, ◌&&◌, ℕ, leb}

-- a number from the first to the last of a range, these two included
abbrev pub among : ℕ → ℕ → ℕ → Bool
among first last number = leb first number && leb number last
