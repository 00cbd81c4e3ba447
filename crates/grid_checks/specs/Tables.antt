-- The chapter Tables of docs/RULES.md: refusals as the rows of a table, of which the first that applies is given.
use Rattle.std.specs.Prelude.{Bool, cond, List, [], ◌∷◌, ℕ}

-- a row of a table of refusals: its number, and whether it applies
pub record Refusal : Type 0 where
  pub number : ℕ
  pub applies : Bool

abbrev pub row : ℕ → Bool → Refusal
row number applies = record { number = number; applies = applies }

-- the number of the first row that applies, and what comes later where none does
abbrev pub lowest : List Refusal → ℕ → ℕ
lowest [] later = later
lowest (refusal ∷ rows) later = cond refusal.applies refusal.number (lowest rows later)
