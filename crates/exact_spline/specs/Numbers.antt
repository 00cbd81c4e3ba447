-- The chapter Numbers of docs/RULES.md, over any arithmetic: lists of numbers.
use Rattle.std.specs.Prelude.{List, ℕ, get_or}
use Rattle.exact_arithmetic.specs.Arithmetic.{Arithmetic}

module _ (A : Arithmetic) where
  open A use {Number, absent}

  -- number k of a list
  abbrev pub at : List Number → ℕ → Number
  at l k = get_or l k absent
