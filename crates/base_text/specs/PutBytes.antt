-- What stands in a text after something was put into it.
use Rattle.std.specs.Prelude.{◌≡◌, List, ℕ, ◌+◌, length}
use Rattle.std.proofs.lemmas.List.Edits.{sets}

-- the bytes stand from a place on, all others are as they were, and `behind` is the place where they end
pub record Put (bytes before : List ℕ) (at : ℕ) (after : List ℕ) (behind : ℕ) : Type 0 where
  pub stands : after ≡ sets before at bytes
  pub end : behind ≡ at + length bytes
