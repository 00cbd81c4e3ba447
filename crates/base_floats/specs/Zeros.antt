-- Zeros of either sign, and numbers that are equal.
use Rattle.std.specs.Prelude.{◌≡◌, ◌⊎◌, Bool, false, pos, Float}
use Rattle.std.specs.Float.{fin}

-- zero, of either sign
pub record Zero (x : Float) : Type 0 where
  pub sign : Bool
  pub is : x ≡ fin sign 0 (pos 0)

-- equal as numbers: the same float, or two zeros
abbrev pub Equal : Float → Float → Type 0
Equal x y = (x ≡ y) ⊎ (Zero x × Zero y)

-- 1, as each format writes it
abbrev pub one : Float
one = fin false 1 (pos 0)
