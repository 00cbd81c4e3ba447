-- The chapter Numbers of docs/RULES.md: binary64 and its four operations, the constants of the formulas, and lists.
use Rattle.std.specs.Prelude.{Bool, false, cond, ◌||◌, List, [], ◌∷◌, ℕ, zero, suc, get_or, replicate, Float}
use Rattle.std.specs.Float.Ieee as Ieee
use Rattle.std.specs.Float.{nan, binary64}

infixl 60 ◌⊕◌
infixl 60 ◌⊖◌
infixl 70 ◌⊗◌
infixl 70 ◌⊘◌
-- the sum, rounded once
abbrev pub ◌⊕◌ : Float → Float → Float
◌⊕◌ a b = Ieee.add binary64 a b

-- the difference, rounded once
abbrev pub ◌⊖◌ : Float → Float → Float
◌⊖◌ a b = Ieee.sub binary64 a b

-- the product, rounded once
abbrev pub ◌⊗◌ : Float → Float → Float
◌⊗◌ a b = Ieee.mul binary64 a b

-- the quotient, rounded once
abbrev pub ◌⊘◌ : Float → Float → Float
◌⊘◌ a b = Ieee.div binary64 a b

-- +0.0
abbrev pub plus_zero : Float
plus_zero = Ieee.of_bits binary64 0x0000_0000_0000_0000

-- the other constants by their patterns: 1, 2, 3 and 6
abbrev pub one : Float
one = Ieee.of_bits binary64 0x3FF0_0000_0000_0000

abbrev pub two : Float
two = Ieee.of_bits binary64 0x4000_0000_0000_0000

abbrev pub three : Float
three = Ieee.of_bits binary64 0x4008_0000_0000_0000

abbrev pub six : Float
six = Ieee.of_bits binary64 0x4018_0000_0000_0000

-- number k of a list, and NaN past its end
abbrev pub at : List Float → ℕ → Float
at xs k = get_or xs k nan

-- n times +0.0
abbrev pub zeros : ℕ → List Float
zeros n = replicate n plus_zero

module _ {A : Type 0} where
  -- f a, f (a + 1), .., n of them
  abbrev pub table_from : ℕ → ℕ → (ℕ → A) → List A
  table_from zero a f = []
  table_from (suc n) a f = f a ∷ table_from n (suc a) f

  -- f 0, f 1, .., f (n - 1)
  abbrev pub table : ℕ → (ℕ → A) → List A
  table n f = table_from n 0 f

  -- the elements of which a test holds, in their order
  unfoldable pub filter : (A → Bool) → List A → List A
  filter test [] = []
  filter test (a ∷ rest) = cond (test a) (a ∷ filter test rest) (filter test rest)

-- whether a test holds of some number below n
unfoldable pub any : (ℕ → Bool) → ℕ → Bool
any test zero = false
any test (suc n) = any test n || test n
