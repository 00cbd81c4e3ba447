-- The chapter Steps of docs/RULES.md, over any arithmetic: what lies between neighbouring knots x, with samples y at them.
use Rattle.std.specs.Prelude.{ℕ, ◌+◌}
use Rattle.exact_arithmetic.specs.Arithmetic.{Arithmetic}

module _ (A : Arithmetic) where
  infixl 60 ◌⊕◌
  infixl 60 ◌⊖◌
  infixl 70 ◌⊗◌
  infixl 70 ◌⊘◌
  open A use {Number, six, plus as ◌⊕◌, minus as ◌⊖◌, times as ◌⊗◌, over as ◌⊘◌}

  -- the step from knot i to the next
  unfoldable pub h : (ℕ → Number) → ℕ → Number
  h x i = x (i + 1) ⊖ x i

  -- the slope of the straight line from sample i to the next
  unfoldable pub s : (ℕ → Number) → (ℕ → Number) → ℕ → Number
  s x y i = (y (i + 1) ⊖ y i) ⊘ h x i

  -- six times the difference of two neighbouring slopes
  unfoldable pub u : (ℕ → Number) → (ℕ → Number) → ℕ → Number
  u x y k = six ⊗ (s x y (k + 1) ⊖ s x y k)
