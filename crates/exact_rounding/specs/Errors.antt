-- The errors that operations pass on, over any arithmetic: u is the share of one rounding, v the tiny number of one product or quotient.
use Rattle.exact_arithmetic.specs.Arithmetic.{Arithmetic}

module _ (A : Arithmetic) where
  infixl 60 ◌⊕◌
  infixl 70 ◌⊗◌
  open A use {Number, plus as ◌⊕◌, times as ◌⊗◌}

  -- of a sum within c, of numbers with errors e and d
  abbrev pub sum_error : Number → Number → Number → Number → Number
  sum_error u c e d = e ⊕ d ⊕ u ⊗ (c ⊕ (e ⊕ d))

  -- of an exact product, of numbers within b and c with errors e and d
  abbrev pub cross : Number → Number → Number → Number → Number
  cross b e c d = e ⊗ c ⊕ b ⊗ d ⊕ e ⊗ d

  -- of a rounded product within c, where g is that of the exact product
  abbrev pub product_error : Number → Number → Number → Number → Number
  product_error u v c g = g ⊕ (u ⊗ (c ⊕ g) ⊕ v)
