-- The chapter Derivatives of docs/RULES.md: the derivatives of a cell's cubic.
use Rattle.std.specs.Prelude.{ℕ, ◌+◌}
use Rattle.exact_arithmetic.specs.Arithmetic.{Arithmetic}
use Rattle.exact_spline.specs.Steps as Steps

module _ (A : Arithmetic) where
  infixl 60 ◌⊕◌
  infixl 60 ◌⊖◌
  infixl 70 ◌⊗◌
  infixl 70 ◌⊘◌
  open A use {Number, two, six, plus as ◌⊕◌, minus as ◌⊖◌, times as ◌⊗◌, over as ◌⊘◌}

  -- of the cubic of a cell of a given width, with samples y0, y1 and moments m0, m1 at its knots, at a distance dx from its lower knot
  abbrev pub slope : Number → Number → Number → Number → Number → Number → Number
  slope width y0 y1 m0 m1 dx =
      (y1 ⊖ y0) ⊘ width ⊖ width ⊗ (m1 ⊖ m0) ⊘ six ⊕ (m1 ⊗ dx ⊗ dx ⊖ m0 ⊗ (width ⊖ dx) ⊗ (width ⊖ dx)) ⊘ (two ⊗ width)

  abbrev pub bend : Number → Number → Number → Number → Number
  bend width m0 m1 dx = (m0 ⊗ (width ⊖ dx) ⊕ m1 ⊗ dx) ⊘ width

  abbrev pub twist : Number → Number → Number → Number
  twist width m0 m1 = (m1 ⊖ m0) ⊘ width

  -- the first, the second and the third derivative of cell i at a point
  module _ (x y m : ℕ → Number) where
    unfoldable pub slope_in_cell : ℕ → Number → Number
    slope_in_cell i point = slope (Steps.h A x i) (y i) (y (i + 1)) (m i) (m (i + 1)) (point ⊖ x i)

    unfoldable pub second_in_cell : ℕ → Number → Number
    second_in_cell i point = bend (Steps.h A x i) (m i) (m (i + 1)) (point ⊖ x i)

    unfoldable pub third_in_cell : ℕ → Number
    third_in_cell i = twist (Steps.h A x i) (m i) (m (i + 1))
