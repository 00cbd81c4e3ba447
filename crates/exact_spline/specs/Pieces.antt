-- The chapter Pieces of docs/RULES.md: what it is for a cubic in each cell, given by its four coefficients, to be a cubic spline; moments
-- are not spoken of.
use Rattle.std.specs.Prelude.{◌≡◌, ℕ, ◌+◌, ◌-◌, ◌<◌}
use Rattle.exact_arithmetic.specs.Arithmetic.{Arithmetic}
use Rattle.exact_spline.specs.Ends.{End, NotAKnot, FirstDerivative, SecondDerivative, Condition, Endpoints, Periodic}

module _ (A : Arithmetic) where
  infixl 60 ◌⊕◌
  infixl 60 ◌⊖◌
  infixl 70 ◌⊗◌
  open A use {Number, two, three, six, plus as ◌⊕◌, minus as ◌⊖◌, times as ◌⊗◌}

  -- the cubic c0 + c1 t + c2 t² + c3 t³, and its derivatives
  abbrev pub polynomial : Number → Number → Number → Number → Number → Number
  polynomial c0 c1 c2 c3 t = c0 ⊕ c1 ⊗ t ⊕ c2 ⊗ t ⊗ t ⊕ c3 ⊗ t ⊗ t ⊗ t

  abbrev pub first_derivative : Number → Number → Number → Number → Number
  first_derivative c1 c2 c3 t = c1 ⊕ two ⊗ c2 ⊗ t ⊕ three ⊗ c3 ⊗ t ⊗ t

  abbrev pub second_derivative : Number → Number → Number → Number
  second_derivative c2 c3 t = two ⊗ c2 ⊕ six ⊗ c3 ⊗ t

  -- the coefficients of each cell, around its lower knot
  module _ (x y : ℕ → Number) (n : ℕ) (c0 c1 c2 c3 : ℕ → Number) where
    -- the curve of cell i at a point, and its derivatives
    abbrev pub value : ℕ → Number → Number
    value i point = polynomial (c0 i) (c1 i) (c2 i) (c3 i) (point ⊖ x i)

    abbrev pub slope : ℕ → Number → Number
    slope i point = first_derivative (c1 i) (c2 i) (c3 i) (point ⊖ x i)

    abbrev pub second : ℕ → Number → Number
    second i point = second_derivative (c2 i) (c3 i) (point ⊖ x i)

    abbrev pub third : ℕ → Number
    third i = six ⊗ c3 i

    abbrev pub LowerHolds : End Number → Type 0
    LowerHolds NotAKnot = third 0 ≡ third 1
    LowerHolds (FirstDerivative v) = slope 0 (x 0) ≡ v
    LowerHolds (SecondDerivative v) = second 0 (x 0) ≡ v

    abbrev pub UpperHolds : End Number → Type 0
    UpperHolds NotAKnot = third (n - 2) ≡ third (n - 1)
    UpperHolds (FirstDerivative v) = slope (n - 1) (x n) ≡ v
    UpperHolds (SecondDerivative v) = second (n - 1) (x n) ≡ v

    abbrev pub Holds : Condition Number → Type 0
    Holds (Endpoints lower upper) = LowerHolds lower × UpperHolds upper
    Holds Periodic = (slope (n - 1) (x n) ≡ slope 0 (x 0)) × (second (n - 1) (x n) ≡ second 0 (x 0))

    -- through the samples, with two continuous derivatives, and the ends as the condition has them
    pub record IsCubicSpline (condition : Condition Number) : Type 0 where
      pub lower_sample : (i : ℕ) → i < n → value i (x i) ≡ y i
      pub upper_sample : (i : ℕ) → i < n → value i (x (i + 1)) ≡ y (i + 1)
      pub slopes_meet : (i : ℕ) → i + 1 < n → slope i (x (i + 1)) ≡ slope (i + 1) (x (i + 1))
      pub seconds_meet : (i : ℕ) → i + 1 < n → second i (x (i + 1)) ≡ second (i + 1) (x (i + 1))
      pub ends : Holds condition
