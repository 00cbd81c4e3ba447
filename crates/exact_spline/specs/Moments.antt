-- The chapter Moments of docs/RULES.md, over any arithmetic: the moments of the spline through the samples y at the knots
-- x, of which there are n + 1.
use Rattle.std.proofs.Math.Bool.{cond}
use Rattle.std.specs.Prelude.{List, ℕ, ◌+◌, ◌-◌, leb, eqb}
use Rattle.exact_arithmetic.specs.Arithmetic.{Arithmetic}
use Rattle.rules.specs.Numbers.{table}
use Rattle.exact_spline.specs.Numbers.{at}
use Rattle.exact_spline.specs.Ends.{End, NotAKnot, FirstDerivative, SecondDerivative, Condition, Endpoints, Periodic, dropped}
use Rattle.exact_spline.specs.Steps as Steps
use Rattle.exact_spline.specs.Solve as Solve

-- what an end's row has for its own knot, for the one neighbour it names, and on the right
pub record Row (N : Type 0) : Type 0 where
  pub diagonal : N
  pub neighbour : N
  pub right : N

module _ (A : Arithmetic) (x y : ℕ → A.Number) (n : ℕ) where
  infixl 60 ◌⊕◌
  infixl 60 ◌⊖◌
  infixl 70 ◌⊗◌
  infixl 70 ◌⊘◌
  open A use {Number, nought, one, two, six, plus as ◌⊕◌, minus as ◌⊖◌, times as ◌⊗◌, over as ◌⊘◌}

  abbrev h : ℕ → Number
  h = Steps.h A x

  abbrev s : ℕ → Number
  s = Steps.s A x y

  abbrev u : ℕ → Number
  u = Steps.u A x y

  -- the row of the lower end; that of NotAKnot stands at knot 1
  unfoldable pub lower_row : End Number → Row Number
  lower_row NotAKnot = record { diagonal = (h 0 ⊕ h 1) ⊗ (h 0 ⊕ two ⊗ h 1); neighbour = h 1 ⊗ h 1 ⊖ h 0 ⊗ h 0; right = h 1 ⊗ u 0 }
  lower_row (FirstDerivative v) = record { diagonal = two ⊗ h 0; neighbour = h 0; right = six ⊗ (s 0 ⊖ v) }
  lower_row (SecondDerivative v) = record { diagonal = one; neighbour = nought; right = v }

  -- the row of the upper end, which mirrors it; that of NotAKnot stands at knot n - 1
  unfoldable pub upper_row : End Number → Row Number
  upper_row NotAKnot = record {
    diagonal = (h (n - 2) ⊕ h (n - 1)) ⊗ (two ⊗ h (n - 2) ⊕ h (n - 1));
    neighbour = h (n - 2) ⊗ h (n - 2) ⊖ h (n - 1) ⊗ h (n - 1);
    right = h (n - 2) ⊗ u (n - 2);
  }
  upper_row (FirstDerivative v) = record { diagonal = two ⊗ h (n - 1); neighbour = h (n - 1); right = six ⊗ (v ⊖ s (n - 1)) }
  upper_row (SecondDerivative v) = record { diagonal = one; neighbour = nought; right = v }

  module _ (lower upper : End Number) where
    -- the last row's number: row j stands at knot (dropped lower) + j
    abbrev pub last_row : ℕ
    last_row = n - dropped lower - dropped upper

    -- left of the diagonal, in row j + 1
    unfoldable pub sub : ℕ → Number
    unfolding upper_row
    sub j = cond (eqb (j + 1) last_row) (upper_row upper).neighbour (h (dropped lower + j))

    -- the diagonal of row j
    unfoldable pub diag : ℕ → Number
    unfolding lower_row upper_row
    diag j =
        cond (eqb j 0) (lower_row lower).diagonal
        (cond (eqb j last_row) (upper_row upper).diagonal
        (two ⊗ (h (dropped lower + j - 1) ⊕ h (dropped lower + j))))

    -- right of the diagonal, in row j
    unfoldable pub sup : ℕ → Number
    unfolding lower_row
    sup j = cond (eqb j 0) (lower_row lower).neighbour (h (dropped lower + j))

    -- the right side of row j
    unfoldable pub rhs : ℕ → Number
    unfolding lower_row upper_row
    rhs j =
        cond (eqb j 0) (lower_row lower).right
        (cond (eqb j last_row) (upper_row upper).right
        (u (dropped lower + j - 1)))

    -- the moments that the rows give
    unfoldable pub inner : ℕ → Number
    unfolding sub diag sup rhs
    inner j = Solve.thomas A sub diag sup rhs last_row j

  -- the moment at knot 0: from the two after it where the lower end dropped it, else the first that the rows give
  unfoldable pub first_moment : End Number → End Number → Number
  unfolding inner
  first_moment NotAKnot upper = ((h 0 ⊕ h 1) ⊗ inner NotAKnot upper 0 ⊖ h 0 ⊗ inner NotAKnot upper 1) ⊘ h 1
  first_moment (FirstDerivative v) upper = inner (FirstDerivative v) upper 0
  first_moment (SecondDerivative v) upper = inner (SecondDerivative v) upper 0

  -- the moment at knot n: from the two before it where the upper end dropped it, else the last that the rows give
  unfoldable pub last_moment : End Number → End Number → Number
  unfolding inner
  last_moment lower NotAKnot =
      ((h (n - 2) ⊕ h (n - 1)) ⊗ inner lower NotAKnot (last_row lower NotAKnot)
      ⊖ h (n - 1) ⊗ inner lower NotAKnot (last_row lower NotAKnot - 1)) ⊘ h (n - 2)
  last_moment lower (FirstDerivative v) = inner lower (FirstDerivative v) (last_row lower (FirstDerivative v))
  last_moment lower (SecondDerivative v) = inner lower (SecondDerivative v) (last_row lower (SecondDerivative v))

  -- the diagonal of a periodic axis: before knot 0 lies the last step
  unfoldable pub periodic_diag : ℕ → Number
  periodic_diag k = cond (eqb k 0) (two ⊗ (h (n - 1) ⊕ h 0)) (two ⊗ (h (k - 1) ⊕ h k))

  -- its right side, likewise
  unfoldable pub periodic_rhs : ℕ → Number
  periodic_rhs k = cond (eqb k 0) (six ⊗ (s 0 ⊖ s (n - 1))) (u (k - 1))

  -- moment k of a periodic axis of more than one interval: n rows, and the last step in both corners
  unfoldable pub periodic_moment : ℕ → Number
  unfolding periodic_diag periodic_rhs
  periodic_moment k = Solve.cyclic_thomas A h periodic_diag h periodic_rhs (h (n - 1)) (n - 1) k

  -- moment k under a condition; on a periodic axis the last is the first, and both are nought where there is one interval
  unfoldable pub moment : Condition Number → ℕ → Number
  unfolding inner first_moment last_moment periodic_moment
  moment (Endpoints lower upper) k =
      cond (eqb k 0) (first_moment lower upper)
      (cond (eqb k n) (last_moment lower upper)
      (inner lower upper (k - dropped lower)))
  moment Periodic k = cond (leb n 1) nought (periodic_moment (cond (eqb k n) 0 k))

-- all n + 1 moments
module _ (A : Arithmetic) where
  open A use {Number}

  unfoldable pub moments : (ℕ → Number) → ℕ → Condition Number → List Number → List Number
  unfolding moment
  moments x n condition y = table (n + 1) (moment A x (at A y) n condition)
