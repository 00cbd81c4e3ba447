-- The chapter Moments of docs/RULES.md: the moments of the spline through the samples y at the knots x, of which there are n + 1.
use Rattle.std.proofs.Math.Bool.{cond}
use Rattle.std.specs.Prelude.{List, ℕ, ◌+◌, ◌-◌, leb, eqb, Float}
use Rattle.rules.specs.Numbers.{◌⊕◌, ◌⊖◌, ◌⊗◌, ◌⊘◌, plus_zero, one, two, six, table}
use Rattle.rules.specs.Ends.{dropped}
use Rattle.rules.specs.Steps.{h, s, u}
use Rattle.rules.specs.Solve.{thomas, cyclic_thomas}
use Rattle.rules.specs.declared.Row.{Row}
use Rattle.rules.specs.declared.End.{End}
use Rattle.rules.specs.declared.End.TheVariants.{NotAKnot, FirstDerivative, SecondDerivative}
use Rattle.rules.specs.declared.Condition.{Condition}
use Rattle.rules.specs.declared.Condition.TheVariants.{Endpoints, Periodic}

module _ (x y : List Float) (n : ℕ) where
  -- the row of the lower end; that of NotAKnot stands at knot 1
  unfoldable pub lower_row : End → Row
  unfolding h s u
  lower_row NotAKnot = record {
    diagonal = (h x 0 ⊕ h x 1) ⊗ (h x 0 ⊕ two ⊗ h x 1);
    neighbour = h x 1 ⊗ h x 1 ⊖ h x 0 ⊗ h x 0;
    right = h x 1 ⊗ u x y 0;
  }
  lower_row (FirstDerivative v) = record { diagonal = two ⊗ h x 0; neighbour = h x 0; right = six ⊗ (s x y 0 ⊖ v) }
  lower_row (SecondDerivative v) = record { diagonal = one; neighbour = plus_zero; right = v }

  -- the row of the upper end, which mirrors it; that of NotAKnot stands at knot n - 1
  unfoldable pub upper_row : End → Row
  unfolding h s u
  upper_row NotAKnot = record {
    diagonal = (h x (n - 2) ⊕ h x (n - 1)) ⊗ (two ⊗ h x (n - 2) ⊕ h x (n - 1));
    neighbour = h x (n - 2) ⊗ h x (n - 2) ⊖ h x (n - 1) ⊗ h x (n - 1);
    right = h x (n - 2) ⊗ u x y (n - 2);
  }
  upper_row (FirstDerivative v) = record { diagonal = two ⊗ h x (n - 1); neighbour = h x (n - 1); right = six ⊗ (v ⊖ s x y (n - 1)) }
  upper_row (SecondDerivative v) = record { diagonal = one; neighbour = plus_zero; right = v }

  module _ (lower upper : End) where
    -- the last row's number: row j stands at knot (dropped lower) + j
    abbrev pub last_row : ℕ
    last_row = n - dropped lower - dropped upper

    -- left of the diagonal, in row j + 1: the step before its knot, and in the last row what the upper end names
    unfoldable pub sub : ℕ → Float
    unfolding h upper_row
    sub j = cond (eqb (j + 1) last_row) (upper_row upper).neighbour (h x (dropped lower + j))

    -- the diagonal of row j: the first and the last are the ends', the others twice the sum of the steps on both sides of their knot
    unfoldable pub diag : ℕ → Float
    unfolding h lower_row upper_row
    diag j =
        cond (eqb j 0) (lower_row lower).diagonal
        (cond (eqb j last_row) (upper_row upper).diagonal
        (two ⊗ (h x (dropped lower + j - 1) ⊕ h x (dropped lower + j))))

    -- right of the diagonal, in row j: the step after its knot, and in the first row what the lower end names
    unfoldable pub sup : ℕ → Float
    unfolding h lower_row
    sup j = cond (eqb j 0) (lower_row lower).neighbour (h x (dropped lower + j))

    -- the right side of row j: the first and the last are the ends', the others u of their knot
    unfoldable pub rhs : ℕ → Float
    unfolding u lower_row upper_row
    rhs j =
        cond (eqb j 0) (lower_row lower).right
        (cond (eqb j last_row) (upper_row upper).right
        (u x y (dropped lower + j - 1)))

    -- the moments that the rows give
    unfoldable pub inner : ℕ → Float
    unfolding sub diag sup rhs thomas
    inner j = thomas sub diag sup rhs last_row j

  -- the moment at knot 0: from the two after it where the lower end dropped it, else the first that the rows give
  unfoldable pub first_moment : End → End → Float
  unfolding h inner
  first_moment NotAKnot upper = ((h x 0 ⊕ h x 1) ⊗ inner NotAKnot upper 0 ⊖ h x 0 ⊗ inner NotAKnot upper 1) ⊘ h x 1
  first_moment (FirstDerivative v) upper = inner (FirstDerivative v) upper 0
  first_moment (SecondDerivative v) upper = inner (SecondDerivative v) upper 0

  -- the moment at knot n: from the two before it where the upper end dropped it, else the last that the rows give
  unfoldable pub last_moment : End → End → Float
  unfolding h inner
  last_moment lower NotAKnot =
      ((h x (n - 2) ⊕ h x (n - 1)) ⊗ inner lower NotAKnot (last_row lower NotAKnot)
      ⊖ h x (n - 1) ⊗ inner lower NotAKnot (last_row lower NotAKnot - 1)) ⊘ h x (n - 2)
  last_moment lower (FirstDerivative v) = inner lower (FirstDerivative v) (last_row lower (FirstDerivative v))
  last_moment lower (SecondDerivative v) = inner lower (SecondDerivative v) (last_row lower (SecondDerivative v))

  -- the diagonal of a periodic axis: before knot 0 lies the last step
  unfoldable pub periodic_diag : ℕ → Float
  unfolding h
  periodic_diag k = cond (eqb k 0) (two ⊗ (h x (n - 1) ⊕ h x 0)) (two ⊗ (h x (k - 1) ⊕ h x k))

  -- its right side, likewise
  unfoldable pub periodic_rhs : ℕ → Float
  unfolding s u
  periodic_rhs k = cond (eqb k 0) (six ⊗ (s x y 0 ⊖ s x y (n - 1))) (u x y (k - 1))

  -- moment k of a periodic axis of more than one interval: n rows, and the last step in both corners
  unfoldable pub periodic_moment : ℕ → Float
  unfolding h periodic_diag periodic_rhs cyclic_thomas
  periodic_moment k = cyclic_thomas (h x) periodic_diag (h x) periodic_rhs (h x (n - 1)) (n - 1) k

  -- moment k under a condition; on a periodic axis the last is the first, and both are +0.0 where there is one interval
  unfoldable pub moment : Condition → ℕ → Float
  unfolding inner first_moment last_moment periodic_moment
  moment (Endpoints lower upper) k =
      cond (eqb k 0) (first_moment lower upper)
      (cond (eqb k n) (last_moment lower upper)
      (inner lower upper (k - dropped lower)))
  moment Periodic k = cond (leb n 1) plus_zero (periodic_moment (cond (eqb k n) 0 k))

-- all n + 1 moments
unfoldable pub moments : List Float → ℕ → Condition → List Float → List Float
unfolding moment
moments x n condition y = table (n + 1) (moment x y n condition)
