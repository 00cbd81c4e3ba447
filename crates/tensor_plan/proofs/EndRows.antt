-- The rows under two ends by their three cases: first, inside, last. An end's diagonal and neighbour do not ask for samples nor for its
-- number.
use native.Mathlib.Omega.{arith}
use mathlib.Core.Path.{◌≡◌, refl}
use mathlib.Core.List.{List}
use Prim.Native.Nat.{ℕ, suc, ◌+◌, ◌-◌, ◌<◌}
use lib.Ieee.{Float}
use borrow.Author.Tests.{eq-eqb, ne_eqb}
use Rattle.rules.specs.Numbers.{◌⊕◌, ◌⊖◌, ◌⊗◌, two, six}
use Rattle.rules.specs.Ends.{dropped, zero_valued}
use Rattle.rules.specs.Steps.{h, s, u}
use Rattle.rules.specs.Moments.{lower_row, upper_row, sub, diag, sup, rhs, last_row}
use Rattle.rules.specs.declared.End.{End}
use Rattle.rules.specs.declared.End.TheVariants.{NotAKnot, FirstDerivative, SecondDerivative}

module _ (x y : List Float) (n : ℕ) (lower upper : End) where
  abbrev l : ℕ
  l = last_row x y n lower upper

  abbrev low : ℕ
  low = dropped lower

  pub diag_first : diag x y n lower upper 0 ≡ (lower_row x y n lower).diagonal
  unfolding diag
  diag_first = refl

  pub diag_inside : (j : ℕ) → suc j < l → diag x y n lower upper (suc j) ≡ two ⊗ (h x (low + j) ⊕ h x (low + suc j))
  unfolding diag
  diag_inside j lt =
      let e : low + suc j - 1 ≡ low + j = omega arith in
      rw (ne_eqb (suc j) 0 (omega arith), ne_eqb (suc j) l (omega arith), e)

  pub diag_last : (j : ℕ) → suc j ≡ l → diag x y n lower upper (suc j) ≡ (upper_row x y n upper).diagonal
  unfolding diag
  diag_last j e = rw (ne_eqb (suc j) 0 (omega arith), eq-eqb (suc j) l e)

  pub sub_inside : (j : ℕ) → suc j < l → sub x y n lower upper j ≡ h x (low + j)
  unfolding sub
  sub_inside j lt = rw (ne_eqb (j + 1) l (omega arith))

  pub sub_last : (j : ℕ) → suc j ≡ l → sub x y n lower upper j ≡ (upper_row x y n upper).neighbour
  unfolding sub
  sub_last j e = rw (eq-eqb (j + 1) l (omega arith))

  pub sup_first : sup x y n lower upper 0 ≡ (lower_row x y n lower).neighbour
  unfolding sup
  sup_first = refl

  pub sup_inside : (j : ℕ) → sup x y n lower upper (suc j) ≡ h x (low + suc j)
  unfolding sup
  sup_inside j = rw (ne_eqb (suc j) 0 (omega arith))

  pub rhs_first : rhs x y n lower upper 0 ≡ (lower_row x y n lower).right
  unfolding rhs
  rhs_first = refl

  pub rhs_inside : (j : ℕ) → suc j < l → rhs x y n lower upper (suc j) ≡ six ⊗ (s x y (low + suc j) ⊖ s x y (low + j))
  unfolding rhs u
  rhs_inside j lt =
      let e : low + suc j - 1 ≡ low + j = omega arith in
      let f : low + j + 1 ≡ low + suc j = omega arith in
      rw (ne_eqb (suc j) 0 (omega arith), ne_eqb (suc j) l (omega arith), e, f)

  pub rhs_last : (j : ℕ) → suc j ≡ l → rhs x y n lower upper (suc j) ≡ (upper_row x y n upper).right
  unfolding rhs
  rhs_last j e = rw (ne_eqb (suc j) 0 (omega arith), eq-eqb (suc j) l e)

-- the same with other samples, and with +0.0 for the end's number
module _ (x y y' : List Float) (n : ℕ) where
  pub lower_diagonal : (e : End) → (lower_row x y n e).diagonal ≡ (lower_row x y' n (zero_valued e)).diagonal
  unfolding lower_row
  lower_diagonal NotAKnot = refl
  lower_diagonal (FirstDerivative v) = refl
  lower_diagonal (SecondDerivative v) = refl

  pub lower_neighbour : (e : End) → (lower_row x y n e).neighbour ≡ (lower_row x y' n (zero_valued e)).neighbour
  unfolding lower_row
  lower_neighbour NotAKnot = refl
  lower_neighbour (FirstDerivative v) = refl
  lower_neighbour (SecondDerivative v) = refl

  pub upper_diagonal : (e : End) → (upper_row x y n e).diagonal ≡ (upper_row x y' n (zero_valued e)).diagonal
  unfolding upper_row
  upper_diagonal NotAKnot = refl
  upper_diagonal (FirstDerivative v) = refl
  upper_diagonal (SecondDerivative v) = refl

  pub upper_neighbour : (e : End) → (upper_row x y n e).neighbour ≡ (upper_row x y' n (zero_valued e)).neighbour
  unfolding upper_row
  upper_neighbour NotAKnot = refl
  upper_neighbour (FirstDerivative v) = refl
  upper_neighbour (SecondDerivative v) = refl

pub same_dropped : (e : End) → dropped e ≡ dropped (zero_valued e)
same_dropped NotAKnot = refl
same_dropped (FirstDerivative v) = refl
same_dropped (SecondDerivative v) = refl
