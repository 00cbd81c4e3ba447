-- A length that is not so many times a size is found by its quotient and its remainder.
use native.Mathlib.Omega.{arith}
use mathlib.Core.Path.{◌≡◌, refl, sym, ap, ◌∙◌}
use mathlib.Core.Bool.{Bool, true, false, not}
use Prim.Native.Nat.{ℕ, ◌*◌, ◌/◌, ◌%◌, ◌+◌, ◌≤◌}
use native.Mathlib.Nat.{mul_comm, mul-div_cancel_left, div-add-mod'}
use lib.Dec.{eqb}
use borrow.Author.Tests.{eqb-true, eqb-false, eq-eqb, ne_eqb}
use Rattle.rules.specs.Refusals.{length_refused}

module _ (given size count : ℕ) (some : 1 ≤ size) where
  pub other_quotient : (given / size ≡ count → ⊥) → true ≡ length_refused given (size * count)
  other_quotient other =
      sym (ap not (ne_eqb given (size * count) (λ e. other (ap (λ (n : ℕ). n / size) e ∙ mul-div_cancel_left count some))))

  module _ (quotient : given / size ≡ count) where
    split : given ≡ size * count + given % size
    split = sym (div-add-mod' given size) ∙ rw (quotient, mul_comm count size) refl

    remainder : (none : Bool) → eqb (given % size) 0 ≡ none → none ≡ eqb given (size * count)
    remainder true e = sym (eq-eqb given (size * count) (omega (arith, split, eqb-true (given % size) 0 e)))
    remainder false e =
        sym (ne_eqb given (size * count) (λ z. eqb-false (given % size) 0 e (omega (arith, split, z))))

    pub same_quotient : not (eqb (given % size) 0) ≡ length_refused given (size * count)
    same_quotient = ap not (remainder (eqb (given % size) 0) refl)
