-- Where the differences of four are finite, so are all numbers of the four quarters.
use mathlib.Core.Path.{◌≡◌, ap, subst}
use mathlib.Core.Bool.{true, false, not}
use mathlib.Core.List.{List}
use Prim.Native.Nat.{ℕ, ◌+◌, ◌-◌, ◌*◌, ◌<◌, ◌≤◌}
use native.Mathlib.Decide.{dec_le}
use native.Mathlib.Nat.{lt_of_not-le}
use native.Mathlib.Omega.{arith}
use lib.Ieee.{Float, binary64}
use lib.Ieee.Scale.{finite}
use Rattle.rules.specs.Numbers.{◌⊖◌, at, any}
use Rattle.rules.specs.Refusals.{number_refused}
use borrow.Author.Tests.{not-false}
use Rattle.base_numbers.specs.Quarters.{difference_of_four}
use Rattle.base_numbers.proofs.Scan.{any_at, any_never}
use Rattle.base_numbers.proofs.Finite.{finite_difference}

module _ (s : List Float) (quarter : ℕ) (none : any (λ k. number_refused (difference_of_four s quarter k)) quarter ≡ false) where
  -- the four numbers at a place
  abbrev Four : ℕ → Type 0
  Four k =
      (finite (at s k) ≡ true) × (finite (at s (quarter + k)) ≡ true) × (finite (at s (2 * quarter + k)) ≡ true)
      × (finite (at s (3 * quarter + k)) ≡ true)

  four_finite : (k : ℕ) → k < quarter → Four k
  four_finite k l =
      let whole = not-false _ (any_at (λ j. number_refused (difference_of_four s quarter j)) quarter none k l) in
      let both = finite_difference binary64 (at s k ⊖ at s (quarter + k)) (at s (2 * quarter + k) ⊖ at s (3 * quarter + k)) whole in
      let lower = finite_difference binary64 (at s k) (at s (quarter + k)) both.0 in
      let upper = finite_difference binary64 (at s (2 * quarter + k)) (at s (3 * quarter + k)) both.1 in
      (lower.0, lower.1, upper.0, upper.1)

  -- a number of the quarter that begins at `begin`
  behind : (begin k : ℕ) → begin ≤ k → finite (at s (begin + (k - begin))) ≡ true → finite (at s k) ≡ true
  behind begin k l = subst (λ (j : ℕ). finite (at s j) ≡ true) (let e : begin + (k - begin) ≡ k = omega arith in e)

  number_finite : (k : ℕ) → k < 4 * quarter → finite (at s k) ≡ true
  number_finite k l =
      elim (dec_le quarter k) [
        | no f ↦ (four_finite k (lt_of_not-le f)).0
        | yes second ↦ elim (dec_le (2 * quarter) k) [
          | no f ↦ behind quarter k second (four_finite (k - quarter) (let l : k < 2 * quarter = lt_of_not-le f in omega arith)).1
          | yes third ↦ elim (dec_le (3 * quarter) k) [
            | no f ↦ behind (2 * quarter) k third
                (four_finite (k - 2 * quarter) (let l : k < 3 * quarter = lt_of_not-le f in omega arith)).2
            | yes fourth ↦ behind (3 * quarter) k fourth (four_finite (k - 3 * quarter) (omega arith)).3
          ]
        ]
      ]

  pub quarters_finite : any (λ k. number_refused (at s k)) (4 * quarter) ≡ false
  quarters_finite = any_never (λ k. number_refused (at s k)) (4 * quarter) (λ k l. ap not (number_finite k l))
