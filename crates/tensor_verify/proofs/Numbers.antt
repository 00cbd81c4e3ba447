-- Numbers held against others: the count of those that differ, one number more at a time; where it is 0, none is the first.
use mathlib.Core.Path.{◌≡◌, refl, sym, ap, ap₂, ◌∙◌, subst}
use mathlib.Core.Logic.{⊎_elim}
use mathlib.Core.Bool.{Bool, true, false, cond}
use mathlib.Core.List.{List}
use Prim.Native.Nat.{ℕ, zero, suc, ◌+◌, ◌<◌, ◌≤◌}
use native.Mathlib.Nat.{eq-or-lt_of_le, le_of_suc-le-suc}
use native.Mathlib.Omega.{arith}
use native.Mathlib.Numerals.{add-one}
use lib.ListN.{length}
use lib.Ieee.{Float}
use lib.Ieee.Scale.{finite}
use borrow.Author.Tests.{not-false}
use Rattle.rules.specs.Numbers.{at}
use Rattle.rules.specs.Refusals.{number_refused}
use Rattle.rules.specs.Even.{first_that}
use Rattle.base_numbers.proofs.Scan.{any_at}
use Rattle.tensor_verify.specs.Verify.{count_that}
use Rattle.tensor_verify.specs.Compared.{Comparable}

module _ (test : ℕ → Bool) where
  pub count_none : 0 ≡ count_that test 0
  unfolding count_that
  count_none = refl

  count_next : (i : ℕ) → count_that test (i + 1) ≡ count_that test i + cond (test i) 1 0
  unfolding count_that
  count_next i = rw add-one

  -- one number more
  pub count_more : (i count one : ℕ) → count ≡ count_that test i → one ≡ cond (test i) 1 0 → count + one ≡ count_that test (i + 1)
  count_more i count one e f = ap₂ (λ (a b : ℕ). a + b) e f ∙ sym (count_next i)

  -- no more than there are
  pub count_most : (n : ℕ) → count_that test n ≤ n
  unfolding count_that
  count_most zero = omega arith
  count_most (suc n) = go (test n) (count_most n)
    where
      go : (b : Bool) → count_that test n ≤ n → count_that test n + cond b 1 0 ≤ suc n
      go true most = omega arith
      go false most = omega arith

  pub count_fits : (i count one : ℕ) → count ≡ count_that test i → one ≡ cond (test i) 1 0 → count + one ≤ i + 1
  count_fits i count one e f = subst (λ (k : ℕ). k ≤ i + 1) (sym (count_more i count one e f)) (count_most (i + 1))

  -- none is counted where the test holds of none ..
  pub none_counted : (n : ℕ) → ((i : ℕ) → i < n → test i ≡ false) → count_that test n ≡ 0
  unfolding count_that
  none_counted zero fails = refl
  none_counted (suc n) fails = rw (fails n (omega arith), none_counted n (λ i l. fails i (omega arith)))

  -- .. and there alone
  pub counted_none : (n : ℕ) → count_that test n ≡ 0 → (i : ℕ) → i < n → test i ≡ false
  unfolding count_that
  counted_none zero none i l = absurd (omega arith)
  counted_none (suc n) none i l = go (test n) refl none (λ before z. counted_none n z i before)
    where
      go : (b : Bool) → test n ≡ b → count_that test n + cond b 1 0 ≡ 0 → (i < n → count_that test n ≡ 0 → test i ≡ false) → test i ≡ false
      go true e z below = absurd (omega (arith, z))
      go false e z below =
          ⊎_elim (λ same. ap test same ∙ e) (λ before. below before (omega (arith, z))) (eq-or-lt_of_le (le_of_suc-le-suc l))

  -- .. and then none is the first
  pub none_first : (n : ℕ) → count_that test n ≡ 0 → first_that test n 0 ≡ 0
  unfolding first_that
  none_first n none = go n 0 (λ i l. counted_none n none i (omega (arith, l)))
    where
      go : (d k : ℕ) → ((i : ℕ) → i < k + d → test i ≡ false) → first_that test d k ≡ 0
      go zero k fails = refl
      go (suc d) k fails =
          ap (λ (t : Bool). elim t [ true ↦ k | false ↦ first_that test d (suc k) ]) (fails k (omega arith))
          ∙ go d (suc k) (λ i l. fails i (omega (arith, l)))

module _ (ours others : List Float) (given : Comparable ours others) where
  pub ours_finite : (i : ℕ) → i < length ours → finite (at ours i) ≡ true
  ours_finite i l = not-false _ (any_at (λ k. number_refused (at ours k)) (length ours) given.ours_finite i l)

  pub others_finite : (i : ℕ) → i < length ours → finite (at others i) ≡ true
  others_finite i l =
      not-false _ (any_at (λ k. number_refused (at others k)) (length others) given.others_finite i (omega (arith, given.same_length)))
