-- The laws of `any`: what a loop knows that looks for an index of which a test holds, and what is known where there is none.
use mathlib.Core.Path.{◌≡◌, refl, sym, subst}
use mathlib.Core.Bool.{Bool, true, false, ◌||◌}
use mathlib.Core.Logic.{⊎_elim}
use Prim.Native.Nat.{ℕ, zero, suc, ◌+◌, ◌<◌}
use native.Mathlib.Nat.{not-suc-le-zero, le_of_suc-le-suc, eq-or-lt_of_le}
use native.Mathlib.Numerals.{add-one}
use Rattle.rules.specs.Numbers.{any}
-- the test fails at each index: nothing is found
pub use Rattle.rules.proofs.Cases.{any_never}

-- ---- one test or the other

pub neither : (a b : Bool) → (a || b) ≡ false → (a ≡ false) × (b ≡ false)
neither true b e = (e, cc)
neither false b e = (refl, e)

none_of_two : (a b : Bool) → a ≡ false → b ≡ false → (a || b) ≡ false
none_of_two true b e f = e
none_of_two false b e f = f

first_of_two : (a b : Bool) → a ≡ true → (a || b) ≡ true
first_of_two true b e = refl
first_of_two false b e = cc

second_of_two : (a b : Bool) → b ≡ true → (a || b) ≡ true
second_of_two true b e = refl
second_of_two false b e = e

module _ (test : ℕ → Bool) where
  -- nothing has been looked at yet
  pub any_none : any test 0 ≡ false
  unfolding any
  any_none = refl

  -- one turn further, nothing found
  pub any_more : (i : ℕ) → any test i ≡ false → test i ≡ false → any test (i + 1) ≡ false
  unfolding any
  any_more i before here = rw add-one (none_of_two (any test i) (test i) before here)

  -- one turn further, what was found kept
  pub any_next : (i : ℕ) → any test (i + 1) ≡ (any test i || test i)
  unfolding any
  any_next i = rw add-one

  -- found at i
  pub any_found : (i n : ℕ) → i < n → test i ≡ true → any test n ≡ true
  unfolding any
  any_found i zero l here = absurd (not-suc-le-zero l)
  any_found i (suc n) l here =
      ⊎_elim (λ e. second_of_two (any test n) (test n) (subst (λ (k : ℕ). test k ≡ true) e here))
      (λ lt. first_of_two (any test n) (test n) (any_found i n lt here))
      (eq-or-lt_of_le (le_of_suc-le-suc l))

  -- the loop ends with nothing found
  pub any_end : (i n : ℕ) → any test i ≡ false → i ≡ n → any test n ≡ false
  any_end i n none e = subst (λ (k : ℕ). any test k ≡ false) e none

  -- nothing found: the test fails at each index
  pub any_at : (n : ℕ) → any test n ≡ false → (i : ℕ) → i < n → test i ≡ false
  unfolding any
  any_at zero none i l = absurd (not-suc-le-zero l)
  any_at (suc n) none i l =
      ⊎_elim (λ e. subst (λ (k : ℕ). test k ≡ false) (sym e) (neither (any test n) (test n) none).1)
      (λ lt. any_at n (neither (any test n) (test n) none).0 i lt)
      (eq-or-lt_of_le (le_of_suc-le-suc l))
