-- What the class of a number tells: whether it is a refusal, of any number and of one that is of the class Reading if it is a refusal.
use mathlib.Core.Path.{◌≡◌, refl, sym, ◌∙◌}
use mathlib.Core.Logic.{◌⊎◌, inl, inr}
use mathlib.Core.Bool.{Bool, true, false, cond, true≢false, false≢true}
use Prim.Native.Nat.{ℕ, zero, suc}
use native.Mathlib.Omega.{arith}
use lib.Dec.{eqb}
use borrow.Author.Tests.{eqb-true, eqb-false, ne_eqb}
use Rattle.std.specs.Prelude.{Result, Ok, Err, IsErr}
use Rattle.rules.specs.Answers.{refusal_of}
use Rattle.rules.specs.declared.Refusal.{Refusal}
use Rattle.grid_codes.specs.Classes.{of_reading, of_building, of_writing, class, built, unread}
use Rattle.grid_codes.specs.declared.classes.Class.{Class}
use Rattle.grid_codes.specs.declared.classes.Class.TheVariants.{None, Reading, Building, Writing, Unknown}

-- a number, where it is a refusal, is of a class
abbrev pub Of : Class → ℕ → Type 0
Of c number = (number ≡ 0 → ⊥) → class number ≡ c

pub no_fault : {c : Class} → Of c 0
no_fault met = absurd (met refl)

-- ---- a class that a match leaves

-- the tags that the other four have
pub one_of_four : {A B C D X : Type 0} → A ⊎ (B ⊎ (C ⊎ D)) → (A → X) → (B → X) → (C → X) → (D → X) → X
one_of_four (inl x) a b c d = a x
one_of_four (inr (inl x)) a b c d = b x
one_of_four (inr (inr (inl x))) a b c d = c x
one_of_four (inr (inr (inr x))) a b c d = d x

pub other_than_none : (given : Class) → (given ≡ None → ⊥) → false ≡ built given
other_than_none None other = absurd (other refl)
other_than_none Reading other = refl
other_than_none Building other = refl
other_than_none Writing other = refl
other_than_none Unknown other = refl

pub other_than_reading : (given : Class) → (given ≡ Reading → ⊥) → false ≡ unread given
other_than_reading None other = refl
other_than_reading Reading other = absurd (other refl)
other_than_reading Building other = refl
other_than_reading Writing other = refl
other_than_reading Unknown other = refl

-- ---- none

-- 0 alone is of the class None
not_built : (reading building writing : Bool) → built (cond reading Reading (cond building Building (cond writing Writing Unknown))) ≡ false
not_built true building writing = refl
not_built false true writing = refl
not_built false false true = refl
not_built false false false = refl

built_is : (refusal : ℕ) → built (class refusal) ≡ eqb refusal 0
unfolding class
built_is zero = refl
built_is (suc refusal) =
    rw (ne_eqb (suc refusal) 0 (λ z. omega arith))
    (not_built (of_reading (suc refusal)) (of_building (suc refusal)) (of_writing (suc refusal)))

module _ (refusal : ℕ) where
  pub built_none : built (class refusal) ≡ true → refusal ≡ 0
  built_none told = eqb-true refusal 0 (sym (built_is refusal) ∙ told)

  pub unbuilt_met : built (class refusal) ≡ false → refusal ≡ 0 → ⊥
  unbuilt_met told = eqb-false refusal 0 (sym (built_is refusal) ∙ told)

  -- ---- a sheet that was not read

  pub unread_met : unread (class refusal) ≡ true → refusal ≡ 0 → ⊥
  unfolding class
  unread_met told z = false≢true (rw z at told)

  pub read_none : {fault : ℕ} → refusal ≡ fault → Of Reading fault → unread (class refusal) ≡ false → refusal ≡ 0
  read_none {fault} is of told = go refusal refl
    where
      go : (number : ℕ) → refusal ≡ number → refusal ≡ 0
      go zero e = e
      go (suc number) e = absurd (true≢false (rw (is, of (λ z. omega (arith, e, is, z))) at told))

-- ---- what has such a number

-- the number of a refusal is that of an Err
pub err_met : {T : Type 0} (given : Result T Refusal) {number : ℕ} → number ≡ refusal_of given → (number ≡ 0 → ⊥) → IsErr given
err_met (Ok value) is met = absurd (met is)
err_met (Err refusal) is met = refl
