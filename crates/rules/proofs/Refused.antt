-- What follows where a refusal is met, and where none is.
use mathlib.Core.Path.{◌≡◌, refl, ap₂}
use mathlib.Core.Bool.{Bool, ◌||◌}
use mathlib.Core.List.{List}
use Prim.Native.Nat.{ℕ, zero, suc, ◌<◌, ◌≤◌}
use native.Mathlib.Omega.{arith}
use Rattle.rules.specs.Numbers.{any}
use Rattle.rules.specs.Calls.{or_else, stored, counted}

pub or_else_met : (first later : ℕ) → (first ≡ 0 → ⊥) → or_else first later ≡ first
or_else_met zero later met = absurd (met refl)
or_else_met (suc first) later met = refl

pub or_else_passed : (first later : ℕ) → or_else first later ≡ 0 → (first ≡ 0) × (later ≡ 0)
or_else_passed zero later e = (refl, e)
or_else_passed (suc first) later e = absurd (omega (arith, e))

-- an output after a refusal is what it was
pub unchanged : {A : Type 0} (refusal : ℕ) (old new : List A) → (refusal ≡ 0 → ⊥) → old ≡ stored refusal old new
unchanged zero old new met = absurd (met refl)
unchanged (suc refusal) old new met = refl

-- two tests that agree at each index find alike
pub any_ext : (test other : ℕ → Bool) (n : ℕ) → ((i : ℕ) → i < n → test i ≡ other i) → any test n ≡ any other n
unfolding any
any_ext test other zero same = refl
any_ext test other (suc n) same =
    ap₂ (λ (a b : Bool). a || b) (any_ext test other n (λ i l. same i (omega arith))) (same n (omega arith))

-- a refused call counts nothing
pub none_counted : (refusal count : ℕ) → (refusal ≡ 0 → ⊥) → 0 ≡ counted refusal count
none_counted zero count met = absurd (met refl)
none_counted (suc refusal) count met = refl

-- what is counted is no more than the count
pub counted_most : (refusal : ℕ) {count most : ℕ} → count ≤ most → counted refusal count ≤ most
counted_most zero h = h
counted_most (suc refusal) h = omega arith
