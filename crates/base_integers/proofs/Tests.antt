-- Tests of naturals: both of two, and one that is computed at every number up to a bound.
use mathlib.Core.Path.{◌≡◌, refl}
use mathlib.Core.Bool.{Bool, true, false, ◌&&◌}
use mathlib.Core.Logic.{⊎_elim}
use Prim.Native.Nat.{ℕ, zero, suc, ◌≤◌}
use native.Mathlib.Nat.{eq-or-lt_of_le, le_of_suc-le-suc}
use native.Mathlib.Omega.{arith}

pub both : (a b : Bool) → (a && b) ≡ true → (a ≡ true) × (b ≡ true)
both true b e = (refl, e)
both false b e = (e, let z : ◌≡◌ {A = Bool} false true = e in cc)

unfoldable pub up_to : (ℕ → Bool) → ℕ → Bool
up_to test zero = test zero
up_to test (suc n) = up_to test n && test (suc n)

pub each : (test : ℕ → Bool) (n : ℕ) → up_to test n ≡ true → (k : ℕ) → k ≤ n → test k ≡ true
unfolding up_to
each test zero e k h = let z : k ≡ 0 = omega arith in rw z e
each test (suc n) e k h =
    let now = both (up_to test n) (test (suc n)) e in
    ⊎_elim (λ q. rw q now.1) (λ l. each test n now.0 k (le_of_suc-le-suc l)) (eq-or-lt_of_le h)
