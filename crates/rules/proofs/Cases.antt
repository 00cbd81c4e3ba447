-- A test's two arms, and what holds of both; tests that hold or fail together; a number that is 0 or more.
use mathlib.Core.Path.{◌≡◌, refl}
use mathlib.Core.Bool.{Bool, true, false, cond, ◌&&◌, ◌||◌}
use mathlib.Core.Logic.{◌⊎◌, inl, inr}
use Prim.Native.Nat.{ℕ, zero, suc, ◌<◌}
use native.Mathlib.Omega.{arith}
use Rattle.rules.specs.Numbers.{any}

abbrev pub arms : {A : Type 0} → Bool → A → A → A
arms b x y = elim b [ true ↦ x | false ↦ y ]

-- two pairs of arms that are equal where each is taken
pub arms_ext : {A : Type 0} (b : Bool) {x x' y y' : A} → (b ≡ true → x ≡ x') → (b ≡ false → y ≡ y') → arms b x y ≡ arms b x' y'
arms_ext true first second = first refl
arms_ext false first second = second refl

-- arms that both equal one thing where they are taken
pub arms_one : {A : Type 0} (b : Bool) {x y z : A} → (b ≡ true → x ≡ z) → (b ≡ false → y ≡ z) → arms b x y ≡ z
arms_one true first second = first refl
arms_one false first second = second refl

-- no test is true and false
pub not_both : {A : Type 0} (b : Bool) → b ≡ true → b ≡ false → A
not_both b holds fails = absurd (let z : ◌≡◌ {A = ℕ} 0 1 = cc in omega arith)

-- a test that fails at each index below n is met at none
pub any_never : (test : ℕ → Bool) (n : ℕ) → ((i : ℕ) → i < n → test i ≡ false) → any test n ≡ false
unfolding any
any_never test zero fails = refl
any_never test (suc n) fails = rw (any_never test n (λ i l. fails i (omega arith)), fails n (omega arith)) refl

-- the first of two tests that both hold
pub both_left : (a b : Bool) → a && b ≡ true → a ≡ true
both_left true b e = refl
both_left false b e = e

-- two tests that fail
pub neither_of : {a b : Bool} → a ≡ false → b ≡ false → (a || b) ≡ false
neither_of e f = rw (e, f)

-- a refusal that was passed, and what is left to be met
pub passed : (test : Bool) (number later : ℕ) → cond test (suc number) later ≡ 0 → (test ≡ false) × (later ≡ 0)
passed true number later e = absurd (omega (arith, e))
passed false number later e = (refl, e)

-- a number is 0 or more
pub zero_or_more : (k : ℕ) → (k ≡ 0) ⊎ (0 < k)
zero_or_more zero = inl refl
zero_or_more (suc k) = inr (omega arith)
