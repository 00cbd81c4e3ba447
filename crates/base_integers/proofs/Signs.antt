-- Signs: of products, of magnitudes, and a number taken apart by its sign.
use mathlib.Core.Path.{◌≡◌, refl}
use mathlib.Core.Bool.{true, false}
use Prim.Native.Nat.{ℕ, zero, suc, ◌-◌}
use native.Mathlib.Omega.{arith}
use lib.IntN.{ℤ, pos, negsuc, neg_ℤ, nat_abs, ◌-ℤ◌, ◌*ℤ◌, *ℤ-zero, *ℤ_comm, *ℤ-negsuc, neg_ℤ-neg_ℤ}
use lib.Signed.{lt_z}
use borrow.Author.Tests.{ltb-true, le-ltb}

pub times_neg : (m z : ℤ) → m *ℤ neg_ℤ z ≡ neg_ℤ (m *ℤ z)
times_neg m (pos zero) = rw (*ℤ-zero m)
times_neg m (pos (suc n)) = *ℤ-negsuc m n
times_neg m (negsuc n) = rw (*ℤ-negsuc m n, neg_ℤ-neg_ℤ (m *ℤ pos (suc n)))

pub neg_times : (m z : ℤ) → neg_ℤ m *ℤ z ≡ neg_ℤ (m *ℤ z)
neg_times m z = rw (*ℤ_comm (neg_ℤ m) z, times_neg z m, *ℤ_comm z m)

pub abs_neg : (z : ℤ) → nat_abs (neg_ℤ z) ≡ nat_abs z
abs_neg (pos zero) = refl
abs_neg (pos (suc n)) = refl
abs_neg (negsuc n) = refl

-- a number below zero, and one that is not
pub record Below (z : ℤ) : Type 0 where
  pub n : ℕ
  pub is : z ≡ negsuc n

pub record Above (z : ℤ) : Type 0 where
  pub n : ℕ
  pub is : z ≡ pos n

pub below : (z : ℤ) → lt_z z (pos 0) ≡ true → Below z
below (pos n) t = let h = ltb-true n 0 t in (let z : ⊥ = omega arith in absurd z)
below (negsuc n) t = record { n = n; is = refl }

pub above : (z : ℤ) → lt_z z (pos 0) ≡ false → Above z
above (pos n) t = record { n = n; is = refl }
above (negsuc n) t = let z : ◌≡◌ {A = ℕ} 0 1 = cc in (let y : ⊥ = omega arith in absurd y)

-- minus one less a number below zero
pub back : (n : ℕ) → negsuc 0 -ℤ negsuc n ≡ pos n
back n = let e : suc n - 1 ≡ n = omega arith in rw (le-ltb (suc n) 1 (omega arith), e)
