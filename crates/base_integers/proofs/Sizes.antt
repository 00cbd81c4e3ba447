-- How far sums, differences and products lie from zero, and that what lies near enough fits.
use mathlib.Core.Path.{◌≡◌, refl}
use mathlib.Core.Logic.{◌⊎◌, ⊎_elim, inl, inr}
use Prim.Native.Nat.{ℕ, zero, suc, ◌+◌, ◌-◌, ◌*◌, ◌^◌, ◌<◌, ◌≤◌}
use native.Mathlib.Nat.{mul-le-mul, lt_of_not-le}
use native.Mathlib.Decide.{dec_le}
use native.Mathlib.Omega.{arith}
use lib.IntN.{ℤ, pos, negsuc, neg_ℤ, nat_abs, ◌+ℤ◌, ◌-ℤ◌, ◌*ℤ◌}
use lib.Signed.{mag}
use mir.Syntax.{Width, w32, w64}
use mir.Val.{SFits, hbits}
use Rattle.base_integers.specs.Sized.{Sized}
use Rattle.base_integers.proofs.Differences.{less, less_above, less_below}
use Rattle.base_integers.proofs.Signs.{abs_neg, back}

pub abs_less : (a b : ℕ) → nat_abs (less a b) ≡ (a - b) + (b - a)
abs_less a b =
    ⊎_elim
    (λ h. rw (less_above a b h) (omega arith))
    (λ h. let l : a ≤ b = omega arith in rw (less_below a b l, abs_neg (pos (b - a))) (omega arith))
    (le_or_lt b a)
  where
    le_or_lt : (b a : ℕ) → (b ≤ a) ⊎ (a < b)
    le_or_lt b a = elim (dec_le b a) [ yes h ↦ inl h | no f ↦ inr (lt_of_not-le f) ]

abs_mul : (x y : ℤ) → nat_abs (x *ℤ y) ≡ nat_abs x * nat_abs y
abs_mul (pos a) (pos b) = refl
abs_mul (pos a) (negsuc b) = abs_neg (pos (a * suc b))
abs_mul (negsuc a) (pos b) = abs_neg (pos (suc a * b))
abs_mul (negsuc a) (negsuc b) = refl

abs_add : (x y : ℤ) → nat_abs (x +ℤ y) ≤ nat_abs x + nat_abs y
unfolding less
abs_add (pos a) (pos b) = omega arith
abs_add (pos a) (negsuc b) = let e : nat_abs (pos a +ℤ negsuc b) ≡ (a - suc b) + (suc b - a) = abs_less a (suc b) in omega arith
abs_add (negsuc a) (pos b) = let e : nat_abs (negsuc a +ℤ pos b) ≡ (b - suc a) + (suc a - b) = abs_less b (suc a) in omega arith
abs_add (negsuc a) (negsuc b) = omega arith

pub sized_pos : (n : ℕ) → Sized n (pos n)
sized_pos n = record { sized = omega arith }

pub sized_mul : {a b : ℕ} {x y : ℤ} → Sized a x → Sized b y → Sized (a * b) (x *ℤ y)
sized_mul {x = x} {y = y} p q = record { sized = rw (abs_mul x y) (mul-le-mul p.sized q.sized) }

pub sized_add : {a b : ℕ} {x y : ℤ} → Sized a x → Sized b y → Sized (a + b) (x +ℤ y)
sized_add {x = x} {y = y} p q = let e = abs_add x y in let f = p.sized in let g = q.sized in record { sized = omega arith }

pub sized_sub : {a b : ℕ} {x y : ℤ} → Sized a x → Sized b y → Sized (a + b) (x -ℤ y)
sized_sub {x = x} {y = y} p q = sized_add p (record { sized = rw (abs_neg y) q.sized })

pub sized_more : {a b : ℕ} {z : ℤ} → a ≤ b → Sized a z → Sized b z
sized_more h p = let f = p.sized in record { sized = omega arith }

mag_abs : (z : ℤ) → mag z ≤ nat_abs z
mag_abs (pos n) = omega arith
mag_abs (negsuc n) = omega arith

-- what lies nearer to zero than half the numbers of a width reach
pub sized_fits : (w : Width) {n : ℕ} {z : ℤ} → Sized n z → n < 2 ^ hbits w → SFits w z
sized_fits w {z = z} p h = let e = mag_abs z in let f = p.sized in record { sfits = omega arith }

pub neg_fits : (q : ℕ) → q < 9223372036854775808 → SFits w64 (neg_ℤ (pos q))
neg_fits zero h = record { sfits = h }
neg_fits (suc q) h = record { sfits = omega arith }

-- what fits 32 bits fits 64
pub wider : (z : ℤ) → SFits w32 z → SFits w64 z
wider z f = record { sfits = omega arith }

-- minus one less any number that fits
pub one_less_fits : (z : ℤ) → SFits w32 z → SFits w32 (negsuc 0 -ℤ z)
one_less_fits (pos zero) f = record { sfits = omega arith }
one_less_fits (pos (suc n)) f = let h = f.sfits in record { sfits = omega arith }
one_less_fits (negsuc n) f = rw (back n) (record { sfits = f.sfits })
