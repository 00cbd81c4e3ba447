-- How far a fraction rounded to a format lies from the fraction, in units: a share of it where digits are dropped, else half a unit; and
-- whole units are exact.
use mathlib.Core.Path.{◌≡◌, sym, ap, ◌∙◌, subst}
use Prim.Native.Nat.{ℕ, ◌+◌, ◌-◌, ◌*◌, ◌/◌, ◌^◌, ◌≤◌, ◌<◌}
use native.Mathlib.Nat.{le_trans, le_of_eq, mul_comm, mul_assoc, mul-le-mul_right, mul-pos, le_of_mul-le-mul_right, le-div_iff_mul-le}
use native.Mathlib.Omega.{arith}
use native.Mathlib.Decide.{dec_lt}
use lib.Pow.{pow-add, pow_pos}
use lib.Ieee.Digits.{size_reaches}
use lib.Ieee.Nearest.{closest}
use lib.Ieee.Order.{drop, kept}
use Rattle.base_floats.proofs.Near.{Half, closest_near}

-- x and y are no further apart than e
pub record Apart (x y e : ℕ) : Type 0 where
  pub under : x ≤ y + e
  pub above : y ≤ x + e

-- a whole number of units u to the nearest is half a unit off at most
closest_apart : (n u : ℕ) → 0 < u → Apart (2 * (closest n u * u)) (2 * n) u
closest_apart n u h = let near : Half (closest n u * u) n u = closest_near n u h in record { under = near.over; above = near.under }

-- where digits are dropped, the fraction is 2 ^ (p - 1) of what is counted in, or more
full : (p n c : ℕ) → 0 < p → 0 < c → 0 < drop p n c → c * 2 ^ drop p n c * 2 ^ (p - 1) ≤ n
full p n c P C K =
    let k = drop p n c in
    let a : 2 ^ (p - 1 + k) ≤ n / c = size_reaches (n / c) (p - 1 + k) (omega arith) in
    le_trans (le_of_eq
    (mul_assoc c (2 ^ k) (2 ^ (p - 1)) ∙ mul_comm c (2 ^ k * 2 ^ (p - 1)) ∙ ap (λ z. z * c)
    (mul_comm (2 ^ k) (2 ^ (p - 1)) ∙ sym (pow-add 2 (p - 1) k)))) ((le-div_iff_mul-le C).0 a)

-- the rounded units of a / c, and its units: n is a in units
module _ (p n c : ℕ) (P : 0 < p) (C : 0 < c) where
  abbrev units : ℕ
  units = kept p n c * 2 ^ drop p n c

  abbrev half : ℕ
  half = 2 ^ (p - 1)

  in_steps : Apart (2 * (units * c)) (2 * n) (c * 2 ^ drop p n c)
  in_steps =
      subst (λ z. Apart (2 * z) (2 * n) (c * 2 ^ drop p n c))
      (ap (λ z. kept p n c * z) (mul_comm c (2 ^ drop p n c)) ∙ sym (mul_assoc (kept p n c) (2 ^ drop p n c) c))
      (closest_apart n (c * 2 ^ drop p n c) (mul-pos C (pow_pos (drop p n c))))

  -- in the normal range the error is a share of the fraction
  pub normal_apart : 0 < drop p n c → Apart (2 * half * (units * c)) (2 * half * n) n
  normal_apart K = go (c * 2 ^ drop p n c) (units * c) half in_steps (full p n c P C K)
    where
      go : (u g H : ℕ) → Apart (2 * g) (2 * n) u → u * H ≤ n → Apart (2 * H * g) (2 * H * n) n
      go u g H a b = record { under = omega (arith, mul-le-mul_right H a.under); above = omega (arith, mul-le-mul_right H a.above) }

  -- below it, half a unit
  pub low_apart : drop p n c ≡ 0 → Apart (2 * half * (units * c)) (2 * half * n) (half * c)
  low_apart K = go (units * c) half (subst (λ k. Apart (2 * (units * c)) (2 * n) (c * 2 ^ k)) K in_steps)
    where
      go : (g H : ℕ) → Apart (2 * g) (2 * n) (c * 1) → Apart (2 * H * g) (2 * H * n) (H * c)
      go g H a = record { under = omega (arith, mul-le-mul_right H a.under); above = omega (arith, mul-le-mul_right H a.above) }

  pub any_apart : Apart (2 * half * (units * c)) (2 * half * n) (n + half * c)
  any_apart = go (dec_lt 0 (drop p n c))
    where
      wider : (x y e d : ℕ) → e ≤ d → Apart x y e → Apart x y d
      wider x y e d h a = record { under = omega (arith, a.under); above = omega (arith, a.above) }

      go : Dec (0 < drop p n c) → Apart (2 * half * (units * c)) (2 * half * n) (n + half * c)
      go (yes h) = wider _ _ n (n + half * c) (omega arith) (normal_apart h)
      go (no h) = wider _ _ (half * c) (n + half * c) (omega arith) (low_apart (omega arith))

  -- a whole number of units is a share off at most, and none below the normal range
  pub whole_apart : (N : ℕ) → n ≡ N * c → Apart (2 * half * (units * c)) (2 * half * n) n
  whole_apart N e = go (dec_lt 0 (drop p n c))
    where
      down : (g m : ℕ) → 2 * (g * c) ≤ 2 * (m * c) + c → g ≤ m
      down g m h = let z : 2 * g ≤ 2 * m + 1 = le_of_mul-le-mul_right (omega arith) C in omega arith

      exact : (g H : ℕ) → Apart (2 * (g * c)) (2 * n) (c * 1) → Apart (2 * H * (g * c)) (2 * H * n) n
      exact g H a =
          let f : 2 * (g * c) ≤ 2 * (N * c) + c = omega (arith, a.under) in
          let b : 2 * (N * c) ≤ 2 * (g * c) + c = omega (arith, a.above) in
          let i : g ≤ N = down g N f in
          let j : N ≤ g = down N g b in
          let k : g ≡ N = omega arith in
          let l : g * c ≡ n = ap (λ z. z * c) k ∙ sym e in
          rw l (record { under = omega arith; above = omega arith })

      go : Dec (0 < drop p n c) → Apart (2 * half * (units * c)) (2 * half * n) n
      go (yes h) = normal_apart h
      go (no h) =
          let K : drop p n c ≡ 0 = omega arith in
          exact units half (subst (λ k. Apart (2 * (units * c)) (2 * n) (c * 2 ^ k)) K in_steps)
