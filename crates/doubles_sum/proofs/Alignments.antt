-- What stands for digits moved down, as sums and differences need it: by ten places or fewer nothing is lost, and by more what stands there
-- is small.
use mathlib.Core.Path.{◌≡◌, sym, ap, ◌∙◌}
use mathlib.Core.Logic.{◌⊎◌, inl, inr}
use Prim.Native.Nat.{ℕ, suc, ◌+◌, ◌-◌, ◌*◌, ◌^◌, ◌≤◌, ◌<◌}
use native.Mathlib.Nat.{le_trans, le_of_eq, lt_of_lt_of_le, mul-one, mul_assoc, suc-mul, mul-le-mul_left, lt_of_mul-lt-mul_right}
use native.Mathlib.Omega.{arith}
use lib.Pow.{pow-add, pow_pos, pow_mono}
use Rattle.doubles_patterns.specs.Patterns.{leading}
use Rattle.doubles_patterns.proofs.Sizes.{le_or_lt}
use Rattle.doubles_rounding.specs.Standing.{Near, StandsFor}
use Rattle.doubles_sum.specs.Aligned.{Aligned}

-- a multiple of v that lies less than v below another number's multiple
under : (r k v : ℕ) → r * v < k * v + v → r ≤ k
under r k v h =
    let l : r < suc k = lt_of_mul-lt-mul_right v (lt_of_lt_of_le h (le_of_eq (sym (suc-mul k v)))) in
    omega arith

module _ (n d r : ℕ) (short : n < 2 * leading) where
  least_power : n * 1024 ≤ n * 1024 * 2 ^ d
  least_power = le_trans (le_of_eq (sym (mul-one (n * 1024)))) (mul-le-mul_left (n * 1024) (pow_pos d))

  exact : r * 2 ^ d ≡ n * 1024 → Aligned n d r
  exact e = record {
    stands = inl e;
    most = le_trans (le_trans (le_of_eq (sym (mul-one r))) (mul-le-mul_left r (pow_pos d))) (le_of_eq e);
  }

  -- by ten places or fewer it is a whole number, and what is near to it is that number
  near_whole : Near r (n * 1024) (2 ^ d) → d ≤ 10 → r * 2 ^ d ≡ n * 1024
  near_whole near few =
      let v = 2 ^ d in
      let k = n * 2 ^ (10 - d) in
      let whole : n * 1024 ≡ k * v =
      ap (λ (x : ℕ). n * 2 ^ x) (sum d few) ∙ ap (λ (x : ℕ). n * x) (pow-add 2 (10 - d) d) ∙ sym (mul_assoc n (2 ^ (10 - d)) v) in
      let above = near.above in
      let below = near.below in
      let a : r ≤ k = under r k v (omega arith) in
      let b : k ≤ r = under k r v (omega arith) in
      let same : r ≡ k = omega arith in
      ap (λ (x : ℕ). x * v) same ∙ sym whole
    where
      sum : (d : ℕ) → d ≤ 10 → 10 ≡ 10 - d + d
      sum d h = omega arith

  lost : Near r (n * 1024) (2 ^ d) → 10 < d → Aligned n d r
  lost near far =
      let v = 2 ^ d in
      let deep : leading * 2048 ≤ leading * v = mul-le-mul_left leading (pow_mono {i = 11} {j = d} far) in
      let above = near.above in
      let least = least_power in
      record {
        stands = inr (record { near = near; far = far; small = under r leading v (omega arith) });
        most = under r (n * 1024) v (omega arith);
      }

  pub aligned : StandsFor r (n * 1024) (2 ^ d) → Aligned n d r
  aligned standing = go standing.stands (le_or_lt d 10)
    where
      go : (r * 2 ^ d ≡ n * 1024) ⊎ Near r (n * 1024) (2 ^ d) → (d ≤ 10) ⊎ (10 < d) → Aligned n d r
      go (inl e) places = exact e
      go (inr near) (inl few) = exact (near_whole near few)
      go (inr near) (inr far) = lost near far
