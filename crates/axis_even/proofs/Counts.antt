-- The arithmetic of even steps, in whole numbers: k steps near the first add up to nearly k of it, and their quotient by it lies within
-- one of k.
use Rattle.std.proofs.Common.{◌≡◌, ℕ, zero, suc, ◌+◌, ◌-◌, ◌*◌, ◌<◌, ◌≤◌, mul-le-mul_right, mul_assoc, mul_comm, add-mul, lt_of_mul-lt-mul_right, one-mul, mul_right_comm, le_of_mul-le-mul_right, arith}
use Rattle.base_floats.proofs.Near.{rounding, Close, Within}

-- 2 to the 18: steps that pass the tolerance differ from the first by less than such a part of it
abbrev pub evenness : ℕ
evenness = 262144

-- ---- a step of d units, rounded to s, and the first, H: their difference is rounded to a, which is at most the tolerance t

module _ (d s H a t : ℕ) (S : Close rounding s d) (h : a ≤ t) (T : t * 4398046511104 ≤ 2 * H) where
  pub step_above : H ≤ s → Close rounding a (s - H) → Close evenness d H
  step_above l A =
      let p = S.over in
      let q = S.under in
      let r = A.under in
      record { over = omega arith; under = omega arith }

  pub step_below : s ≤ H → Close rounding a (H - s) → Close evenness d H
  step_below l A =
      let p = S.over in
      let q = S.under in
      let r = A.under in
      record { over = omega arith; under = omega arith }

-- the first step itself
pub step_first : (d H : ℕ) → Close rounding H d → Close evenness d H
step_first d H S =
    let p = S.over in
    let q = S.under in
    record { over = omega arith; under = omega arith }

-- ---- from place 0 to place k

pub span :
    (P : ℕ → ℕ) (H k : ℕ) → ((i : ℕ) → i < k → P i ≤ P (i + 1)) → ((i : ℕ) → i < k → Close evenness (P (i + 1) - P i) H)
    → (P 0 ≤ P k) × Close evenness (P k - P 0) (k * H)
span P H zero rise B = (omega arith, record { over = omega arith; under = omega arith })
span P H (suc k) rise B =
    let before = span P H k (λ i l. rise i (omega arith)) (λ i l. B i (omega arith)) in
    let a : P 0 ≤ P k = before.0 in
    let b : P k ≤ P (k + 1) = rise k (omega arith) in
    let o = before.1.over in
    let u = before.1.under in
    let p = (B k (omega arith)).over in
    let q = (B k (omega arith)).under in
    let g : suc k * H ≡ k * H + H = omega arith in
    let e : k + 1 ≡ suc k = omega arith in
    (rw (← e) (omega arith), rw (g, ← e) (record { over = omega arith; under = omega arith }))

-- ---- the quotient: K stands for k H, and two letters for a product with L or H

upper_sum : (G E K H : ℕ) → Close rounding G E → Close evenness E K → K ≤ 255 * H → G * 512 ≤ K * 512 + H
upper_sum G E K H C B h = let p = C.over in let q = B.over in omega arith

lower_sum : (G E K H : ℕ) → Close rounding G E → Close evenness E K → K ≤ 255 * H → K * 512 ≤ G * 512 + H
lower_sum G E K H C B h = let p = C.under in let q = B.under in omega arith

upper_all :
    (QH GL KL HL H : ℕ) → GL * 512 ≤ KL * 512 + HL → QH * 1048576 ≤ GL * 1048577 + H * 1048576 → KL ≤ 255 * HL → 4 * H ≤ HL → 0 < H
    → QH < KL + HL
upper_all QH GL KL HL H a b c d h = omega arith

lower_all :
    (QH GL KL HL H : ℕ) → KL * 512 ≤ GL * 512 + HL → GL * 1048575 ≤ QH * 1048576 + H * 1048576 → KL ≤ 255 * HL → 4 * H ≤ HL → 0 < H
    → KL ≤ QH + HL
lower_all QH GL KL HL H a b c d h = omega arith

-- a sum of k steps of H units, rounded to G, over H: Q units of a format that has L to one
module _
    (Q G E H L k : ℕ) (few : k ≤ 255) (H_pos : 0 < H) (L_big : 4 ≤ L)
    (C : Close rounding G E) (B : Close evenness E (k * H)) (W : Within Q (G * L) H)
  where
    steps_few : k * H ≤ 255 * H
    steps_few = mul-le-mul_right H few

    all_few : k * H * L ≤ 255 * (H * L)
    all_few = rw (← mul_assoc 255 H L) (mul-le-mul_right L steps_few)

    unit_small : 4 * H ≤ H * L
    unit_small = rw (mul_comm H L) (mul-le-mul_right H L_big)

    pub quotient_below : Q < (k + 1) * L
    quotient_below =
        let s : G * L * 512 ≤ k * H * L * 512 + H * L =
        rw (mul_right_comm G 512 L, add-mul (k * H * 512) H L, mul_right_comm (k * H) 512 L) at
        (mul-le-mul_right L (upper_sum G E (k * H) H C B steps_few)) in
        let r : Q * H < k * H * L + H * L = upper_all (Q * H) (G * L) (k * H * L) (H * L) H s W.over all_few unit_small H_pos in
        lt_of_mul-lt-mul_right H (rw (add-mul k 1 L, add-mul (k * L) (1 * L) H, one-mul L, mul_right_comm k L H, mul_comm L H) r)

    pub quotient_above : k * L ≤ Q + L
    quotient_above =
        let s : k * H * L * 512 ≤ G * L * 512 + H * L =
        rw (mul_right_comm (k * H) 512 L, add-mul (G * 512) H L, mul_right_comm G 512 L) at
        (mul-le-mul_right L (lower_sum G E (k * H) H C B steps_few)) in
        let r : k * H * L ≤ Q * H + H * L = lower_all (Q * H) (G * L) (k * H * L) (H * L) H s W.under all_few unit_small H_pos in
        le_of_mul-le-mul_right (rw (mul_right_comm k L H, add-mul Q L H, mul_comm L H) r) H_pos
