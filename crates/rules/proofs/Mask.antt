-- Masks: which axes lie in a mask below 2^i, and in that mask with axis i put in.
use mathlib.Core.Path.{◌≡◌, ap, ◌∙◌}
use mathlib.Core.Bool.{true, false}
use Prim.Native.Nat.{ℕ, suc, ◌+◌, ◌-◌, ◌*◌, ◌/◌, ◌^◌, ◌<◌, ◌≤◌}
use native.Mathlib.Omega.{arith}
use native.Mathlib.Nat.{div-eq_of_lt, add-div_right, add-mul-div_right, add-mul-mod_self_right, pow-suc}
use lib.Pow.{pow_pos, pow_mono, pow-add}
use Rattle.rules.specs.Sizes.{in_mask}

-- axis i lies in a mask of the axes below i with axis i put in
pub in_mask_top : (i m : ℕ) → m < 2 ^ i → in_mask (m + 2 ^ i) i ≡ true
unfolding in_mask
in_mask_top i m h = rw (add-div_right m (pow_pos i), div-eq_of_lt h)

-- putting axis i into a mask leaves the axes below i as they were
pub in_mask_below : (i m j : ℕ) → j < i → in_mask (m + 2 ^ i) j ≡ in_mask m j
unfolding in_mask
in_mask_below i m j h =
    let rest : ℕ = i - suc j in
    let grown : 2 ^ i ≡ 2 ^ rest * 2 * 2 ^ j =
    ap (λ (k : ℕ). 2 ^ k) (let e : i ≡ suc rest + j = omega arith in e) ∙ rw (pow-add, pow-suc) in
    rw (grown, add-mul-div_right m (2 ^ rest * 2) (pow_pos j), add-mul-mod_self_right (m / 2 ^ j) (2 ^ rest) 2)

-- a mask below 2^i holds no axis from i on
pub in_mask_above : (i m j : ℕ) → m < 2 ^ i → i ≤ j → in_mask m j ≡ false
unfolding in_mask
in_mask_above i m j h le = rw (div-eq_of_lt {n = m} {m = 2 ^ j} (omega (arith, pow_mono le)))
