-- As many samples as a tensor has numbers for each mask.
use mathlib.Core.Path.{◌≡◌, ap, ◌∙◌}
use Prim.Native.Nat.{ℕ, ◌*◌, ◌/◌, ◌^◌}
use native.Mathlib.Nat.{mul-div_cancel}
use lib.Pow.{pow_pos}

pub samples_told : (axes places : ℕ) {numbers : ℕ} → numbers ≡ places * 2 ^ axes → numbers / 2 ^ axes ≡ places
samples_told axes places e = ap (λ (k : ℕ). k / 2 ^ axes) e ∙ mul-div_cancel places (pow_pos axes)
