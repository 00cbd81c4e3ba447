-- What the functions of the device need from each other: the weights of a cell's numbers, and that every number on the way fits.
use Rattle.std.specs.Prelude.{ℕ, ◌-◌, ◌*◌, ℤ, pos, ◌+ℤ◌, ◌-ℤ◌, ◌*ℤ◌}
use Rattle.std.specs.Int.{w64}
use Rattle.std.proofs.Common.{SFits}
use Rattle.device_cell.specs.declared.Weights.{Weights}

-- the weights as naturals, for a position of at most 256; that of d1 is taken away
abbrev pub weight_p1 : ℕ → ℕ
weight_p1 k = k * k * (768 - 2 * k)

abbrev pub weight_p0 : ℕ → ℕ
weight_p0 k = 16777216 - weight_p1 k

abbrev pub weight_d0 : ℕ → ℕ
weight_d0 k = k * (256 - k) * (256 - k)

abbrev pub weight_d1 : ℕ → ℕ
weight_d1 k = k * k * (256 - k)

abbrev pub weights_at : ℕ → Weights
weights_at k = record { p0 = pos (weight_p0 k); p1 = pos (weight_p1 k); d0 = pos (weight_d0 k); d1 = pos (weight_d1 k) }

abbrev pub weighted : Weights → ℤ → ℤ → ℤ → ℤ → ℤ
weighted w p0 p1 d0 d1 = w.p0 *ℤ p0 +ℤ w.d0 *ℤ d0 +ℤ w.p1 *ℤ p1 -ℤ w.d1 *ℤ d1

-- every number on the way to the sum fits 64 bits
pub record Room (w : Weights) (p0 p1 d0 d1 : ℤ) : Type 0 where
  pub of_p0 : SFits w64 (w.p0 *ℤ p0)
  pub of_d0 : SFits w64 (w.d0 *ℤ d0)
  pub of_p1 : SFits w64 (w.p1 *ℤ p1)
  pub of_d1 : SFits w64 (w.d1 *ℤ d1)
  pub of_two : SFits w64 (w.p0 *ℤ p0 +ℤ w.d0 *ℤ d0)
  pub of_three : SFits w64 (w.p0 *ℤ p0 +ℤ w.d0 *ℤ d0 +ℤ w.p1 *ℤ p1)
  pub of_all : SFits w64 (weighted w p0 p1 d0 d1)
