-- Cells by hand: a half on either side of zero, the farthest reach on either side, and the two refusals in their order.
use mathlib.Core.Path.{◌≡◌, refl}
use lib.IntN.{ℤ, pos, negsuc}
use Rattle.device_cell.specs.DeviceCell.{exact, nearest, cell_in_range, cell_refusal, CellAnswer, cell_answer}

abbrev at : ℤ → ℤ → ℤ → ℤ → ℤ → CellAnswer
at p0 p1 d0 d1 k = cell_answer (record { p0 = p0; p1 = p1; d0 = d0; d1 = d1 }) k

pub record Shown : Type 0 where
  pub half_above : at (pos 0) (pos 1) (pos 0) (pos 0) (pos 128) ≡ record { refusal = 0; value = pos 1 }
  pub half_below : at (pos 0) (negsuc 0) (pos 0) (pos 0) (pos 128) ≡ record { refusal = 0; value = negsuc 0 }
  pub farthest_above : at (pos 32767) (pos 32767) (pos 131071) (negsuc 131071) (pos 128) ≡ record { refusal = 0; value = pos 65535 }
  pub farthest_below : at (negsuc 32767) (negsuc 32767) (negsuc 131071) (pos 131071) (pos 128)
      ≡ record { refusal = 0; value = negsuc 65535 }
  pub lowest_value : at (negsuc 32767) (pos 0) (pos 0) (pos 0) (pos 0) ≡ record { refusal = 0; value = negsuc 32767 }
  pub value_too_high : at (pos 32768) (pos 0) (pos 0) (pos 0) (pos 257) ≡ record { refusal = 19; value = pos 0 }
  pub slope_too_low : at (pos 0) (pos 0) (pos 0) (negsuc 131072) (pos 0) ≡ record { refusal = 19; value = pos 0 }
  pub position_too_high : at (pos 32767) (pos 0) (pos 0) (pos 0) (pos 257) ≡ record { refusal = 20; value = pos 0 }
  pub position_below_zero : at (pos 0) (pos 0) (pos 0) (pos 0) (negsuc 0) ≡ record { refusal = 20; value = pos 0 }

pub shown : Shown
unfolding exact nearest cell_in_range cell_refusal cell_answer
shown = record {
  half_above = refl;
  half_below = refl;
  farthest_above = refl;
  farthest_below = refl;
  lowest_value = refl;
  value_too_high = refl;
  slope_too_low = refl;
  position_too_high = refl;
  position_below_zero = refl;
}
