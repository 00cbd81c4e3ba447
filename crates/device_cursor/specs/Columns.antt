-- What judging a curve four cells at a time keeps: of each of a cell's four numbers, whether it is out of range in one of the cells so far.
use Rattle.std.specs.Prelude.{Bool, false, not, ◌||◌, List, ℕ, zero, suc, ◌+◌, ◌*◌, pos, negsuc}
use Rattle.device_cell.specs.DeviceCell.{in_range, value_in_range, slope_in_range}
use Rattle.device_cursor.specs.DeviceCurve.{number_at}

-- the number from a place on is out of a range of as many numbers below zero as from zero on, by the greatest in it
abbrev pub number_out : ℕ → List ℕ → ℕ → Bool
number_out most curve a = not (in_range (negsuc most) (pos most) (number_at curve a))

-- it is no value in range
abbrev pub value_out : List ℕ → ℕ → Bool
value_out curve a = not (value_in_range (number_at curve a))

-- and no slope
abbrev pub slope_out : List ℕ → ℕ → Bool
slope_out curve a = not (slope_in_range (number_at curve a))

-- one of four numbers is, each in the cell after the one before
abbrev pub one_of_four_out : (ℕ → Bool) → ℕ → Bool
one_of_four_out out a = out a || out (a + 16) || out (a + 32) || out (a + 48)

-- one of the numbers so many bytes from the start of each of the first n cells is
unfoldable pub column_out : (ℕ → Bool) → ℕ → ℕ → Bool
column_out out from zero = false
column_out out from (suc n) = column_out out from n || out (16 * n + from)
