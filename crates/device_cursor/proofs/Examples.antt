-- Curves by hand: numbers that begin with their lowest byte, a length that is refused before its numbers are, a number out of range, the
-- last cursor, and the one past it.
use mathlib.Core.Path.{◌≡◌, refl}
use mathlib.Core.List.{List, [], ◌∷◌}
use Prim.Native.Nat.{ℕ}
use lib.IntN.{ℤ, pos, negsuc}
use lib.ListN.{length}
use Rattle.device_cell.specs.DeviceCell.{exact, nearest, cell_in_range}
use Rattle.device_cursor.specs.DeviceCurve.{
  four_bytes,
  signed,
  whole_cells,
  all_in_range,
  curve_refusal,
  numbers_below,
  numbers_of_cells,
  curve_numbers,
  cursor_number,
  next_refusal,
  NextAnswer,
  next_answer,
}

-- p0 1, p1 −2, d0 256, d1 −131,072
abbrev one_cell : List ℕ
one_cell = 1 ∷ 0 ∷ 0 ∷ 0 ∷ 254 ∷ 255 ∷ 255 ∷ 255 ∷ 0 ∷ 1 ∷ 0 ∷ 0 ∷ 0 ∷ 0 ∷ 254 ∷ 255 ∷ []

-- 32,768 for p0, and no whole cell behind it
abbrev broken : List ℕ
broken = 0 ∷ 128 ∷ 0 ∷ 0 ∷ 254 ∷ 255 ∷ 255 ∷ 255 ∷ 0 ∷ 1 ∷ 0 ∷ 0 ∷ 0 ∷ 0 ∷ []

-- p0 32,768
abbrev out_of_range : List ℕ
out_of_range = 0 ∷ 128 ∷ 0 ∷ 0 ∷ 0 ∷ 0 ∷ 0 ∷ 0 ∷ 0 ∷ 0 ∷ 0 ∷ 0 ∷ 0 ∷ 0 ∷ 0 ∷ 0 ∷ []

abbrev answer : ℕ → ℤ → ℕ → NextAnswer
answer refusal value n = record { refusal = refusal; value = value; cursor = record { n = n } }

pub record Shown : Type 0 where
  pub first : next_answer one_cell (record { n = 0 }) ≡ answer 0 (pos 1) 1
  pub middle : next_answer one_cell (record { n = 128 }) ≡ answer 0 (pos 16416) 129
  pub last_but_one : next_answer one_cell (record { n = 255 }) ≡ answer 0 (pos 506) 256
  pub last : next_answer one_cell (record { n = 256 }) ≡ answer 0 (negsuc 1) 257
  pub past : next_answer one_cell (record { n = 257 }) ≡ answer 20 (pos 0) 257
  pub broken_length : next_answer broken (record { n = 0 }) ≡ answer 20 (pos 0) 0
  pub of_one_cell : length (curve_numbers one_cell) ≡ 257
  pub range_before_end : next_answer out_of_range (record { n = 257 }) ≡ answer 19 (pos 0) 257

pub shown : Shown
unfolding exact nearest cell_in_range four_bytes signed whole_cells all_in_range curve_refusal numbers_below numbers_of_cells curve_numbers
    cursor_number next_refusal next_answer
shown = record {
  first = refl;
  middle = refl;
  last_but_one = refl;
  last = refl;
  past = refl;
  broken_length = refl;
  of_one_cell = refl;
  range_before_end = refl;
}
