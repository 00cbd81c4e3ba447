-- The chapter DeviceCurve of docs/RULES.md: a curve of cells as bytes, its numbers in the program's order, and the public cursor that walks
-- them.
use Rattle.std.specs.Prelude.{◌≡◌, Bool, true, ◌&&◌, cond, Result, Ok, Err, List, [], ◌∷◌, ◌++◌, ℕ, zero, suc, ◌+◌, ◌-◌, ◌*◌, ◌/◌, ◌%◌, eqb, leb, ltb, ℤ, pos, ◌-ℤ◌, length, get_or}
use Rattle.device_cell.specs.DeviceCell.{cell_number, cell_in_range, number_of, valued}
use Rattle.device_cell.specs.declared.Cell.{Cell}
use Rattle.device_cell.specs.declared.Refusal.{Refusal}
use Rattle.device_cursor.specs.declared.Cursor.{Cursor}

-- ---- the cells

-- the four bytes from a place on, the lowest first
unfoldable pub four_bytes : List ℕ → ℕ → ℕ
four_bytes curve a = get_or curve a 0 + 256 * get_or curve (a + 1) 0 + 65536 * get_or curve (a + 2) 0 + 16777216 * get_or curve (a + 3) 0

-- 32 bits as a number with a sign
unfoldable pub signed : ℕ → ℤ
signed n = cond (ltb n 2147483648) (pos n) (pos n -ℤ pos 4294967296)

-- the number from a place on
abbrev pub number_at : List ℕ → ℕ → ℤ
number_at curve a = signed (four_bytes curve a)

-- cell i: p0, p1, d0, d1
abbrev pub cell_at : List ℕ → ℕ → Cell
cell_at curve i = record {
  p0 = number_at curve (16 * i);
  p1 = number_at curve (16 * i + 4);
  d0 = number_at curve (16 * i + 8);
  d1 = number_at curve (16 * i + 12);
}

-- how many cells there are
abbrev pub cells : List ℕ → ℕ
cells curve = length curve / 16

-- ---- the refusals of a curve

-- so many bytes are 1 to 255 whole cells
unfoldable pub whole_cells : ℕ → Bool
whole_cells n = eqb (n % 16) 0 && (leb 16 n && leb n 4080)

-- the numbers of the first n cells are in range
unfoldable pub all_in_range : List ℕ → ℕ → Bool
all_in_range curve zero = true
all_in_range curve (suc n) = all_in_range curve n && cell_in_range (cell_at curve n)

-- 20: the bytes are not 1 to 255 whole cells; then 19: a value or a slope is out of range anywhere
unfoldable pub curve_refusal : List ℕ → ℕ
curve_refusal curve = cond (whole_cells (length curve)) (cond (all_in_range curve (cells curve)) 0 19) 20

-- ---- the program's numbers

-- a cell at the positions below k
unfoldable pub numbers_below : Cell → ℕ → List ℤ
numbers_below c zero = []
numbers_below c (suc k) = numbers_below c k ++ (cell_number c k ∷ [])

-- the first n cells, each at the positions 0 to 255
unfoldable pub numbers_of_cells : List ℕ → ℕ → List ℤ
numbers_of_cells curve zero = []
numbers_of_cells curve (suc n) = numbers_of_cells curve n ++ numbers_below (cell_at curve n) 256

-- the last cell at 256
abbrev pub last_number : List ℕ → ℤ
last_number curve = cell_number (cell_at curve (cells curve - 1)) 256

-- all numbers in order: each cell at 0 to 255, and the last at 256
unfoldable pub curve_numbers : List ℕ → List ℤ
curve_numbers curve = numbers_of_cells curve (cells curve) ++ (last_number curve ∷ [])

-- ---- the cursor

-- the last cursor that has a number
abbrev pub last_cursor : List ℕ → ℕ
last_cursor curve = 256 * cells curve

-- the number at a cursor: below the last one cell n / 256 at n mod 256
unfoldable pub cursor_number : List ℕ → ℕ → ℤ
cursor_number curve n = cond (ltb n (last_cursor curve)) (cell_number (cell_at curve (n / 256)) (n % 256)) (last_number curve)

-- a refusal, or what comes later where it is 0
abbrev pub refused_first : ℕ → ℕ → ℕ
refused_first zero later = later
refused_first (suc refusal) later = suc refusal

-- the curve's refusal, then 20 past the last cursor
unfoldable pub next_refusal : List ℕ → ℕ → ℕ
next_refusal curve n = refused_first (curve_refusal curve) (cond (ltb (last_cursor curve) n) 20 0)

-- the cursor at the start
abbrev pub start_cursor : Cursor
start_cursor = record { n = 0 }

-- one further, or after a refusal as it was
abbrev pub moved : ℕ → ℕ → ℕ
moved zero n = n + 1
moved (suc refusal) n = n

-- a step as C is told it: the number of the refusal, 0 for none; the value, 0 after a refusal; and the cursor after the step, or after a
-- refusal the one that was given
pub record NextAnswer : Type 0 where
  pub refusal : ℕ
  pub value : ℤ
  pub cursor : Cursor

abbrev pub next_told : Cursor → Result (ℤ × Cursor) Refusal → NextAnswer
next_told cursor (Ok (value, later)) = record { refusal = 0; value = value; cursor = later }
next_told cursor (Err refusal) = record { refusal = number_of refusal; value = pos 0; cursor = cursor }

-- the answer of `next`: the number at the cursor, and the cursor moved on
unfoldable pub next_answer : List ℕ → Cursor → NextAnswer
next_answer curve cursor = record {
  refusal = next_refusal curve cursor.n;
  value = valued (next_refusal curve cursor.n) (cursor_number curve cursor.n);
  cursor = record { n = moved (next_refusal curve cursor.n) cursor.n };
}

-- what `start` promises
pub record StartPromise (given : Cursor) : Type 0 where
  pub answer : given ≡ start_cursor

-- what `next` promises
pub record NextPromise (curve : List ℕ) (cursor : Cursor) (given : NextAnswer) : Type 0 where
  pub answer : given ≡ next_answer curve cursor
