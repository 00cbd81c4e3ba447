-- The chapter DeviceCell of docs/RULES.md: one cell in whole numbers, and the public call `cell_value`.
use Rattle.std.specs.Prelude.{◌≡◌, Bool, ◌&&◌, cond, Result, Ok, Err, ℕ, zero, suc, ◌+◌, ◌*◌, ◌/◌, ◌^◌, ℤ, pos, negsuc, neg_ℤ, nat_abs, ◌+ℤ◌, ◌-ℤ◌, ◌*ℤ◌}
use Rattle.std.specs.Int.Signed.{le_z}
use Rattle.device_cell.specs.declared.Cell.{Cell}
use Rattle.device_cell.specs.declared.Refusal.{Refusal}
use Rattle.device_cell.specs.declared.Refusal.TheVariants.{Range, Position}

-- ---- the value

-- the exact value times 256³ at a position
unfoldable pub exact : Cell → ℕ → ℤ
exact c k =
    (pos (2 * k ^ 3) -ℤ pos (768 * k ^ 2) +ℤ pos (256 ^ 3)) *ℤ c.p0
    +ℤ (pos (k ^ 3) -ℤ pos (512 * k ^ 2) +ℤ pos (65536 * k)) *ℤ c.d0
    +ℤ (pos (768 * k ^ 2) -ℤ pos (2 * k ^ 3)) *ℤ c.p1
    +ℤ (pos (k ^ 3) -ℤ pos (256 * k ^ 2)) *ℤ c.d1

-- a number over 256³ to the nearest whole number, a half away from zero
unfoldable pub nearest : ℤ → ℤ
nearest (pos n) = pos ((n + 8388608) / 16777216)
nearest (negsuc n) = neg_ℤ (pos ((suc n + 8388608) / 16777216))

-- the number of a cell at a position
abbrev pub cell_number : Cell → ℕ → ℤ
cell_number c k = nearest (exact c k)

-- ---- the refusals

-- from one number to another, both of them too
abbrev pub in_range : ℤ → ℤ → ℤ → Bool
in_range low high z = le_z low z && le_z z high

-- a value lies in -32,768 .. 32,767
abbrev pub value_in_range : ℤ → Bool
value_in_range z = in_range (negsuc 32767) (pos 32767) z

-- a slope, which is scaled by the cell's width, in -131,072 .. 131,071
abbrev pub slope_in_range : ℤ → Bool
slope_in_range z = in_range (negsuc 131071) (pos 131071) z

-- all four numbers of a cell do
unfoldable pub cell_in_range : Cell → Bool
cell_in_range c = value_in_range c.p0 && (value_in_range c.p1 && (slope_in_range c.d0 && slope_in_range c.d1))

-- a position in 0 .. 256
abbrev pub position_in_range : ℤ → Bool
position_in_range k = in_range (pos 0) (pos 256) k

-- 19: a value or a slope is out of range; then 20: the position is
unfoldable pub cell_refusal : Cell → ℤ → ℕ
cell_refusal c k = cond (cell_in_range c) (cond (position_in_range k) 0 20) 19

-- ---- the answer, told in numbers as C is told it

-- the number of a refusal
abbrev pub number_of : Refusal → ℕ
number_of Range = 19
number_of Position = 20

-- the number of what a call of the device gives, 0 where it does not refuse
abbrev pub refusal_of : {T : Type 0} → Result T Refusal → ℕ
refusal_of (Ok given) = 0
refusal_of (Err refusal) = number_of refusal

-- the number of the refusal, 0 for none, and the value, 0 after a refusal
pub record CellAnswer : Type 0 where
  pub refusal : ℕ
  pub value : ℤ

abbrev pub cell_told : Result ℤ Refusal → CellAnswer
cell_told (Ok value) = record { refusal = 0; value = value }
cell_told (Err refusal) = record { refusal = number_of refusal; value = pos 0 }

-- ---- the call

-- a value in an answer: 0 after a refusal
abbrev pub valued : ℕ → ℤ → ℤ
valued zero value = value
valued (suc refusal) value = pos 0

-- its answer; a position that is not refused is its own magnitude
unfoldable pub cell_answer : Cell → ℤ → CellAnswer
cell_answer c k = record { refusal = cell_refusal c k; value = valued (cell_refusal c k) (cell_number c (nat_abs k)) }

-- what it promises
pub record CellPromise (p0 p1 d0 d1 k : ℤ) (given : CellAnswer) : Type 0 where
  pub answer : given ≡ cell_answer (record { p0 = p0; p1 = p1; d0 = d0; d1 = d1 }) k
