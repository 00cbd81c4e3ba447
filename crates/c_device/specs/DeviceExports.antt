-- The chapter DeviceExports of docs/RULES.md: the exported calls of the device, over whole numbers alone. Each has slots of one, and
-- another length of a slot is the host's own 4, with which nothing is written.
use Rattle.std.specs.Prelude.{◌≡◌, Bool, cond, not, ◌||◌, List, [], ◌∷◌, ℕ, eqb, ℤ, length, get_or}
use Rattle.device_cell.specs.DeviceCell.{CellAnswer, cell_answer}
use Rattle.device_cursor.specs.DeviceCurve.{NextAnswer, next_answer}

-- 4: a slot has another length than one
abbrev pub slot_refused : {A : Type 0} → List A → Bool
slot_refused lent = not (eqb (length lent) 1)

-- ---- one cell

module _ (p0 p1 d0 d1 k : ℤ) (value_lent : List ℤ) where
  -- the answer of `cell_value`
  abbrev pub exported_cell : CellAnswer
  exported_cell = cell_answer (record { p0 = p0; p1 = p1; d0 = d0; d1 = d1 }) k

  -- what is promised: the refusal, and the value in its slot, 0 after a refusal of the cell
  pub record CellExport (refusal : ℕ) (value_later : List ℤ) : Type 0 where
    pub answer : refusal ≡ cond (slot_refused value_lent) 4 exported_cell.refusal
    pub value : value_later ≡ cond (slot_refused value_lent) value_lent (exported_cell.value ∷ [])

-- ---- a step of the cursor

module _ (curve cursor_lent : List ℕ) (value_lent : List ℤ) where
  -- 4 for either slot
  abbrev pub next_slots_refused : Bool
  next_slots_refused = slot_refused cursor_lent || slot_refused value_lent

  -- the answer of `next` at the cursor that stands in its slot
  abbrev pub exported_next : NextAnswer
  exported_next = next_answer curve (record { n = get_or cursor_lent 0 0 })

  -- what is promised: the refusal, the cursor moved on or after a refusal as it was, and the value, 0 after a refusal of the step
  pub record NextExport (refusal : ℕ) (cursor_later : List ℕ) (value_later : List ℤ) : Type 0 where
    pub answer : refusal ≡ cond next_slots_refused 4 exported_next.refusal
    pub cursor : cursor_later ≡ cond next_slots_refused cursor_lent (exported_next.cursor.n ∷ [])
    pub value : value_later ≡ cond next_slots_refused value_lent (exported_next.value ∷ [])
