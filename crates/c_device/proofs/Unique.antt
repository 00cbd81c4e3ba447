-- Each export of the device has one answer: whatever satisfies its record, for the same inputs, is equal in its number and in all that was
-- lent.
use mathlib.Core.Path.{◌≡◌, sym, ◌∙◌}
use mathlib.Core.List.{List}
use Prim.Native.Nat.{ℕ}
use lib.IntN.{ℤ}
use Rattle.c_device.specs.DeviceExports.{CellExport, NextExport}

pub cell_export_unique : (p0 p1 d0 d1 k : ℤ) (value_lent : List ℤ) (r r' : ℕ) (v v' : List ℤ) → CellExport p0 p1 d0 d1 k value_lent r v
    → CellExport p0 p1 d0 d1 k value_lent r' v'
    → (r ≡ r') × (v ≡ v')
cell_export_unique p0 p1 d0 d1 k value_lent r r' v v' p q = (p.answer ∙ sym q.answer, p.value ∙ sym q.value)

pub next_export_unique : (curve cursor_lent : List ℕ) (value_lent : List ℤ) (r r' : ℕ) (c c' : List ℕ) (v v' : List ℤ)
    → NextExport curve cursor_lent value_lent r c v → NextExport curve cursor_lent value_lent r' c' v'
    → (r ≡ r') × (c ≡ c') × (v ≡ v')
next_export_unique curve cursor_lent value_lent r r' c c' v v' p q =
    (p.answer ∙ sym q.answer, p.cursor ∙ sym q.cursor, p.value ∙ sym q.value)
