-- The promise has one answer.
use mathlib.Core.Path.{◌≡◌, sym, ◌∙◌}
use lib.IntN.{ℤ}
use Rattle.device_cell.specs.DeviceCell.{CellAnswer, CellPromise}

pub cell_unique : (p0 p1 d0 d1 k : ℤ) (a a' : CellAnswer) → CellPromise p0 p1 d0 d1 k a → CellPromise p0 p1 d0 d1 k a' → a ≡ a'
cell_unique p0 p1 d0 d1 k a a' p q = p.answer ∙ sym q.answer
