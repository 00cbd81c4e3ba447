-- 20 for a length that is not 1 to 255 whole cells, 19 where a cell is out of range, else 0.
use mathlib.Core.Path.{sym, ◌∙◌}
use borrow.Author.Tests.{not-true, not-false}
use Rattle.device_cursor.proofs.Judged.{broken_length, out_of_range, good}
use Rattle.device_cursor.proofs.check_curve.Goals as goal

pub returns-then-not-whole_cells : goal.returns-then-not-whole_cells
returns-then-not-whole_cells c = broken_length _ (sym c.whole_cells.ensures ∙ c.if-not-whole_cells.true)

pub returns-then-some_cell_refused : goal.returns-then-some_cell_refused
returns-then-some_cell_refused c =
    out_of_range _ (sym c.whole_cells.ensures ∙ c.if-not-whole_cells.false)
    (not-true _ (sym c.some_cell_refused.ensures ∙ c.if-some_cell_refused.true))

pub returns : goal.returns
returns c =
    good _ (sym c.whole_cells.ensures ∙ c.if-not-whole_cells.false)
    (not-false _ (sym c.some_cell_refused.ensures ∙ c.if-some_cell_refused.false))
