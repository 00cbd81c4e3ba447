-- Each way's cell is the one that is named for it and has a knot above it; on rising knots the search finds the cell of the rules.
use mathlib.Core.Path.{sym, ◌∙◌}
use Rattle.query_answer.proofs.Cells.{found_by_search, found_by_division}
use Rattle.query_answer.proofs.ways.cell_on_axis.Goals as goal

pub returns-then-by_search : goal.returns-then-by_search
returns-then-by_search c = found_by_search _ _ _ _ (sym c.by_search.ensures ∙ c.if-by_search.true) c.locate_lower_index.ensures

pub returns : goal.returns
returns c = found_by_division _ _ _ _ (sym c.by_search.ensures ∙ c.if-by_search.false) c.requires.0 c.direct_cell.ensures
