-- The cell by one division, counted from the first knot in steps as wide as the first.
use Rattle.rules.specs.Steps.{h}
use Rattle.query_answer.proofs.ways.direct_cell.Goals as goal

pub returns : goal.returns
unfolding h
returns c = c.locate_lower_index_uniform.ensures
