-- On two axes what was found refuses the point (`found_refuses`), or the cell is evaluated (`cell_answers`).
use mathlib.Core.Path.{refl}
use Rattle.rules.proofs.Given.{number_some}
use Rattle.query_answer.proofs.Answering.{found_refuses, cell_answers}
use Rattle.query_answer.proofs.answer_on_two.Goals as goal

pub returns-in-Err : goal.returns-in-Err
returns-in-Err c =
    found_refuses _ _ _ _ _ _ _ c.requires.0 _ _ _ c.search_on_two-refusals.ensures _ c.in-Err.ensures (number_some _) _ c.refuse.ensures

pub returns : goal.returns
returns c =
    cell_answers _ _ _ _ _ _ _ c.requires.0 _ _ _ c.search_on_two-refusals.ensures _ c.in_default.ensures refl _
    c.value_on_two-value.ensures _ c.check_value.ensures
