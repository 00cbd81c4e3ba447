-- One axis and two are answered by themselves, and more by what the search on all of them finds.
use mathlib.Core.Path.{refl}
use Rattle.rules.proofs.Given.{number_some}
use Rattle.query_answer.proofs.Answering.{found_refuses, cell_answers}
use Rattle.query_answer.proofs.answer_to.Goals as goal

pub answer_on_one-requires : goal.answer_on_one-requires
answer_on_one-requires c = (rw c.if-axes-eq1.true at c.requires.0, c.requires.1)

pub returns-then-axes-eq1 : goal.returns-then-axes-eq1
returns-then-axes-eq1 c = rw c.if-axes-eq1.true c.answer_on_one.ensures

pub answer_on_two-requires : goal.answer_on_two-requires
answer_on_two-requires c = (rw c.if-axes-eq2.true at c.requires.0, c.requires.1)

pub returns-then-axes-eq2 : goal.returns-then-axes-eq2
returns-then-axes-eq2 c = rw c.if-axes-eq2.true c.answer_on_two.ensures

pub returns-in-Err : goal.returns-in-Err
returns-in-Err c =
    found_refuses _ _ _ _ _ _ _ c.requires.0 _ _ _ c.search_on_axes-refusals.ensures _ c.in-Err.ensures (number_some _) _ c.refuse.ensures

pub returns : goal.returns
returns c =
    cell_answers _ _ _ _ _ _ _ c.requires.0 _ _ _ c.search_on_axes-refusals.ensures _ c.in_default.ensures refl _
    c.value-value.ensures _ c.check_value.ensures
