-- 22: the numbers of the axes in use are looked at one by one.
use Rattle.std.proofs.Common.{rules, ◌∙◌, refl, take}
use Rattle.std.proofs.lemmas.Iterator.{YieldsList-from_slice}
use Rattle.std.proofs.lemmas.Iterator.Search.{any_from_yields_List}
use Rattle.base_numbers.proofs.Listed.{any_of_first}
use Rattle.c_step.specs.Directions.{direction_refused, some_direction_refused}
use Rattle.c_step.proofs.directions.some_direction_refused.Goals as goal

pub returns : goal.returns
unfolding some_direction_refused
returns c =
    let a = c.args in
    any_from_yields_List direction_refused _ _ _ c.any.ensures.ran (YieldsList-from_slice (take a.axes a.numbers.now) cc)
    (λ x b q k. search rules)
    ∙ any_of_first direction_refused 0 _ a.numbers.now a.axes (search rules) (λ k l. refl)
