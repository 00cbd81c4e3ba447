-- 22: the modes of the axes in use are looked at one by one.
use Rattle.std.proofs.Common.{rules, ◌∙◌, refl, take}
use Rattle.std.proofs.lemmas.Iterator.{YieldsList-from_slice}
use Rattle.std.proofs.lemmas.Iterator.Search.{any_from_yields_List}
use Rattle.grid_codes.specs.Modes.{unknown_mode}
use Rattle.base_numbers.proofs.Listed.{any_of_first}
use Rattle.c_axes.specs.Axes.{some_modes_refused}
use Rattle.c_axes.proofs.some_modes_refused.Goals as goal

pub returns : goal.returns
unfolding some_modes_refused
returns c =
    let a = c.args in
    any_from_yields_List unknown_mode _ _ _ c.any.ensures.ran (YieldsList-from_slice (take a.axes a.modes.now) cc)
    (λ x b q k. search rules)
    ∙ any_of_first unknown_mode 0 _ a.modes.now a.axes (search rules) (λ k l. refl)
