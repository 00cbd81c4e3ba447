-- 23: the axes in use are looked at one by one.
use Rattle.std.proofs.Common.{rules, ◌∙◌, refl, take}
use Rattle.std.proofs.lemmas.Iterator.{YieldsList-from_slice}
use Rattle.std.proofs.lemmas.Iterator.Search.{any_from_yields_List}
use Rattle.rules.specs.declared.Axis.{Axis}
use Rattle.rules.specs.Sizes.{unused_axis}
use Rattle.grid_codes.specs.Editions.{mode_refused}
use Rattle.base_numbers.proofs.Listed.{any_of_first}
use Rattle.sheet_write.proofs.some_mode_refused.Goals as goal

pub returns : goal.returns
returns c =
    let a = c.args in
    any_from_yields_List (λ (axis : Axis). mode_refused a.edition axis.mode) _ _ _ c.any.ensures.ran
    (YieldsList-from_slice (take a.axes a.all) cc) (λ x b q k. search rules)
    ∙ any_of_first (λ (axis : Axis). mode_refused a.edition axis.mode) unused_axis _ a.all a.axes (search rules) (λ k l. refl)
