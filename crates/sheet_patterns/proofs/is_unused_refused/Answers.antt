-- 17: the patterns past the axes in use are looked at one by one.
use Rattle.std.proofs.Common.{rules, ◌∙◌, refl, not, eqb, ◌-◌, take, drop, arith}
use Rattle.std.proofs.lemmas.Iterator.{YieldsList-from_slice}
use Rattle.std.proofs.lemmas.Iterator.Search.{any_from_yields_List}
use Rattle.base_numbers.proofs.Listed.{any_of_part}
use Rattle.sheet_patterns.proofs.is_unused_refused.Goals as goal

pub returns : goal.returns
returns c =
    let axes = c.args.axes in
    let unused = take (4 - axes) (drop axes c.args.patterns) in
    any_from_yields_List (λ x. not (eqb x 0)) _ _ _ c.any.ensures.ran (YieldsList-from_slice unused cc) (λ x b q k. search rules)
    ∙ any_of_part (λ x. not (eqb x 0)) 0 _ c.args.patterns axes (4 - axes) (search rules) (λ k l. refl)
