-- A number that is not finite came out: 10. Else the numbers can be compared: none differs (`told_whole`), or what is counted, found first
-- and made a place of it is what the rules tell (`told_found`).
use mathlib.Core.Path.{refl, sym, ◌∙◌}
use lib.Pow.{pow_pos}
use Rattle.tensor_verify.proofs.Telling.{comparable, told_10, told_whole, told_found}
use Rattle.tensor_verify.proofs.held_against.Goals as goal

pub returns-then-any_of_many_not_finite : goal.returns-then-any_of_many_not_finite
returns-then-any_of_many_not_finite c =
    told_10 _ _ _ _ _ (sym c.any_of_many_not_finite.ensures ∙ c.if-any_of_many_not_finite.true) refl

pub count_differing-differing-requires : goal.count_differing-differing-requires
count_differing-differing-requires c =
    comparable _ _ c.requires.1 c.requires.2 (sym c.any_of_many_not_finite.ensures ∙ c.if-any_of_many_not_finite.false)

pub returns-then-differing-eq0 : goal.returns-then-differing-eq0
returns-then-differing-eq0 c =
    told_whole _ _ _ _ (sym c.any_of_many_not_finite.ensures ∙ c.if-any_of_many_not_finite.false)
    (sym c.count_differing-differing.ensures ∙ c.if-differing-eq0.true)

pub first_differing-first-requires : goal.first_differing-first-requires
first_differing-first-requires c =
    comparable _ _ c.requires.1 c.requires.2 (sym c.any_of_many_not_finite.ensures ∙ c.if-any_of_many_not_finite.false)

pub nonzero_div-first : goal.nonzero_div-first
nonzero_div-first c = rw c.masks-masks.ensures.0 (pow_pos _)

pub nonzero_rem-result : goal.nonzero_rem-result
nonzero_rem-result c = rw c.masks-masks.ensures.0 (pow_pos _)

pub returns : goal.returns
returns c =
    told_found _ _ _ _ _ _ _ _ (sym c.any_of_many_not_finite.ensures ∙ c.if-any_of_many_not_finite.false)
    c.count_differing-differing.ensures c.if-differing-eq0.false
    c.first_differing-first.ensures c.masks-masks.ensures.0 c.place_of_number-place.ensures
