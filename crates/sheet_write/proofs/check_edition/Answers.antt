-- 12 for an edition that there is not, then 23 for an axis in use whose mode it refuses, else 0: the rules' own order.
use mathlib.Core.Path.{sym, ◌∙◌}
use Rattle.sheet_write.specs.Write.{edition_refusal}
use Rattle.sheet_write.proofs.check_edition.Goals as goal

pub returns-then-is_unknown_edition : goal.returns-then-is_unknown_edition
unfolding edition_refusal
returns-then-is_unknown_edition c = rw (sym c.is_unknown_edition.ensures ∙ c.if-is_unknown_edition.true)

pub returns-then-some_mode_refused : goal.returns-then-some_mode_refused
unfolding edition_refusal
returns-then-some_mode_refused c = rw (sym c.is_unknown_edition.ensures ∙ c.if-is_unknown_edition.false, sym c.some_mode_refused.ensures ∙ c.if-some_mode_refused.true)

pub returns : goal.returns
unfolding edition_refusal
returns c = rw (sym c.is_unknown_edition.ensures ∙ c.if-is_unknown_edition.false, sym c.some_mode_refused.ensures ∙ c.if-some_mode_refused.false)
