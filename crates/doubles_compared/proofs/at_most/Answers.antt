-- Less, and then it is (`le_less`), or else as equality says (`le_other`).
use mathlib.Core.Path.{sym, ◌∙◌}
use Rattle.doubles_compared.proofs.Compared.{le_less, le_other}
use Rattle.doubles_compared.proofs.at_most.Goals as goal

pub returns-then-less : goal.returns-then-less
returns-then-less c = c.if-less.true ∙ le_less _ _ (sym c.less.ensures ∙ c.if-less.true)

pub returns-else-less : goal.returns-else-less
returns-else-less c = c.equal.ensures ∙ le_other _ _ (sym c.less.ensures ∙ c.if-less.false)
