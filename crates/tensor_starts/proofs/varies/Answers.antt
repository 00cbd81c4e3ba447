-- True for an axis that is free and not the lanes' own: a build frees every axis, a change those in the target.
use mathlib.Core.Path.{refl, sym, ap, ◌∙◌}
use mathlib.Core.Bool.{not}
use borrow.Author.Tests.{eq-eqb}
use Rattle.tensor_starts.specs.Starts.{free}
use Rattle.tensor_starts.proofs.Agreement.{varies_own, varies_other}
use Rattle.tensor_starts.proofs.varies.Goals as goal

pub returns-then-whole : goal.returns-then-whole
unfolding free
returns-then-whole c = sym (varies_other _ _ _ _ c.if-j-axis.true ∙ rw c.if-whole.true)

pub returns-else-whole : goal.returns-else-whole
unfolding free
returns-else-whole c = c.in_mask.ensures ∙ sym (varies_other _ _ _ _ c.if-j-axis.true ∙ rw c.if-whole.false)

pub returns-else-j-axis : goal.returns-else-j-axis
returns-else-j-axis c = rw c.if-j-axis.false (ap not (eq-eqb c.args.axis c.args.axis refl) ∙ sym (varies_own _ _ _))
