-- Refusal 8 in four returns: fewer than two knots have no step (`no_steps`), a knot that does not rise is refused (`not_risen`),
-- knots that rise along a finite length have finite steps (`finite_steps`), and for the rest each step is looked at.
use native.Mathlib.Omega.{arith}
use mathlib.Core.Path.{sym, ◌∙◌}
use lib.ListN.{length}
use Rattle.grid_checks.proofs.RisingKnots.{no_steps, not_risen, finite_steps}
use Rattle.grid_checks.proofs.rising.knots_refused.Goals as goal

pub returns-then-knots-lt2 : goal.returns-then-knots-lt2
returns-then-knots-lt2 c = let a = c.args in sym (no_steps a.knots.now (length a.knots.now) (omega arith))

pub returns-then-some_knot_not_rising : goal.returns-then-some_knot_not_rising
returns-then-some_knot_not_rising c =
    let a = c.args in
    sym (not_risen a.knots.now (length a.knots.now) (sym c.some_knot_not_rising.ensures ∙ c.if-some_knot_not_rising.true))

pub returns-then-is_finite : goal.returns-then-is_finite
returns-then-is_finite c =
    let a = c.args in
    sym
    (finite_steps a.knots.now (length a.knots.now) c.shared_slice_known-3-1.given (omega arith)
    (sym c.some_knot_not_rising.ensures ∙ c.if-some_knot_not_rising.false)
    (sym c.is_finite.ensures ∙ c.if-is_finite.true))
