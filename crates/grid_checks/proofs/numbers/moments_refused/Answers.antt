-- Refusal 7 of an axis: knots, then ends, then samples; each return is the three tests together, those before it having failed.
use mathlib.Core.Path.{refl}
use Rattle.grid_checks.proofs.Rows.{first, second}
use Rattle.grid_checks.proofs.numbers.moments_refused.Goals as goal

pub returns-then-some_knot_refused : goal.returns-then-some_knot_refused
returns-then-some_knot_refused c = first _ (first _ c.some_knot_refused.ensures c.if-some_knot_refused.true) refl

pub returns-then-ends_refused : goal.returns-then-ends_refused
returns-then-ends_refused c =
    first _
    (second c.some_knot_refused.ensures c.if-some_knot_refused.false c.ends_refused.ensures)
    c.if-ends_refused.true

pub returns : goal.returns
returns c =
    second
    (second c.some_knot_refused.ensures c.if-some_knot_refused.false
    c.ends_refused.ensures)
    c.if-ends_refused.false
    c.any_not_finite.ensures
