-- The right side of the last row in every lane, for each kind of upper end; not-a-knot finds a step before the last one to read.
use native.Mathlib.Omega.{arith}
use mathlib.Core.Path.{sym, ap, ◌∙◌}
use Rattle.rules.specs.Ends.{dropped}
use Rattle.rules.specs.declared.End.{End}
use Rattle.tensor_four_lanes.specs.Groups.{upper_right}
use Rattle.tensor_fours.proofs.Fours.{number, composed}
use Rattle.tensor_four_lanes.proofs.ends.upper_right.Goals as goal

pub overflow_sub-n : goal.overflow_sub-n
overflow_sub-n c = omega (arith, ap dropped c.in-NotAKnot.is)

pub overflow_sub-n-in-NotAKnot-2 : goal.overflow_sub-n-in-NotAKnot-2
overflow_sub-n-in-NotAKnot-2 c = omega (arith, ap dropped c.in-NotAKnot.is)

pub returns-in-NotAKnot : goal.returns-in-NotAKnot
unfolding upper_right
returns-in-NotAKnot c =
    composed _ c.times-in-NotAKnot.ensures
    (λ l lt.
    cc (
      number c.times.ensures l lt,
      number c.minus.ensures l lt,
      number c.get_row.ensures l lt,
      number c.get_row-in-NotAKnot.ensures l lt,
    )
    ∙ sym (ap (λ (e : End). upper_right c.args.w.now c.args.n e l) c.in-NotAKnot.is))

pub returns-in-FirstDerivative : goal.returns-in-FirstDerivative
unfolding upper_right
returns-in-FirstDerivative c =
    composed _ c.times-in-FirstDerivative.ensures
    (λ l lt.
    cc (number c.minus-in-FirstDerivative.ensures l lt, number c.get_row-in-FirstDerivative.ensures l lt, number c.alike.ensures l lt)
    ∙ sym (ap (λ (e : End). upper_right c.args.w.now c.args.n e l) c.in-FirstDerivative.is))

pub returns-in-SecondDerivative : goal.returns-in-SecondDerivative
unfolding upper_right
returns-in-SecondDerivative c =
    composed _ c.alike-in-SecondDerivative.ensures
    (λ l lt. sym (ap (λ (e : End). upper_right c.args.w.now c.args.n e l) c.in-SecondDerivative.is))
