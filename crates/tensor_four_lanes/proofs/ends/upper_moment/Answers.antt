-- The moment at knot `n` in every lane, for each kind of upper end; a not-a-knot end has dropped one, so there are the two before it.
use native.Mathlib.Omega.{arith}
use mathlib.Core.Path.{sym, ap, ◌∙◌}
use Rattle.rules.specs.Ends.{dropped}
use Rattle.rules.specs.declared.End.{End}
use Rattle.tensor_four_lanes.specs.Groups.{upper_moment}
use Rattle.tensor_fours.proofs.Fours.{number, composed}
use Rattle.tensor_four_lanes.proofs.ends.upper_moment.Goals as goal

pub overflow_sub-n : goal.overflow_sub-n
overflow_sub-n c = omega (arith, ap dropped c.in-NotAKnot.is)

pub overflow_sub-n-in-NotAKnot-4 : goal.overflow_sub-n-in-NotAKnot-4
overflow_sub-n-in-NotAKnot-4 c = omega (arith, ap dropped c.in-NotAKnot.is)

pub overflow_sub-n-in-NotAKnot-5 : goal.overflow_sub-n-in-NotAKnot-5
overflow_sub-n-in-NotAKnot-5 c = omega (arith, ap dropped c.in-NotAKnot.is)

pub returns-in-NotAKnot : goal.returns-in-NotAKnot
unfolding upper_moment
returns-in-NotAKnot c =
    composed _ c.over.ensures
    (λ l lt.
    cc (
      number c.times.ensures l lt,
      number c.times-in-NotAKnot.ensures l lt,
      number c.minus.ensures l lt,
      number c.get_row.ensures l lt,
      number c.get_row-in-NotAKnot.ensures l lt,
    )
    ∙ sym (ap (λ (e : End). upper_moment c.args.w.now c.args.n e l) c.in-NotAKnot.is))

pub returns-in-FirstDerivative : goal.returns-in-FirstDerivative
unfolding upper_moment
returns-in-FirstDerivative c =
    composed _ c.get_row-in-FirstDerivative.ensures
    (λ l lt. sym (ap (λ (e : End). upper_moment c.args.w.now c.args.n e l) c.in-FirstDerivative.is))

pub returns-in-SecondDerivative : goal.returns-in-SecondDerivative
unfolding upper_moment
returns-in-SecondDerivative c =
    composed _ c.get_row-in-SecondDerivative.ensures
    (λ l lt. sym (ap (λ (e : End). upper_moment c.args.w.now c.args.n e l) c.in-SecondDerivative.is))
