-- The moment at knot 0 in every lane, for each kind of lower end: not-a-knot makes it of the two behind it, the other two leave it.
use mathlib.Core.Path.{sym, ap, ◌∙◌}
use Rattle.rules.specs.declared.End.{End}
use Rattle.tensor_four_lanes.specs.Groups.{lower_moment}
use Rattle.tensor_fours.proofs.Fours.{number, composed}
use Rattle.tensor_four_lanes.proofs.ends.lower_moment.Goals as goal

pub returns-in-NotAKnot : goal.returns-in-NotAKnot
unfolding lower_moment
returns-in-NotAKnot c =
    composed _ c.over.ensures
    (λ l lt.
    cc (
      number c.times.ensures l lt,
      number c.times-in-NotAKnot.ensures l lt,
      number c.minus.ensures l lt,
      number c.get_row.ensures l lt,
      number c.get_row-in-NotAKnot.ensures l lt,
    )
    ∙ sym (ap (λ (e : End). lower_moment c.args.w.now e l) c.in-NotAKnot.is))

pub returns-in-FirstDerivative : goal.returns-in-FirstDerivative
unfolding lower_moment
returns-in-FirstDerivative c =
    composed _ c.get_row-in-FirstDerivative.ensures
    (λ l lt. sym (ap (λ (e : End). lower_moment c.args.w.now e l) c.in-FirstDerivative.is))

pub returns-in-SecondDerivative : goal.returns-in-SecondDerivative
unfolding lower_moment
returns-in-SecondDerivative c =
    composed _ c.get_row-in-SecondDerivative.ensures
    (λ l lt. sym (ap (λ (e : End). lower_moment c.args.w.now e l) c.in-SecondDerivative.is))
