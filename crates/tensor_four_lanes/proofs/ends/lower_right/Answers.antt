-- The right side of the first row in every lane, for each kind of lower end, from the steps and slopes as they stand in the scratch.
use mathlib.Core.Path.{sym, ap, ◌∙◌}
use Rattle.rules.specs.declared.End.{End}
use Rattle.tensor_four_lanes.specs.Groups.{lower_right}
use Rattle.tensor_fours.proofs.Fours.{number, composed}
use Rattle.tensor_four_lanes.proofs.ends.lower_right.Goals as goal

pub returns-in-NotAKnot : goal.returns-in-NotAKnot
unfolding lower_right
returns-in-NotAKnot c =
    composed _ c.times-in-NotAKnot.ensures
    (λ l lt.
    cc (
      number c.times.ensures l lt,
      number c.minus.ensures l lt,
      number c.get_row.ensures l lt,
      number c.get_row-in-NotAKnot.ensures l lt,
    )
    ∙ sym (ap (λ (e : End). lower_right c.args.w.now e l) c.in-NotAKnot.is))

pub returns-in-FirstDerivative : goal.returns-in-FirstDerivative
unfolding lower_right
returns-in-FirstDerivative c =
    composed _ c.times-in-FirstDerivative.ensures
    (λ l lt.
    cc (number c.minus-in-FirstDerivative.ensures l lt, number c.get_row-in-FirstDerivative.ensures l lt, number c.alike.ensures l lt)
    ∙ sym (ap (λ (e : End). lower_right c.args.w.now e l) c.in-FirstDerivative.is))

pub returns-in-SecondDerivative : goal.returns-in-SecondDerivative
unfolding lower_right
returns-in-SecondDerivative c =
    composed _ c.alike-in-SecondDerivative.ensures
    (λ l lt.
    sym (ap (λ (e : End). lower_right c.args.w.now e l) c.in-SecondDerivative.is))
