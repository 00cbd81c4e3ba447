-- The lower end's row is that of the rules for each of the three kinds; NotAKnot reads a third knot, there since it drops one.
use native.Mathlib.Omega.{arith}
use mathlib.Core.Path.{sym, ap}
use borrow.Author.Rules.{rules}
use Rattle.rules.specs.Ends.{dropped}
use Rattle.axis_rows.specs.Rows.{lower_end_row}
use Rattle.rules.specs.Moments.{lower_row}
use Rattle.axis_rows.proofs.lower_row.Goals as goal

pub bounds-x-1 : goal.bounds-x-1
bounds-x-1 c = search rules

pub bounds-x-0 : goal.bounds-x-0
bounds-x-0 c = search rules

pub bounds-y-1 : goal.bounds-y-1
bounds-y-1 c = search rules

pub bounds-y-0 : goal.bounds-y-0
bounds-y-0 c = search rules

pub enum_told-1 : goal.enum_told-1
enum_told-1 c = search rules

pub bounds-x-2 : goal.bounds-x-2
bounds-x-2 c = omega (arith, ap dropped c.in-NotAKnot.is)

pub bounds-x-1-in-NotAKnot : goal.bounds-x-1-in-NotAKnot
bounds-x-1-in-NotAKnot c = search rules

pub bounds-y-2 : goal.bounds-y-2
bounds-y-2 c = omega (arith, ap dropped c.in-NotAKnot.is)

pub bounds-y-1-in-NotAKnot : goal.bounds-y-1-in-NotAKnot
bounds-y-1-in-NotAKnot c = search rules

pub enum_known-end : goal.enum_known-end
enum_known-end c = search rules

pub enum_known-end-in-SecondDerivative-1 : goal.enum_known-end-in-SecondDerivative-1
enum_known-end-in-SecondDerivative-1 c = search rules

pub returns-in-NotAKnot : goal.returns-in-NotAKnot
unfolding lower_row
returns-in-NotAKnot c = sym (ap (lower_end_row c.args.x.now c.args.y.now) c.in-NotAKnot.is)

pub returns-in-FirstDerivative : goal.returns-in-FirstDerivative
unfolding lower_row
returns-in-FirstDerivative c = sym (ap (lower_end_row c.args.x.now c.args.y.now) c.in-FirstDerivative.is)

pub returns-in-SecondDerivative : goal.returns-in-SecondDerivative
unfolding lower_row
returns-in-SecondDerivative c = sym (ap (lower_end_row c.args.x.now c.args.y.now) c.in-SecondDerivative.is)
