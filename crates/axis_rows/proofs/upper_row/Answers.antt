-- The upper end's row is that of the rules for each kind; for NotAKnot `upper_not_a_knot` puts the rules' `u` in place of six
-- times the difference of the last two slopes.
use native.Mathlib.Omega.{arith}
use mathlib.Core.Path.{sym, ap, ◌∙◌}
use borrow.Author.Rules.{rules}
use Rattle.rules.specs.Ends.{dropped}
use Rattle.rules.specs.Moments.{upper_row}
use Rattle.axis_rows.specs.Rows.{upper_end_row}
use Rattle.axis_rows.proofs.Ends.{upper_not_a_knot}
use Rattle.axis_rows.proofs.upper_row.Goals as goal

pub overflow_sub-n : goal.overflow_sub-n
overflow_sub-n c = search rules

pub overflow_sub-last : goal.overflow_sub-last
overflow_sub-last c = search rules

pub overflow_add-h_last : goal.overflow_add-h_last
overflow_add-h_last c = search rules

pub offset_bounds-x-last : goal.offset_bounds-x-last
offset_bounds-x-last c = search rules

pub bounds-x-last : goal.bounds-x-last
bounds-x-last c = search rules

pub offset_bounds-x-last-2 : goal.offset_bounds-x-last-2
offset_bounds-x-last-2 c = search rules

pub bounds-x-last-2 : goal.bounds-x-last-2
bounds-x-last-2 c = search rules

pub overflow_add-s_last : goal.overflow_add-s_last
overflow_add-s_last c = search rules

pub offset_bounds-y-last : goal.offset_bounds-y-last
offset_bounds-y-last c = search rules

pub bounds-y-last : goal.bounds-y-last
bounds-y-last c = search rules

pub offset_bounds-y-last-2 : goal.offset_bounds-y-last-2
offset_bounds-y-last-2 c = search rules

pub bounds-y-last-2 : goal.bounds-y-last-2
bounds-y-last-2 c = search rules

pub enum_told-1 : goal.enum_told-1
enum_told-1 c = search rules

pub overflow_sub-before : goal.overflow_sub-before
overflow_sub-before c = omega (arith, ap dropped c.in-NotAKnot.is)

pub overflow_add-h_before : goal.overflow_add-h_before
overflow_add-h_before c = search rules

pub offset_bounds-x-before : goal.offset_bounds-x-before
offset_bounds-x-before c = search rules

pub bounds-x-before : goal.bounds-x-before
bounds-x-before c = search rules

pub offset_bounds-x-before-in-NotAKnot : goal.offset_bounds-x-before-in-NotAKnot
offset_bounds-x-before-in-NotAKnot c = search rules

pub bounds-x-before-in-NotAKnot : goal.bounds-x-before-in-NotAKnot
bounds-x-before-in-NotAKnot c = search rules

pub overflow_add-s_before : goal.overflow_add-s_before
overflow_add-s_before c = search rules

pub offset_bounds-y-before : goal.offset_bounds-y-before
offset_bounds-y-before c = search rules

pub bounds-y-before : goal.bounds-y-before
bounds-y-before c = search rules

pub offset_bounds-y-before-in-NotAKnot : goal.offset_bounds-y-before-in-NotAKnot
offset_bounds-y-before-in-NotAKnot c = search rules

pub bounds-y-before-in-NotAKnot : goal.bounds-y-before-in-NotAKnot
bounds-y-before-in-NotAKnot c = search rules

pub enum_known-end : goal.enum_known-end
enum_known-end c = search rules

pub enum_known-end-in-SecondDerivative-1 : goal.enum_known-end-in-SecondDerivative-1
enum_known-end-in-SecondDerivative-1 c = search rules

pub returns-in-NotAKnot : goal.returns-in-NotAKnot
unfolding upper_row
returns-in-NotAKnot c =
    let told = c.in-NotAKnot.is in
    upper_not_a_knot c.args.x.now c.args.y.now (omega (arith, ap dropped told))
    ∙ sym (ap (upper_end_row c.args.x.now c.args.y.now) told)

pub returns-in-FirstDerivative : goal.returns-in-FirstDerivative
unfolding upper_row
returns-in-FirstDerivative c = sym (ap (upper_end_row c.args.x.now c.args.y.now) c.in-FirstDerivative.is)

pub returns-in-SecondDerivative : goal.returns-in-SecondDerivative
unfolding upper_row
returns-in-SecondDerivative c = sym (ap (upper_end_row c.args.x.now c.args.y.now) c.in-SecondDerivative.is)
