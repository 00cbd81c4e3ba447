-- One number is stored where the lower end is NotAKnot, the first moment from the two after it; with any other end it stands already.
use native.Mathlib.Omega.{arith}
use mathlib.Core.Path.{sym, ap}
use borrow.Author.Rules.{rules}
use Rattle.rules.specs.Ends.{dropped}
use Rattle.axis_moments.specs.SolvedMoments.{lower_moment}
use Rattle.axis_moments.proofs.Stores.{one_stored, none_stored}
use Rattle.axis_moments.proofs.drop_lower.Goals as goal

pub enum_told-1 : goal.enum_told-1
enum_told-1 c = search rules

pub bounds-x-1 : goal.bounds-x-1
bounds-x-1 c = search rules

pub bounds-x-0 : goal.bounds-x-0
bounds-x-0 c = search rules

pub bounds-x-2 : goal.bounds-x-2
bounds-x-2 c = omega (arith, ap dropped c.in-NotAKnot.is)

pub bounds-x-1-in-NotAKnot : goal.bounds-x-1-in-NotAKnot
bounds-x-1-in-NotAKnot c = search rules

pub overflow_add-w : goal.overflow_add-w
overflow_add-w c = search rules

pub offset_bounds-w : goal.offset_bounds-w
offset_bounds-w c = search rules

pub bounds-w : goal.bounds-w
bounds-w c = search rules

pub overflow_add-w-in-NotAKnot : goal.overflow_add-w-in-NotAKnot
overflow_add-w-in-NotAKnot c = search rules

pub offset_bounds-w-in-NotAKnot : goal.offset_bounds-w-in-NotAKnot
offset_bounds-w-in-NotAKnot c = search rules

pub bounds-w-in-NotAKnot : goal.bounds-w-in-NotAKnot
bounds-w-in-NotAKnot c = search rules

pub bounds-w-1792 : goal.bounds-w-1792
bounds-w-1792 c = search rules

pub enum_told-in-FirstDerivative : goal.enum_told-in-FirstDerivative
enum_told-in-FirstDerivative c = search rules

pub enum_told-in-SecondDerivative : goal.enum_told-in-SecondDerivative
enum_told-in-SecondDerivative c = search rules

pub shape_of-w : goal.shape_of-w
shape_of-w c = search rules

pub returns-in-NotAKnot : goal.returns-in-NotAKnot
unfolding lower_moment
returns-in-NotAKnot c =
    let a = c.args in
    one_stored a.w.now 1792 _ _ (omega arith) (sym (ap (lower_moment a.w.now a.x.now) c.in-NotAKnot.is))

pub returns-in-FirstDerivative : goal.returns-in-FirstDerivative
unfolding lower_moment
returns-in-FirstDerivative c =
    let a = c.args in
    none_stored a.w.now 1792 _ (sym (ap (lower_moment a.w.now a.x.now) c.in-FirstDerivative.is))

pub returns-in-SecondDerivative : goal.returns-in-SecondDerivative
unfolding lower_moment
returns-in-SecondDerivative c =
    let a = c.args in
    none_stored a.w.now 1792 _ (sym (ap (lower_moment a.w.now a.x.now) c.in-SecondDerivative.is))
