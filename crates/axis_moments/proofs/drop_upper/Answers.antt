-- One number is stored where the upper end is NotAKnot, the last moment from the two before it; else the scratch is as it was.
use native.Mathlib.Omega.{arith}
use mathlib.Core.Path.{sym, ap}
use Prim.Native.Nat.{◌+◌, ◌-◌}
use lib.ListN.{length}
use borrow.Author.Rules.{rules}
use Rattle.rules.specs.Ends.{dropped}
use Rattle.axis_moments.specs.SolvedMoments.{upper_moment}
use Rattle.axis_moments.proofs.Stores.{one_stored, none_stored}
use Rattle.axis_moments.proofs.drop_upper.Goals as goal

pub enum_told-1 : goal.enum_told-1
enum_told-1 c = search rules

pub overflow_sub-n : goal.overflow_sub-n
overflow_sub-n c = search rules

pub overflow_sub-last : goal.overflow_sub-last
overflow_sub-last c = search rules

pub overflow_sub-before : goal.overflow_sub-before
overflow_sub-before c = omega (arith, ap dropped c.in-NotAKnot.is)

pub overflow_add-h_last : goal.overflow_add-h_last
overflow_add-h_last c = search rules

pub offset_bounds-x-last : goal.offset_bounds-x-last
offset_bounds-x-last c = search rules

pub bounds-x-last : goal.bounds-x-last
bounds-x-last c = search rules

pub offset_bounds-x-last-in-NotAKnot : goal.offset_bounds-x-last-in-NotAKnot
offset_bounds-x-last-in-NotAKnot c = search rules

pub bounds-x-last-in-NotAKnot : goal.bounds-x-last-in-NotAKnot
bounds-x-last-in-NotAKnot c = search rules

pub overflow_add-h_before : goal.overflow_add-h_before
overflow_add-h_before c = search rules

pub offset_bounds-x-before : goal.offset_bounds-x-before
offset_bounds-x-before c = search rules

pub bounds-x-before : goal.bounds-x-before
bounds-x-before c = search rules

pub offset_bounds-x-before-in-NotAKnot : goal.offset_bounds-x-before-in-NotAKnot
offset_bounds-x-before-in-NotAKnot c = search rules

pub bounds-x-before-in-NotAKnot : goal.bounds-x-before-in-NotAKnot
bounds-x-before-in-NotAKnot c = search rules

pub overflow_add-m : goal.overflow_add-m
overflow_add-m c = search rules

pub offset_bounds-w-last : goal.offset_bounds-w-last
offset_bounds-w-last c = search rules

pub bounds-w-last : goal.bounds-w-last
bounds-w-last c = search rules

pub overflow_add-m-in-NotAKnot : goal.overflow_add-m-in-NotAKnot
overflow_add-m-in-NotAKnot c = search rules

pub offset_bounds-w-before : goal.offset_bounds-w-before
offset_bounds-w-before c = search rules

pub bounds-w-before : goal.bounds-w-before
bounds-w-before c = search rules

pub overflow_add-w : goal.overflow_add-w
overflow_add-w c = search rules

pub offset_bounds-w-n : goal.offset_bounds-w-n
offset_bounds-w-n c = search rules

pub bounds-w-n : goal.bounds-w-n
bounds-w-n c = search rules

pub enum_told-in-FirstDerivative : goal.enum_told-in-FirstDerivative
enum_told-in-FirstDerivative c = search rules

pub enum_told-in-SecondDerivative : goal.enum_told-in-SecondDerivative
enum_told-in-SecondDerivative c = search rules

pub shape_of-w : goal.shape_of-w
shape_of-w c = search rules

pub returns-in-NotAKnot : goal.returns-in-NotAKnot
unfolding upper_moment
returns-in-NotAKnot c =
    let a = c.args in
    one_stored a.w.now (1792 + (length a.x.now - 1)) _ _ (omega arith)
    (sym (ap (upper_moment a.w.now a.x.now (length a.x.now - 1)) c.in-NotAKnot.is))

pub returns-in-FirstDerivative : goal.returns-in-FirstDerivative
unfolding upper_moment
returns-in-FirstDerivative c =
    let a = c.args in
    none_stored a.w.now (1792 + (length a.x.now - 1)) _
    (sym (ap (upper_moment a.w.now a.x.now (length a.x.now - 1)) c.in-FirstDerivative.is))

pub returns-in-SecondDerivative : goal.returns-in-SecondDerivative
unfolding upper_moment
returns-in-SecondDerivative c =
    let a = c.args in
    none_stored a.w.now (1792 + (length a.x.now - 1)) _
    (sym (ap (upper_moment a.w.now a.x.now (length a.x.now - 1)) c.in-SecondDerivative.is))
