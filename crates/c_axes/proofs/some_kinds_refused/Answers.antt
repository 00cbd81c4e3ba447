use mathlib.Core.Path.{◌≡◌, sym}
use mathlib.Core.Bool.{true}
use native.Mathlib.Omega.{arith}
use Rattle.base_numbers.proofs.Scan.{any_none, any_more, any_found, any_end}
use Rattle.grid_codes.specs.Kinds.{kinds_refused}
use Rattle.c_axes.specs.Axes.{lower_kind, upper_kind, some_kinds_refused}
use Rattle.c_axes.proofs.some_kinds_refused.Goals as goal

pub loop-i-init : goal.loop-i-init
loop-i-init c = any_none _

pub returns-then-kinds_refused : goal.returns-then-kinds_refused
unfolding some_kinds_refused
returns-then-kinds_refused c =
    let l = c.loop-i in
    let found : kinds_refused (lower_kind c.args.kinds.now l.i) (upper_kind c.args.kinds.now l.i) ≡ true = cc in
    sym (any_found _ l.i _ (omega arith) found)

pub loop-i-preserved : goal.loop-i-preserved
loop-i-preserved c = any_more _ _ c.loop-i.invariant cc

pub returns : goal.returns
unfolding some_kinds_refused
returns c = sym (any_end _ _ _ c.loop-i.invariant (omega arith))
