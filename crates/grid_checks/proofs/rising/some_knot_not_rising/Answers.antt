use Prim.Native.Nat.{◌-◌}
use mathlib.Core.Path.{◌≡◌, sym, ap, ◌∙◌}
use native.Mathlib.Omega.{arith}
use lib.ListN.{length}
use Rattle.rules.specs.Numbers.{any}
use Rattle.base_numbers.proofs.Scan.{any_none, any_next}
use Rattle.grid_checks.specs.Rising.{not_rising}
use borrow.Author.Rules.{rules}
use Rattle.grid_checks.proofs.rising.some_knot_not_rising.Goals as goal

pub loop-i-init : goal.loop-i-init
loop-i-init c = (search rules, sym (any_none _))

pub loop-i-preserved : goal.loop-i-preserved
loop-i-preserved c = (search rules, rw (any_next, ← c.loop-i.invariant.1))

pub returns : goal.returns
returns c =
    let a = c.args in
    let e : c.loop-i.i ≡ length a.knots.now - 1 = omega arith in
    c.loop-i.invariant.1 ∙ ap (any (not_rising a.knots.now)) e
