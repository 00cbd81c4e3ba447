use Prim.Native.Nat.{◌-◌}
use mathlib.Core.Path.{◌≡◌, sym, ap, ◌∙◌}
use native.Mathlib.Omega.{arith}
use lib.ListN.{length}
use Rattle.rules.specs.Numbers.{any}
use Rattle.rules.specs.Steps.{h}
use Rattle.rules.specs.Refusals.{step_refused}
use Rattle.base_numbers.proofs.Scan.{any_none, any_next}
use borrow.Author.Rules.{rules}
use Rattle.grid_checks.proofs.rising.some_step_refused.Goals as goal

pub loop-i-init : goal.loop-i-init
loop-i-init c = (search rules, sym (any_none _))

pub loop-i-preserved : goal.loop-i-preserved
unfolding step_refused h
loop-i-preserved c = (search rules, rw (any_next, ← c.loop-i.invariant.1, ← c.step_refused-refused.ensures))

pub returns : goal.returns
returns c =
    let e : c.loop-i.i ≡ length c.args.knots.now - 1 = omega arith in
    c.loop-i.invariant.1 ∙ ap (any (step_refused _)) e
