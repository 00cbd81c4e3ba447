use mathlib.Core.Path.{refl, sym, ◌∙◌}
use native.Mathlib.Omega.{arith}
use borrow.Author.Rules.{rules}
use borrow.Author.Tests.{not-false}
use lib.ListN.{length}
use Rattle.base_numbers.proofs.Scan.{neither, any_end}
use Rattle.rules.specs.Steps.{h}
use Rattle.grid_checks.proofs.RisingKnots.{finite_steps}
use Rattle.axis_even.proofs.Spacing.{fails_is, failing_is, neither_above}
use Rattle.axis_even.proofs.First.{turn_last}
use Rattle.query_even.proofs.Passing.{rises_first, rises_next}
use Rattle.query_even.proofs.pass.axis_may_be_refused.Goals as goal

pub loop-i-init : goal.loop-i-init
loop-i-init c = λ down. rises_first _ (search rules) down

pub loop-i-preserved : goal.loop-i-preserved
unfolding h
loop-i-preserved c =
    λ down.
    let none = neither _ _ down in
    let before = neither _ _ none.0 in
    rises_next _ _ (c.loop-i.invariant before.0) (omega arith) before.1
    (fails_is _ _ _ _ _ refl refl c.tolerance-tolerance.ensures _ refl
    ∙ neither_above _ _ _ (sym c.may_fail.ensures ∙ none.1))

pub returns-else-found : goal.returns-else-found
returns-else-found c =
    λ down.
    let x = c.args.knots.now in
    let so_far = c.loop-i.invariant c.if-found.false in (
      finite_steps x (length x) c.type_inv.knots (omega arith)
          (any_end _ _ _ so_far.rise (omega arith))
          (sym c.is_finite.ensures ∙ not-false _ down),
      sym (turn_last _ _ _ _ so_far.even (omega arith) ∙ failing_is _ _),
    )
