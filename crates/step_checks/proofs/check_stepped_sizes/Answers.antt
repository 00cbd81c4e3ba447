-- 1 of the axes, then 2 or 3 as the one pass over the points finds it, then 4: where that pass finds no refusal, a sample for each mask
-- fewer than the numbers it counted is a sample for each place (`samples_told`).
use mathlib.Core.Path.{◌≡◌, refl, sym, ◌∙◌}
use Rattle.rules.specs.Sizes.{place_of}
use Rattle.grid_checks.specs.Check.{points_check, points_rows}
use Rattle.grid_checks.proofs.Rows.{stop, pass, Past, rows_given, rows_pass, axes_few}
use Rattle.step_checks.specs.StepChecks.{stepped_lengths_refused, stepped_sizes_rows, stepped_sizes_check}
use Rattle.step_checks.proofs.Samples.{samples_told}
use borrow.Author.Rules.{rules}
use Rattle.step_checks.proofs.check_stepped_sizes.Goals as goal
use Rattle.step_checks.proofs.check_stepped_sizes.Goals.{After-stepped_lengths_refused, In_ok-found}

past : (c : In_ok-found) → let s =
    c.args in Past (stepped_sizes_rows s.axes (place_of s.points.now) s.knots s.samples s.coordinates) 3
unfolding points_check
past c answer e =
    pass _ c.axes_refused.ensures c.if-axes_refused.false
    (rows_pass (points_rows c.args.axes (place_of c.args.points.now)) tt c.in_ok-found.ensures.refusal _ refl e)

checked : (c : After-stepped_lengths_refused) → let s =
    c.args in
    c.stepped_lengths_refused.result
    ≡ stepped_lengths_refused s.axes (place_of s.points.now) s.knots s.samples s.coordinates
checked c =
    let found = c.in_ok-found.ensures.sizes in
    rw (← found.knots, ← samples_told c.args.axes _ found.numbers) c.stepped_lengths_refused.ensures

pub returns-then-axes_refused : goal.returns-then-axes_refused
unfolding stepped_sizes_check
returns-then-axes_refused c = stop _ c.axes_refused.ensures c.if-axes_refused.true

pub sizes_of_points-requires : goal.sizes_of_points-requires
sizes_of_points-requires c =
    let few = axes_few (sym c.axes_refused.ensures ∙ c.if-axes_refused.false) in
    (few.0, few.1, search rules)

pub returns-in_err-found : goal.returns-in_err-found
unfolding stepped_sizes_check points_check
returns-in_err-found c =
    pass _ c.axes_refused.ensures c.if-axes_refused.false
    (rows_given (points_rows c.args.axes (place_of c.args.points.now)) tt c.from_residual.result _ c.in_err-found.ensures.refusal
    c.from_residual.ensures.1 _)

pub stepped_lengths_refused-requires : goal.stepped_lengths_refused-requires
stepped_lengths_refused-requires c = (axes_few (sym c.axes_refused.ensures ∙ c.if-axes_refused.false)).1

pub returns-then-stepped_lengths_refused : goal.returns-then-stepped_lengths_refused
unfolding stepped_sizes_check
returns-then-stepped_lengths_refused c = past (goal.at.returns-then-stepped_lengths_refused c).In_ok-found _ (stop _ (checked (goal.at.returns-then-stepped_lengths_refused c).After-stepped_lengths_refused) c.if-stepped_lengths_refused.true)

pub returns : goal.returns
unfolding stepped_sizes_check
returns c = past (goal.at.returns c).In_ok-found _ (pass _ (checked (goal.at.returns c).After-stepped_lengths_refused) c.if-stepped_lengths_refused.false refl)
