-- The rows of one axis in order: 2, 4 for the two ends, 4 for knots, samples and moments, 13. The two kinds are read only behind the
-- test of the ends, which leaves exactly two of them.
use mathlib.Core.Path.{◌≡◌, refl, sym, ◌∙◌}
use mathlib.Core.Bool.{true, false}
use native.Mathlib.Omega.{arith}
use lib.ListN.{length, get_or}
use Rattle.grid_codes.specs.Kinds.{kinds_refused}
use Rattle.grid_checks.proofs.Rows.{first, second, stop, pass, Past}
use Rattle.c_refusals.specs.OwnRefusals.{moments_own_rows, moments_own_refusal}
use Rattle.c_refusals.proofs.Lengths.{two_lengths}
use Rattle.c_refusals.proofs.own.check_moments.Goals as goal
use Rattle.c_refusals.proofs.own.check_moments.Goals.{Else-axis_refused, Else-points_refused, Else-ends_refused}

past_points : (c : Else-points_refused) → Past ((moments_own_rows c.args.points c.args.knots.now c.args.samples.now c.args.kinds.now c.args.values.now
    c.args.moments.now)) 1
past_points c answer e = pass _ c.points_refused.ensures c.if-points_refused.false e

two : (c : Else-ends_refused)
    → (length c.args.kinds.now ≡ 2) × (length c.args.values.now ≡ 2)
two c =
    two_lengths c.args.kinds.now c.args.values.now
    (sym c.ends_refused.ensures ∙ c.if-ends_refused.false)

past_lengths : (c : Else-axis_refused) → Past ((moments_own_rows c.args.points c.args.knots.now c.args.samples.now c.args.kinds.now c.args.values.now
    c.args.moments.now)) 2
past_lengths c answer e =
    (pass _ c.points_refused.ensures c.if-points_refused.false (pass _
    (second c.ends_refused.ensures c.if-ends_refused.false c.axis_refused.ensures)
    c.if-axis_refused.false e))

pub returns-then-points_refused : goal.returns-then-points_refused
unfolding moments_own_refusal
returns-then-points_refused c = stop _ c.points_refused.ensures c.if-points_refused.true

pub returns-then-ends_refused : goal.returns-then-ends_refused
unfolding moments_own_refusal
returns-then-ends_refused c = past_points (goal.at.returns-then-ends_refused c).Else-points_refused _ (stop _ (first _ c.ends_refused.ensures c.if-ends_refused.true) refl)

pub returns-then-axis_refused : goal.returns-then-axis_refused
unfolding moments_own_refusal
returns-then-axis_refused c =
    past_points (goal.at.returns-then-axis_refused c).Else-points_refused _
    (stop _
    (second c.ends_refused.ensures c.if-ends_refused.false c.axis_refused.ensures)
    c.if-axis_refused.true)

pub bounds-kinds-0 : goal.bounds-kinds-0
bounds-kinds-0 c = let long = two (goal.at.bounds-kinds-0 c).Else-ends_refused in omega arith

pub bounds-kinds-1 : goal.bounds-kinds-1
bounds-kinds-1 c = let long = two (goal.at.bounds-kinds-1 c).Else-ends_refused in omega arith

pub returns-then-kinds_refused : goal.returns-then-kinds_refused
unfolding moments_own_refusal
returns-then-kinds_refused c =
    let kinds = c.args.kinds.now in
    let found : kinds_refused (get_or kinds 0 0) (get_or kinds 1 0) ≡ true = cc in
    past_lengths (goal.at.returns-then-kinds_refused c).Else-axis_refused _ (stop _ refl found)

pub returns : goal.returns
unfolding moments_own_refusal
returns c =
    let kinds = c.args.kinds.now in
    let found : kinds_refused (get_or kinds 0 0) (get_or kinds 1 0) ≡ false = cc in
    past_lengths (goal.at.returns c).Else-axis_refused _ (pass _ refl found refl)
