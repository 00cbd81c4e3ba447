-- 1 to 5 and 7 to 9 of a build, the first row that applies: 1 to 3 by one call (`sizes_given`, `sizes_pass`), the others one by one.
-- Sizes in range and the exact count of knots are known past row 4; the pass over the knots and what 7 requires of them need both.
use mathlib.Core.Path.{◌≡◌, refl, sym, ◌∙◌}
use lib.ListN.{length}
use Rattle.rules.specs.Sizes.{knots_length, samples_length, tensor_length}
use Rattle.grid_checks.specs.Checked.{FiniteUnless}
use Rattle.grid.specs.GridOfCall.{grid, sizes_of, points_of, InRange}
use Rattle.grid_checks.specs.Check.{build_rows, build_check}
use Rattle.grid_checks.proofs.Rows.{stop, pass, Past, sizes_passed, sizes_given, sizes_pass, exact_3}
use Rattle.grid_checks.proofs.FiniteKnots.{grid_finite}
use Rattle.grid_checks.proofs.check_build.Goals as goal
use Rattle.grid_checks.proofs.check_build.Goals.{After-some_knots_refused-knots_refused, Else-build_refused, Else-build_refused-2, Else-knots_refused, In_ok-check_sizes, Else-scratch_refused, Else-some_fewness_refused}

given : (c : In_ok-check_sizes) → InRange c.args.axes (points_of c.args.all)
given c = sizes_passed _ _ c.in_ok-check_sizes.ensures refl

knots_exact : (c : Else-build_refused) → length c.args.knots.now ≡ knots_length (sizes_of c.args.axes c.args.all)
knots_exact c =
    (exact_3
    (length c.args.knots.now) (knots_length (sizes_of c.args.axes c.args.all))
    (length c.args.samples.now) (samples_length (sizes_of c.args.axes c.args.all))
    c.args.tensor_length (tensor_length (sizes_of c.args.axes c.args.all))
    (sym c.build_refused.ensures ∙ c.if-build_refused.false)
    ).0

knots_finite : (c : After-some_knots_refused-knots_refused)
    → FiniteUnless c.some_knots_refused-knots_refused.result c.args.knots.now
knots_finite c =
    grid_finite c.args.axes c.args.all
    c.args.knots.now ((sizes_passed _ _ c.in_ok-check_sizes.ensures refl))
    (((exact_3
    (length c.args.knots.now) (knots_length (sizes_of c.args.axes c.args.all))
    (length c.args.samples.now) (samples_length (sizes_of c.args.axes c.args.all))
    c.args.tensor_length (tensor_length (sizes_of c.args.axes c.args.all))
    (sym c.build_refused.ensures ∙ c.if-build_refused.false)
    ).0)) c.some_knots_refused-knots_refused.ensures

past_1 : (c : In_ok-check_sizes) → Past ((build_rows (grid c.args.axes c.args.all c.args.knots.now) c.args.samples.now c.args.tensor_length
    c.args.scratch_length)) 3
past_1 c answer e = sizes_pass _ _ c.in_ok-check_sizes.ensures _ refl e

past_2 : (c : Else-build_refused) → Past ((build_rows (grid c.args.axes c.args.all c.args.knots.now) c.args.samples.now c.args.tensor_length
    c.args.scratch_length)) 4
past_2 c answer e = (sizes_pass _ _ c.in_ok-check_sizes.ensures _ refl (pass _ c.build_refused.ensures c.if-build_refused.false e))

past_3 : (c : Else-scratch_refused) → Past ((build_rows (grid c.args.axes c.args.all c.args.knots.now) c.args.samples.now c.args.tensor_length
    c.args.scratch_length)) 5
past_3 c answer e = ((sizes_pass _ _ c.in_ok-check_sizes.ensures _ refl (pass _ c.build_refused.ensures c.if-build_refused.false (pass _ c.scratch_refused.ensures c.if-scratch_refused.false e))))

past_4 : (c : Else-build_refused-2) → Past ((build_rows (grid c.args.axes c.args.all c.args.knots.now) c.args.samples.now c.args.tensor_length
    c.args.scratch_length)) 6
past_4 c answer e = (((sizes_pass _ _ c.in_ok-check_sizes.ensures _ refl (pass _ c.build_refused.ensures c.if-build_refused.false (pass _ c.scratch_refused.ensures c.if-scratch_refused.false (pass _ c.build_refused-2.ensures c.if-build_refused-2.false e))))))

past_5 : (c : Else-knots_refused) → Past ((build_rows (grid c.args.axes c.args.all c.args.knots.now) c.args.samples.now c.args.tensor_length
    c.args.scratch_length)) 7
past_5 c answer e = ((((sizes_pass _ _ c.in_ok-check_sizes.ensures _ refl (pass _ c.build_refused.ensures c.if-build_refused.false (pass _ c.scratch_refused.ensures c.if-scratch_refused.false (pass _ c.build_refused-2.ensures c.if-build_refused-2.false (pass _ c.some_knots_refused-knots_refused.ensures c.if-knots_refused.false e))))))))

past_6 : (c : Else-some_fewness_refused) → Past ((build_rows (grid c.args.axes c.args.all c.args.knots.now) c.args.samples.now c.args.tensor_length
    c.args.scratch_length)) 8
past_6 c answer e = (((((sizes_pass _ _ c.in_ok-check_sizes.ensures _ refl (pass _ c.build_refused.ensures c.if-build_refused.false (pass _ c.scratch_refused.ensures c.if-scratch_refused.false (pass _ c.build_refused-2.ensures c.if-build_refused-2.false (pass _ c.some_knots_refused-knots_refused.ensures c.if-knots_refused.false (pass _ c.some_fewness_refused.ensures c.if-some_fewness_refused.false e))))))))))

pub returns-in_err-check_sizes : goal.returns-in_err-check_sizes
unfolding build_check
returns-in_err-check_sizes c =
    sizes_given _ _ c.in_err-check_sizes.ensures c.from_residual.result _ refl c.from_residual.ensures.1 _

pub build_refused-requires : goal.build_refused-requires
build_refused-requires c = given (goal.at.build_refused-requires c).In_ok-check_sizes

pub returns-then-build_refused : goal.returns-then-build_refused
unfolding build_check
returns-then-build_refused c = past_1 (goal.at.returns-then-build_refused c).In_ok-check_sizes _ (stop _ c.build_refused.ensures c.if-build_refused.true)

pub scratch_refused-requires : goal.scratch_refused-requires
scratch_refused-requires c = given (goal.at.scratch_refused-requires c).In_ok-check_sizes

pub returns-then-scratch_refused : goal.returns-then-scratch_refused
unfolding build_check
returns-then-scratch_refused c = past_2 (goal.at.returns-then-scratch_refused c).Else-build_refused _ (stop _ c.scratch_refused.ensures c.if-scratch_refused.true)

pub some_knots_refused-knots_refused-requires : goal.some_knots_refused-knots_refused-requires
some_knots_refused-knots_refused-requires c = (given (goal.at.some_knots_refused-knots_refused-requires c).In_ok-check_sizes, knots_exact (goal.at.some_knots_refused-knots_refused-requires c).Else-build_refused)

pub build_refused-requires-2 : goal.build_refused-requires-2
build_refused-requires-2 c = ((given (goal.at.build_refused-requires-2 c).In_ok-check_sizes).few_axes, knots_finite (goal.at.build_refused-requires-2 c).After-some_knots_refused-knots_refused)

pub returns-then-build_refused-2 : goal.returns-then-build_refused-2
unfolding build_check
returns-then-build_refused-2 c = past_3 (goal.at.returns-then-build_refused-2 c).Else-scratch_refused _ (stop _ c.build_refused-2.ensures c.if-build_refused-2.true)

pub returns-then-knots_refused : goal.returns-then-knots_refused
unfolding build_check
returns-then-knots_refused c = past_4 (goal.at.returns-then-knots_refused c).Else-build_refused-2 _ (stop _ c.some_knots_refused-knots_refused.ensures c.if-knots_refused.true)

pub some_fewness_refused-requires : goal.some_fewness_refused-requires
some_fewness_refused-requires c = (given (goal.at.some_fewness_refused-requires c).In_ok-check_sizes).few_axes

pub returns-then-some_fewness_refused : goal.returns-then-some_fewness_refused
unfolding build_check
returns-then-some_fewness_refused c = past_5 (goal.at.returns-then-some_fewness_refused c).Else-knots_refused _ (stop _ c.some_fewness_refused.ensures c.if-some_fewness_refused.true)

pub returns : goal.returns
unfolding build_check
returns c = past_6 (goal.at.returns c).Else-some_fewness_refused _ refl
