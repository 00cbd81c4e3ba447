-- 1 to 9 of a change: the number returned is that of the first row that applies. Rows 1 to 3 are asked as one and leave sizes in
-- range, row 4 leaves the exact count of knots, and by `grid_finite` those that pass 8 are finite, as the test for 7 requires.
use mathlib.Core.Path.{◌≡◌, refl, sym, ◌∙◌}
use lib.ListN.{length}
use Rattle.rules.specs.Sizes.{knots_length, tensor_length, place_of}
use Rattle.grid_checks.specs.Checked.{FiniteUnless}
use Rattle.grid.specs.GridOfCall.{grid, sizes_of, points_of, InRange}
use Rattle.grid_checks.specs.Check.{change_rows, change_check}
use Rattle.grid_checks.proofs.Rows.{stop, pass, Past, sizes_passed, sizes_given, sizes_pass, exact_2}
use Rattle.grid_checks.proofs.FiniteKnots.{grid_finite}
use Rattle.grid_checks.proofs.check_change.Goals as goal
use Rattle.grid_checks.proofs.check_change.Goals.{After-some_knots_refused-knots_refused, Else-change_refused, Else-change_refused-2, Else-knots_refused, Else-place_refused, In_ok-check_sizes, Else-scratch_refused, Else-some_fewness_refused}

given : (c : In_ok-check_sizes) → InRange c.args.axes (points_of c.args.all)
given c = sizes_passed _ _ c.in_ok-check_sizes.ensures refl

knots_exact : (c : Else-change_refused) → length c.args.knots.now ≡ knots_length (sizes_of c.args.axes c.args.all)
knots_exact c =
    (exact_2
    (length c.args.knots.now) (knots_length (sizes_of c.args.axes c.args.all))
    (length c.args.tensor.now) (tensor_length (sizes_of c.args.axes c.args.all))
    (sym c.change_refused.ensures ∙ c.if-change_refused.false)
    ).0

knots_finite : (c : After-some_knots_refused-knots_refused)
    → FiniteUnless c.some_knots_refused-knots_refused.result c.args.knots.now
knots_finite c =
    grid_finite c.args.axes c.args.all c.args.knots.now ((sizes_passed _ _ c.in_ok-check_sizes.ensures refl))
    (((exact_2
    (length c.args.knots.now) (knots_length (sizes_of c.args.axes c.args.all))
    (length c.args.tensor.now) (tensor_length (sizes_of c.args.axes c.args.all))
    (sym c.change_refused.ensures ∙ c.if-change_refused.false)
    ).0)) c.some_knots_refused-knots_refused.ensures

past_1 : (c : In_ok-check_sizes) → Past ((change_rows (grid c.args.axes c.args.all c.args.knots.now) c.args.tensor.now c.args.scratch_length
    (place_of c.args.place) c.args.sample)) 3
past_1 c answer e = sizes_pass _ _ c.in_ok-check_sizes.ensures _ refl e

past_2 : (c : Else-change_refused) → Past ((change_rows (grid c.args.axes c.args.all c.args.knots.now) c.args.tensor.now c.args.scratch_length
    (place_of c.args.place) c.args.sample)) 4
past_2 c answer e = (sizes_pass _ _ c.in_ok-check_sizes.ensures _ refl (pass _ c.change_refused.ensures c.if-change_refused.false e))

past_3 : (c : Else-scratch_refused) → Past ((change_rows (grid c.args.axes c.args.all c.args.knots.now) c.args.tensor.now c.args.scratch_length
    (place_of c.args.place) c.args.sample)) 5
past_3 c answer e = ((sizes_pass _ _ c.in_ok-check_sizes.ensures _ refl (pass _ c.change_refused.ensures c.if-change_refused.false (pass _ c.scratch_refused.ensures c.if-scratch_refused.false e))))

past_4 : (c : Else-place_refused) → Past ((change_rows (grid c.args.axes c.args.all c.args.knots.now) c.args.tensor.now c.args.scratch_length
    (place_of c.args.place) c.args.sample)) 6
past_4 c answer e = (((sizes_pass _ _ c.in_ok-check_sizes.ensures _ refl (pass _ c.change_refused.ensures c.if-change_refused.false (pass _ c.scratch_refused.ensures c.if-scratch_refused.false (pass _ c.place_refused.ensures c.if-place_refused.false e))))))

past_5 : (c : Else-change_refused-2) → Past ((change_rows (grid c.args.axes c.args.all c.args.knots.now) c.args.tensor.now c.args.scratch_length
    (place_of c.args.place) c.args.sample)) 7
past_5 c answer e = ((((sizes_pass _ _ c.in_ok-check_sizes.ensures _ refl (pass _ c.change_refused.ensures c.if-change_refused.false (pass _ c.scratch_refused.ensures c.if-scratch_refused.false (pass _ c.place_refused.ensures c.if-place_refused.false (pass _ c.change_refused-2.ensures c.if-change_refused-2.false e))))))))

past_6 : (c : Else-knots_refused) → Past ((change_rows (grid c.args.axes c.args.all c.args.knots.now) c.args.tensor.now c.args.scratch_length
    (place_of c.args.place) c.args.sample)) 8
past_6 c answer e = (((((sizes_pass _ _ c.in_ok-check_sizes.ensures _ refl (pass _ c.change_refused.ensures c.if-change_refused.false (pass _ c.scratch_refused.ensures c.if-scratch_refused.false (pass _ c.place_refused.ensures c.if-place_refused.false (pass _ c.change_refused-2.ensures c.if-change_refused-2.false (pass _ c.some_knots_refused-knots_refused.ensures c.if-knots_refused.false e))))))))))

past_7 : (c : Else-some_fewness_refused) → Past ((change_rows (grid c.args.axes c.args.all c.args.knots.now) c.args.tensor.now c.args.scratch_length
    (place_of c.args.place) c.args.sample)) 9
past_7 c answer e = ((((((sizes_pass _ _ c.in_ok-check_sizes.ensures _ refl (pass _ c.change_refused.ensures c.if-change_refused.false (pass _ c.scratch_refused.ensures c.if-scratch_refused.false (pass _ c.place_refused.ensures c.if-place_refused.false (pass _ c.change_refused-2.ensures c.if-change_refused-2.false (pass _ c.some_knots_refused-knots_refused.ensures c.if-knots_refused.false (pass _ c.some_fewness_refused.ensures c.if-some_fewness_refused.false e))))))))))))

pub returns-in_err-check_sizes : goal.returns-in_err-check_sizes
unfolding change_check
returns-in_err-check_sizes c =
    sizes_given _ _ c.in_err-check_sizes.ensures c.from_residual.result _ refl c.from_residual.ensures.1 _

pub change_refused-requires : goal.change_refused-requires
change_refused-requires c = given (goal.at.change_refused-requires c).In_ok-check_sizes

pub returns-then-change_refused : goal.returns-then-change_refused
unfolding change_check
returns-then-change_refused c = past_1 (goal.at.returns-then-change_refused c).In_ok-check_sizes _ (stop _ c.change_refused.ensures c.if-change_refused.true)

pub scratch_refused-requires : goal.scratch_refused-requires
scratch_refused-requires c = given (goal.at.scratch_refused-requires c).In_ok-check_sizes

pub returns-then-scratch_refused : goal.returns-then-scratch_refused
unfolding change_check
returns-then-scratch_refused c = past_2 (goal.at.returns-then-scratch_refused c).Else-change_refused _ (stop _ c.scratch_refused.ensures c.if-scratch_refused.true)

pub place_refused-requires : goal.place_refused-requires
place_refused-requires c = (given (goal.at.place_refused-requires c).In_ok-check_sizes).few_axes

pub returns-then-place_refused : goal.returns-then-place_refused
unfolding change_check
returns-then-place_refused c = past_3 (goal.at.returns-then-place_refused c).Else-scratch_refused _ (stop _ c.place_refused.ensures c.if-place_refused.true)

pub some_knots_refused-knots_refused-requires : goal.some_knots_refused-knots_refused-requires
some_knots_refused-knots_refused-requires c = (given (goal.at.some_knots_refused-knots_refused-requires c).In_ok-check_sizes, knots_exact (goal.at.some_knots_refused-knots_refused-requires c).Else-change_refused)

pub change_refused-requires-2 : goal.change_refused-requires-2
change_refused-requires-2 c = ((given (goal.at.change_refused-requires-2 c).In_ok-check_sizes).few_axes, knots_finite (goal.at.change_refused-requires-2 c).After-some_knots_refused-knots_refused)

pub returns-then-change_refused-2 : goal.returns-then-change_refused-2
unfolding change_check
returns-then-change_refused-2 c = past_4 (goal.at.returns-then-change_refused-2 c).Else-place_refused _ (stop _ c.change_refused-2.ensures c.if-change_refused-2.true)

pub returns-then-knots_refused : goal.returns-then-knots_refused
unfolding change_check
returns-then-knots_refused c = past_5 (goal.at.returns-then-knots_refused c).Else-change_refused-2 _ (stop _ c.some_knots_refused-knots_refused.ensures c.if-knots_refused.true)

pub some_fewness_refused-requires : goal.some_fewness_refused-requires
some_fewness_refused-requires c = (given (goal.at.some_fewness_refused-requires c).In_ok-check_sizes).few_axes

pub returns-then-some_fewness_refused : goal.returns-then-some_fewness_refused
unfolding change_check
returns-then-some_fewness_refused c = past_6 (goal.at.returns-then-some_fewness_refused c).Else-knots_refused _ (stop _ c.some_fewness_refused.ensures c.if-some_fewness_refused.true)

pub returns : goal.returns
unfolding change_check
returns c = past_7 (goal.at.returns c).Else-some_fewness_refused _ refl
