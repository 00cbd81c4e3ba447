-- A refusal of the build is given; else the query has the sheet's knots and its tensor where it stands in the scratch, so its refusal or
-- its value is that of the rules.
use mathlib.Core.Path.{◌≡◌, refl, ◌∙◌}
use native.Mathlib.Nat.{add-sub_cancel_left}
use native.Mathlib.Omega.{arith}
use Rattle.rules.specs.Sizes.{tensor_length}
use Rattle.rules.proofs.Given.{err_given}
use Rattle.sheet_read.specs.Fields.{sheet_grid}
use Rattle.sheet_in_scratch.proofs.OfSheet.{range, tensor_is, knots_within, knots_taken}
use Rattle.sheet_surface.proofs.Answers.{read_of, four_long, build_refused, query_asked, query_refused, query_answered}
use Rattle.sheet_surface.proofs.build_and_query.Goals as goal
use Rattle.sheet_surface.proofs.build_and_query.Goals.{After-tensor_length-end}

-- the tensor's length, of the sheet's grid
length_is : (l : After-tensor_length-end) → l.tensor_length-end.result ≡ tensor_length (sheet_grid l.args.bytes.now)
length_is l = l.tensor_length-end.ensures.0 ∙ tensor_is _ _ _ _ _ _ l.requires.0

pub returns-in_err-tensor_in_scratch : goal.returns-in_err-tensor_in_scratch
returns-in_err-tensor_in_scratch c =
    rw (err_given c.from_residual.result _ c.from_residual.ensures.1)
    (build_refused _ c.args.patterns _ c.in_err-tensor_in_scratch.ensures.refused)

pub knots_length-knots_end-requires : goal.knots_length-knots_end-requires
knots_length-knots_end-requires c = range _ _ _ _ _ _ c.requires.0

pub tensor_length-end-requires : goal.tensor_length-end-requires
tensor_length-end-requires c = range _ _ _ _ _ _ c.requires.0

pub slice_bounds-query-end : goal.slice_bounds-query-end
slice_bounds-query-end c = knots_within _ _ _ _ _ _ c.requires.0 _ c.in_ok-tensor_in_scratch.ensures.knots _ c.knots_length-knots_end.ensures.0

pub slice_bounds-query-end-2 : goal.slice_bounds-query-end-2
slice_bounds-query-end-2 c =
    let kept = c.tensor_in_scratch.auto in
    omega (arith, length_is (goal.at.slice_bounds-query-end-2 c).After-tensor_length-end, c.requires.1)

pub slice_bounds-query-end-3 : goal.slice_bounds-query-end-3
slice_bounds-query-end-3 c =
    let few = (range _ _ _ _ _ _ c.requires.0).few_axes in
    let long = four_long c.args.patterns _ c.coordinates_of-coordinates.ensures in omega arith

-- what the query gives is what is asked of the sheet's tensor
pub returns-in_err-found : goal.returns-in_err-found
returns-in_err-found c =
    let left = c.in_ok-tensor_in_scratch.ensures in
    let s = c.requires.0 in
    let from = c.from_residual-in_err-found in
    rw (err_given from.result _ from.ensures.1)
    (query_refused _ c.args.patterns left.refused _
    (query_asked _ _ _ _ _ (read_of s) _ c.tensor_in_scratch.new.scratch _ _ _
    (knots_taken _ _ _ _ _ _ s _ left.knots _ c.knots_length-knots_end.ensures.0)
    (add-sub_cancel_left _ _ ∙ (c.tensor_length-end.ensures.0 ∙ tensor_is _ _ _ _ _ _ c.requires.0)) (left.output refl)
    c.coordinates_of-coordinates.ensures c.in_err-found.ensures))

pub returns : goal.returns
returns c =
    let left = c.in_ok-tensor_in_scratch.ensures in
    let s = c.requires.0 in
    query_answered _ c.args.patterns left.refused _
    (query_asked _ _ _ _ _ (read_of s) _ c.tensor_in_scratch.new.scratch _ _ _
    (knots_taken _ _ _ _ _ _ s _ left.knots _ c.knots_length-knots_end.ensures.0)
    (add-sub_cancel_left _ _ ∙ (c.tensor_length-end.ensures.0 ∙ tensor_is _ _ _ _ _ _ c.requires.0)) (left.output refl)
    c.coordinates_of-coordinates.ensures c.in_ok-found.ensures)
