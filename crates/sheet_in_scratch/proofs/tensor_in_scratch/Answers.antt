-- The sheet's knots and samples stand in the first places of their buffers, so what is built there is the sheet's tensor.
use Rattle.sheet_in_scratch.proofs.OfSheet.{range, knots_within, knots_over, samples_within, sheet_stands}
use Rattle.sheet_in_scratch.proofs.tensor_in_scratch.Goals as goal

pub knots_length-knots_end-requires : goal.knots_length-knots_end-requires
knots_length-knots_end-requires c = range _ _ _ _ _ _ c.requires.0

pub samples_length-samples_end-requires : goal.samples_length-samples_end-requires
samples_length-samples_end-requires c = range _ _ _ _ _ _ c.requires.0

pub tensor_length-numbers-requires : goal.tensor_length-numbers-requires
tensor_length-numbers-requires c = range _ _ _ _ _ _ c.requires.0

pub slice_bounds-build_in_scratch-end : goal.slice_bounds-build_in_scratch-end
slice_bounds-build_in_scratch-end c =
    let over = knots_over _ _ _ _ _ _ c.requires.0 _ _ c.store_parts.ensures.0 c.store_parts.ensures.1 in
    knots_within _ _ _ _ _ _ c.requires.0 _ over _ c.knots_length-knots_end.ensures.0

pub slice_bounds-build_in_scratch-end-2 : goal.slice_bounds-build_in_scratch-end-2
slice_bounds-build_in_scratch-end-2 c =
    samples_within _ _ _ _ _ _ c.requires.0 _ _ c.store_parts.ensures.0 c.store_parts.ensures.1 _
    c.samples_length-samples_end.ensures.0

pub returns : goal.returns
returns c =
    sheet_stands _ _ _ _ _ _ c.requires.0 _ _ c.store_parts.ensures.0 c.store_parts.ensures.1 _ _ _ _ _ _
    c.knots_length-knots_end.ensures.0 c.samples_length-samples_end.ensures.0
    c.tensor_length-numbers.ensures.0 c.requires.1 c.build_in_scratch.ensures
