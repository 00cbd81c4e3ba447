-- By `rows_solved` the way forward and the way back leave, in each lane, the moments of the rules from the first knot not dropped on,
-- and all slopes; the places of the plan (`low`, `last`) keep every row within its block.
use native.Mathlib.Omega.{arith}
use mathlib.Core.Path.{refl, ◌∙◌}
use Rattle.tensor_four_lanes.proofs.Groups.{still_lies}
use Rattle.tensor_four_lanes.proofs.InnerMoments.{rows_solved}
use Rattle.tensor_four_lanes.proofs.ends.inner_moments.Goals as goal

pub slopes-requires : goal.slopes-requires
slopes-requires c =
    let pre = c.requires in
    (still_lies _ _ _ _ _ _ _ refl (omega (arith, pre.axis, pre.planned.last_is, pre.planned.low_is)) pre.numbers, omega arith)

pub forward-requires : goal.forward-requires
forward-requires c =
    let pre = c.requires in (
      still_lies _ _ _ _ _ _ _ (c.set_row.ensures.same_length ∙ c.slopes.ensures.same_length)
          (omega (arith, pre.axis, pre.planned.last_is, pre.planned.low_is)) pre.numbers,
      omega (arith, pre.axis, pre.planned.last_is, pre.planned.low_is),
    )

pub slopes-requires-2 : goal.slopes-requires-2
slopes-requires-2 c =
    let pre = c.requires in (
      still_lies _ _ _ _ _ _ _
          (c.forward.ensures.same_length ∙ c.set_row.ensures.same_length ∙ c.slopes.ensures.same_length)
          (omega (arith, pre.axis, pre.planned.last_is, pre.planned.low_is)) pre.numbers,
      omega (arith, pre.axis, pre.planned.last_is, pre.planned.low_is),
    )

pub overflow_sub-last : goal.overflow_sub-last
overflow_sub-last c =
    let pre = c.requires in
    omega (arith, pre.axis, pre.planned.last_is, pre.planned.low_is)

pub get_row-before-requires : goal.get_row-before-requires
get_row-before-requires c =
    let pre = c.requires in
    omega (
      arith,
      c.slopes-2.ensures.same_length ∙ c.forward.ensures.same_length
          ∙ c.set_row.ensures.same_length
          ∙ c.slopes.ensures.same_length,
      pre.axis,
      pre.planned.last_is,
      pre.planned.low_is,
    )

pub overflow_add-last : goal.overflow_add-last
overflow_add-last c =
    let pre = c.requires in
    omega (
      arith,
      c.slopes-2.ensures.same_length ∙ c.forward.ensures.same_length
          ∙ c.set_row.ensures.same_length
          ∙ c.slopes.ensures.same_length,
      pre.axis,
      pre.planned.last_is,
      pre.planned.low_is,
    )

pub offset_bounds-w-last : goal.offset_bounds-w-last
offset_bounds-w-last c =
    let pre = c.requires in
    omega (
      arith,
      c.slopes-2.ensures.same_length ∙ c.forward.ensures.same_length
          ∙ c.set_row.ensures.same_length
          ∙ c.slopes.ensures.same_length,
      pre.axis,
      pre.planned.last_is,
      pre.planned.low_is,
    )

pub bounds-w-last : goal.bounds-w-last
bounds-w-last c =
    let pre = c.requires in
    omega (
      arith,
      c.slopes-2.ensures.same_length ∙ c.forward.ensures.same_length
          ∙ c.set_row.ensures.same_length
          ∙ c.slopes.ensures.same_length,
      pre.axis,
      pre.planned.last_is,
      pre.planned.low_is,
    )

pub set_row-requires-2 : goal.set_row-requires-2
set_row-requires-2 c =
    let pre = c.requires in
    omega (
      arith,
      c.slopes-2.ensures.same_length ∙ c.forward.ensures.same_length
          ∙ c.set_row.ensures.same_length
          ∙ c.slopes.ensures.same_length,
      pre.axis,
      pre.planned.last_is,
      pre.planned.low_is,
    )

pub back-requires : goal.back-requires
back-requires c =
    let pre = c.requires in (
      record {
        room = omega (
          arith,
          c.set_row-2.ensures.same_length ∙ c.slopes-2.ensures.same_length
              ∙ c.forward.ensures.same_length ∙ c.set_row.ensures.same_length
              ∙ c.slopes.ensures.same_length,
          pre.axis,
          pre.planned.last_is,
          pre.planned.low_is,
        );
        few = omega (
          arith,
          c.set_row-2.ensures.same_length ∙ c.slopes-2.ensures.same_length
              ∙ c.forward.ensures.same_length ∙ c.set_row.ensures.same_length
              ∙ c.slopes.ensures.same_length,
          pre.axis,
          pre.planned.last_is,
          pre.planned.low_is,
        );
      },
      omega (
        arith,
        c.set_row-2.ensures.same_length ∙ c.slopes-2.ensures.same_length
            ∙ c.forward.ensures.same_length ∙ c.set_row.ensures.same_length
            ∙ c.slopes.ensures.same_length,
        pre.axis,
        pre.planned.last_is,
        pre.planned.low_is,
      ),
    )

pub shape_of-w : goal.shape_of-w
shape_of-w c =
    c.back.ensures.same_length ∙ c.set_row-2.ensures.same_length ∙ c.slopes-2.ensures.same_length
    ∙ c.forward.ensures.same_length ∙ c.set_row.ensures.same_length ∙ c.slopes.ensures.same_length

pub returns : goal.returns
returns c =
    let pre = c.requires in
    rows_solved _ _ _ _ _ _ _ _ _ _ _ _ _ (pre) _ _ _ _ _ _ _ c.slopes.ensures c.lower_right-right.ensures
    c.over-first.ensures c.set_row.ensures c.forward.ensures c.slopes-2.ensures
    c.upper_right-end.ensures c.get_row-before.ensures c.times.ensures c.minus.ensures
    c.over-top.ensures c.set_row-2.ensures c.back.ensures
