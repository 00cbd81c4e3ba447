-- All slopes and moments of four periodic lanes stand in their blocks: by `cycle_solved` each lane's solve without corners, less its
-- factor times z, gives the moments of the rules. `still_lies` keeps the lanes in reach from call to call.
use native.Mathlib.Omega.{arith}
use mathlib.Core.Path.{refl, ◌∙◌}
use Rattle.tensor_four_lanes.proofs.CyclicMoments.{cycle_solved}
use Rattle.tensor_four_lanes.proofs.Groups.{still_lies}
use Rattle.tensor_four_lanes.proofs.cycle.cyclic_moments.Goals as goal

pub slopes-requires : goal.slopes-requires
slopes-requires c =
    let pre = c.requires in
    (still_lies _ _ _ _ _ _ _ refl (omega (arith, pre)) pre.numbers, omega arith)

pub slopes-requires-2 : goal.slopes-requires-2
slopes-requires-2 c =
    let pre = c.requires in
    (still_lies _ _ _ _ _ _ _ c.slopes.ensures.same_length (omega arith) pre.numbers, omega (arith, pre))

pub forward-requires : goal.forward-requires
forward-requires c =
    let pre = c.requires in (
      still_lies _ _ _ _ _ _ _
          (c.set_row.ensures.same_length ∙ c.slopes-2.ensures.same_length ∙ c.slopes.ensures.same_length)
          (omega arith) pre.numbers,
      omega (arith, pre),
    )

pub back-requires : goal.back-requires
back-requires c =
    let pre = c.requires in (
      record {
        room = omega (
          arith,
          c.forward.ensures.same_length ∙ c.set_row.ensures.same_length
              ∙ c.slopes-2.ensures.same_length ∙ c.slopes.ensures.same_length,
          pre,
        );
        few = omega (
          arith,
          c.forward.ensures.same_length ∙ c.set_row.ensures.same_length
              ∙ c.slopes-2.ensures.same_length ∙ c.slopes.ensures.same_length,
          pre,
        );
      },
      omega arith,
    )

pub get_row-y-requires : goal.get_row-y-requires
get_row-y-requires c =
    let pre = c.requires in
    omega (
      arith,
      c.back.ensures.same_length ∙ c.forward.ensures.same_length ∙ c.set_row.ensures.same_length
          ∙ c.slopes-2.ensures.same_length ∙ c.slopes.ensures.same_length,
      pre,
    )

pub get_row-y_last-requires : goal.get_row-y_last-requires
get_row-y_last-requires c =
    let pre = c.requires in
    omega (
      arith,
      c.back.ensures.same_length ∙ c.forward.ensures.same_length ∙ c.set_row.ensures.same_length
          ∙ c.slopes-2.ensures.same_length ∙ c.slopes.ensures.same_length,
      pre,
    )

pub subtract-requires : goal.subtract-requires
subtract-requires c =
    let pre = c.requires in
    record {
      room = omega (
        arith,
        c.back.ensures.same_length ∙ c.forward.ensures.same_length ∙ c.set_row.ensures.same_length
            ∙ c.slopes-2.ensures.same_length ∙ c.slopes.ensures.same_length,
        pre,
      );
      few = omega (
        arith,
        c.back.ensures.same_length ∙ c.forward.ensures.same_length ∙ c.set_row.ensures.same_length
            ∙ c.slopes-2.ensures.same_length ∙ c.slopes.ensures.same_length,
        pre,
      );
    }

pub get_row-m-requires : goal.get_row-m-requires
get_row-m-requires c =
    let pre = c.requires in
    omega (
      arith,
      c.subtract.ensures.same_length ∙ c.back.ensures.same_length
          ∙ c.forward.ensures.same_length ∙ c.set_row.ensures.same_length
          ∙ c.slopes-2.ensures.same_length
          ∙ c.slopes.ensures.same_length,
      pre,
    )

pub set_row-requires-2 : goal.set_row-requires-2
set_row-requires-2 c =
    let pre = c.requires in
    omega (
      arith,
      c.subtract.ensures.same_length ∙ c.back.ensures.same_length
          ∙ c.forward.ensures.same_length ∙ c.set_row.ensures.same_length
          ∙ c.slopes-2.ensures.same_length
          ∙ c.slopes.ensures.same_length,
      pre,
    )

pub shape_of-w : goal.shape_of-w
shape_of-w c =
    c.set_row-2.ensures.same_length ∙ c.subtract.ensures.same_length ∙ c.back.ensures.same_length
    ∙ c.forward.ensures.same_length ∙ c.set_row.ensures.same_length ∙ c.slopes-2.ensures.same_length
    ∙ c.slopes.ensures.same_length

pub returns : goal.returns
returns c =
    let pre = c.requires in
    cycle_solved _ _ _ _ _ _ _ _ _ _ _ _ _ (pre) _ _ _ _ _ _ _ _ _ _ _ c.slopes.ensures c.slopes-2.ensures
    c.get_row-s.ensures c.get_row-s_last.ensures c.minus.ensures c.times.ensures
    c.over-first.ensures c.set_row.ensures c.forward.ensures c.back.ensures
    c.get_row-y.ensures c.get_row-y_last.ensures c.times-2.ensures c.plus.ensures
    c.over-factor.ensures c.subtract.ensures c.get_row-m.ensures c.set_row-2.ensures
