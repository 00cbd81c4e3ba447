-- What the build refuses is counted by its number; else the tensor is counted where it stands, behind the rows of the scratch.
use mathlib.Core.Path.{◌≡◌, refl, ◌∙◌}
use native.Mathlib.Nat.{add-sub_cancel_left}
use native.Mathlib.Omega.{arith}
use Rattle.rules.specs.Sizes.{tensor_length}
use Rattle.rules.proofs.Given.{number_some}
use Rattle.sheet_read.specs.Fields.{sheet_grid}
use Rattle.sheet_in_scratch.proofs.OfSheet.{range}
use Rattle.report.proofs.CountedAlone.{
  numbers_few,
  room,
  tensor_counted,
  build_counted,
  in_places,
  accepted_counted,
}
use Rattle.report.proofs.count_read.Goals as goal
use Rattle.report.proofs.count_read.Goals.{After-tensor_length-end}

counted : (l : After-tensor_length-end) → l.tensor_length-end.result ≡ tensor_length (sheet_grid l.args.bytes.now)
counted l =
    let pre = l.requires in
    l.tensor_length-end.ensures.0 ∙ tensor_counted _ _ pre.1 refl

pub tensor_in_scratch-built-requires : goal.tensor_in_scratch-built-requires
tensor_in_scratch-built-requires c =
    let pre = c.requires in
    room _ _ pre.1 refl _ _ _ pre.2

pub returns-in-Err : goal.returns-in-Err
returns-in-Err c =
    let pre = c.requires in
    build_counted _ _ pre.1 refl _ _ _ _ (rw c.in-Err.is at c.tensor_in_scratch-built.ensures) _ _ (number_some _) c.with_refused.ensures

pub tensor_length-end-requires : goal.tensor_length-end-requires
tensor_length-end-requires c =
    let pre = c.requires in
    range _ _ _ _ _ _ (room _ _ pre.1 refl _ _ _ pre.2).0

pub slice_bounds-with_accepted-end : goal.slice_bounds-with_accepted-end
slice_bounds-with_accepted-end c =
    let pre = c.requires in
    omega (arith, counted (goal.at.slice_bounds-with_accepted-end c).After-tensor_length-end, numbers_few _ _ pre.1 refl, pre.2.scratch_long)

pub with_accepted-requires : goal.with_accepted-requires
with_accepted-requires c =
    let pre = c.requires in (
      in_places _ _ pre.1 refl _ _ _ _ (rw c.in_default.is at c.tensor_in_scratch-built.ensures) refl _
          (add-sub_cancel_left _ _ ∙ counted (goal.at.with_accepted-requires c).After-tensor_length-end),
      pre.0,
    )

pub returns : goal.returns
returns c =
    let pre = c.requires in
    accepted_counted _ _ pre.1 refl _ _ _ _ (rw c.in_default.is at c.tensor_in_scratch-built.ensures) refl _
    (add-sub_cancel_left _ _ ∙ counted (goal.at.returns c).After-tensor_length-end) _ _ c.with_accepted.ensures
