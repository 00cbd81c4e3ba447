-- The public call has one of two ends: a refusal, or the cell's number. Where nothing is refused, `passed` gives what `cell_number` asks:
-- the cell in range, and a position that is a natural of at most 256.
use mathlib.Core.Path.{◌≡◌, sym}
use mir.Syntax.{w32, w64}
use mir.Val.{to_z, of_z}
use mir.ValLaws.{to_z-of_z}
use Rattle.base_integers.proofs.Sizes.{wider}
use Rattle.device_cell.specs.DeviceCell.{cell_refusal}
use Rattle.device_cell.proofs.Given.{err_given, number_some}
use Rattle.device_cell.proofs.Answers.{Passed, passed, natural, answer_refused, answer_given}
use Rattle.device_cell.proofs.cell_value.Goals as goal
use Rattle.device_cell.proofs.cell_value.Goals.{After-cell_of-cell, In_ok-check_cell, Start}

read : (s : Start) → to_z w32 (of_z w32 s.args.k) ≡ s.args.k
read s = to_z-of_z w32 s.args.k s.ranges.k

made : (c : After-cell_of-cell) → c.cell_of-cell.result ≡ (record { p0 = c.args.p0; p1 = c.args.p1; d0 = c.args.d0; d1 = c.args.d1 })
made c =
    rw (
      to_z-of_z w32 c.args.p0 c.ranges.p0,
      to_z-of_z w32 c.args.p1 c.ranges.p1,
      to_z-of_z w32 c.args.d0 c.ranges.d0,
      to_z-of_z w32 c.args.d1 c.ranges.d1,
    ) at c.cell_of-cell.ensures

none : (c : In_ok-check_cell) → cell_refusal (record { p0 = c.args.p0; p1 = c.args.p1; d0 = c.args.d0; d1 = c.args.d1 }) c.args.k ≡ 0
none c =
    sym
    (rw (
      to_z-of_z w32 c.args.k c.ranges.k,
      to_z-of_z w64 c.args.k (wider _ c.ranges.k),
      made (goal.at.In_ok-check_cell c).After-cell_of-cell,
    ) at c.in_ok-check_cell.ensures)

known : (c : In_ok-check_cell) → Passed (record { p0 = c.args.p0; p1 = c.args.p1; d0 = c.args.d0; d1 = c.args.d1 }) c.args.k
known c = passed _ _ (none c)

pub overflow_cast-k : goal.overflow_cast-k
overflow_cast-k c = rw (read (goal.at.overflow_cast-k c).Start) (wider _ c.ranges.k)

pub returns-in_err-check_cell : goal.returns-in_err-check_cell
returns-in_err-check_cell c =
    rw (err_given c.from_residual.result _ c.from_residual.ensures.1) (record {
      answer =
          answer_refused (record { p0 = c.args.p0; p1 = c.args.p1; d0 = c.args.d0; d1 = c.args.d1 }) c.args.k _
          (rw (
            to_z-of_z w32 c.args.k c.ranges.k,
            to_z-of_z w64 c.args.k (wider _ c.ranges.k),
            made (goal.at.returns-in_err-check_cell c).After-cell_of-cell,
          ) at c.in_err-check_cell.ensures)
          (number_some _);
    })

pub overflow_cast-k-2 : goal.overflow_cast-k-2
overflow_cast-k-2 c =
    let k = known (goal.at.overflow_cast-k-2 c).In_ok-check_cell in
    rw (read (goal.at.overflow_cast-k-2 c).Start) (natural _ k.position k.most)

pub cell_number-requires : goal.cell_number-requires
cell_number-requires c =
    let k = known (goal.at.cell_number-requires c).In_ok-check_cell in
    rw (made (goal.at.cell_number-requires c).After-cell_of-cell, read (goal.at.cell_number-requires c).Start) (k.cell, k.most)

pub returns : goal.returns
returns c = record {
  answer =
      rw (to_z-of_z w32 c.cell_number.result (record { sfits = c.cell_number.type_inv }))
      (answer_given (record { p0 = c.args.p0; p1 = c.args.p1; d0 = c.args.d0; d1 = c.args.d1 }) c.args.k _
      (none (goal.at.returns c).In_ok-check_cell)
      (rw (made (goal.at.returns c).After-cell_of-cell, read (goal.at.returns c).Start) at c.cell_number.ensures));
}
