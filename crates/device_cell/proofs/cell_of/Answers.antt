-- Four 32-bit numbers, each widened to 64 bits: every one fits there and stays what it was.
use mir.Syntax.{w32, w64}
use mir.ValLaws.{to_z-of_z}
use Rattle.base_integers.proofs.Sizes.{wider}
use Rattle.device_cell.proofs.cell_of.Goals as goal

pub overflow_cast-result : goal.overflow_cast-result
overflow_cast-result c = rw (to_z-of_z w32 c.args.p0 c.ranges.p0) (wider _ c.ranges.p0)

pub overflow_cast-result-2 : goal.overflow_cast-result-2
overflow_cast-result-2 c = rw (to_z-of_z w32 c.args.p1 c.ranges.p1) (wider _ c.ranges.p1)

pub overflow_cast-result-3 : goal.overflow_cast-result-3
overflow_cast-result-3 c = rw (to_z-of_z w32 c.args.d0 c.ranges.d0) (wider _ c.ranges.d0)

pub overflow_cast-result-4 : goal.overflow_cast-result-4
overflow_cast-result-4 c = rw (to_z-of_z w32 c.args.d1 c.ranges.d1) (wider _ c.ranges.d1)

pub returns : goal.returns
returns c =
    rw (
      to_z-of_z w32 c.args.p0 c.ranges.p0,
      to_z-of_z w32 c.args.p1 c.ranges.p1,
      to_z-of_z w32 c.args.d0 c.ranges.d0,
      to_z-of_z w32 c.args.d1 c.ranges.d1,
      to_z-of_z w64 c.args.p0 (wider _ c.ranges.p0),
      to_z-of_z w64 c.args.p1 (wider _ c.ranges.p1),
      to_z-of_z w64 c.args.d0 (wider _ c.ranges.d0),
      to_z-of_z w64 c.args.d1 (wider _ c.ranges.d1),
    )
