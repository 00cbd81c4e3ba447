-- What the call within ensures, said of the arguments as they were given: each of the five fits in 32 bits and is handed on unchanged.
use mir.Syntax.{w32}
use mir.ValLaws.{to_z-of_z}
use Rattle.hullashlar.proofs.hullashlar_cell_value.Goals as goal

pub returns : goal.returns
returns c =
    rw (
      to_z-of_z w32 c.args.p0 c.ranges.p0,
      to_z-of_z w32 c.args.p1 c.ranges.p1,
      to_z-of_z w32 c.args.d0 c.ranges.d0,
      to_z-of_z w32 c.args.d1 c.ranges.d1,
      to_z-of_z w32 c.args.k c.ranges.k,
    ) at c.cell_value.ensures
