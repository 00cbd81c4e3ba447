-- The 16 bytes of cell i as four numbers in the order p0, p1, d0, d1; all of them lie within the curve.
use mir.Syntax.{w64}
use mir.ValLaws.{to_z-of_z}
use Rattle.device_cursor.proofs.cell_at.Goals as goal

pub returns : goal.returns
returns c =
    rw (
      to_z-of_z w64 c.number_at-4.result (record { sfits = c.number_at-4.type_inv }),
      to_z-of_z w64 c.number_at-3.result (record { sfits = c.number_at-3.type_inv }),
      to_z-of_z w64 c.number_at-2.result (record { sfits = c.number_at-2.type_inv }),
      to_z-of_z w64 c.number_at.result (record { sfits = c.number_at.type_inv }),
      c.number_at-4.ensures,
      c.number_at-3.ensures,
      c.number_at-2.ensures,
      c.number_at.ensures,
    )
