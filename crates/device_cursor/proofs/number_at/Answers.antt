-- Two's complement: 32 bits read with their sign are the rule's number, which 64 bits hold too.
use mathlib.Core.Path.{ap, ◌∙◌}
use mir.Syntax.{w32, w64}
use mir.Val.{SFits}
use mir.ValLaws.{to_z-of_z}
use Rattle.base_integers.proofs.Sizes.{wider}
use Rattle.device_cursor.specs.DeviceCurve.{signed}
use Rattle.device_cursor.proofs.Lifted.{bits_signed}
use Rattle.device_cursor.proofs.number_at.Goals as goal

pub returns : goal.returns
returns c =
    let fits : SFits w32 c.cast_signed.result = record { sfits = c.cast_signed.type_inv } in
    rw (to_z-of_z w32 c.cast_signed.result fits, to_z-of_z w64 c.cast_signed.result (wider _ fits))
    (c.cast_signed.ensures ∙ bits_signed _ c.four_bytes.type_inv ∙ ap signed c.four_bytes.ensures)
