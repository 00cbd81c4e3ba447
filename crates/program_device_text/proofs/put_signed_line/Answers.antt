-- The bytes put are those of the rule's line: "-" and the magnitude for a number below zero (`line_below`), else the magnitude alone
-- (`line_above`). The room that is required is that of this line.
use mathlib.Core.Path.{◌≡◌}
use mir.Syntax.{w32}
use mir.ValLaws.{to_z-of_z}
use Rattle.base_integers.proofs.Signs.{below, above}
use Rattle.base_text.specs.Lines.{word_line}
use Rattle.program_device_text.specs.DeviceText.{signed_line}
use Rattle.program_device_text.proofs.Lines.{line_below, line_above}
use Rattle.program_device_text.proofs.put_signed_line.Goals as goal
use Rattle.program_device_text.proofs.put_signed_line.Goals.{After-magnitude, then-number-lt0, else-number-lt0}

line : (c : After-magnitude) → word_line c.if-number-lt0.sign.now c.magnitude.result ≡ signed_line c.args.number
line c =
    let same = to_z-of_z w32 c.args.number c.ranges.number in
    rw (rw same at c.magnitude.ensures) (elim c.if-number-lt0.branch [
      | then-number-lt0 w ↦ rw w.sign-is (line_below _ (below _ (rw same at w.if-number-lt0.true)))
      | else-number-lt0 w ↦ rw w.sign-is (line_above _ (above _ (rw same at w.if-number-lt0.false)))
    ])

pub put_word_line-requires : goal.put_word_line-requires
put_word_line-requires c = rw (line (goal.at.put_word_line-requires c).After-magnitude) c.requires

pub returns : goal.returns
returns c = rw (line (goal.at.returns c).After-magnitude) at c.put_word_line.ensures
