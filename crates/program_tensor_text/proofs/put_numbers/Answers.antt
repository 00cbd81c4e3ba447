use native.Mathlib.Omega.{arith}
use Rattle.base_text.proofs.Puts.{put_none, put_length}
use Rattle.program_tensor_text.specs.TensorText.{number_lines}
use Rattle.program_tensor_text.proofs.Texts.{lines_place, line_more}
use Rattle.program_tensor_text.proofs.put_numbers.Goals as goal

pub loop-number-init : goal.loop-number-init
unfolding number_lines
loop-number-init c = put_none _ _

pub put_number_line-end-requires : goal.put_number_line-end-requires
put_number_line-end-requires c =
    omega (arith, c.requires, lines_place _ _ c.loop-number.invariant (omega arith), put_length c.loop-number.invariant)

pub loop-number-preserved : goal.loop-number-preserved
loop-number-preserved c = line_more _ _ c.loop-number.invariant (omega arith) c.put_number_line-end.ensures
