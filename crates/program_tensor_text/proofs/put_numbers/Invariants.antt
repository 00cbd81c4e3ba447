-- The lines of the numbers that the loop has passed stand, 17 bytes each, and `end` is the place behind them.
use lib.ListN.{take}
use Rattle.base_text.specs.PutBytes.{Put}
use Rattle.program_tensor_text.specs.TensorText.{number_lines}
use Rattle.program_tensor_text.proofs.put_numbers.Given as goal

abbrev pub invariant-loop-number : goal.invariant-loop-number
invariant-loop-number l = Put (number_lines (take l.number-index l.numbers)) l.initial.text l.at l.text l.end
