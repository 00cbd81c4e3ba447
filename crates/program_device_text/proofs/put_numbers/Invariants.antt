-- `Turn` is the invariant: the lines of the curve's first `n` numbers stand at the front of the text and take at most 7 bytes each,
-- so there is room for the next (`next_fits`).
use Rattle.program_device_text.proofs.Lines.{Turn}
use Rattle.program_device_text.proofs.put_numbers.Given as goal

abbrev pub invariant-loop-n : goal.invariant-loop-n
invariant-loop-n l = Turn l.curve l.initial.text l.n l.text l.end
