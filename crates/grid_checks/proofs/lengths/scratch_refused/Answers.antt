-- Refusal 5 of a grid: scratch is held against the tensor's length and that of the rows, whose sum does not overflow.
use Rattle.grid_checks.proofs.lengths.scratch_refused.Goals as goal

pub returns : goal.returns
returns c = rw c.tensor_length.ensures.0
