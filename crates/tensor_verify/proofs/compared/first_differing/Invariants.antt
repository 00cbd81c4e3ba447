-- The first number that differs is the first from `i` on: the one found is answered, or 0 where none is.
use lib.ListN.{length}
use Rattle.axis_even.proofs.First.{Turn}
use Rattle.tensor_verify.specs.Compared.{differs_at}
use Rattle.tensor_verify.proofs.compared.first_differing.Given as goal

abbrev pub invariant-loop-i : goal.invariant-loop-i
invariant-loop-i l = Turn (differs_at l.ours l.others) 0 (length l.ours) l.i
