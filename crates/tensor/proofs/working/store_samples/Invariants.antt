-- The first `k` samples stand at mask 0, `masks` apart behind the rows, and no other place has changed.
use lib.ListN.{length}
use Rattle.rules.specs.Numbers.{at}
use Rattle.tensor_lane.proofs.Storing.{Turn}
use Rattle.tensor.proofs.working.store_samples.Given as goal

abbrev pub invariant-loop-k : goal.invariant-loop-k
invariant-loop-k l = Turn l.initial.w l.w (at l.samples) (length l.samples) 2048 l.masks l.k
