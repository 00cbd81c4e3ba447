-- `count` is how many of the first `i` numbers differ.
use mathlib.Core.Path.{◌≡◌}
use Rattle.tensor_verify.specs.Verify.{count_that}
use Rattle.tensor_verify.specs.Compared.{differs_at}
use Rattle.tensor_verify.proofs.compared.count_differing.Given as goal

abbrev pub invariant-loop-i : goal.invariant-loop-i
invariant-loop-i l = l.count ≡ count_that (differs_at l.ours l.others) l.i
