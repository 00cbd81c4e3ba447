-- The cases of the list, one a turn, without a trap: at most `i` of the first `i` were the same, so no count overflows.
use Prim.Native.Nat.{◌≤◌}
use Rattle.trial_replay.proofs.replay.Given as goal

abbrev pub invariant-loop-i : goal.invariant-loop-i
invariant-loop-i l = l.same ≤ l.i
