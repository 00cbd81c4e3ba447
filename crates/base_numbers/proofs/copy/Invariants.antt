-- Below `i` the slice has the numbers of `from`, behind it still its own.
use mathlib.Core.Path.{◌≡◌}
use Rattle.base_numbers.proofs.Front.{front}
use Rattle.base_numbers.proofs.copy.Given as goal

abbrev pub invariant-loop-i : goal.invariant-loop-i
invariant-loop-i l = l.to ≡ front l.from l.i l.initial.to
