-- `n` is the field of the first `read` bits, and each turn joins a narrow field to it (`field_add`). The measure is the bits left.
use mathlib.Core.Path.{◌≡◌}
use Prim.Native.Nat.{◌≤◌, ◌-◌}
use Rattle.base_bits.specs.Bits.{field}
use Rattle.base_bits.proofs.field_by_eights.Given as goal

abbrev pub invariant-loop-read : goal.invariant-loop-read
invariant-loop-read l = (l.read ≤ l.width) × (l.n ≡ field l.bytes l.at l.read)

abbrev pub decreases-loop-read : goal.decreases-loop-read
decreases-loop-read l = l.width - l.read
