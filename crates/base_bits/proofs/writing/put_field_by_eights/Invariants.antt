-- The heaviest `written` bits of the field stand and every bit beside them is as at entry; by `written_more` each turn is a narrow field
-- more. The measure is the bits left.
use mathlib.Core.Path.{◌≡◌}
use Prim.Native.Nat.{◌≤◌, ◌-◌, ◌/◌, ◌^◌}
use lib.ListN.{length}
use Rattle.base_bits.specs.Written.{with_field}
use Rattle.base_bits.proofs.writing.put_field_by_eights.Given as goal

abbrev pub invariant-loop-written : goal.invariant-loop-written
invariant-loop-written l = (l.written ≤ l.width) × (length l.bytes ≡ length l.initial.bytes) × (l.bytes ≡ with_field l.initial.bytes l.at l.written (l.n / 2 ^ (l.width - l.written)))

abbrev pub decreases-loop-written : goal.decreases-loop-written
decreases-loop-written l = l.width - l.written
