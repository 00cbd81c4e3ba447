-- The list has 655,360 bytes, told by a lemma on lists of one repeated byte, since so many are too many to count by computing; what is
-- replayed is the part of it that came.
use mathlib.Core.Path.{sym}
use Prim.Native.Nat.{ℕ}
use lib.ListN.{length-replicate}
use lib.Seq.{length-take-le}
use Rattle.trial_replay.proofs.main.Goals as goal

pub slice_bounds-read_list-end : goal.slice_bounds-read_list-end
slice_bounds-read_list-end c = sym (length-replicate {A = ℕ} 655360 0)

pub slice_bounds-list-end : goal.slice_bounds-list-end
slice_bounds-list-end c = c.read_list-n.ensures

pub slice_bounds-replay-end : goal.slice_bounds-replay-end
slice_bounds-replay-end c = sym (length-take-le c.read_list-n.result c.read_list-n.new.list c.read_list-n.ensures)
