-- The place moved to 0 on the lanes' own axis: 0 there, and the place's index on every other axis.
use mathlib.Core.Path.{sym}
use Rattle.rules.specs.Sizes.{place_of}
use Rattle.rules.proofs.Places.{moved_on, moved_off}
use Rattle.tensor_starts.proofs.start_index.Goals as goal

pub returns-then-j-axis : goal.returns-then-j-axis
returns-then-j-axis c = sym (rw c.if-j-axis.true (moved_on (place_of c.args.place) c.args.axis 0))

pub returns : goal.returns
returns c = sym (moved_off (place_of c.args.place) c.args.axis 0 c.args.j c.if-j-axis.false)
