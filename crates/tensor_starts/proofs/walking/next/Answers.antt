-- One lane further the cursor stands at its lane again, by one law for each step: `in_run`, `next_run`, `next_slab`.
use mathlib.Core.Path.{refl}
use Rattle.tensor_starts.proofs.Cursors.{in_run, next_run, next_slab}
use Rattle.tensor_starts.proofs.walking.next.Goals as goal

pub returns-then-inner-walk : goal.returns-then-inner-walk
returns-then-inner-walk c = (refl, in_run _ _ c.requires.0 c.if-inner-walk.true)

pub returns-then-middle-walk : goal.returns-then-middle-walk
returns-then-middle-walk c = (refl, next_run _ _ c.requires.0 c.if-inner-walk.false c.if-middle-walk.true)

pub returns : goal.returns
returns c = (refl, next_slab _ _ c.requires.0 c.if-inner-walk.false c.if-middle-walk.false)
