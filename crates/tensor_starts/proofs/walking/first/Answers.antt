-- The cursor stands at lane 0, which starts where the walk does: `stands_first`.
use mathlib.Core.Path.{refl}
use Rattle.tensor_starts.proofs.Cursors.{stands_first}
use Rattle.tensor_starts.proofs.walking.first.Goals as goal

pub returns : goal.returns
returns c = (refl, stands_first _ c.requires.0 c.requires.1)
