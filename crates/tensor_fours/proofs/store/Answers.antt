-- By `stored`, where each number is what belongs at its place it stands there, and no place loses what belongs to it: so two lanes may
-- share a place. Any place that is none of the four is kept.
use Rattle.tensor_fours.proofs.Fours.{stored}
use Rattle.tensor_fours.proofs.store.Goals as goal

pub returns : goal.returns
returns c = stored _ _ _ _ c.requires
