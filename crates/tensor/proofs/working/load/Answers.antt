-- Behind the rows stands a copy of the tensor, with the one number new at its spot: `loaded`.
use native.Mathlib.Nat.{add-sub_cancel_left}
use Rattle.tensor.proofs.Loading.{loaded}
use Rattle.tensor.proofs.working.load.Goals as goal

pub returns : goal.returns
returns c = rw c.copy.ensures (loaded _ _ _ _ _ c.requires.0 c.requires.1 (add-sub_cancel_left _ _))
