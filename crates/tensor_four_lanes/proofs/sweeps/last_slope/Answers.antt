-- In each lane the last step's slope and, added to it, its width times (the moment before and twice the last) over six.
use Rattle.tensor_fours.proofs.Fours.{number, composed}
use Rattle.tensor_four_lanes.proofs.sweeps.last_slope.Goals as goal

pub returns : goal.returns
returns c =
    composed _ c.plus-2.ensures
    (λ l lt.
    cc (
      number c.times.ensures l lt,
      number c.plus.ensures l lt,
      number c.times-2.ensures l lt,
      number c.over.ensures l lt,
    ))
