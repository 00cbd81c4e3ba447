-- Five operations on fours, read lane by lane: the slope of the step less its width times (twice this moment and the next) over six.
use Rattle.tensor_fours.proofs.Fours.{number, composed}
use Rattle.tensor_four_lanes.proofs.sweeps.inner_slope.Goals as goal

pub returns : goal.returns
returns c =
    composed _ c.minus.ensures
    (λ l lt.
    cc (
      number c.times.ensures l lt,
      number c.plus.ensures l lt,
      number c.times-2.ensures l lt,
      number c.over.ensures l lt,
    ))
