-- Lane by lane: six times the difference of two slopes, less the step times the number before it, over the divisor.
use Rattle.tensor_fours.proofs.Fours.{number, composed}
use Rattle.tensor_four_lanes.proofs.sweeps.next_helper.Goals as goal

pub returns : goal.returns
returns c =
    composed _ c.over.ensures
    (λ l lt.
    cc (
      number c.minus.ensures l lt,
      number c.times.ensures l lt,
      number c.times-2.ensures l lt,
      number c.minus-2.ensures l lt,
    ))
