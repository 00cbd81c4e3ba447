-- Refusal 9 of one axis: its points against the fewest that its condition needs.
use Rattle.grid_checks.proofs.ends.fewness_refused.Goals as goal

pub returns : goal.returns
returns c = rw c.fewest_points.ensures
