-- For each quality the place that the function of its own finds.
use Rattle.query_even.proofs.qualities.first_lack.Goals as goal

pub returns-in-Finite : goal.returns-in-Finite
returns-in-Finite c = rw c.in-Finite.is c.first_not_finite.ensures

pub returns-in-Rising : goal.returns-in-Rising
returns-in-Rising c = rw c.in-Rising.is c.first_step_refused.ensures

pub returns-in-Even : goal.returns-in-Even
returns-in-Even c = rw c.in-Even.is c.validate_uniform_grid_epsilon.ensures
