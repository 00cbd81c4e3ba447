-- For each quality the test that is named for it.
use mathlib.Core.Path.{ap}
use lib.Dec.{ltb}
use Rattle.query_even.proofs.qualities.lacks.Goals as goal

pub returns-in-Finite : goal.returns-in-Finite
returns-in-Finite c = rw c.in-Finite.is c.any_not_finite.ensures

pub returns-in-Rising : goal.returns-in-Rising
returns-in-Rising c = rw c.in-Rising.is c.knots_refused.ensures

pub returns-in-Even : goal.returns-in-Even
returns-in-Even c = rw c.in-Even.is (ap (ltb 0) c.validate_uniform_grid_epsilon.ensures)
