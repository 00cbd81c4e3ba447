-- Two, and with two ends the unknowns that each of them drops, as in the rules; at most one for each, so the sum does not overflow.
use Rattle.grid_checks.proofs.ends.fewest_points.Goals as goal

pub returns-in-Endpoints : goal.returns-in-Endpoints
returns-in-Endpoints c = cc
