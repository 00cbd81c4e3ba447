-- The moments under any condition are those of the rules: two ends go to `endpoint_moments`, whose fewest points are the
-- condition's, and Periodic to `periodic_moments`.
use native.Mathlib.Omega.{arith}
use mathlib.Core.Path.{ap}
use borrow.Author.Rules.{rules}
use Rattle.rules.specs.Ends.{fewest_points}
use Rattle.axis_moments.proofs.compute_m.Goals as goal

pub enum_known-condition : goal.enum_known-condition
enum_known-condition c = search rules

pub endpoint_moments-requires : goal.endpoint_moments-requires
endpoint_moments-requires c = (c.requires.0, omega (arith, ap fewest_points c.in-Endpoints.is))

pub enum_told-1 : goal.enum_told-1
enum_told-1 c = search rules

pub periodic_moments-requires : goal.periodic_moments-requires
periodic_moments-requires c = search rules

pub shape_of-w-in-Endpoints : goal.shape_of-w-in-Endpoints
shape_of-w-in-Endpoints c = search rules

pub returns-in-Endpoints : goal.returns-in-Endpoints
returns-in-Endpoints c = rw c.in-Endpoints.is c.endpoint_moments.ensures

pub shape_of-w-in-Periodic : goal.shape_of-w-in-Periodic
shape_of-w-in-Periodic c = search rules

pub returns-in-Periodic : goal.returns-in-Periodic
returns-in-Periodic c = rw c.in-Periodic.is c.periodic_moments.ensures
