-- Where the answer is yes, an axis with the fewest points of its condition has as many as a plan asks for, and at most 128.
use mathlib.Core.Path.{refl}
use mathlib.Core.Bool.{false}
use borrow.Author.Tests.{ltb-true}
use Rattle.rules.proofs.Cases.{not_both}
use Rattle.tensor_passes.proofs.PlannedAxis.{ends_go, cycle_goes}
use Rattle.tensor_passes.proofs.goes_by_four.Goals as goal

pub returns-then-axes-eq1 : goal.returns-then-axes-eq1
returns-then-axes-eq1 c = λ goes enough. not_both false goes refl

pub returns-in-Endpoints : goal.returns-in-Endpoints
returns-in-Endpoints c = λ goes enough. ends_go _ _ _ _ c.in-Endpoints.is c.if-n-gt128.false enough

pub returns-in-Periodic : goal.returns-in-Periodic
returns-in-Periodic c = λ goes enough. cycle_goes _ _ c.in-Periodic.is c.if-n-gt128.false (ltb-true 2 _ goes)
