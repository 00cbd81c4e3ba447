-- Lower and Upper each have their own step, and what that one ensures holds of the direction given.
use Rattle.step_axis.proofs.among.step_index.Goals as goal

pub returns-in-Lower : goal.returns-in-Lower
returns-in-Lower c = rw c.in-Lower.is c.lower_step.ensures

pub returns-in-Upper : goal.returns-in-Upper
returns-in-Upper c = rw c.in-Upper.is c.upper_step.ensures
