-- Where an interval may fail they are looked at one by one, and else none fails.
use Rattle.std.proofs.Common.{sym}
use Rattle.axis_even.proofs.validate_uniform_grid_epsilon.Goals as goal

pub returns-then-some_interval_may_fail : goal.returns-then-some_interval_may_fail
returns-then-some_interval_may_fail c = c.first_failing_interval.ensures

pub returns : goal.returns
returns c = sym (c.some_interval_may_fail.ensures c.if-some_interval_may_fail.false)
