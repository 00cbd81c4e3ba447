-- By its two tests the number without its sign: one below zero is negated, either zero is +0.0, any other stays, NaN too.
use denote.Floats.{passes}
use Rattle.axis_even.proofs.Spacing.{absolute_below, absolute_zero, absolute_rest}
use Rattle.axis_even.proofs.absolute.Goals as goal

pub returns-then-v : goal.returns-then-v
returns-then-v c = absolute_below _ c.if-v.true

pub returns-then-v-2 : goal.returns-then-v-2
returns-then-v-2 c = absolute_zero _ (passes _ c.well_formed.0.1) c.if-v-2.true

pub returns : goal.returns
returns c = absolute_rest _ c.if-v.false c.if-v-2.false
