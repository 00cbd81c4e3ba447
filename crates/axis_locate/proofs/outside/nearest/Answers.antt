-- Below takes the first knot and Above the last, which are there since there is a knot; Inside takes the point itself.
use Rattle.axis_locate.proofs.Sides.{nearest_below, nearest_above}
use Rattle.axis_locate.proofs.outside.nearest.Goals as goal

pub returns-in-Below : goal.returns-in-Below
returns-in-Below c = nearest_below _ _ c.in-Below.is

pub returns-in-Above : goal.returns-in-Above
returns-in-Above c = nearest_above _ _ c.in-Above.is
