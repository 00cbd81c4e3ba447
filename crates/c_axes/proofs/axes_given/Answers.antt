-- The table of the four entries, each with its points and its condition where it is in use.
use Rattle.c_axes.specs.Axes.{axes_given}
use Rattle.c_axes.proofs.axes_given.Goals as goal

pub returns : goal.returns
unfolding axes_given
returns c = cc
