-- The condition of the kinds and values at 2i and 2i + 1, lower end first; both places lie inside the slices.
use Rattle.c_axes.specs.Axes.{condition_given}
use Rattle.c_axes.proofs.condition_given.Goals as goal

pub returns : goal.returns
unfolding condition_given
returns c = cc
