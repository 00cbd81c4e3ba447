-- The knots of all axes are those before the one behind the last; that there are few axes, of few points each, is in the range given.
use Rattle.grid.proofs.knots_length.Goals as goal

pub knots_before-requires : goal.knots_before-requires
knots_before-requires c = (c.requires.few_axes, c.requires.few_points)
