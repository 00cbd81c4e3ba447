-- Entry i of the modes is the number of the axis's mode afterwards, the other entries are as before.
use Rattle.c_axes.proofs.store_mode.Goals as goal

pub returns : goal.returns
returns c = cc
