-- A slice of two written at 0 and at 1 is these two numbers (`two_stored`).
use Rattle.c_axes.proofs.Slots.{two_stored}
use Rattle.c_step.proofs.slots.store_two.Goals as goal

pub returns : goal.returns
returns c = two_stored c.args.slot.now _ _ c.requires
