-- Where the slot is one number, the answer stands in it afterwards; any other slice is untouched.
use borrow.Author.Tests.{eq-eqb, ne_eqb}
use Rattle.c_axes.proofs.Slots.{one_stored}
use Rattle.c_refusals.proofs.slots.store_one.Goals as goal

pub returns-then-slot-eq1 : goal.returns-then-slot-eq1
returns-then-slot-eq1 g c = rw (eq-eqb _ _ c.if-slot-eq1.true) (one_stored c.args.slot.now _ c.if-slot-eq1.true)

pub returns-else-slot-eq1 : goal.returns-else-slot-eq1
returns-else-slot-eq1 g c = simp (ne_eqb _ _ c.if-slot-eq1.false)
