-- A slot of two numbers holds the axis and the place afterwards; a slice of another length stays as it was.
use native.Mathlib.Omega.{arith}
use lib.ListN.{length-set}
use borrow.Author.Tests.{eq-eqb, ne_eqb}
use Rattle.c_axes.proofs.Slots.{two_stored}
use Rattle.c_profile.proofs.store_told.Goals as goal

pub returns-then-slot-ne2 : goal.returns-then-slot-ne2
returns-then-slot-ne2 c = simp (ne_eqb _ _ c.if-slot-ne2.true)

pub bounds-slot-1 : goal.bounds-slot-1
bounds-slot-1 c = simp length-set (omega (arith, c.if-slot-ne2.false))

pub returns : goal.returns
returns c = rw (eq-eqb _ _ c.if-slot-ne2.false) (two_stored c.args.slot.now _ _ c.if-slot-ne2.false)
