-- All three slots are written or none is: a slot of another length, be it value, labels or the third, leaves all as they were; where
-- they fit, `all_stored` says that value, labels, axis and interval stand in them.
use mathlib.Core.Path.{sym, ◌∙◌}
use native.Mathlib.Omega.{arith}
use lib.ListN.{length-set}
use Rattle.c_refusals.proofs.EvenSlots.{other_query_slots, other_third_slot, all_stored}
use Rattle.c_refusals.proofs.slots.store_even_query.Goals as goal

pub returns-then-query_slots_refused : goal.returns-then-query_slots_refused
returns-then-query_slots_refused c = other_query_slots _ _ _ _ _ _ _ (sym c.query_slots_refused.ensures ∙ c.if-query_slots_refused.true)

pub returns-then-uneven-ne2 : goal.returns-then-uneven-ne2
returns-then-uneven-ne2 c = other_third_slot _ _ _ _ _ _ _ (sym c.query_slots_refused.ensures ∙ c.if-query_slots_refused.false) c.if-uneven-ne2.true

pub bounds-uneven-1 : goal.bounds-uneven-1
bounds-uneven-1 c = simp length-set (omega (arith, c.if-uneven-ne2.false))

pub returns : goal.returns
returns c =
    let s = c.args in
    all_stored _ _ s.uneven.now _ _ _ _ (sym c.query_slots_refused.ensures ∙ c.if-query_slots_refused.false)
    c.if-uneven-ne2.false c.store_query.ensures
