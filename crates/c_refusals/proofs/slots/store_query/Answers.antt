-- Value and labels are stored together, or both stay: the test of the slots leaves the lengths that the two writes need.
use mathlib.Core.Path.{sym, ◌∙◌}
use native.Mathlib.Omega.{arith}
use Rattle.c_refusals.proofs.Lengths.{slot_lengths}
use Rattle.c_axes.proofs.Slots.{one_stored}
use Rattle.c_refusals.proofs.slots.store_query.Goals as goal

pub returns-then-query_slots_refused : goal.returns-then-query_slots_refused
returns-then-query_slots_refused c =
    let other = sym c.query_slots_refused.ensures ∙ c.if-query_slots_refused.true in
    record { slot = rw other; slots = rw other }

pub bounds-value-0 : goal.bounds-value-0
bounds-value-0 c =
    let lengths =
    slot_lengths c.args.value.now c.args.labels.now
    (sym c.query_slots_refused.ensures ∙ c.if-query_slots_refused.false) in
    omega arith

pub store_labels-requires : goal.store_labels-requires
store_labels-requires c = (slot_lengths c.args.value.now c.args.labels.now
    (sym c.query_slots_refused.ensures ∙ c.if-query_slots_refused.false)).1

pub returns : goal.returns
returns c =
    let fit = sym c.query_slots_refused.ensures ∙ c.if-query_slots_refused.false in
    record {
      slot = rw fit
          (one_stored c.args.value.now _ (slot_lengths c.args.value.now c.args.labels.now fit).0);
      slots = rw fit c.store_labels.ensures;
    }
