-- On a knot 0, its index and +0.0 are stored, between two 1, the lower index and the fraction. Both slots are written, or, where one
-- has another length, neither.
use mathlib.Core.Path.{sym, ◌∙◌}
use native.Mathlib.Omega.{arith}
use Rattle.c_axes.proofs.Slots.{one_stored}
use Rattle.c_step.proofs.Lengths.{location_lengths}
use Rattle.c_step.proofs.slots.store_location.Goals as goal

pub returns-then-location_slots_refused : goal.returns-then-location_slots_refused
returns-then-location_slots_refused c =
    let other = sym c.location_slots_refused.ensures ∙ c.if-location_slots_refused.true in
    record { numbers = rw other; fraction = rw other }

pub store_two-requires : goal.store_two-requires
store_two-requires c = (location_lengths c.args.location.now c.args.fraction.now
    (sym c.location_slots_refused.ensures ∙ c.if-location_slots_refused.false)).0

pub bounds-fraction-0 : goal.bounds-fraction-0
bounds-fraction-0 c =
    let lengths =
    location_lengths c.args.location.now c.args.fraction.now
    (sym c.location_slots_refused.ensures ∙ c.if-location_slots_refused.false) in
    omega arith

pub store_two-requires-in-Between : goal.store_two-requires-in-Between
store_two-requires-in-Between c = (location_lengths c.args.location.now c.args.fraction.now
    (sym c.location_slots_refused.ensures ∙ c.if-location_slots_refused.false)).0

pub bounds-fraction-0-in-Between : goal.bounds-fraction-0-in-Between
bounds-fraction-0-in-Between c =
    let lengths =
    location_lengths c.args.location.now c.args.fraction.now
    (sym c.location_slots_refused.ensures ∙ c.if-location_slots_refused.false) in
    omega arith

pub returns-in-Exact : goal.returns-in-Exact
returns-in-Exact c =
    let fit = sym c.location_slots_refused.ensures ∙ c.if-location_slots_refused.false in
    record {
      numbers = rw (fit, c.in-Exact.is) c.store_two.ensures;
      fraction =
          rw (fit, c.in-Exact.is)
          (one_stored c.args.fraction.now _ (location_lengths c.args.location.now c.args.fraction.now fit).1);
    }

pub returns-in-Between : goal.returns-in-Between
returns-in-Between c =
    let fit = sym c.location_slots_refused.ensures ∙ c.if-location_slots_refused.false in
    record {
      numbers = rw (fit, c.in-Between.is) c.store_two-in-Between.ensures;
      fraction =
          rw (fit, c.in-Between.is)
          (one_stored c.args.fraction.now _ (location_lengths c.args.location.now c.args.fraction.now fit).1);
    }
