-- The two tests, of what is found of the axes and of modes and edition, are one row: 4 where either applies, and else 0.
use mathlib.Core.Path.{refl}
use Rattle.grid_checks.proofs.Rows.{first, second, stop, pass}
use Rattle.c_refusals.specs.OwnRefusals.{read_own_refusal}
use Rattle.c_refusals.proofs.own.check_read.Goals as goal

pub returns-then-found_slots_refused : goal.returns-then-found_slots_refused
unfolding read_own_refusal
returns-then-found_slots_refused c = stop _ (first _ c.found_slots_refused.ensures c.if-found_slots_refused.true) refl

pub returns-then-four_or_slot_refused : goal.returns-then-four_or_slot_refused
unfolding read_own_refusal
returns-then-four_or_slot_refused c =
    stop _
    (second c.found_slots_refused.ensures c.if-found_slots_refused.false
    c.four_or_slot_refused.ensures)
    c.if-four_or_slot_refused.true

pub returns : goal.returns
unfolding read_own_refusal
returns c =
    pass _
    (second c.found_slots_refused.ensures c.if-found_slots_refused.false
    c.four_or_slot_refused.ensures)
    c.if-four_or_slot_refused.false
    refl
