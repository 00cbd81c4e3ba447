-- Three tests in one row: 4 for what is found of the axes, for modes or edition, or for the slot of the tensor's length, and else 0.
use mathlib.Core.Path.{refl}
use Rattle.grid_checks.proofs.Rows.{first, second, stop, pass}
use Rattle.c_refusals.specs.OwnRefusals.{sheet_tensor_own_refusal}
use Rattle.c_refusals.proofs.own.check_sheet_tensor.Goals as goal

pub returns-then-found_slots_refused : goal.returns-then-found_slots_refused
unfolding sheet_tensor_own_refusal
returns-then-found_slots_refused c = stop _ (first _ (first _ c.found_slots_refused.ensures c.if-found_slots_refused.true) refl) refl

pub returns-then-four_or_slot_refused : goal.returns-then-four_or_slot_refused
unfolding sheet_tensor_own_refusal
returns-then-four_or_slot_refused c =
    stop _
    (first _
    (second c.found_slots_refused.ensures c.if-found_slots_refused.false
    c.four_or_slot_refused.ensures)
    c.if-four_or_slot_refused.true)
    refl

pub returns-then-length_refused : goal.returns-then-length_refused
unfolding sheet_tensor_own_refusal
returns-then-length_refused c =
    stop _
    (second
    (second c.found_slots_refused.ensures c.if-found_slots_refused.false
    c.four_or_slot_refused.ensures)
    c.if-four_or_slot_refused.false
    c.length_refused.ensures)
    c.if-length_refused.true

pub returns : goal.returns
unfolding sheet_tensor_own_refusal
returns c =
    pass _
    (second
    (second c.found_slots_refused.ensures c.if-found_slots_refused.false
    c.four_or_slot_refused.ensures)
    c.if-four_or_slot_refused.false
    c.length_refused.ensures)
    c.if-length_refused.false
    refl
