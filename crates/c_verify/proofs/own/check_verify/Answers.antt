-- After the axes one 4 for the slots; past them the table is that of a change with a slot of one (`own_of_change`).
use mathlib.Core.Path.{refl, ◌≡◌, sym, ◌∙◌}
use mathlib.Core.Bool.{false}
use native.Mathlib.Omega.{arith}
use lib.ListN.{length, take}
use lib.Seq.{length-take-le}
use Rattle.c_refusals.proofs.Rows.{axes_given}
use Rattle.c_verify.specs.VerifyExports.{verify_slots_refused, verify_own_refusal}
use Rattle.c_verify.proofs.FoundSlots.{found_lengths}
use Rattle.c_verify.proofs.OwnRows.{slots_met, own_of_change}
use Rattle.c_verify.proofs.own.check_verify.Goals as goal
use Rattle.c_verify.proofs.own.check_verify.Goals.{Else-slots_refused}

fit : (c : Else-slots_refused) → verify_slots_refused c.args.place.now c.args.found.now ≡ false
fit c = sym c.slots_refused.ensures ∙ c.if-slots_refused.false

lengths : (c : Else-slots_refused) → (length c.args.place.now ≡ 4) × (length c.args.found.now ≡ 3)
lengths c = found_lengths c.args.place.now c.args.found.now (fit c)

pub returns-in_err-check_axes : goal.returns-in_err-check_axes
unfolding verify_own_refusal
returns-in_err-check_axes c =
    axes_given _ _ c.in_err-check_axes.ensures.refusal c.from_residual.result _ refl c.from_residual.ensures.1 _

pub returns-then-slots_refused : goal.returns-then-slots_refused
returns-then-slots_refused c =
    slots_met _ _ _ _ _ _ _ _ (sym c.in_ok-check_axes.ensures.refusal)
    (sym c.slots_refused.ensures ∙ c.if-slots_refused.true)

pub slice_bounds-check_change-end : goal.slice_bounds-check_change-end
slice_bounds-check_change-end c = omega (arith, (lengths (goal.at.slice_bounds-check_change-end c).Else-slots_refused).1)

pub returns : goal.returns
returns c =
    let at_else_slots_refused = (goal.at.returns c).Else-slots_refused in
    let found = c.args.found.now in
    c.check_change.ensures
    ∙ own_of_change _ _ _ _ _ _ _ found (take 1 found) (length-take-le 1 found (omega (arith, (lengths at_else_slots_refused).1))) (fit at_else_slots_refused)
