-- A wrong length is refused, and all that was lent stays as it was (`lent_refused`); else the text is that of the sheet's own refusal
-- or tensor (`text_written`), whose at most 4,096 numbers lie in the tensor and have room in the text.
use mathlib.Core.Path.{◌≡◌, sym, ◌∙◌}
use native.Mathlib.Nat.{sub-zero}
use native.Mathlib.Omega.{arith}
use lib.ListN.{length, length-take}
use Rattle.rules.proofs.Given.{err_given, number_some}
use Rattle.sheet_build.proofs.Promises.{length_most}
use Rattle.program_sheet_text.specs.SheetText.{text_refusal}
use Rattle.program_sheet_text.proofs.Told.{refusal_put}
use Rattle.program_sheet_text.proofs.Promises.{Lent, lent, lent_refused, text_written}
use Rattle.program_sheet_text.proofs.sheet_text.Goals as goal
use Rattle.program_sheet_text.proofs.sheet_text.Goals.{In_ok-check_lent}

passed : (b : In_ok-check_lent)
    → text_refusal b.args.bytes.now b.args.knots.now b.args.samples.now b.args.tensor.now
    b.args.scratch.now b.args.text.now
    ≡ 0
passed b = sym b.in_ok-check_lent.ensures

enough : (b : In_ok-check_lent)
    → Lent (length b.args.knots.now) (length b.args.samples.now) (length b.args.tensor.now)
    (length b.args.scratch.now) (length b.args.text.now)
enough b = lent _ _ _ _ _ (passed b)

pub returns-in_err-check_lent : goal.returns-in_err-check_lent
returns-in_err-check_lent c =
    rw (err_given c.from_residual.result _ c.from_residual.ensures.1)
    (lent_refused _ _ _ _ _ _ _ c.in_err-check_lent.ensures (number_some _))

pub slice_bounds-put_text-end : goal.slice_bounds-put_text-end
slice_bounds-put_text-end c =
    let most = length_most _ _ _ _ _ _ _ _ _ _ (rw c.in-Ok.is at c.tensor_of_sheet.ensures.0) in
    omega (arith, most, (enough (goal.at.slice_bounds-put_text-end c).In_ok-check_lent).tensor)

pub put_text-requires : goal.put_text-requires
put_text-requires c =
    let most = length_most _ _ _ _ _ _ _ _ _ _ (rw c.in-Ok.is at c.tensor_of_sheet.ensures.0) in
    (rw (length-take, sub-zero c.in-Ok.built.length) (omega (arith, most)), (enough (goal.at.put_text-requires c).In_ok-check_lent).text)

pub returns-in-Ok : goal.returns-in-Ok
returns-in-Ok c =
    text_written _ _ _ _ _ _ (passed (goal.at.returns-in-Ok c).In_ok-check_lent) _ _ _ _ _ _ _
    (rw c.in-Ok.is at c.tensor_of_sheet.ensures.0) c.put_text.ensures

pub returns-in-Err : goal.returns-in-Err
returns-in-Err c =
    text_written _ _ _ _ _ _ (passed (goal.at.returns-in-Err c).In_ok-check_lent) _ _ _ _ _ _ _
    (rw c.in-Err.is at c.tensor_of_sheet.ensures.0)
    (refusal_put _ _ _ _ (c.number.ensures ∙ c.refusal.ensures) (λ z. number_some _ (c.refusal.ensures ∙ z)) c.put_text-in-Err.ensures)
