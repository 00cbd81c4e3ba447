-- The ways out of the firmware's call: the reader's fault, 16, 17, and what the sheet gives that is built and queried on the stack.
use mathlib.Core.Path.{refl, sym, ◌∙◌}
use Prim.Native.Nat.{◌<◌, ◌≤◌}
use native.Mathlib.Omega.{arith}
use Rattle.rules.proofs.Given.{err_given}
use Rattle.sheet_surface.proofs.Small.{range}
use Rattle.sheet_surface.proofs.Answers.{sheet_read, sheet_small, reader_refuses, stack_refuses, unused_refuses, sheet_asked}
use Rattle.sheet_surface.proofs.value_at.Goals as goal

pub returns-in_err-sheet : goal.returns-in_err-sheet
returns-in_err-sheet c =
    rw (err_given c.from_residual.result _ c.from_residual.ensures.1) (reader_refuses _ _ c.in_err-sheet.ensures _ _ refl)

pub tensor_length-numbers-requires : goal.tensor_length-numbers-requires
tensor_length-numbers-requires c = range _ _ _ _ (sheet_read _ _ c.in_ok-sheet.ensures refl)

pub returns-then-numbers-gt512 : goal.returns-then-numbers-gt512
returns-then-numbers-gt512 c =
    let long : 512 < c.tensor_length-numbers.result = omega arith in
    stack_refuses _ _ c.in_ok-sheet.ensures _ refl _ c.tensor_length-numbers.ensures.0 long

pub is_unused_refused-requires : goal.is_unused_refused-requires
is_unused_refused-requires c = (range _ _ _ _ (sheet_read _ _ c.in_ok-sheet.ensures refl)).few_axes

pub returns-then-is_unused_refused : goal.returns-then-is_unused_refused
returns-then-is_unused_refused c =
    let short : c.tensor_length-numbers.result ≤ 512 = omega arith in
    unused_refuses _ _ c.in_ok-sheet.ensures _ refl _ c.tensor_length-numbers.ensures.0 short
    (sym c.is_unused_refused.ensures ∙ c.if-is_unused_refused.true)

pub small_on_the_stack-requires : goal.small_on_the_stack-requires
small_on_the_stack-requires c = sheet_small _ _ c.in_ok-sheet.ensures refl _ c.tensor_length-numbers.ensures.0 128 (omega arith)

pub returns-then-numbers-le128 : goal.returns-then-numbers-le128
returns-then-numbers-le128 c =
    let short : c.tensor_length-numbers.result ≤ 512 = omega arith in
    sheet_asked _ _ c.in_ok-sheet.ensures _ refl _ c.tensor_length-numbers.ensures.0 short
    (sym c.is_unused_refused.ensures ∙ c.if-is_unused_refused.false) c.small_on_the_stack.ensures

pub on_the_stack-requires : goal.on_the_stack-requires
on_the_stack-requires c = sheet_small _ _ c.in_ok-sheet.ensures refl _ c.tensor_length-numbers.ensures.0 512 (omega arith)

pub returns : goal.returns
returns c =
    let short : c.tensor_length-numbers.result ≤ 512 = omega arith in
    sheet_asked _ _ c.in_ok-sheet.ensures _ refl _ c.tensor_length-numbers.ensures.0 short
    (sym c.is_unused_refused.ensures ∙ c.if-is_unused_refused.false) c.on_the_stack.ensures
