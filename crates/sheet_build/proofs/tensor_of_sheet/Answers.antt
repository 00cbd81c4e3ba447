-- The promise of a sheet's tensor: the lengths, then the reader's faults, then what the build refuses. The class of what is refused is
-- that of the place where it is.
use mathlib.Core.Path.{refl, sym}
use native.Mathlib.Omega.{arith}
use borrow.Author.Rules.{rules}
use Rattle.rules.proofs.Given.{number_some}
use Rattle.sheet_build.proofs.Promises.{reader_passed, buffer_refused, sheet_refused, passed, parts_given, sheet_built}
use Rattle.sheet_build.proofs.Classes.{four_of_reading, unread_of_reading, given_of_read}
use Rattle.sheet_build.proofs.tensor_of_sheet.Goals as goal

pub returns-then-tensor-ne4096 : goal.returns-then-tensor-ne4096
returns-then-tensor-ne4096 c = (buffer_refused _ _ _ _ _ _ c.if-tensor-ne4096.true refl, four_of_reading)

pub returns-in-Err : goal.returns-in-Err
returns-in-Err c = (
  sheet_refused _ _ _ _ c.args.scratch.now (omega arith) _ _ _ (rw c.in-Err.is at c.read.ensures) _ (number_some _) (search rules),
  rw (c.into.ensures, ← c.number.ensures) (unread_of_reading _ (sym c.if-is_unread.ensures)),
)

pub unreachable-requires : goal.unreachable-requires
unreachable-requires c =
    number_some _
    (reader_passed _ _ _ c.args.tensor.now c.args.scratch.now (omega arith) _ _ _ (rw c.in-Err.is at c.read.ensures)
    (rw (← c.number.ensures) (sym c.if-is_unread.ensures)))

pub build_parts-requires : goal.build_parts-requires
build_parts-requires c = parts_given _ _ _ _ c.args.scratch.now (omega arith) _ _ _ (rw c.in-Ok.is at c.read.ensures) refl

pub returns : goal.returns
returns c =
    let read = rw c.in-Ok.is at c.read.ensures in
    let promise = sheet_built _ _ _ _ c.args.scratch.now (omega arith) _ _ _ read refl _ _ _ c.build_parts.ensures.0 in (
      promise,
      given_of_read _ _ _ _ c.args.scratch.now _ _ _ _ _ (passed _ _ _ _ c.args.scratch.now (omega arith) _ _ _ read refl)
          c.build_parts.ensures.1 promise,
    )
