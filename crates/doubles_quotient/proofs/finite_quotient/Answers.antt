-- By zero: NaN for zero (`quotient_zeros`), else an infinity (`quotient_by_zero`). Zero by another number is zero (`quotient_nothing`);
-- else the magnitudes are divided. The sign is a minus where the signs are unlike.
use native.Mathlib.Omega.{arith}
use Rattle.doubles_quotient.proofs.Answers.{quotient_zeros, quotient_by_zero, quotient_nothing, quotient_signed}
use Rattle.doubles_quotient.proofs.finite_quotient.Goals as goal

pub returns-then-p-eq0 : goal.returns-then-p-eq0
returns-then-p-eq0 c =
    let a = c.args.a in
    let b = c.args.b in
    quotient_zeros a b (omega arith) (omega arith)

pub returns-else-p-eq0 : goal.returns-else-p-eq0
returns-else-p-eq0 c =
    let a = c.args.a in
    let b = c.args.b in
    quotient_by_zero a b _ c.sign_of.ensures.0 (omega arith) (omega arith) (omega arith)

pub returns-then-p-eq0-2 : goal.returns-then-p-eq0-2
returns-then-p-eq0-2 c =
    let a = c.args.a in
    let b = c.args.b in
    quotient_nothing a b _ c.sign_of-then-p-eq0-2.ensures.0 (omega arith) (omega arith) (omega arith)

pub returns-else-p-eq0-2 : goal.returns-else-p-eq0-2
returns-else-p-eq0-2 c =
    let a = c.args.a in
    let b = c.args.b in
    quotient_signed a b _ c.sign_of-else-p-eq0-2.ensures.0 _ (omega arith) (omega arith) (omega arith) c.magnitudes_divided.ensures.0
