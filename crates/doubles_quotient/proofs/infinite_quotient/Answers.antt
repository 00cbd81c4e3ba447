-- NaN with a NaN (`quotient_of_nan`) and for two infinities (`quotient_infs`); a finite number by an infinity is zero (`quotient_by_inf`),
-- an infinity by a finite number an infinity (`quotient_of_inf`).
use native.Mathlib.Omega.{arith}
use Rattle.doubles_quotient.proofs.Answers.{quotient_of_nan, quotient_by_inf, quotient_of_inf, quotient_infs}
use Rattle.doubles_quotient.proofs.infinite_quotient.Goals as goal

pub returns-then-o-gt9218868437227405312 : goal.returns-then-o-gt9218868437227405312
returns-then-o-gt9218868437227405312 c = quotient_of_nan c.args.a c.args.b (λ number. grind arith)

pub returns-then-p-lt9218868437227405312 : goal.returns-then-p-lt9218868437227405312
returns-then-p-lt9218868437227405312 c =
    let a = c.args.a in
    let b = c.args.b in
    let h = c.requires (omega arith) in
    quotient_by_inf a b _ c.sign_of.ensures.0 (omega arith) (omega (arith, h))

pub returns-then-o-lt9218868437227405312 : goal.returns-then-o-lt9218868437227405312
returns-then-o-lt9218868437227405312 c =
    let a = c.args.a in
    let b = c.args.b in
    quotient_of_inf a b _ c.sign_of-then-o-lt9218868437227405312.ensures.0 (omega arith) (omega arith)

pub returns-else-o-lt9218868437227405312 : goal.returns-else-o-lt9218868437227405312
returns-else-o-lt9218868437227405312 c =
    let a = c.args.a in
    let b = c.args.b in
    quotient_infs a b (omega arith) (omega arith)
