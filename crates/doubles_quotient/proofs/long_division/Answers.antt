use native.Mathlib.Omega.{arith}
use Rattle.doubles_quotient.proofs.Turns.{turn_first, fits, few_places, turn_next, turn_more, quotient_below, quotient_exact, quotient_lost}
use Rattle.doubles_quotient.proofs.long_division.Goals as goal
use Rattle.doubles_quotient.proofs.long_division.Goals.{then-left-n, else-left-n}

pub loop-digit-init : goal.loop-digit-init
loop-digit-init c = turn_first _ _ _ (omega arith) (omega arith)

pub overflow_mul-left-in-loop-digit : goal.overflow_mul-left-in-loop-digit
overflow_mul-left-in-loop-digit c = omega (arith, fits _ _ _ _ _ _ c.loop-digit.invariant (omega arith) (omega arith) (omega arith))

pub overflow_sub-left : goal.overflow_sub-left
overflow_sub-left c = omega (arith, fits _ _ _ _ _ _ c.loop-digit.invariant (omega arith) (omega arith) (omega arith))

pub overflow_mul-quotient : goal.overflow_mul-quotient
overflow_mul-quotient c =
    let q = quotient_below _ _ _ _ _ _ c.loop-digit.invariant (omega arith) (omega arith) 44 (omega arith) in
    let g = few_places _ _ _ _ _ _ c.loop-digit.invariant (omega arith) (omega arith) (omega arith) in
    omega (arith, q, g)

pub overflow_add-quotient : goal.overflow_add-quotient
overflow_add-quotient c =
    let q = quotient_below _ _ _ _ _ _ c.loop-digit.invariant (omega arith) (omega arith) 44 (omega arith) in
    let g = few_places _ _ _ _ _ _ c.loop-digit.invariant (omega arith) (omega arith) (omega arith) in
    omega (arith, q, g)

pub overflow_mul-quotient-else-left-n : goal.overflow_mul-quotient-else-left-n
overflow_mul-quotient-else-left-n c =
    let q = quotient_below _ _ _ _ _ _ c.loop-digit.invariant (omega arith) (omega arith) 44 (omega arith) in
    let g = few_places _ _ _ _ _ _ c.loop-digit.invariant (omega arith) (omega arith) (omega arith) in
    omega (arith, q, g)

pub overflow_add-quotient-else-left-n-2 : goal.overflow_add-quotient-else-left-n-2
overflow_add-quotient-else-left-n-2 c =
    let q = quotient_below _ _ _ _ _ _ c.loop-digit.invariant (omega arith) (omega arith) 44 (omega arith) in
    let g = few_places _ _ _ _ _ _ c.loop-digit.invariant (omega arith) (omega arith) (omega arith) in
    omega (arith, q, g)

pub loop-digit-preserved : goal.loop-digit-preserved
loop-digit-preserved c =
    elim c.if-left-n.branch [
      | then-left-n w ↦ rw (w.quotient-is, w.rest-is) (turn_next _ _ _ _ _ _ c.loop-digit.invariant (omega arith) (omega arith) (omega arith) (omega arith))
      | else-left-n w ↦ rw (w.quotient-is, w.rest-is) (turn_more _ _ _ _ _ _ c.loop-digit.invariant (omega arith) (omega arith) (omega arith) (omega arith))
    ]

pub returns-then-rest-eq0 : goal.returns-then-rest-eq0
returns-then-rest-eq0 c = quotient_exact _ _ _ _ _ _ c.loop-digit.invariant (omega arith) (omega arith)

pub returns-else-rest-eq0 : goal.returns-else-rest-eq0
returns-else-rest-eq0 c = quotient_lost _ _ _ _ _ _ c.loop-digit.invariant (omega arith) (λ h. omega arith)
