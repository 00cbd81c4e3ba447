-- Four products of halves, each sum carrying its upper half to the next: what they make is the upper word (`product_exact`), or the odd
-- number that stands for it and for what is below (`product_lost`).
use native.Mathlib.Omega.{arith}
use Rattle.doubles_product.proofs.Halves.{lowest_fits, middle_fits, other_fits, first_fits, high_fits, even_fits, odd_fits, product_exact, product_lost}
use Rattle.doubles_product.proofs.upper_product.Goals as goal

pub overflow_mul-lowest : goal.overflow_mul-lowest
overflow_mul-lowest c =
    let u = c.args.u in
    let v = c.args.v in
    omega (arith, lowest_fits u v (omega arith) (omega arith))

pub overflow_mul-middle : goal.overflow_mul-middle
overflow_mul-middle c =
    let u = c.args.u in
    let v = c.args.v in
    omega (arith, middle_fits u v (omega arith) (omega arith))

pub overflow_add-middle : goal.overflow_add-middle
overflow_add-middle c =
    let u = c.args.u in
    let v = c.args.v in
    omega (arith, middle_fits u v (omega arith) (omega arith))

pub overflow_mul-other : goal.overflow_mul-other
overflow_mul-other c =
    let u = c.args.u in
    let v = c.args.v in
    omega (arith, other_fits u v (omega arith) (omega arith))

pub overflow_add-other : goal.overflow_add-other
overflow_add-other c =
    let u = c.args.u in
    let v = c.args.v in
    omega (arith, other_fits u v (omega arith) (omega arith))

pub overflow_mul-high : goal.overflow_mul-high
overflow_mul-high c =
    let u = c.args.u in
    let v = c.args.v in
    omega (arith, high_fits u v (omega arith) (omega arith))

pub overflow_add-high : goal.overflow_add-high
overflow_add-high c =
    let u = c.args.u in
    let v = c.args.v in
    record { fits = first_fits u v (omega arith) (omega arith) }

pub overflow_add-high-2 : goal.overflow_add-high-2
overflow_add-high-2 c =
    let u = c.args.u in
    let v = c.args.v in
    record { fits = high_fits u v (omega arith) (omega arith) }

pub overflow_mul-result : goal.overflow_mul-result
overflow_mul-result c =
    let u = c.args.u in
    let v = c.args.v in
    record { fits = even_fits _ (high_fits u v (omega arith) (omega arith)) }

pub overflow_add-result : goal.overflow_add-result
overflow_add-result c =
    let u = c.args.u in
    let v = c.args.v in
    record { fits = odd_fits _ (high_fits u v (omega arith) (omega arith)) }

pub returns-then-lowest-other-eq0 : goal.returns-then-lowest-other-eq0
returns-then-lowest-other-eq0 c = product_exact c.args.u c.args.v (omega arith)

pub returns-else-lowest-other-eq0 : goal.returns-else-lowest-other-eq0
returns-else-lowest-other-eq0 c = product_lost c.args.u c.args.v (λ h. omega arith)
