-- The walk with one axis more is that of the specification in both cases, and small numbers keep its products from overflow.
use native.Mathlib.Omega.{arith}
use native.Mathlib.Nat.{mul-le-mul}
use Rattle.tensor_starts.specs.Walks.{on_one_more}
use Rattle.tensor_starts.proofs.on_one_more.Goals as goal

pub overflow_mul-result : goal.overflow_mul-result
overflow_mul-result c = let pre = c.requires in omega (arith, mul-le-mul pre.0.lanes pre.1)

pub overflow_mul-result-then-through : goal.overflow_mul-result-then-through
overflow_mul-result-then-through c = let pre = c.requires in omega (arith, mul-le-mul pre.0.start pre.1)

pub overflow_mul-result-then-through-2 : goal.overflow_mul-result-then-through-2
overflow_mul-result-then-through-2 c = let pre = c.requires in omega (arith, mul-le-mul pre.0.near pre.1)

pub overflow_mul-result-then-through-3 : goal.overflow_mul-result-then-through-3
overflow_mul-result-then-through-3 c = let pre = c.requires in omega (arith, mul-le-mul pre.0.far pre.1)

pub returns-then-through : goal.returns-then-through
unfolding on_one_more
returns-then-through c = rw c.if-through.true

pub overflow_mul-result-2 : goal.overflow_mul-result-2
overflow_mul-result-2 c = let pre = c.requires in omega (arith, mul-le-mul pre.0.start pre.1)

pub overflow_add-result : goal.overflow_add-result
overflow_add-result c = let pre = c.requires in omega (arith, mul-le-mul pre.0.start pre.1, pre.2)

pub overflow_mul-result-3 : goal.overflow_mul-result-3
overflow_mul-result-3 c = let pre = c.requires in omega (arith, mul-le-mul pre.0.near pre.1)

pub overflow_mul-result-4 : goal.overflow_mul-result-4
overflow_mul-result-4 c = let pre = c.requires in omega (arith, mul-le-mul pre.0.far pre.1)

pub overflow_mul-result-5 : goal.overflow_mul-result-5
overflow_mul-result-5 c = let pre = c.requires in omega (arith, mul-le-mul pre.0.farthest pre.1)

pub returns : goal.returns
unfolding on_one_more
returns c = rw c.if-through.false
