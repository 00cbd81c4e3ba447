-- The blend with all axes left, which may be one.
use native.Mathlib.Omega.{arith}
use mathlib.Core.Path.{refl}
use Rattle.query_cell.proofs.value.Goals as goal

pub blend-requires : goal.blend-requires
blend-requires c =
    let pre = c.requires in
    let one = c.if-axes-eq1.true in
    ((rw one at pre.0, (pre.2.0, pre.2.1), rw one at pre.3), pre.2.2, omega arith, λ two. omega arith)

pub returns-then-axes-eq1 : goal.returns-then-axes-eq1
returns-then-axes-eq1 c = rw c.if-axes-eq1.true (c.blend.ensures.all refl)

pub returns : goal.returns
returns c = c.blend-2.ensures.all refl
