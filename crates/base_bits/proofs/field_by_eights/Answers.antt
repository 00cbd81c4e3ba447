use mathlib.Core.Path.{◌≡◌, sym}
use Prim.Native.Nat.{◌<◌, ◌^◌}
use native.Mathlib.Omega.{arith}
use Rattle.base_bits.proofs.Runs.{field_none, field_below, field_add}
use borrow.Author.Rules.{rules}
use Rattle.base_bits.proofs.field_by_eights.Goals as goal

pub loop-read-init : goal.loop-read-init
loop-read-init c = (search rules, sym (field_none _ _))

pub raised-requires : goal.raised-requires
raised-requires c = (rw c.loop-read.invariant.1 (field_below _ _ _), omega arith, omega arith)

pub overflow_add-n : goal.overflow_add-n
overflow_add-n c =
    let few : c.narrow_field_at.result < 2 ^ c.min-count.result = rw c.narrow_field_at.ensures (field_below _ _ _) in
    omega arith

pub loop-read-preserved : goal.loop-read-preserved
loop-read-preserved c =
    let turn = c.loop-read in (
      omega arith,
      rw (c.raised.ensures.0, c.narrow_field_at.ensures, turn.invariant.1, field_add),
    )

pub returns : goal.returns
returns c = let e : c.loop-read.read ≡ c.args.width = omega arith in rw e at c.loop-read.invariant.1
