use mathlib.Core.Path.{refl, ap, ◌∙◌}
use native.Mathlib.Omega.{arith}
use lib.ListN.{length}
use Rattle.base_bits.proofs.Writes.{field_length, written_none, written_more, written_all}
use borrow.Author.Rules.{rules}
use Rattle.base_bits.proofs.writing.put_field_by_eights.Goals as goal

pub loop-written-init : goal.loop-written-init
loop-written-init c = (search rules, refl, written_none _ _ _)

pub loop-written-preserved : goal.loop-written-preserved
loop-written-preserved c =
    let args = c.args in
    let turn = c.loop-written in
    let put = c.put_narrow_field.ensures in (
      omega arith,
      ap length put ∙ field_length _ _ _ _ ∙ turn.invariant.1,
      put
          ∙ written_more args.bytes.now turn.bytes args.at turn.written args.width c.min-count.result args.n _
          turn.invariant.2 (omega arith) refl,
    )

pub returns : goal.returns
returns c =
    let args = c.args in
    written_all _ _ args.at c.loop-written.written args.width args.n c.loop-written.invariant.2 (omega arith)
