use mathlib.Core.Path.{ap, ◌∙◌}
use Prim.Native.Nat.{◌+◌, ◌*◌}
use native.Mathlib.Omega.{arith}
use lib.Ieee.{binary64, of_bits}
use Rattle.base_bits.proofs.Numbers.{stored_none, stored_more, stored_all}
use Rattle.base_bits.proofs.fill_from_words.Goals as goal

pub loop-k-init : goal.loop-k-init
loop-k-init c = stored_none _ _ _

pub loop-k-preserved : goal.loop-k-preserved
loop-k-preserved c =
    let args = c.args in
    let turn = c.loop-k in
    stored_more args.bytes.now (8 * args.place) args.to.now _ _ (8 * (args.place + 8 * turn.k)) _ turn.invariant
    (c.float_of.ensures ∙ ap (of_bits binary64) c.word_at.ensures) (omega arith) (omega arith)

pub returns : goal.returns
returns c =
    let args = c.args in
    stored_all args.bytes.now (8 * args.place) args.to.now _ c.loop-k.k c.loop-k.invariant (omega arith)
