use mathlib.Core.Path.{◌≡◌, ◌∙◌}
use Prim.Native.Nat.{◌+◌, ◌*◌}
use native.Mathlib.Omega.{arith}
use Rattle.base_bits.proofs.Numbers.{each_finite, none_written, more_written, all_written}
use Rattle.base_bits.proofs.writing.put_words.Goals as goal

pub loop-k-init : goal.loop-k-init
loop-k-init c = none_written _ _ c.args.from.now

pub pattern_of-requires : goal.pattern_of-requires
pattern_of-requires c = each_finite c.args.from.now c.requires.1 c.loop-k.k (omega arith)

pub loop-k-preserved : goal.loop-k-preserved
loop-k-preserved c =
    let args = c.args in
    let turn = c.loop-k in
    let here : 8 * (args.place + 8 * turn.k) ≡ 8 * args.place + 64 * turn.k = omega arith in
    c.put_word.ensures
    ∙ rw (c.pattern_of.ensures, here)
    (more_written args.bytes.now turn.bytes (8 * args.place) args.from.now turn.k (omega arith) turn.invariant)

pub returns : goal.returns
returns c =
    let args = c.args in
    let turn = c.loop-k in
    all_written args.bytes.now turn.bytes (8 * args.place) args.from.now turn.k (omega arith) turn.invariant
