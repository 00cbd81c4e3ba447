use mathlib.Core.Path.{◌∙◌}
use native.Mathlib.Omega.{arith}
use Rattle.base_bits.proofs.Numbers.{each_finite}
use Rattle.base_bits.proofs.WordsWritten.{late_none, late_more, late_all}
use Rattle.base_bits.proofs.writing.put_words_across.Goals as goal

pub loop-k-init : goal.loop-k-init
loop-k-init c =
    let args = c.args in
    late_none args.bytes.now args.place args.shift (omega arith) args.from.now _ c.first_bits-before.ensures.0

pub pattern_of-pattern-requires : goal.pattern_of-pattern-requires
pattern_of-pattern-requires c = each_finite c.args.from.now c.requires.1 c.loop-k.k (omega arith)

pub loop-k-preserved : goal.loop-k-preserved
loop-k-preserved c =
    let args = c.args in
    let turn = c.loop-k in
    rw c.put_word.ensures
    (late_more args.bytes.now args.place args.shift (omega arith) args.from.now turn.bytes turn.before _ _ turn.k turn.invariant
    (omega arith) c.pattern_of-pattern.ensures (omega arith) c.across_words-word.ensures)

pub returns : goal.returns
returns c =
    let args = c.args in
    let turn = c.loop-k in
    c.put_in_byte.ensures
    ∙ late_all args.bytes.now args.place args.shift (omega arith) args.from.now _ _ turn.k _ turn.invariant (omega arith) (omega arith)
