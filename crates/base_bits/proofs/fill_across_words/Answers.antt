use mathlib.Core.Path.{◌≡◌, ap, ◌∙◌}
use Prim.Native.Nat.{◌+◌, ◌-◌, ◌*◌}
use native.Mathlib.Omega.{arith}
use lib.ListN.{length}
use lib.Ieee.{binary64, of_bits}
use Rattle.base_bits.specs.Bits.{field}
use Rattle.base_bits.proofs.Numbers.{stored_none, stored_more, stored_all}
use Rattle.base_bits.proofs.WordsRead.{across_word, across_byte}
use Rattle.base_bits.proofs.fill_across_words.Goals as goal

pub loop-k-init : goal.loop-k-init
loop-k-init c =
    let args = c.args in
    let first : 8 * args.place ≡ 8 * (args.place + 8 * 0) = omega arith in
    (stored_none _ _ _, c.word_at-word.ensures ∙ rw first)

pub loop-k-preserved : goal.loop-k-preserved
loop-k-preserved c =
    let args = c.args in
    let turn = c.loop-k in
    let place = args.place + 8 * turn.k in
    let behind : 8 * (place + 8) ≡ 8 * (args.place + 8 * (turn.k + 1)) = omega arith in
    let pattern : c.across_words.result ≡ field args.bytes.now (8 * place + args.shift) 64 =
    c.across_words.ensures
    ∙ rw (turn.invariant.1, c.word_at-next.ensures) (across_word args.bytes.now place args.shift (omega arith)) in (
      stored_more args.bytes.now (8 * args.place + args.shift) args.to.now _ _ (8 * place + args.shift) _ turn.invariant.0
          (c.float_of.ensures ∙ ap (of_bits binary64) pattern) (omega arith) (omega arith),
      c.word_at-next.ensures ∙ rw behind,
    )

pub returns : goal.returns
returns c =
    let args = c.args in
    let turn = c.loop-k in
    let last = length args.to.now - 1 in
    let end : turn.k ≡ last = omega arith in
    let place = args.place + 8 * last in
    let at = 8 * args.place + args.shift in
    let pattern : c.across_to_byte.result ≡ field args.bytes.now (8 * place + args.shift) 64 =
    c.across_to_byte.ensures ∙ rw (turn.invariant.1, end) (across_byte args.bytes.now place args.shift (omega arith)) in
    let stored = rw end at turn.invariant.0 in
    let all =
    stored_more args.bytes.now at args.to.now _ last (8 * place + args.shift) _ stored
    (c.float_of-2.ensures ∙ ap (of_bits binary64) pattern) (omega arith) (omega arith) in
    stored_all args.bytes.now at args.to.now _ (last + 1) all (omega arith)
