-- Where `at` begins a byte the field is the word there; else it begins within that word and ends in the byte behind it (`across_byte`).
use mathlib.Core.Path.{◌≡◌, ◌∙◌}
use Prim.Native.Nat.{◌+◌, ◌*◌, ◌/◌, ◌%◌}
use native.Mathlib.Omega.{arith}
use Rattle.base_bits.proofs.WordsRead.{across_byte}
use Rattle.base_bits.proofs.pattern_at.Goals as goal

pub returns-then-shift-eq0 : goal.returns-then-shift-eq0
returns-then-shift-eq0 c =
    let args = c.args in
    let here : 8 * (args.at / 8) ≡ args.at = omega arith in
    c.word_at.ensures ∙ rw here

pub returns : goal.returns
returns c =
    let args = c.args in
    let here : 8 * (args.at / 8) + args.at % 8 ≡ args.at = omega arith in
    c.across_to_byte.ensures
    ∙ rw (c.word_at-2.ensures, across_byte args.bytes.now (args.at / 8) (args.at % 8) (omega arith), here)
