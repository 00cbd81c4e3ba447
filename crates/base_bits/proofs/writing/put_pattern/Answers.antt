-- Where `at` begins a byte the word is the field; else the bits before it are written as they stood, so only the 64 behind them change
-- (`pattern_written`).
use mathlib.Core.Path.{◌≡◌, ◌∙◌}
use Prim.Native.Nat.{◌+◌, ◌*◌, ◌/◌, ◌%◌}
use native.Mathlib.Omega.{arith}
use Rattle.base_bits.proofs.WordsWritten.{pattern_written}
use Rattle.base_bits.proofs.writing.put_pattern.Goals as goal

pub returns-then-shift-eq0 : goal.returns-then-shift-eq0
returns-then-shift-eq0 c =
    let args = c.args in
    let here : 8 * (args.at / 8) ≡ args.at = omega arith in
    c.put_word.ensures ∙ rw here

pub returns-else-shift-eq0 : goal.returns-else-shift-eq0
returns-else-shift-eq0 c =
    let args = c.args in
    let here : 8 * (args.at / 8) + args.at % 8 ≡ args.at = omega arith in
    let pattern =
    pattern_written args.bytes.now (args.at / 8) (args.at % 8) (omega arith) _ args.n _ c.first_bits-before.ensures.0
    (omega arith) c.across_words-word.ensures in
    c.put_in_byte.ensures ∙ rw (c.put_word-else-shift-eq0.ensures, pattern, here)
