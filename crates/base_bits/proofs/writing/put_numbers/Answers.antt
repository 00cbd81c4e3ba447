-- The patterns begin with a byte or `at % 8` bits behind one, and are written either way.
use mathlib.Core.Path.{◌≡◌, ◌∙◌}
use Prim.Native.Nat.{◌+◌, ◌*◌, ◌/◌, ◌%◌}
use native.Mathlib.Omega.{arith}
use Rattle.base_bits.proofs.writing.put_numbers.Goals as goal

pub returns-then-at-eq0 : goal.returns-then-at-eq0
returns-then-at-eq0 c =
    let args = c.args in
    let here : 8 * (args.at / 8) ≡ args.at = omega arith in
    c.put_words.ensures ∙ rw here

pub returns-else-at-eq0 : goal.returns-else-at-eq0
returns-else-at-eq0 c =
    let args = c.args in
    let here : 8 * (args.at / 8) + args.at % 8 ≡ args.at = omega arith in
    c.put_words_across.ensures ∙ rw here
