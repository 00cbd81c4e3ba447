-- The patterns begin with a byte or `at % 8` bits behind one, and are stored either way; with no place to fill, none is all of them.
use mathlib.Core.Path.{◌≡◌, ◌∙◌}
use Prim.Native.Nat.{◌+◌, ◌*◌, ◌/◌, ◌%◌}
use native.Mathlib.Omega.{arith}
use Rattle.base_bits.proofs.Numbers.{stored_none, stored_all}
use Rattle.base_bits.proofs.fill.Goals as goal

pub returns-then-to-eq0 : goal.returns-then-to-eq0
returns-then-to-eq0 c =
    let args = c.args in
    stored_all args.bytes.now args.at args.to.now _ 0 (stored_none _ _ _) (omega arith)

pub returns-then-at-eq0 : goal.returns-then-at-eq0
returns-then-at-eq0 c =
    let args = c.args in
    let here : 8 * (args.at / 8) ≡ args.at = omega arith in
    c.fill_from_words.ensures ∙ rw here

pub returns-else-to-eq0 : goal.returns-else-to-eq0
returns-else-to-eq0 c =
    let args = c.args in
    let here : 8 * (args.at / 8) + args.at % 8 ≡ args.at = omega arith in
    c.fill_across_words.ensures ∙ rw here
