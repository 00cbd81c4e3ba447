-- Bit `at` is bit `at % 8` of its byte; a field that does not end there is a run up to the byte's end and one from the next byte's first
-- bit on (`written_add`).
use mathlib.Core.Path.{◌≡◌, ◌∙◌}
use Prim.Native.Nat.{◌+◌, ◌-◌, ◌*◌, ◌/◌, ◌%◌}
use native.Mathlib.Omega.{arith}
use Rattle.base_bits.proofs.Writes.{written_add}
use Rattle.base_bits.proofs.writing.put_narrow_field.Goals as goal

pub returns-then-width-first : goal.returns-then-width-first
returns-then-width-first c =
    let args = c.args in
    let here : 8 * (args.at / 8) + args.at % 8 ≡ args.at = omega arith in
    c.put_in_byte.ensures ∙ rw here

pub returns-else-width-first : goal.returns-else-width-first
returns-else-width-first c =
    let args = c.args in
    let first = 8 - args.at % 8 in
    let rest = args.width - first in
    let here : 8 * (args.at / 8) + args.at % 8 ≡ args.at = omega arith in
    let behind : 8 * (args.at / 8 + 1) + 0 ≡ args.at + first = omega arith in
    let all : first + rest ≡ args.width = omega arith in
    c.put_in_byte-else-width-first-2.ensures
    ∙ rw (c.put_in_byte-else-width-first.ensures, here, behind, ← written_add args.bytes.now args.at first rest args.n, all)
