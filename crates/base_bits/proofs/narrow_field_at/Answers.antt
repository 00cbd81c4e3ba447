-- Bit `at` is bit `at % 8` of its byte, so the field is a run within that byte, or it fills the byte's end and goes on in the next
-- (`field_byte`, `field_two_bytes`).
use mathlib.Core.Path.{◌≡◌, sym, ◌∙◌}
use Prim.Native.Nat.{◌+◌, ◌-◌, ◌*◌, ◌/◌, ◌%◌}
use native.Mathlib.Omega.{arith}
use Rattle.base_bits.proofs.Runs.{field_byte, field_two_bytes}
use Rattle.base_bits.proofs.narrow_field_at.Goals as goal

pub returns-then-width-first : goal.returns-then-width-first
returns-then-width-first c =
    let args = c.args in
    let here : 8 * (args.at / 8) + args.at % 8 ≡ args.at = omega arith in
    c.chunk.ensures.0 ∙ sym (field_byte args.bytes.now (args.at / 8) (args.at % 8) args.width (omega arith))
    ∙ rw here

pub returns : goal.returns
returns c =
    let args = c.args in
    let first = 8 - args.at % 8 in
    let here : 8 * (args.at / 8) + args.at % 8 ≡ args.at = omega arith in
    let all : first + (args.width - first) ≡ args.width = omega arith in
    rw (
      c.chunk-3.ensures.0,
      c.raised.ensures.0,
      c.chunk-2.ensures.0,
      field_two_bytes args.bytes.now (args.at / 8) (args.at % 8) first (args.width - first) (omega arith) (omega arith),
      here,
      all,
    )
