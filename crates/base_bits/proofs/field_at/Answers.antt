-- Each width goes to the function that takes it, and all of them answer the field; of no bits it is 0.
use mathlib.Core.Path.{◌≡◌, sym, ap, ◌∙◌}
use native.Mathlib.Omega.{arith}
use Rattle.base_bits.specs.Bits.{field}
use Rattle.base_bits.proofs.Runs.{field_none}
use Rattle.base_bits.proofs.field_at.Goals as goal

pub returns-then-width-eq0 : goal.returns-then-width-eq0
returns-then-width-eq0 c =
    let args = c.args in
    let none : 0 ≡ args.width = omega arith in
    sym (field_none args.bytes.now args.at) ∙ ap (field args.bytes.now args.at) none

pub returns-then-width-eq64 : goal.returns-then-width-eq64
returns-then-width-eq64 c =
    let args = c.args in
    let all : 64 ≡ args.width = omega arith in c.pattern_at.ensures ∙ rw all
