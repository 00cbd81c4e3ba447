-- Each width goes to the function that writes it; of no bits nothing is written (`written_none`).
use mathlib.Core.Path.{◌≡◌, ap, ◌∙◌}
use Prim.Native.Nat.{ℕ}
use native.Mathlib.Omega.{arith}
use Rattle.base_bits.specs.Written.{with_field}
use Rattle.base_bits.proofs.Writes.{written_none}
use Rattle.base_bits.proofs.writing.put_field.Goals as goal

pub returns-then-width-eq0 : goal.returns-then-width-eq0
returns-then-width-eq0 c =
    let args = c.args in
    let none : 0 ≡ args.width = omega arith in
    written_none args.bytes.now args.at args.n ∙ ap (λ (k : ℕ). with_field args.bytes.now args.at k args.n) none

pub returns-then-width-eq64 : goal.returns-then-width-eq64
returns-then-width-eq64 c =
    let args = c.args in
    let all : 64 ≡ args.width = omega arith in
    c.put_pattern.ensures ∙ rw all
