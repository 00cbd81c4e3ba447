-- The four fields stand side by side in the bits of the head, of which a mode has two at most (`extent`).
use mathlib.Core.Path.{ap, ◌∙◌}
use Prim.Native.Nat.{ℕ, ◌+◌}
use native.Mathlib.Omega.{arith}
use Rattle.base_bits.specs.Bits.{field}
use Rattle.base_bits.proofs.Runs.{field_below}
use Rattle.sheet_read.specs.Fields.{points_at}
use Rattle.sheet_read.proofs.Extents.{Extent, extent}
use Rattle.sheet_read.proofs.heads.head_at.Goals as goal

pub overflow_add-result : goal.overflow_add-result
overflow_add-result c = let args = c.args in omega (arith, field_below args.bytes.now args.at 8)

pub field_at-requires-4 : goal.field_at-requires-4
field_at-requires-4 c =
    let reach : Extent c.args.bytes.now c.args.at = extent _ _ in
    let there = c.requires.1 in
    let told = c.requires.0 in
    (record { room = omega arith; small = omega arith }, omega arith)

pub returns : goal.returns
unfolding points_at
returns c = record {
  points = ap (λ (n : ℕ). n + 1) c.field_at.ensures;
  lower = c.field_at-2.ensures;
  upper = c.field_at-3.ensures;
  mode = c.field_at-4.ensures ∙ ap (λ (w : ℕ). field c.args.bytes.now (c.args.at + 12) w) c.requires.0;
}
