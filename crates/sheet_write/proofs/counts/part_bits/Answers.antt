-- The bits of all parts, counted from edition and axes alone. The modes have at most 8 bits together; by that and the bounds of the
-- other counts no sum overflows.
use Prim.Native.Nat.{◌*◌, ◌≤◌}
use native.Mathlib.Nat.{mul-le-mul}
use native.Mathlib.Omega.{arith}
use Rattle.sheet_read.proofs.Extents.{width_most}
use Rattle.sheet_write.specs.PartsWithRoom.{parts_bits}
use borrow.Author.Rules.{rules}
use Rattle.sheet_write.proofs.counts.part_bits.Goals as goal
use Rattle.sheet_write.proofs.counts.part_bits.Goals.{After-mode_width}

-- the bits of all modes are few
narrow : (c : After-mode_width) → c.mode_width.result ≤ 2
narrow c = omega (arith, c.mode_width.ensures, width_most c.args.edition)

modes : (c : After-mode_width) → c.mode_width.result * c.args.axes ≤ 8
modes c = mul-le-mul (narrow c) c.requires.few_axes

pub overflow_mul-result-2 : goal.overflow_mul-result-2
overflow_mul-result-2 c = let few = modes (goal.at.overflow_mul-result-2 c).After-mode_width in omega arith

pub overflow_add-result-2 : goal.overflow_add-result-2
overflow_add-result-2 c = let few = modes (goal.at.overflow_add-result-2 c).After-mode_width in let axes = c.requires.few_axes in omega arith

pub overflow_add-result-5 : goal.overflow_add-result-5
overflow_add-result-5 c = let few = modes (goal.at.overflow_add-result-5 c).After-mode_width in search rules

pub returns : goal.returns
unfolding parts_bits
returns c =
    rw (
      c.mode_width.ensures,
      c.all_values.ensures.0,
      c.knots_length.ensures.0,
      c.samples_length.ensures.0,
    )
