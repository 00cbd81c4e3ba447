-- The points taken out of the four axes are theirs, so their product is the number of the grid's places, at most 2^32.
use mathlib.Core.Path.{ap, ◌∙◌}
use Prim.Native.Nat.{ℕ}
use Rattle.rules.specs.Sizes.{product_below}
use Rattle.grid.proofs.samples_length.Goals as goal

pub returns : goal.returns
returns c = (
  c.product_of_points.ensures.0
      ∙ ap (λ (n : ℕ → ℕ). product_below n c.args.axes) c.points_of-points.ensures,
  c.product_of_points.ensures.1,
)
