-- The points taken out of the axes are theirs, so what the pass over the points says is refusal 8 of the grid (`knots_of_points`).
use mathlib.Core.Path.{sym, ap, ◌∙◌}
use Prim.Native.Nat.{ℕ}
use Rattle.rules.specs.Sizes.{sum_below}
use Rattle.grid_checks.proofs.Points.{range_of_points, knots_of_points}
use borrow.Author.Rules.{rules}
use Rattle.grid_checks.proofs.rising.some_knots_refused.Goals as goal

pub knots_of_points_refused-requires : goal.knots_of_points_refused-requires
knots_of_points_refused-requires c =
    let same = c.points_of-points.ensures in (
      range_of_points c.args.axes c.args.all c.points_of-points.result same c.requires.0,
      search rules,
      c.requires.1 ∙ ap (λ (n : ℕ → ℕ). sum_below n c.args.axes) (sym same),
    )

pub returns : goal.returns
returns c =
    knots_of_points c.args.axes c.args.all c.points_of-points.result
    c.points_of-points.ensures _ c.knots_of_points_refused.ensures
