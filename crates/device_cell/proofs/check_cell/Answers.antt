-- The three ends, as the rule has them: 19 where the cell is out of range, else 20 where the position is not in 0..256, else 0.
use mathlib.Core.Path.{◌≡◌, sym, ◌∙◌}
use mir.Syntax.{w64}
use mir.ValLaws.{to_z-of_z}
use Rattle.device_cell.specs.DeviceCell.{position_in_range, cell_refusal}
use Rattle.device_cell.proofs.check_cell.Goals as goal
use Rattle.device_cell.proofs.check_cell.Goals.{After-in_range}

position : (c : After-in_range) → position_in_range c.args.k ≡ c.in_range.result
position c = sym (rw (to_z-of_z w64 c.args.k c.ranges.k) at c.in_range.ensures)

pub returns-then-not-cell_in_range : goal.returns-then-not-cell_in_range
unfolding cell_refusal
returns-then-not-cell_in_range c = rw (sym c.cell_in_range.ensures ∙ c.if-not-cell_in_range.true)

pub returns-then-not-in_range : goal.returns-then-not-in_range
unfolding cell_refusal
returns-then-not-in_range c =
    rw (
      sym c.cell_in_range.ensures ∙ c.if-not-cell_in_range.false,
      position (goal.at.returns-then-not-in_range c).After-in_range ∙ c.if-not-in_range.true,
    )

pub returns : goal.returns
unfolding cell_refusal
returns c =
    rw (
      sym c.cell_in_range.ensures ∙ c.if-not-cell_in_range.false,
      position (goal.at.returns c).After-in_range ∙ c.if-not-in_range.false,
    )
