-- A number that is that of Hold, that of Refuse, and any other.
use mathlib.Core.Path.{sym, ◌∙◌}
use Rattle.grid_codes.specs.Modes.{mode_of_number}
use Rattle.axis_locate.proofs.Sides.{placed_extend, placed_hold, placed_refuse}
use Rattle.axis_locate.proofs.outside.place_on_axis.Goals as goal

pub returns-then-is_hold : goal.returns-then-is_hold
unfolding mode_of_number
returns-then-is_hold c =
    let is = sym c.is_hold.ensures ∙ c.if-is_hold.true in
    placed_hold _ _ _ _ c.side_of.ensures (simp is) _ c.nearest.ensures

pub returns-then-is_refuse : goal.returns-then-is_refuse
unfolding mode_of_number
returns-then-is_refuse c =
    placed_refuse _ _ _ _ c.side_of-then-is_refuse.ensures
    (simp (sym c.is_hold.ensures ∙ c.if-is_hold.false, sym c.is_refuse.ensures ∙ c.if-is_refuse.true))
    _
    c.is_outside.ensures

pub returns : goal.returns
unfolding mode_of_number
returns c =
    placed_extend _ _ _
    (simp (sym c.is_hold.ensures ∙ c.if-is_hold.false, sym c.is_refuse.ensures ∙ c.if-is_refuse.false))
