-- There are four axes, and the four numbers taken out of them are their points at each index (`points_taken`).
use mathlib.Core.Path.{◌≡◌}
use lib.ListN.{length}
use Rattle.grid.proofs.Points.{points_taken}
use borrow.Author.Rules.{rules}
use Rattle.grid.proofs.points_of.Goals as goal
use Rattle.grid.proofs.points_of.Goals.{Start}

four : (s : Start) → length s.args.all ≡ 4
four s = search rules

pub returns : goal.returns
returns c = points_taken c.args.all (four (goal.at.returns c).Start)
