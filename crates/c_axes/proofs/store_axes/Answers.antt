-- Four stores in turn, each keeping the lengths that the next one asks (`still_for_four`); together they leave the points, kinds and
-- values of the four axes (`four_axes_stored`).
use mathlib.Core.Path.{◌≡◌}
use lib.ListN.{length}
use Rattle.c_axes.proofs.Found.{still_for_four, four_axes_stored}
use borrow.Author.Rules.{rules}
use Rattle.c_axes.proofs.store_axes.Goals as goal
use Rattle.c_axes.proofs.store_axes.Goals.{Start}

four_found : (s : Start) → length s.args.found ≡ 4
four_found s = search rules

pub store_axis-requires-2 : goal.store_axis-requires-2
store_axis-requires-2 c =
    let long = still_for_four _ 0 c.store_axis.ensures c.requires in
    (search rules, long.0, long.1, long.2)

pub store_axis-requires-3 : goal.store_axis-requires-3
store_axis-requires-3 c =
    let long = still_for_four _ 1 c.store_axis-2.ensures (still_for_four _ 0 c.store_axis.ensures c.requires) in
    (search rules, long.0, long.1, long.2)

pub store_axis-requires-4 : goal.store_axis-requires-4
store_axis-requires-4 c =
    let long =
    still_for_four _ 2 c.store_axis-3.ensures
    (still_for_four _ 1 c.store_axis-2.ensures (still_for_four _ 0 c.store_axis.ensures c.requires)) in
    (search rules, long.0, long.1, long.2)

pub returns : goal.returns
returns c =
    four_axes_stored _ (four_found (goal.at.returns c).Start) c.requires c.store_axis.ensures c.store_axis-2.ensures
    c.store_axis-3.ensures c.store_axis-4.ensures
