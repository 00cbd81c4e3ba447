-- Four lanes of a walk: the cursor goes on past each, and where fewer are left the last stands in and is not counted.
use native.Mathlib.Omega.{arith}
use Rattle.tensor_walks.proofs.FourTurns.{at_lane, onward_given, group_given, starts, four_solved}
use Rattle.tensor_walks.proofs.by_four.solve_next_four.Goals as goal

pub onward-second-requires : goal.onward-second-requires
onward-second-requires c = let pre = c.requires in onward_given _ _ _ _ _ _ pre.0 _ (at_lane _ _ pre.2 pre.3)

pub onward-third-requires : goal.onward-third-requires
onward-third-requires c =
    let moved = c.onward-second.ensures in
    let pre = c.requires in
    onward_given _ _ _ _ _ _ pre.0 _ moved.walking

pub onward-fourth-requires : goal.onward-fourth-requires
onward-fourth-requires c =
    let moved = c.onward-third.ensures in
    let pre = c.requires in
    onward_given _ _ _ _ _ _ pre.0 _ moved.walking

pub overflow_add-places : goal.overflow_add-places
overflow_add-places c =
    let pre = c.requires in
    omega (arith, (onward_given _ _ _ _ _ _ pre.0 _ (at_lane _ _ pre.2 pre.3)).3)

pub overflow_add-places-2 : goal.overflow_add-places-2
overflow_add-places-2 c =
    let moved = c.onward-second.ensures in
    let pre = c.requires in
    omega (arith, (onward_given _ _ _ _ _ _ pre.0 _ moved.walking).3)

pub overflow_add-places-3 : goal.overflow_add-places-3
overflow_add-places-3 c =
    let moved = c.onward-third.ensures in
    let pre = c.requires in
    omega (arith, (onward_given _ _ _ _ _ _ pre.0 _ moved.walking).3)

pub overflow_add-places-4 : goal.overflow_add-places-4
overflow_add-places-4 c =
    let moved = c.onward-fourth.ensures in
    let pre = c.requires in
    omega (arith, (onward_given _ _ _ _ _ _ pre.0 _ moved.walking).3)

pub solve_four-requires : goal.solve_four-requires
solve_four-requires c =
    let pre = c.requires in
    group_given _ _ _ _ _ _ _ pre.0 _ _
    (starts _ _ _ _ _ pre.2 pre.3 c.onward-second.ensures c.onward-third.ensures c.onward-fourth.ensures) pre.1

pub onward-requires : goal.onward-requires
onward-requires c =
    let pre = c.requires in
    onward_given _ _ _ _ _ _ pre.0 _ c.onward-fourth.ensures.walking

pub returns : goal.returns
returns c =
    four_solved _ _ _ _ _ c.requires.2 c.requires.3 c.onward-second.ensures c.onward-third.ensures c.onward-fourth.ensures
    _ c.onward.ensures _ _ _ _ c.args.plan _ _ c.requires.0 c.solve_four.ensures
