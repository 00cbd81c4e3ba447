-- `onward` meets its contract: a walk at a lane goes on to the next or, from the last, behind it; behind the last it stays.
use native.Mathlib.Omega.{arith}
use mathlib.Core.Path.{refl}
use Rattle.tensor_walks.proofs.FourTurns.{on_to_next, behind_last}
use Rattle.tensor_walks.proofs.by_four.onward.Goals as goal

pub next-requires : goal.next-requires
next-requires c =
    let pre = c.requires in
    ((pre.0.standing (omega (arith, c.if-lane-walk.true))).0, pre.1, omega (arith, c.if-lane-walk.true), pre.3)

pub returns-then-lane-walk : goal.returns-then-lane-walk
returns-then-lane-walk c = on_to_next _ _ c.requires.0 (omega (arith, c.if-lane-walk.true)) _ c.next.ensures

pub returns : goal.returns
returns c = behind_last _ _ c.requires.0 (omega (arith, c.if-lane-walk.false, c.if-walk-lane.false)) _ refl refl
