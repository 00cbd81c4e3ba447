-- Size 1 is a single blend, stored in front (`one_left`); any other size comes in fours, as `remove_by_fours` asks.
use native.Mathlib.Omega.{arith}
use Rattle.query_blend.proofs.Removal.{one_left}
use Rattle.query_blend.proofs.remove_lowest.Goals as goal

pub one_blended-requires : goal.one_blended-requires
one_blended-requires c = (omega arith, omega arith)

pub returns-then-size-eq1 : goal.returns-then-size-eq1
returns-then-size-eq1 c = one_left _ _ _ _ c.if-size-eq1.true c.one_blended.ensures c.requires.0

pub remove_by_fours-requires : goal.remove_by_fours-requires
remove_by_fours-requires c =
    let given = c.requires in
    (given.0, given.1, given.2 c.if-size-eq1.false)
