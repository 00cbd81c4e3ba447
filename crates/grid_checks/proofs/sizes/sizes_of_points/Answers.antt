use mathlib.Core.Path.{sym, ◌∙◌}
use Prim.Native.Nat.{◌+◌, ◌*◌}
use native.Mathlib.Omega.{arith}
use Rattle.rules.specs.Sizes.{place_of}
use Rattle.grid.proofs.Products.{fits_64}
use Rattle.grid_checks.proofs.Counting.{Counted, counted_none, counted_more, few_numbers, counted_all, found_points, found_large, found_sizes}
use Rattle.grid_checks.proofs.sizes.sizes_of_points.Goals as goal
use Rattle.grid_checks.proofs.sizes.sizes_of_points.Goals.{Else-points_refused}

-- one more axis is counted
turn : (c : Else-points_refused) → let l =
    c.loop-i in
    let n = place_of c.args.points.now in
    Counted c.args.axes n (l.i + 1) (l.knots + n l.i) (l.numbers * n l.i)
turn c =
    counted_more _ _ c.loop-i.invariant (omega arith) (sym c.points_refused.ensures ∙ c.if-points_refused.false)

pub loop-i-init : goal.loop-i-init
loop-i-init c = counted_none _ _ c.masks-numbers.ensures.0

pub returns-then-points_refused : goal.returns-then-points_refused
returns-then-points_refused c =
    found_points _ _ {i = c.loop-i.i} (omega arith)
    (sym c.points_refused.ensures ∙ c.if-points_refused.true)

pub overflow_add-knots : goal.overflow_add-knots
overflow_add-knots c = omega (arith, (turn (goal.at.overflow_add-knots c).Else-points_refused).few_knots)

pub overflow_mul-numbers : goal.overflow_mul-numbers
overflow_mul-numbers c = fits_64 (few_numbers _ _ (turn (goal.at.overflow_mul-numbers c).Else-points_refused) c.requires.1)

pub loop-i-preserved : goal.loop-i-preserved
loop-i-preserved c = turn (goal.at.loop-i-preserved c).Else-points_refused

pub returns-then-numbers-gt4096 : goal.returns-then-numbers-gt4096
returns-then-numbers-gt4096 c = found_large _ _ (counted_all _ _ c.loop-i.invariant (omega arith)) c.if-numbers-gt4096.true

pub returns : goal.returns
returns c = found_sizes _ _ (counted_all _ _ c.loop-i.invariant (omega arith)) c.if-numbers-gt4096.false
