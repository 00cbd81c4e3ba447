use Prim.Native.Nat.{ℕ, ◌+◌, ◌-◌, ◌≤◌}
use mathlib.Core.Path.{◌≡◌, sym, ap, ◌∙◌}
use mathlib.Core.List.{List}
use native.Mathlib.Omega.{arith}
use lib.ListN.{length, take, drop, length-drop}
use lib.Seq.{length-take-le}
use lib.Ieee.{Float}
use Rattle.rules.specs.Sizes.{place_of, sum_below}
use Rattle.rules.specs.Refusals.{knots_refused}
use Rattle.base_numbers.proofs.Scan.{any_none, any_more, any_found, any_end}
use Rattle.grid.proofs.Products.{sum_none, sum_more, sum_within}
use borrow.Author.Rules.{rules}
use Rattle.grid_checks.proofs.rising.knots_of_points_refused.Goals as goal
use Rattle.grid_checks.proofs.rising.knots_of_points_refused.Goals.{After-knots_refused, In-loop-i}

-- a part that is lent is as long as the axis has points
part_refused : (x : List Float) (start points : ℕ) → start + points ≤ length x
    → knots_refused (take (start + points - start) (drop start x)) (length (take (start + points - start) (drop start x)))
    ≡ knots_refused (take points (drop start x)) points
part_refused x start points h =
    let e : start + points - start ≡ points = omega arith in
    rw e (ap (knots_refused (take points (drop start x))) (length-take-le points (drop start x) (rw length-drop (omega arith))))

within : (c : In-loop-i)
    → c.loop-i.start + (place_of c.args.points.now) c.loop-i.i
    ≤ length c.args.knots.now
within c =
    let h = sum_within ((place_of c.args.points.now)) c.loop-i.i c.args.axes (omega arith) in
    omega (arith, c.requires.2)

here : (c : After-knots_refused) → let i = c.loop-i.i in
    c.knots_refused.result ≡ knots_refused (take ((place_of c.args.points.now) i) (drop (sum_below ((place_of c.args.points.now)) i) c.args.knots.now)) ((place_of c.args.points.now) i)
here c =
    let l = c.loop-i in
    c.knots_refused.ensures
    ∙ part_refused c.args.knots.now l.start ((place_of c.args.points.now) l.i) ((let h = sum_within ((place_of c.args.points.now)) c.loop-i.i c.args.axes (omega arith) in
    omega (arith, c.requires.2)))
    ∙ ap (λ (start : ℕ). knots_refused (take ((place_of c.args.points.now) l.i) (drop start c.args.knots.now)) ((place_of c.args.points.now) l.i)) l.invariant.1

pub loop-i-init : goal.loop-i-init
loop-i-init c = (search rules, sym (sum_none _), any_none _)

pub overflow_add-end : goal.overflow_add-end
overflow_add-end c = omega (arith, within (goal.at.overflow_add-end c).In-loop-i)

pub offset_bounds-knots-start : goal.offset_bounds-knots-start
offset_bounds-knots-start c = omega (arith, within (goal.at.offset_bounds-knots-start c).In-loop-i)

pub slice_bounds-knots_refused-end : goal.slice_bounds-knots_refused-end
slice_bounds-knots_refused-end c = omega (arith, within (goal.at.slice_bounds-knots_refused-end c).In-loop-i)

pub returns-then-knots_refused : goal.returns-then-knots_refused
returns-then-knots_refused c = sym (any_found _ c.loop-i.i _ (omega arith) (sym (here (goal.at.returns-then-knots_refused c).After-knots_refused) ∙ c.if-knots_refused.true))

pub loop-i-preserved : goal.loop-i-preserved
loop-i-preserved c =
    let l = c.loop-i in
    (search rules, rw (sum_more, ← l.invariant.1), any_more _ _ l.invariant.2 (sym (here (goal.at.loop-i-preserved c).After-knots_refused) ∙ c.if-knots_refused.false))

pub returns : goal.returns
returns c = sym (any_end _ _ _ c.loop-i.invariant.2 (omega arith))
