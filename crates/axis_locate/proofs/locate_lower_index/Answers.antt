use native.Mathlib.Omega.{arith}
use mathlib.Core.Path.{◌≡◌}
use mathlib.Core.Logic.{⊎_elim}
use denote.Floats.{passes}
use Rattle.axis_locate.proofs.Halving.{kept_first, kept_down, kept_up, kept_last, none_left}
use Rattle.axis_locate.proofs.Answered.{below_all, above_all, inside, located}
use Rattle.axis_locate.proofs.locate_lower_index.Goals as goal

pub returns-then-point-knots : goal.returns-then-point-knots
returns-then-point-knots c = located _ _ c.type_inv.knots (passes _ c.well_formed.1.0.1) c.requires _ (below_all _ _ c.if-point-knots.true)

pub returns-then-point-knots-2 : goal.returns-then-point-knots-2
returns-then-point-knots-2 c =
    located _ _ c.type_inv.knots (passes _ c.well_formed.1.0.1) c.requires _
    (above_all _ _ c.if-point-knots.false c.if-point-knots-2.true)

pub loop-halvings-init : goal.loop-halvings-init
loop-halvings-init c = kept_first _ _ _ (omega arith)

pub loop-halvings-preserved-then-knots-mid : goal.loop-halvings-preserved-then-knots-mid
loop-halvings-preserved-then-knots-mid c =
    let l = c.loop-halvings in
    kept_down _ _ _ l.low l.high l.width l.halvings l.invariant (omega arith) _ (omega arith) c.if-knots-mid.true

pub loop-halvings-preserved : goal.loop-halvings-preserved
loop-halvings-preserved c =
    let l = c.loop-halvings in
    kept_up _ _ _ l.low l.high l.width l.halvings l.invariant (omega arith) _ (omega arith) c.if-knots-mid.false

pub returns : goal.returns
returns c =
    let k = c.loop-halvings.invariant in
    let none : c.loop-halvings.width ≡ 0 = ⊎_elim (none_left _ _ k.count) (λ e. e.1) c.then-halvings-eq8.either in
    located _ _ c.type_inv.knots (passes _ c.well_formed.1.0.1) c.requires _
    (inside _ _ c.if-point-knots.false c.if-point-knots-2.false c.loop-halvings.high c.one_back.result _
    (kept_last _ _ _ c.loop-halvings.low _ _ _ k none)
    c.one_back.ensures c.held.ensures)
