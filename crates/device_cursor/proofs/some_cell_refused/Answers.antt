use Prim.Native.Nat.{ℕ}
use mathlib.Core.Path.{◌≡◌, ap, ◌∙◌}
use mathlib.Core.Bool.{not}
use native.Mathlib.Omega.{arith}
use Rattle.device_cursor.specs.DeviceCurve.{cells, all_in_range}
use Rattle.device_cursor.proofs.Judged.{flag_next}
use Rattle.device_cursor.proofs.some_cell_refused.Goals as goal

pub loop-i-preserved : goal.loop-i-preserved
loop-i-preserved c = flag_next _ c.loop-i.i _ _ c.loop-i.invariant c.cell_refused-refused.ensures

pub returns : goal.returns
returns c =
    let a = c.args.curve.now in
    let e : c.loop-i.i ≡ cells a = omega arith in
    c.loop-i.invariant ∙ ap (λ (n : ℕ). not (all_in_range a n)) e
