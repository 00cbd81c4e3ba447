use mathlib.Core.Path.{refl}
use native.Mathlib.Omega.{arith}
use Rattle.trial_cursor_walk.proofs.Walking.{further, not_past}
use Rattle.trial_cursor_walk.proofs.walk.Goals as goal

pub calls-init : goal.calls-init
calls-init c = rw c.start-cursor.ensures.answer (omega arith)

pub calls-smaller : goal.calls-smaller
calls-smaller c =
    let step = further _ _ _ c.in-Ok.ensures refl in
    let most = not_past _ _ _ c.in-Ok.ensures refl in omega arith

pub calls-preserved : goal.calls-preserved
calls-preserved c =
    let step = further _ _ _ c.in-Ok.ensures refl in
    let most = not_past _ _ _ c.in-Ok.ensures refl in omega arith
