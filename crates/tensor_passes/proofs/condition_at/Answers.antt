-- At mask 0 the axis's own condition; at any other, by `crossed_at`, the crossed one.
use mathlib.Core.Path.{◌≡◌, refl, ◌∙◌}
use mathlib.Core.Logic.{◌≢◌}
use Prim.Native.Nat.{ℕ, zero, suc}
use Rattle.rules.specs.Ends.{crossed, condition_at}
use Rattle.rules.specs.declared.Condition.{Condition}
use Rattle.tensor_passes.proofs.condition_at.Goals as goal

-- a mask that is not 0 takes the crossed condition
crossed_at : (mask : ℕ) (ends : Condition) → mask ≢ 0 → crossed ends ≡ condition_at mask ends
crossed_at zero ends some = absurd (some refl)
crossed_at (suc mask) ends some = refl

pub returns-then-mask-eq0 : goal.returns-then-mask-eq0
returns-then-mask-eq0 c = rw c.if-mask-eq0.true

pub returns-else-mask-eq0 : goal.returns-else-mask-eq0
returns-else-mask-eq0 c = c.crossed.ensures ∙ crossed_at _ _ c.if-mask-eq0.false
