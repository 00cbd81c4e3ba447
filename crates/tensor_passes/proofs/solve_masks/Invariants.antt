-- The masks below `mask` have their slopes at the targets, the plan still stands for the next pass, and `lanes` is the sum of their
-- lanes.
use mathlib.Core.Path.{◌≡◌}
use Prim.Native.Nat.{◌^◌}
use Rattle.rules.specs.Sizes.{place_of}
use Rattle.grid.specs.GridOfCall.{grid}
use Rattle.tensor_passes.proofs.MaskTurns.{Turn}
use Rattle.tensor_passes.proofs.solve_masks.Given as goal

abbrev pub invariant-loop-mask : goal.invariant-loop-mask
invariant-loop-mask l = (l.limit ≡ 2 ^ l.axis) × Turn (grid l.axes l.all l.knots) l.initial.w l.w l.whole (place_of l.place) l.axis l.plan l.lanes l.mask
