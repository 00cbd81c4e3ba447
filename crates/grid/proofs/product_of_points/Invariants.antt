-- `product` is that of the points below `i` and at most 256 to the power `i`, which four axes keep within 2^32.
use mathlib.Core.Path.{◌≡◌}
use Prim.Native.Nat.{◌^◌, ◌≤◌}
use Rattle.rules.specs.Sizes.{place_of, product_below}
use Rattle.grid.proofs.product_of_points.Given as goal

abbrev pub invariant-loop-i : goal.invariant-loop-i
invariant-loop-i l = (l.product ≡ product_below (place_of l.points) l.i) × (l.product ≤ 256 ^ l.i)
