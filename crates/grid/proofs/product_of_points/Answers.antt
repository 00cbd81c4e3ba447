use mathlib.Core.Path.{◌≡◌, sym}
use Prim.Native.Nat.{◌+◌, ◌*◌, ◌^◌, ◌≤◌}
use native.Mathlib.Nat.{le_trans}
use native.Mathlib.Omega.{arith}
use lib.Dec.{lit≤}
use Rattle.rules.specs.Sizes.{place_of}
use Rattle.grid.proofs.Products.{product_none, product_more, product_bound, of_four, fits_64}
use borrow.Author.Rules.{rules}
use Rattle.grid.proofs.product_of_points.Goals as goal
use Rattle.grid.proofs.product_of_points.Goals.{In-loop-i}

grown : (c : In-loop-i)
    → c.loop-i.product * place_of c.args.points.now c.loop-i.i ≤ 256 ^ (c.loop-i.i + 1)
grown c =
    product_bound _ _ _ c.loop-i.invariant.1
    (c.requires.0.few_points c.loop-i.i (omega arith))

pub loop-i-init : goal.loop-i-init
loop-i-init c = (sym (product_none _), search rules)

pub overflow_mul-product : goal.overflow_mul-product
overflow_mul-product c =
    fits_64
    (le_trans
    (of_four _ (c.loop-i.i + 1) (grown (goal.at.overflow_mul-product c).In-loop-i) (omega (arith, c.requires.0.few_axes)))
    (lit≤ tt))

pub loop-i-preserved : goal.loop-i-preserved
loop-i-preserved c = (rw (product_more, ← c.loop-i.invariant.0), grown (goal.at.loop-i-preserved c).In-loop-i)

pub returns : goal.returns
returns c =
    let e : c.loop-i.i ≡ c.args.axes = omega arith in (
      rw e at c.loop-i.invariant.0,
      of_four _ c.loop-i.i c.loop-i.invariant.1 (omega (arith, c.requires.0.few_axes)),
    )
