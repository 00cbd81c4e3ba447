-- The knots of an axis among the flat knots: there is one for each point, and each stands so many places after where they begin; and the
-- part that a loop over the axes lends is all of them.
use mathlib.Core.Path.{◌≡◌, refl, ◌∙◌}
use mathlib.Core.List.{List}
use Prim.Native.Nat.{ℕ, ◌+◌, ◌-◌, ◌<◌, ◌≤◌}
use native.Mathlib.Nat.{add-sub_cancel_left}
use native.Mathlib.Omega.{arith}
use lib.ListN.{length, take, drop, length-drop}
use lib.Seq.{length-take-le, get_or-take, get_or-drop}
use lib.Ieee.{Float, nan}
use Rattle.rules.specs.Numbers.{at}
use Rattle.rules.specs.Sizes.{Grid, points, sum_below, knots, knots_length}
use Rattle.grid.proofs.Products.{sum_within}

pub knots_of_axis : (g : Grid) → length g.flat_knots ≡ knots_length g → (i : ℕ) → i < g.axes → length (knots g i) ≡ points g i
knots_of_axis g exact i l =
    let within = sum_within (points g) i g.axes l in
    length-take-le (points g i) (drop (sum_below (points g) i) g.flat_knots) (rw length-drop (omega arith))

pub knot_at : (g : Grid) (i k : ℕ) → k < points g i → at (knots g i) k ≡ at g.flat_knots (sum_below (points g) i + k)
knot_at g i k l =
    get_or-take (points g i) (drop (sum_below (points g) i) g.flat_knots) k nan l
    ∙ get_or-drop (sum_below (points g) i) g.flat_knots k nan

-- a loop has come to axis i, whose knots begin at `begin`
module _ (g : Grid) (begin i : ℕ) (begun : begin ≡ sum_below (points g) i) where
  -- what it lends of the flat knots
  abbrev pub part : List Float
  part = take (begin + points g i - begin) (drop begin g.flat_knots)

  pub part_is : part ≡ knots g i
  part_is = rw (add-sub_cancel_left, begun) refl

  module _ (exact : length g.flat_knots ≡ knots_length g) (l : i < g.axes) where
    pub part_within : begin + points g i ≤ length g.flat_knots
    part_within = omega (arith, begun, exact, sum_within (points g) i g.axes l)

    pub part_length : length part ≡ points g i
    part_length = rw part_is (knots_of_axis g exact i l)
