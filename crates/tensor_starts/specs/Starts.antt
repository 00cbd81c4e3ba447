-- The lanes of a pass: on which axes they go through all indices, how many indices they have on each, and where each lane starts.
use Rattle.std.specs.Prelude.{Bool, false, ◌||◌, ℕ, eqb}
use Rattle.std.proofs.Math.Bool.{cond}
use Rattle.rules.specs.Sizes.{Place, unflat, in_mask}

-- whether the lanes of a pass are bound to no index of the place on axis j
unfoldable pub free : Bool → ℕ → ℕ → Bool
free whole target j = whole || in_mask target j

-- whether they go through all indices on axis j: on a free axis, but not on their own
unfoldable pub varies : Bool → ℕ → ℕ → ℕ → Bool
unfolding free
varies whole target i j = cond (eqb j i) false (free whole target j)

-- of axes of n points each, of which some vary: how many indices lanes have on axis j, and where lane t starts, counted with the last axis
-- fastest
module _ (n : ℕ → ℕ) (vary : ℕ → Bool) where
  unfoldable pub lane_points : ℕ → ℕ
  lane_points j = cond (vary j) (n j) 1

  unfoldable pub lane_place : Place → ℕ → ℕ → Place
  unfolding lane_points unflat
  lane_place fixed d t j = cond (vary j) (unflat lane_points d t j) (fixed j)
