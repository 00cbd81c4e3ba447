-- The chapter Change of docs/RULES.md: one sample stored, the build's lanes that can differ solved again, and how many these are.
use Rattle.std.specs.Prelude.{Bool, true, false, cond, ◌&&◌, ◌||◌, List, [], ◌∷◌, ◌++◌, ℕ, zero, suc, ◌+◌, ◌-◌, ◌*◌, ◌^◌, ltb, eqb, Float}
use Rattle.rules.specs.Numbers.{at, table, filter}
use Rattle.rules.specs.Sizes.{Grid, points, samples_length, tensor_length, Place, unflat, spot, in_mask}
use Rattle.rules.specs.Tensor.{slope_along, place_at, mask_at}

-- whether two places have the same index on each of the first d axes that is not set free
unfoldable pub agree : (ℕ → Bool) → ℕ → Place → Place → Bool
agree free zero p q = true
agree free (suc d) p q = (free d || eqb (p d) (q d)) && agree free d p q

-- whether the lane along axis i of the numbers at a mask, the one on which p lies, can differ: on every other axis that is not in the mask
-- it has the changed place's index
unfoldable pub can_differ : Grid → Place → ℕ → ℕ → Place → Bool
unfolding agree in_mask
can_differ g changed i mask p = agree (in_mask (mask + 2 ^ i)) g.axes p changed

-- the samples with a new one at the changed place
unfoldable pub with_sample : Grid → (Place → Float) → Place → Float → Place → Float
unfolding agree
with_sample g samples changed v p = cond (agree (λ j. false) g.axes p changed) v (samples p)

-- as `entry`, from the numbers of any tensor: the new sample stands in its place, lanes that can differ are solved, and every other number
-- is the old one
unfoldable pub changed_entry : Grid → Place → Float → (Place → ℕ → Float) → ℕ → ℕ → Place → Float
unfolding with_sample can_differ slope_along
changed_entry g changed v old zero mask p = with_sample g (λ q. old q 0) changed v p
changed_entry g changed v old (suc i) mask p =
    elim (ltb mask (2 ^ i)) [
      | true ↦ changed_entry g changed v old i mask p
      | false ↦ elim (can_differ g changed i (mask - 2 ^ i) p) [
        | true ↦ slope_along g i (mask - 2 ^ i) (changed_entry g changed v old i (mask - 2 ^ i)) p
        | false ↦ old p mask
      ]
    ]

-- the whole tensor after a change
unfoldable pub changed_tensor : Grid → Place → Float → List Float → List Float
unfolding changed_entry unflat
changed_tensor g changed v tensor =
    table (tensor_length g)
    (λ e. changed_entry g changed v (λ p mask. at tensor (spot g p mask)) g.axes (mask_at g e) (place_at g e))

-- a lane: its axis, the mask of its numbers, and the flat number of the place where it starts, with index 0 on its axis
pub record Lane : Type 0 where
  pub axis : ℕ
  pub mask : ℕ
  pub start : ℕ

-- the starts of the lanes along axis i, rising
unfoldable pub starts : Grid → ℕ → List ℕ
unfolding filter unflat
starts g i = filter (λ f. eqb (unflat (points g) g.axes f i) 0) (table (samples_length g) (λ f. f))

-- the lanes along axis i that start at some places, of one mask
unfoldable pub lanes_from : ℕ → ℕ → List ℕ → List Lane
lanes_from i mask [] = []
lanes_from i mask (f ∷ fs) = record { axis = i; mask = mask; start = f } ∷ lanes_from i mask fs

-- the lanes along axis i of the masks below a bound, mask after mask, in the order of their starts
unfoldable pub lanes_along : Grid → ℕ → ℕ → List Lane
unfolding starts lanes_from
lanes_along g i zero = []
lanes_along g i (suc mask) = lanes_along g i mask ++ lanes_from i mask (starts g i)

-- the lanes along the axes below i, axis after axis, each with the masks of the axes before it
unfoldable pub lanes_below : Grid → ℕ → List Lane
unfolding lanes_along
lanes_below g zero = []
lanes_below g (suc i) = lanes_below g i ++ lanes_along g i (2 ^ i)

-- the lanes of a build, in its order
abbrev pub build_lanes : Grid → List Lane
build_lanes g = lanes_below g g.axes

-- the lanes of a change: those of the build that can differ
unfoldable pub change_lanes : Grid → Place → List Lane
unfolding lanes_below filter can_differ
change_lanes g changed =
    filter (λ lane. can_differ g changed lane.axis lane.mask (unflat (points g) g.axes lane.start)) (build_lanes g)

-- the product, over the first i axes, of one more than their points
unfoldable pub product_of_one_more : (ℕ → ℕ) → ℕ → ℕ
product_of_one_more n zero = 1
product_of_one_more n (suc i) = product_of_one_more n i * (1 + n i)

-- the sum of these products for the axes below i: how many lanes a change solves, in closed form
unfoldable pub lane_sum : (ℕ → ℕ) → ℕ → ℕ
unfolding product_of_one_more
lane_sum n zero = 0
lane_sum n (suc i) = lane_sum n i + product_of_one_more n i
