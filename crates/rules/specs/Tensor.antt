-- The chapter Tensor of docs/RULES.md: a tensor's numbers as a function of the samples, by place and mask.
use Rattle.std.specs.Prelude.{true, false, List, ℕ, zero, suc, ◌-◌, ◌/◌, ◌%◌, ◌^◌, ltb, Float}
use Rattle.rules.specs.Numbers.{at, table}
use Rattle.rules.specs.Ends.{condition_at}
use Rattle.rules.specs.Sizes.{Grid, points, condition, knots, masks, tensor_length, Place, moved, flat, unflat}
use Rattle.rules.specs.Curve.{lane_slope}

-- the slope along axis i, at a place, of the curve through the numbers at one mask, which decides the ends that the curve takes
unfoldable pub slope_along : Grid → ℕ → ℕ → (Place → Float) → Place → Float
unfolding lane_slope
slope_along g i mask numbers p =
    lane_slope (knots g i) (points g i - 1) (condition_at mask (condition g i))
    (table (points g i) (λ k. numbers (moved p i k))) (p i)

-- the number at a place and a mask once the axes below i are done: at mask 0 the sample, else the slope along the highest axis of the mask,
-- of the numbers without it
unfoldable pub entry : Grid → (Place → Float) → ℕ → ℕ → Place → Float
unfolding slope_along
entry g samples zero mask p = samples p
entry g samples (suc i) mask p =
    elim (ltb mask (2 ^ i)) [
      | true ↦ entry g samples i mask p
      | false ↦ slope_along g i (mask - 2 ^ i) (entry g samples i (mask - 2 ^ i)) p
    ]

-- the sample at a place
unfoldable pub sample : Grid → List Float → Place → Float
unfolding flat
sample g samples p = at samples (flat (points g) g.axes p)

-- the place of number e of a tensor
abbrev pub place_at : Grid → ℕ → Place
place_at g e = unflat (points g) g.axes (e / masks g)

-- the mask of number e of a tensor
abbrev pub mask_at : Grid → ℕ → ℕ
mask_at g e = e % masks g

-- the whole tensor, all axes done
unfoldable pub tensor : Grid → List Float → List Float
unfolding entry sample unflat
tensor g samples = table (tensor_length g) (λ e. entry g (sample g samples) g.axes (mask_at g e) (place_at g e))
