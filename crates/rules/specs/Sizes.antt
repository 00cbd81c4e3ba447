-- The chapter Sizes of docs/RULES.md: the limits, and the lengths, places and masks of a grid.
use Rattle.std.specs.Prelude.{Bool, cond, List, ℕ, zero, suc, ◌+◌, ◌*◌, ◌/◌, ◌%◌, ◌^◌, eqb, get_or, take, drop, Float}
use Rattle.rules.specs.Ends.{not_a_knot}
use Rattle.rules.specs.declared.Condition.{Condition}
use Rattle.rules.specs.declared.Mode.TheVariants.{Extend}
use Rattle.rules.specs.declared.Axis.{Axis}

-- the most axes
abbrev pub most_axes : ℕ
most_axes = 4

-- the fewest points on an axis
abbrev pub fewest_on_an_axis : ℕ
fewest_on_an_axis = 2

-- the most points on an axis
abbrev pub most_on_an_axis : ℕ
most_on_an_axis = 256

-- the most numbers in a tensor
abbrev pub most_in_a_tensor : ℕ
most_in_a_tensor = 4096

-- the scratch beside the tensor's length: the rows that a lane is solved in
abbrev pub scratch_of_rows : ℕ
scratch_of_rows = 2048

-- an axis not in use: no points, NotAKnot twice, and extend
abbrev pub unused_axis : Axis
unused_axis = record { points = 0; condition = not_a_knot; mode = Extend }

-- what a call is given of its grid: how many axes are in use, the four axes, and the knots of all of them in one list
pub record Grid : Type 0 where
  pub axes : ℕ
  pub entries : List Axis
  pub flat_knots : List Float

-- the points of axis i
abbrev pub points : Grid → ℕ → ℕ
points g i = (get_or g.entries i unused_axis).points

-- the condition of axis i
abbrev pub condition : Grid → ℕ → Condition
condition g i = (get_or g.entries i unused_axis).condition

-- the sum of the first i of some sizes
unfoldable pub sum_below : (ℕ → ℕ) → ℕ → ℕ
sum_below n zero = 0
sum_below n (suc i) = sum_below n i + n i

-- the product of the first i of some sizes
unfoldable pub product_below : (ℕ → ℕ) → ℕ → ℕ
product_below n zero = 1
product_below n (suc i) = product_below n i * n i

-- how many knots the axes in use have together
abbrev pub knots_length : Grid → ℕ
knots_length g = sum_below (points g) g.axes

-- the knots of axis i, which begin after those of the axes before it
abbrev pub knots : Grid → ℕ → List Float
knots g i = take (points g i) (drop (sum_below (points g) i) g.flat_knots)

-- how many samples there are: one at each place of the grid
abbrev pub samples_length : Grid → ℕ
samples_length g = product_below (points g) g.axes

-- how many masks there are: one for each set of axes
abbrev pub masks : Grid → ℕ
masks g = 2 ^ g.axes

-- how many numbers a tensor has: one for each sample and each mask
abbrev pub tensor_length : Grid → ℕ
tensor_length g = samples_length g * masks g

-- how long scratch must be at least
abbrev pub scratch_length : Grid → ℕ
scratch_length g = tensor_length g + scratch_of_rows

-- a place of the grid: the index on each axis
abbrev pub Place : Type 0
Place = ℕ → ℕ

-- four entries as a place
abbrev pub place_of : List ℕ → Place
place_of entries i = get_or entries i 0

-- the place with k for its index on axis i
abbrev pub moved : Place → ℕ → ℕ → Place
moved p i k j = cond (eqb j i) k (p j)

-- the number of a place on the first d axes of n points each, counted fastest along the last of them
unfoldable pub flat : (ℕ → ℕ) → ℕ → Place → ℕ
flat n zero p = 0
flat n (suc d) p = flat n d p * n d + p d

-- the place that has the number f
unfoldable pub unflat : (ℕ → ℕ) → ℕ → ℕ → Place
unflat n zero f j = 0
unflat n (suc d) f j = cond (eqb j d) (f % n d) (unflat n d (f / n d) j)

-- where the number of a place and a mask stands in a tensor: all masks of a place lie side by side
abbrev pub spot : Grid → Place → ℕ → ℕ
spot g p mask = flat (points g) g.axes p * masks g + mask

-- whether axis i is in a mask: the bit of weight 2^i is set
unfoldable pub in_mask : ℕ → ℕ → Bool
in_mask mask i = eqb (mask / 2 ^ i % 2) 1
