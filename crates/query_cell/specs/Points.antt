-- A cell of axes that are given by their points alone, n i on axis i, where its numbers stand in a tensor, and their blend: as the rules
-- say for a grid with these points.
use Rattle.std.specs.Prelude.{◌≡◌, ◌≢◌, List, ℕ, ◌+◌, ◌-◌, ◌*◌, ◌/◌, ◌%◌, ◌^◌, ◌<◌, ◌≤◌, length, Float}
use Rattle.rules.specs.Numbers.{at}
use Rattle.rules.specs.Sizes.{most_axes, most_in_a_tensor, product_below, flat, Place, place_of}
use Rattle.rules.specs.Query.{corner, blend}
use Rattle.grid.specs.Strides.{stride}
use Rattle.query_blend.specs.Blend.{weighted_at, WeightsOn, Smaller}
use Rattle.query_blend.specs.declared.Weights.{Weights}
use Rattle.query_cell.specs.declared.Spots.{Spots}

-- a cell by its lower indices: the upper ones are on the grid too
pub record CellAt (axes : ℕ) (n : ℕ → ℕ) (lower : Place) : Type 0 where
  pub some_axes : 1 ≤ axes
  pub few_axes : axes ≤ most_axes
  pub small : product_below n axes * 2 ^ axes ≤ most_in_a_tensor
  pub upper : (i : ℕ) → i < axes → lower i + 1 < n i

module _ (axes : ℕ) (n : ℕ → ℕ) where
  -- its numbers, corner after corner, the mask fastest
  abbrev pub numbers : List Float → Place → ℕ → Float
  numbers tensor lower e = at tensor (flat n axes (corner axes lower (e / 2 ^ axes)) * 2 ^ axes + e % 2 ^ axes)

  -- their blend by the widths and the fractions of the axes
  abbrev pub blended : Place → (ℕ → Float) → (ℕ → Float) → List Float → Float
  blended lower widths ts tensor = blend axes 0 widths ts (numbers tensor lower)

  -- where the lowest of them stands, of two axes or more, and how far apart two neighbours along the first axis are, along the second, and
  -- along the last but one
  pub record SpotsOf (lower : Place) (r : Spots) : Type 0 where
    pub first : r.first ≡ flat n axes lower * 2 ^ axes
    pub above : r.above ≡ stride n axes 0 * 2 ^ axes
    pub next : r.next ≡ stride n axes 1 * 2 ^ axes
    pub last : r.last ≡ stride n axes (axes - 2) * 2 ^ axes

-- ---- the runs of a cell without its first axis, of two axes or more

-- where a run begins: the runs differ on axis 1 and on the last but one
abbrev pub run_start : Spots → ℕ → ℕ
run_start spots run = spots.first + run / 2 * spots.next + run % 2 * spots.last

-- where the numbers above it on the first axis begin
abbrev pub run_above : Spots → ℕ → ℕ
run_above spots run = run_start spots run + spots.above

module _ (axes : ℕ) (spots : Spots) where
  -- they are all in the tensor
  pub record RunsGiven (tensor : List Float) : Type 0 where
    pub two_axes : 2 ≤ axes
    pub few_axes : axes ≤ most_axes
    pub there : (run : ℕ) → run < 2 ^ axes / 4 → run_above spots run + 2 * 2 ^ axes ≤ length tensor
    pub few : length tensor ≤ most_in_a_tensor

  -- they are blended by the weights of the first axis, one after the other
  pub record RunsRemoved (tensor : List Float) (w : Weights) (left : List Float) : Type 0 where
    pub exact : length left ≡ 4 ^ (axes - 1)
    pub number : (run k : ℕ) → run < 2 ^ axes / 4 → k < 2 ^ axes
        → at left (run * 2 ^ axes + k) ≡ weighted_at w (at tensor) (run_start spots run + 2 * k) (run_above spots run + 2 * k)

-- ---- one axis fewer, and the blend of what is left

module _ (axes : ℕ) (points lower : List ℕ) (tensor : List Float) where
  -- points and lower indices that are lent are those of a cell, and the tensor is one of their grid
  abbrev pub CellGiven : Type 0
  CellGiven =
      CellAt axes (place_of points) (place_of lower)
      × ((length points ≡ 4) × (length lower ≡ 4))
      × (length tensor ≡ product_below (place_of points) axes * 2 ^ axes)

  -- of all axes the first is removed by its weights
  abbrev pub FirstRemoved : Weights → List Float → Type 0
  FirstRemoved w later = Smaller w (4 ^ (axes - 1)) (numbers axes (place_of points) tensor (place_of lower)) later

module _ (axes left : ℕ) (points lower : List ℕ) where
  -- of the axes that are left the lowest: of all of them what stands in the tensor is removed, of fewer what stands in the cell
  pub record Removed (tensor : List Float) (w : Weights) (cell later : List Float) : Type 0 where
    pub first : left ≡ axes → FirstRemoved axes points lower tensor w later
    pub further : left ≢ axes → Smaller w (4 ^ (left - 1)) (at cell) later

  -- their blend, whatever the widths and fractions that the weights are of: of all axes that of the tensor's numbers, of fewer the cell's
  pub record BlendedOn (weights tensor cell : List Float) (r : Float) : Type 0 where
    pub all :
        left ≡ axes → (widths ts : ℕ → Float) → WeightsOn axes 0 widths ts weights
        → r ≡ blended axes (place_of points) (place_of lower) widths ts tensor
    pub fewer :
        left < axes → (widths ts : ℕ → Float) → WeightsOn axes 0 widths ts weights
        → r ≡ blend left (axes - left) widths ts (at cell)
