-- What is found where a point is looked for on the axes: its cells, the weights there, and what refuses it.
use Rattle.std.specs.Prelude.{◌≡◌, Bool, true, List, ℕ, ◌+◌, ◌<◌, ◌≤◌, length, replicate, Float}
use Rattle.std.specs.Float.Ieee.Scale.{finite}
use Rattle.rules.specs.Numbers.{at, any}
use Rattle.rules.specs.Sizes.{most_axes, Grid, points, knots, Place, place_of}
use Rattle.rules.specs.Steps.{h}
use Rattle.rules.specs.Refusals.{number_refused}
use Rattle.rules.specs.Outside.{mode_at, side, placed_on, outside_refused}
use Rattle.rules.specs.Query.{fraction, cell_of, quick_cell_of, even_cell_of}
use Rattle.query_blend.specs.Blend.{WeightsOf, weights_in}
use Rattle.axis_locate.specs.CellFound.{Rising}
use Rattle.query_answer.specs.PointsAndModes.{OfAnyAxes}
use Rattle.query_answer.specs.Ways.{by_search, knots_refused_by}
use Rattle.query_answer.specs.declared.ways.Way.{Way}
use Rattle.query_answer.specs.declared.ways.Way.TheVariants.{Walked, Searched, Direct, Divided}
use Rattle.query_answer.specs.declared.searched.Refusals.{Refusals}

-- the weights of one axis in their places, and those of the others as they were
pub record WeightsStored (before : List Float) (axis : ℕ) (knots : List Float) (lower : ℕ) (point : Float) (later : List Float) : Type
    0 where
  pub same_length : length later ≡ length before
  pub stored : WeightsOf (h knots lower) (fraction knots lower point) (weights_in later axis)
  pub others : (j : ℕ) → (j ≡ axis → ⊥) → weights_in later j ≡ weights_in before j

-- nothing is found yet
pub record Unfound (lower : List ℕ) (weights : List Float) : Type 0 where
  pub no_cells : lower ≡ replicate most_axes 0
  pub sixteen : length weights ≡ 16

-- the cells of a point on a grid
abbrev pub cells_by : Way → Grid → List Float → Place
cells_by Walked g coordinates = quick_cell_of g (at coordinates)
cells_by Searched g coordinates = quick_cell_of g (at coordinates)
cells_by Direct g coordinates = even_cell_of g (at coordinates)
cells_by Divided g coordinates = even_cell_of g (at coordinates)

module _ (way : Way) (g : Grid) (coordinates : List Float) where
  -- whether axis j refuses the point: by 7, by 8, by 18
  abbrev pub coordinate_refuses : ℕ → Bool
  coordinate_refuses j = number_refused (at coordinates j)

  abbrev pub knots_refuse : ℕ → Bool
  knots_refuse j = knots_refused_by way (knots g j) (cells_by way g coordinates j)

  abbrev pub mode_refuses : ℕ → Bool
  mode_refuses j = outside_refused (mode_at g j) (side (knots g j) (at coordinates j))

  -- what is found on the first i axes: the cells, the weights there of the point that the modes make of the given one, and whether these
  -- axes refuse it
  pub record FoundOn (i : ℕ) (lower : List ℕ) (weights : List Float) (r : Refusals) : Type 0 where
    pub found : (j : ℕ) → j < i → place_of lower j ≡ cells_by way g coordinates j
    pub weighted : (j : ℕ) → j < i
        → WeightsOf (h (knots g j) (place_of lower j)) (fraction (knots g j) (place_of lower j) (placed_on g (at coordinates) j))
        (weights_in weights j)
    pub coordinates_refused : r.coordinates ≡ any coordinate_refuses i
    pub knots_refused : r.knots ≡ any knots_refuse i
    pub outside_refused : r.outside ≡ any mode_refuses i
    pub rising : by_search way ≡ true → (j : ℕ) → j < i → Rising (knots g j) (points g j) → finite (at coordinates j) ≡ true
        → cells_by way g coordinates j ≡ cell_of g (at coordinates) j

-- cells on the first i of axes with these points, 0 past them, and the places of the weights
pub record CellsPlaced (points : List ℕ) (i : ℕ) (lower : List ℕ) (weights : List Float) : Type 0 where
  pub four : length lower ≡ most_axes
  pub inside : (j : ℕ) → j < i → place_of lower j + 1 < place_of points j
  pub unused : (j : ℕ) → i ≤ j → j < most_axes → place_of lower j ≡ 0
  pub sixteen : length weights ≡ 16

-- what is found on all axes, whichever have these points and modes
pub record FoundAmong (way : Way) (axes : ℕ) (points modes : List ℕ) (x coordinates : List Float) (lower : List ℕ) (weights : List Float)
    (r : Refusals) : Type 0 where
  pub placed : CellsPlaced points axes lower weights
  pub on : OfAnyAxes axes points modes x (λ g. FoundOn way g coordinates axes lower weights r)
