-- The turns of `search_on_axes`, on plain lists: on each axis of any that have these points and modes, the cell is that of its way, and the
-- weights are those of the point there.
use native.Mathlib.Omega.{arith}
use mathlib.Core.Path.{◌≡◌, refl, sym, subst, ◌∙◌}
use mathlib.Core.Bool.{Bool, true, false, not, ◌||◌}
use mathlib.Core.List.{List}
use Prim.Native.Nat.{ℕ, ◌+◌, ◌-◌, ◌<◌, ◌≤◌}
use native.Mathlib.Nat.{zero-add, add-sub_cancel_left}
use native.Mathlib.Numerals.{add-one}
use lib.ListN.{length, set, take, drop, length-set, length-drop, get_or-replicate}
use lib.Seq.{length-take-le, get_or-set_same, get_or-set_other}
use lib.Ieee.{Float}
use lib.Ieee.Scale.{finite}
use borrow.Author.Count.{below_more}
use Rattle.rules.specs.Numbers.{at, any}
use Rattle.rules.specs.Sizes.{Grid, points, knots, sum_below, place_of}
use Rattle.rules.specs.Steps.{h}
use Rattle.rules.specs.Outside.{mode_at, placed_on}
use Rattle.rules.specs.Even.{direct_cell_of}
use Rattle.rules.specs.Query.{fraction, cell_of, quick_cell_of, even_cell_of}
use Rattle.rules.specs.declared.Axis.{Axis}
use Rattle.rules.proofs.Sums.{sum_ext}
use Rattle.grid_codes.specs.Modes.{mode_of_number}
use Rattle.grid.specs.GridOfCall.{grid}
use Rattle.grid.proofs.Products.{sum_more, sum_within}
use Rattle.axis_locate.specs.CellFound.{Rising, Placed}
use Rattle.axis_locate.specs.declared.outside.PlacedPoint.{PlacedPoint}
use Rattle.query_blend.specs.Blend.{WeightsOf, weights_in}
use Rattle.query_answer.specs.PointsAndModes.{AxesOf, SearchFits}
use Rattle.query_answer.specs.Ways.{cell_on, by_search, knots_refused_by, CellOn}
use Rattle.query_answer.specs.CellsFound.{WeightsStored, Unfound, cells_by, FoundOn, CellsPlaced, FoundAmong}
use Rattle.query_answer.specs.declared.ways.Way.{Way}
use Rattle.query_answer.specs.declared.ways.Way.TheVariants.{Walked, Searched, Direct, Divided}
use Rattle.query_answer.specs.declared.searched.Refusals.{Refusals}

-- the cell on one axis is that of the grid, whose knots are as many as its points
cell_of_axis : (way : Way) (g : Grid) (coordinates : List Float) (i : ℕ) → length (knots g i) ≡ points g i
    → cell_on way (knots g i) (at coordinates i) (placed_on g (at coordinates) i) ≡ cells_by way g coordinates i
unfolding quick_cell_of even_cell_of direct_cell_of
cell_of_axis Walked g coordinates i exact = refl
cell_of_axis Searched g coordinates i exact = refl
cell_of_axis Direct g coordinates i exact = rw exact refl
cell_of_axis Divided g coordinates i exact = rw exact refl

module _ (way : Way) (axes : ℕ) (points_in modes_in : List ℕ) (x coordinates : List Float) where
  -- the loop has come to axis i, whose knots begin at `begin`
  pub record Turn (lower : List ℕ) (weights : List Float) (r : Refusals) (begin i : ℕ) : Type 0 where
    pub fits : SearchFits axes points_in modes_in x coordinates
    pub begun : begin ≡ sum_below (place_of points_in) i
    pub placed : CellsPlaced points_in i lower weights
    pub found : (all : List Axis) → AxesOf axes points_in modes_in all → FoundOn way (grid axes all x) coordinates i lower weights r

  pub turn_first :
      (lower : List ℕ) (weights : List Float) → SearchFits axes points_in modes_in x coordinates × Unfound lower weights
      → Turn lower weights (record { coordinates = false; knots = false; outside = false }) 0 0
  unfolding sum_below any
  turn_first lower weights given = record {
    fits = given.0;
    begun = refl;
    placed = record {
      four = rw given.1.no_cells refl;
      inside = λ j l. absurd (omega arith);
      unused = λ j l few. rw given.1.no_cells (get_or-replicate 4 j 0 0 few);
      sixteen = given.1.sixteen;
    };
    found = λ all are. record {
      found = λ j l. absurd (omega arith);
      weighted = λ j l. absurd (omega arith);
      coordinates_refused = refl;
      knots_refused = refl;
      outside_refused = refl;
      rising = λ search j l. absurd (omega arith);
    };
  }

  module _ (lower : List ℕ) (weights : List Float) (r : Refusals) (begin i : ℕ) (turn : Turn lower weights r begin i) where
    -- the knots that it lends
    abbrev pub part : List Float
    part = take (begin + place_of points_in i - begin) (drop begin x)

    module _ (lt : i < axes) where
      pub end_within : begin + place_of points_in i ≤ length x
      end_within = omega (arith, turn.begun, turn.fits.knots_exact, sum_within (place_of points_in) i axes lt)

      exact : length part ≡ place_of points_in i
      exact = rw add-sub_cancel_left (length-take-le (place_of points_in i) (drop begin x) (rw length-drop (omega (arith, end_within))))

      pub size_given : (2 ≤ length part) × (length part ≤ 256)
      size_given =
          (omega (arith, exact, turn.fits.in_range.some_points i lt), omega (arith, exact, turn.fits.in_range.few_points i lt))

      pub some_knot : 1 ≤ length part
      some_knot = omega (arith, size_given.0)

      pub axis_few : i < 4
      axis_few = omega (arith, turn.fits.in_range.few_axes)

      module _ (placed : PlacedPoint) (stands : Placed (mode_of_number (place_of modes_in i)) part (at coordinates i) placed) (cell : ℕ)
          (on : CellOn way part (at coordinates i) placed.coordinate cell)
          (later : List Float) (stored : WeightsStored weights i part cell placed.coordinate later)
          (number knots_refused : Bool) (is_number : number ≡ finite (at coordinates i))
          (judged : knots_refused ≡ knots_refused_by way part cell) where
        -- what is told with this axis
        abbrev told : Refusals
        told =
            record {
              coordinates = r.coordinates || not number;
              knots = r.knots || knots_refused;
              outside = r.outside || placed.refused;
            }

        stored_here : place_of (set lower i cell) i ≡ cell
        stored_here = get_or-set_same lower i cell 0 (omega (arith, turn.placed.four, axis_few))

        other : (j : ℕ) → (j ≡ i → ⊥) → place_of (set lower i cell) j ≡ place_of lower j
        other j ne = get_or-set_other lower i j cell 0 ne

        -- on any axes with these points and modes
        module _ (all : List Axis) (are : AxesOf axes points_in modes_in all) where
          abbrev g : Grid
          g = grid axes all x

          before : FoundOn way g coordinates i lower weights r
          before = turn.found all are

          points_here : points g i ≡ place_of points_in i
          points_here = are.points_are i lt

          begun_here : begin ≡ sum_below (points g) i
          begun_here = turn.begun ∙ sym (sum_ext (points g) (place_of points_in) i (λ k l. are.points_are k (omega arith)))

          part_is : part ≡ knots g i
          part_is = rw (add-sub_cancel_left, points_here, ← begun_here) refl

          stands_here : Placed (mode_at g i) (knots g i) (at coordinates i) placed
          stands_here = rw (are.modes_are i lt, ← part_is) stands

          is_cell : cell ≡ cells_by way g coordinates i
          is_cell =
              on.found
              ∙ rw (part_is, stands_here.coordinate) refl
              ∙ cell_of_axis way g coordinates i (rw (← part_is, points_here) exact)

          weighs : WeightsOf (h (knots g i) (place_of (set lower i cell) i))
              (fraction (knots g i) (place_of (set lower i cell) i) (placed_on g (at coordinates) i)) (weights_in later i)
          weighs = rw (stored_here, ← stands_here.coordinate, ← part_is) stored.stored

          rises : by_search way ≡ true → Rising (knots g i) (points g i) → finite (at coordinates i) ≡ true
              → cells_by way g coordinates i ≡ cell_of g (at coordinates) i
          unfolding cell_of
          rises search rising fine =
              sym is_cell ∙ on.rising search {n = points g i} (rw part_is rising) fine ∙ rw part_is refl

          found_here : FoundOn way g coordinates (i + 1) (set lower i cell) later told
          unfolding any
          found_here = record {
            found = below_more _ i (λ j l. other j (omega arith) ∙ before.found j l) (stored_here ∙ is_cell);
            weighted = below_more _ i (λ j l. rw (other j (omega arith), stored.others j (omega arith)) (before.weighted j l)) weighs;
            coordinates_refused = rw (add-one, ← before.coordinates_refused, is_number) refl;
            knots_refused = rw (add-one, ← before.knots_refused, judged, part_is, is_cell) refl;
            outside_refused = rw (add-one, ← before.outside_refused, stands_here.refused) refl;
            rising = λ search. below_more _ i (λ j l. before.rising search j l) (rises search);
          }

        pub turn_next : Turn (set lower i cell) later told (begin + place_of points_in i) (i + 1)
        turn_next = record {
          fits = turn.fits;
          begun = rw (sum_more, turn.begun) refl;
          placed = record {
            four = simp length-set turn.placed.four;
            inside = below_more _ i (λ j l. rw (other j (omega arith)) (turn.placed.inside j l)) (rw (stored_here, ← exact) on.inside);
            unused = λ j l few. other j (omega arith) ∙ turn.placed.unused j (omega arith) few;
            sixteen = stored.same_length ∙ turn.placed.sixteen;
          };
          found = found_here;
        }

    pub turn_last : i ≡ axes → FoundAmong way axes points_in modes_in x coordinates lower weights r
    turn_last all_axes =
        record {
          placed = subst (λ (k : ℕ). CellsPlaced points_in k lower weights) all_axes turn.placed;
          on = λ all are. subst (λ (k : ℕ). FoundOn way (grid axes all x) coordinates k lower weights r) all_axes (turn.found all are);
        }

-- ---- the first axis there is: the turn of it alone

module _ (way : Way) (axes : ℕ) (points_in modes_in : List ℕ) (x coordinates : List Float) (lower : List ℕ) (weights : List Float)
    (given : SearchFits axes points_in modes_in x coordinates × Unfound lower weights) (some : 0 < axes) where
  first : Turn way axes points_in modes_in x coordinates lower weights (record { coordinates = false; knots = false; outside = false }) 0 0
  first = turn_first way axes points_in modes_in x coordinates lower weights given

  pub four_cells : length lower ≡ 4
  four_cells = first.placed.four

  -- its knots are the first of them
  abbrev front : List Float
  front = take (place_of points_in 0 - 0) (drop 0 x)

  is_part : front ≡ part way axes points_in modes_in x coordinates lower weights _ 0 0 first
  is_part = rw (zero-add (place_of points_in 0)) refl

  pub front_within : place_of points_in 0 ≤ length x
  front_within =
      rw (zero-add (place_of points_in 0)) at
      (end_within way axes points_in modes_in x coordinates lower weights _ 0 0 first some)

  pub front_size : (2 ≤ length front) × (length front ≤ 256)
  front_size = rw is_part (size_given way axes points_in modes_in x coordinates lower weights _ 0 0 first some)

  module _ (placed : PlacedPoint) (stands : Placed (mode_of_number (place_of modes_in 0)) front (at coordinates 0) placed) (cell : ℕ)
      (on : CellOn way front (at coordinates 0) placed.coordinate cell)
      (later : List Float) (stored : WeightsStored weights 0 front cell placed.coordinate later)
      (number knots_refused : Bool) (is_number : number ≡ finite (at coordinates 0))
      (judged : knots_refused ≡ knots_refused_by way front cell) where
    pub first_found :
        Turn way axes points_in modes_in x coordinates (set lower 0 cell) later
        (record { coordinates = not number; knots = knots_refused; outside = placed.refused }) (place_of points_in 0) 1
    first_found =
        rw (zero-add (place_of points_in 0)) at
        (turn_next way axes points_in modes_in x coordinates lower weights _ 0 0 first some placed (rw is_part at stands) cell
        (rw is_part at on) later (rw is_part at stored) number knots_refused is_number (rw is_part at judged))

-- ---- the second of two: its knots are the others

module _ (points_in modes_in : List ℕ) (x coordinates : List Float) (fits : SearchFits 2 points_in modes_in x coordinates) where
  begun_there : place_of points_in 0 ≡ sum_below (place_of points_in) 1
  unfolding sum_below
  begun_there = sym (zero-add (place_of points_in 0))

  pub back_within : place_of points_in 0 + place_of points_in 1 ≤ length x
  back_within = omega (arith, begun_there, fits.knots_exact, sum_within (place_of points_in) 1 2 (omega arith))

  abbrev back : List Float
  back = take (place_of points_in 0 + place_of points_in 1 - place_of points_in 0) (drop (place_of points_in 0) x)

  back_exact : length back ≡ place_of points_in 1
  back_exact =
      rw add-sub_cancel_left
      (length-take-le (place_of points_in 1) (drop (place_of points_in 0) x) (rw length-drop (omega (arith, back_within))))

  pub back_size : (2 ≤ length back) × (length back ≤ 256)
  back_size = (
    omega (arith, back_exact, fits.in_range.some_points 1 (omega arith)),
    omega (arith, back_exact, fits.in_range.few_points 1 (omega arith)),
  )
