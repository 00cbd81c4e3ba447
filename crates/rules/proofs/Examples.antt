-- The worked examples, and examples that an error which looks right would not pass: the rows of one theorem about the definitions. Every
-- float is a bit pattern.
use mathlib.Core.Path.{◌≡◌, refl}
use mathlib.Core.List.{List, [], ◌∷◌}
use Prim.Native.Nat.{ℕ, ◌*◌}
use lib.ListN.{length}
use lib.Ieee as Ieee
use lib.Ieee.{Float, binary64}
use Rattle.rules.specs.Numbers.{at, zeros, any}
use Rattle.rules.specs.Ends.{not_a_knot, natural, clamped, periodic}
use Rattle.rules.specs.Sizes.{Grid, points, sum_below, product_below, unused_axis, place_of}
use Rattle.rules.specs.Locate.{locate}
use Rattle.rules.specs.Search.{lower_index, visited}
use Rattle.rules.specs.Moments.{moments}
use Rattle.rules.specs.Curve.{curve, knot_slopes}
use Rattle.rules.specs.Tensor.{tensor}
use Rattle.rules.specs.Change.{changed_tensor, build_lanes, change_lanes, lane_sum}
use Rattle.rules.specs.Outside.{side, placed}
use Rattle.rules.specs.Query.{query}
use Rattle.rules.specs.Step.{locate_axis, step_index, lower_step, upper_step}
use Rattle.rules.specs.Refusals.{step_refused, found_cell_refused}
use Rattle.rules.specs.Calls.{moments_refusal, labels, query_refusal, quick_query_refusal}
use Rattle.rules.specs.declared.Condition.{Condition}
use Rattle.rules.specs.declared.Condition.TheVariants.{Endpoints}
use Rattle.rules.specs.declared.End.TheVariants.{NotAKnot, FirstDerivative, SecondDerivative}
use Rattle.rules.specs.declared.Mode.TheVariants.{Extend, Hold, Refuse}
use Rattle.rules.specs.declared.Side.TheVariants.{Below, Inside, Above}
use Rattle.rules.specs.declared.StepDirection.TheVariants.{Lower, Upper}
use Rattle.rules.specs.declared.AxisLocation.TheVariants.{Exact, Between}

-- the float of a bit pattern
abbrev pattern : ℕ → Float
pattern bits = Ieee.of_bits binary64 bits

-- the numbers of the examples that stand more than once
abbrev 0' : Float
0' = pattern 0x0000_0000_0000_0000

abbrev ½ : Float
½ = pattern 0x3FE0_0000_0000_0000

abbrev 1' : Float
1' = pattern 0x3FF0_0000_0000_0000

abbrev 2' : Float
2' = pattern 0x4000_0000_0000_0000

abbrev 3' : Float
3' = pattern 0x4008_0000_0000_0000

abbrev 5' : Float
5' = pattern 0x4014_0000_0000_0000

abbrev 7' : Float
7' = pattern 0x401C_0000_0000_0000

abbrev -1' : Float
-1' = pattern 0xBFF0_0000_0000_0000

-- knots 0 1, 0 1 2 and 0 1 2 3
abbrev knots_2 : List Float
knots_2 = 0' ∷ 1' ∷ []

abbrev knots_3 : List Float
knots_3 = 0' ∷ 1' ∷ 2' ∷ []

abbrev knots_4 : List Float
knots_4 = 0' ∷ 1' ∷ 2' ∷ 3' ∷ []

-- the curve through samples at a point, its moments under a condition; n is points minus 1
abbrev spline : List Float → ℕ → Condition → List Float → Float → Float
spline x n c y point = curve x n y (moments x n c y) point

-- its knot slopes
abbrev slopes : List Float → ℕ → Condition → List Float → List Float
slopes x n c y = knot_slopes x n y (moments x n c y)

-- two axes, each of the knots 0 1 and under one condition
abbrev square : Condition → Grid
square c = record {
  axes = 2;
  entries =
      record { points = 2; condition = c; mode = Extend } ∷ record { points = 2; condition = c; mode = Extend } ∷ unused_axis ∷ unused_axis
      ∷ [];
  flat_knots = 0' ∷ 1' ∷ 0' ∷ 1' ∷ [];
}

-- the labels of a point on one axis of the knots 0 1 2
abbrev labels_at : Float → List ℕ
labels_at point =
    labels
    (record {
      axes = 1;
      entries = record { points = 3; condition = natural; mode = Extend } ∷ unused_axis ∷ unused_axis ∷ unused_axis ∷ [];
      flat_knots = knots_3;
    })
    (point ∷ [])

-- the samples of the square, 0 0 0 1
abbrev corner_up : List Float
corner_up = 0' ∷ 0' ∷ 0' ∷ 1' ∷ []

-- the natural tensor of these, and of the samples 0 2 0 1
abbrev tensor_before : List Float
tensor_before = 0' ∷ 0' ∷ 0' ∷ 1' ∷ 0' ∷ 1' ∷ 0' ∷ 1' ∷ 0' ∷ 0' ∷ 1' ∷ 1' ∷ 1' ∷ 1' ∷ 1' ∷ 1' ∷ []

abbrev tensor_after : List Float
tensor_after = 0' ∷ 0' ∷ 2' ∷ -1' ∷ 2' ∷ -1' ∷ 2' ∷ -1' ∷ 0' ∷ 0' ∷ 1' ∷ -1' ∷ 1' ∷ -1' ∷ 1' ∷ -1' ∷ []

-- the place (0, 1)
abbrev place_01 : ℕ → ℕ
place_01 = place_of (0 ∷ 1 ∷ 0 ∷ 0 ∷ [])

-- knots 0 5 1 2 9, which do not rise
abbrev falling_knots : List Float
falling_knots = 0' ∷ 5' ∷ 1' ∷ 2' ∷ pattern 0x4022_0000_0000_0000 ∷ []

-- the refusal of a quick query among these knots, with all lengths right and all numbers of the tensor 0
abbrev quick_refusal_of : List Float → Float → ℕ
quick_refusal_of x point =
    quick_query_refusal
    (record { axes = 1; entries = record { points = length x; condition = natural; mode = Extend } ∷ []; flat_knots = x })
    (zeros (2 * length x)) (point ∷ [])

-- the refusal of the moments of samples that are all 0, with all lengths right
abbrev refusal_of : ℕ → List Float → Condition → ℕ
refusal_of n x c = moments_refusal n x (zeros n) c (zeros n) (zeros 2048)

-- the refusal of the query in mode refuse at the point 3, on one axis of two knots
abbrev refusal_at_3 : List Float → List Float → ℕ
refusal_at_3 x t =
    query_refusal
    (record {
      axes = 1;
      entries = record { points = 2; condition = natural; mode = Refuse } ∷ unused_axis ∷ unused_axis ∷ unused_axis ∷ [];
      flat_knots = x;
    })
    t (3' ∷ [])

-- the refusal of the query on two axes of the knots 0 1, of which axis 0 extends and axis 1 refuses
abbrev refusal_in_two_modes : List Float → ℕ
refusal_in_two_modes =
    query_refusal (record {
      axes = 2;
      entries =
          record { points = 2; condition = natural; mode = Extend } ∷ record { points = 2; condition = natural; mode = Refuse }
          ∷ unused_axis ∷ unused_axis ∷ [];
      flat_knots = 0' ∷ 1' ∷ 0' ∷ 1' ∷ [];
    })
    (zeros 16)

pub record Examples : Type 0 where
  -- natural, three knots, up by 1 and down again: in the middle the moment is −3; the slopes are 1.5, 0 and −1.5; at 0.5 stands 0.6875
  pub natural_moments : moments knots_3 2 natural (0' ∷ 1' ∷ 0' ∷ []) ≡ 0' ∷ pattern 0xC008_0000_0000_0000 ∷ 0' ∷ []
  pub natural_slopes : slopes knots_3 2 natural (0' ∷ 1' ∷ 0' ∷ []) ≡ pattern 0x3FF8_0000_0000_0000 ∷ 0' ∷ pattern 0xBFF8_0000_0000_0000
      ∷ []
  pub natural_curve : spline knots_3 2 natural (0' ∷ 1' ∷ 0' ∷ []) ½ ≡ pattern 0x3FE6_0000_0000_0000
  -- clamped level at both ends, from 0 up to 1: moments 6 and −6, and halfway 0.5
  pub clamped_moments : moments knots_2 1 (clamped 0' 0') (0' ∷ 1' ∷ []) ≡ pattern 0x4018_0000_0000_0000 ∷ pattern 0xC018_0000_0000_0000
      ∷ []
  pub clamped_curve : spline knots_2 1 (clamped 0' 0') (0' ∷ 1' ∷ []) ½ ≡ ½
  -- four points of a straight line, NotAKnot: it is met between the knots, at 1.5, and beyond them, at 4
  pub not_a_knot_inside : spline knots_4 3 not_a_knot (1' ∷ 3' ∷ 5' ∷ 7' ∷ []) (pattern 0x3FF8_0000_0000_0000)
      ≡ pattern 0x4010_0000_0000_0000
  pub not_a_knot_beyond : spline knots_4 3 not_a_knot (1' ∷ 3' ∷ 5' ∷ 7' ∷ []) (pattern 0x4010_0000_0000_0000)
      ≡ pattern 0x4022_0000_0000_0000
  -- periodic with one interval: moments of zero, and at both knots the slope of the straight line, 5
  pub periodic_moments : moments knots_2 1 periodic (0' ∷ 5' ∷ []) ≡ 0' ∷ 0' ∷ []
  pub periodic_slopes : slopes knots_2 1 periodic (0' ∷ 5' ∷ []) ≡ 5' ∷ 5' ∷ []
  -- a natural square whose one corner is up: its tensor, and a quarter in the middle
  pub built : tensor (square natural) corner_up ≡ tensor_before
  pub queried : query (square natural) tensor_before (at (½ ∷ ½ ∷ [])) ≡ pattern 0x3FD0_0000_0000_0000
  -- away from the middle the two axes differ: samples 0 2 0 1 at (0.25, 0.5) is 0.875
  pub queried_off_the_middle : query (square natural) tensor_after (at (pattern 0x3FD0_0000_0000_0000 ∷ ½ ∷ []))
      ≡ pattern 0x3FEC_0000_0000_0000
  -- the square's sample at (0, 1) becomes 2: the tensor then, which a fresh build has too; 4 lanes of the build's 6
  pub changed : changed_tensor (square natural) place_01 2' tensor_before ≡ tensor_after
  pub changed_as_built : tensor (square natural) (0' ∷ 2' ∷ 0' ∷ 1' ∷ []) ≡ tensor_after
  pub lanes_of_the_change : length (change_lanes (square natural) place_01) ≡ 4
  pub sum_of_the_lanes : lane_sum (points (square natural)) 2 ≡ 4
  pub lanes_of_the_build : length (build_lanes (square natural)) ≡ 6
  -- cells and labels on three knots: on the middle one, on the last, and below the first
  pub cell_at_interior_knot : locate knots_3 2 1' ≡ 0
  pub label_at_interior_knot : labels_at 1' ≡ 0 ∷ 0 ∷ 0 ∷ 0 ∷ []
  pub cell_at_last_knot : locate knots_3 2 2' ≡ 1
  pub label_at_last_knot : labels_at 2' ≡ 1 ∷ 0 ∷ 0 ∷ 0 ∷ []
  pub cell_below : locate knots_3 2 -1' ≡ 0
  pub label_below : labels_at -1' ≡ 0 ∷ 0 ∷ 0 ∷ 0 ∷ []
  -- on knots that do not rise the scan stops at the first knot above 3; the search finds the last cell, and looks at knots 0, 2, 3 and 4
  -- for it
  pub scan_of_falling_knots : locate falling_knots 4 3' ≡ 0
  pub search_of_falling_knots : lower_index falling_knots 3' ≡ 3
  pub looked_at_in_falling_knots : visited falling_knots 3' ≡ 0 ∷ 4 ∷ 3 ∷ 4 ∷ 2 ∷ 3 ∷ []
  -- the sides of three knots: on an end knot a point is inside; and below goes first on knots where both hold
  pub side_below : side knots_3 -1' ≡ Below
  pub side_at_first_knot : side knots_3 0' ≡ Inside
  pub side_at_last_knot : side knots_3 2' ≡ Inside
  pub side_above : side knots_3 3' ≡ Above
  pub side_of_both : side (5' ∷ 1' ∷ []) 3' ≡ Below
  -- what hold takes in place of the points -1 0 2 3
  pub held_below : placed Hold knots_3 -1' ≡ 0'
  pub held_at_first_knot : placed Hold knots_3 0' ≡ 0'
  pub held_at_last_knot : placed Hold knots_3 2' ≡ 2'
  pub held_above : placed Hold knots_3 3' ≡ 2'
  pub extended_above : placed Extend knots_3 3' ≡ 3'
  -- a quick query of those knots is accepted, since the cell that is found rises; a falling cell is refused by 8, and by 7 where the point
  -- is a NaN; a NaN knot is refused with its cell
  pub falling_off_the_path : quick_refusal_of falling_knots 3' ≡ 0
  pub falling_cell : quick_refusal_of (1' ∷ 0' ∷ []) ½ ≡ 8
  pub point_before_the_cell : quick_refusal_of (1' ∷ 0' ∷ []) Ieee.nan ≡ 7
  pub cell_of_a_NaN : quick_refusal_of (0' ∷ 1' ∷ Ieee.nan ∷ []) 2' ≡ 8
  -- 18 comes after 8, so on knots that do not rise, and before 10, so where the value would be infinite
  pub outside_of_falling_knots : refusal_at_3 (1' ∷ 0' ∷ []) (zeros 4) ≡ 8
  pub outside_with_an_infinite_value : refusal_at_3 knots_2 (pattern 0x7FF0_0000_0000_0000 ∷ zeros 3) ≡ 18
  -- each axis has its own mode: outside on axis 0, which extends, and outside on axis 1, which refuses
  pub outside_where_it_extends : refusal_in_two_modes (3' ∷ ½ ∷ []) ≡ 0
  pub outside_where_it_refuses : refusal_in_two_modes (½ ∷ 3' ∷ []) ≡ 18
  -- one point too few for NotAKnot, and just enough: at both ends, at the lower, at the upper
  pub both_ends_3 : refusal_of 3 knots_3 not_a_knot ≡ 9
  pub both_ends_4 : refusal_of 4 knots_4 not_a_knot ≡ 0
  pub lower_end_2 : refusal_of 2 knots_2 (Endpoints NotAKnot (SecondDerivative 0')) ≡ 9
  pub lower_end_3 : refusal_of 3 knots_3 (Endpoints NotAKnot (SecondDerivative 0')) ≡ 0
  pub upper_end_2 : refusal_of 2 knots_2 (Endpoints (FirstDerivative 0') NotAKnot) ≡ 9
  pub upper_end_3 : refusal_of 3 knots_3 (Endpoints (FirstDerivative 0') NotAKnot) ≡ 0
  -- the number of a clamped end does not go into splines through derivatives: with slopes 1 at every end the mixed derivatives are 0
  pub clamped_cross_pass :
      tensor (square (clamped 1' 1')) corner_up
      ≡ 0' ∷ 1' ∷ 1' ∷ 0' ∷ 0' ∷ 1' ∷ 1' ∷ 0' ∷ 0' ∷ 1' ∷ 1' ∷ 0' ∷ 1' ∷ 1' ∷ 1' ∷ 0' ∷ []
  -- two periodic intervals keep the corner: x 0 1 3, y 0 1 0
  pub periodic_corner :
      moments (0' ∷ 1' ∷ 3' ∷ []) 2 periodic (0' ∷ 1' ∷ 0' ∷ [])
      ≡ pattern 0x4007_FFFF_FFFF_FFFE ∷ pattern 0xC007_FFFF_FFFF_FFFF ∷ pattern 0x4007_FFFF_FFFF_FFFE ∷ []
  -- a curve is rounded at its knots too: this periodic one through 2 5 1 is just above 2 at 0
  pub curve_at_a_knot : spline knots_3 2 periodic (2' ∷ 5' ∷ 1' ∷ []) 0' ≡ pattern 0x4000_0000_0000_0001
  -- a division is no product with a reciprocal: natural, x 0 1 3, y 0 0 5
  pub divided_by_six :
      slopes (0' ∷ 1' ∷ 3' ∷ []) 2 natural (0' ∷ 0' ∷ 5' ∷ [])
      ≡ pattern 0xBFDA_AAAA_AAAA_AAAB ∷ pattern 0x3FEA_AAAA_AAAA_AAAA ∷ pattern 0x400A_AAAA_AAAA_AAAB ∷ []
  -- no product is fused with a sum: natural through 0 1 5, at 0.25
  pub rounded_twice : spline knots_3 2 natural (0' ∷ 1' ∷ 5' ∷ []) (pattern 0x3FD0_0000_0000_0000) ≡ pattern 0x3FB3_0000_0000_0000
  -- steps on three knots: between two and on the middle one, in both directions
  pub down_between : step_index Lower knots_3 2 ½ ≡ 0
  pub up_between : step_index Upper knots_3 2 ½ ≡ 1
  pub down_at_interior_knot : step_index Lower knots_3 2 1' ≡ 1
  pub up_at_interior_knot : step_index Upper knots_3 2 1' ≡ 1
  -- at the two ends, and the corners beyond them
  pub down_at_last_knot : step_index Lower knots_3 2 2' ≡ 2
  pub up_at_first_knot : step_index Upper knots_3 2 0' ≡ 0
  pub down_above : step_index Lower knots_3 2 3' ≡ 1
  pub up_below : step_index Upper knots_3 2 -1' ≡ 1
  -- a location on a knot, and below the first one, where the fraction is negative
  pub location_at_interior_knot : locate_axis knots_3 2 1' ≡ Exact 1
  pub location_below : locate_axis knots_3 2 -1' ≡ Between 0 -1'
  -- strictly between its knots a fraction can be 1: knots −1 and 2e−17, point 1e−17
  pub fraction_of_one :
      locate_axis (-1' ∷ pattern 0x3C77_0EF5_4646_D497 ∷ []) 1 (pattern 0x3C67_0EF5_4646_D497) ≡ Between 0 1'

pub examples : Examples
unfolding any sum_below product_below locate lower_index visited side locate_axis lower_step upper_step labels moments curve knot_slopes
    tensor changed_tensor change_lanes lane_sum query step_refused moments_refusal Ieee.add Ieee.sub Ieee.mul Ieee.div Ieee.neg Ieee.lt
    Ieee.le Ieee.eq Ieee.of_bits found_cell_refused quick_query_refusal query_refusal
examples = record {
  natural_moments = refl;
  natural_slopes = refl;
  natural_curve = refl;
  clamped_moments = refl;
  clamped_curve = refl;
  not_a_knot_inside = refl;
  not_a_knot_beyond = refl;
  periodic_moments = refl;
  periodic_slopes = refl;
  built = refl;
  queried = refl;
  queried_off_the_middle = refl;
  changed = refl;
  changed_as_built = refl;
  lanes_of_the_change = refl;
  sum_of_the_lanes = refl;
  lanes_of_the_build = refl;
  cell_at_interior_knot = refl;
  label_at_interior_knot = refl;
  cell_at_last_knot = refl;
  label_at_last_knot = refl;
  cell_below = refl;
  label_below = refl;
  scan_of_falling_knots = refl;
  search_of_falling_knots = refl;
  looked_at_in_falling_knots = refl;
  side_below = refl;
  side_at_first_knot = refl;
  side_at_last_knot = refl;
  side_above = refl;
  side_of_both = refl;
  held_below = refl;
  held_at_first_knot = refl;
  held_at_last_knot = refl;
  held_above = refl;
  extended_above = refl;
  falling_off_the_path = refl;
  falling_cell = refl;
  point_before_the_cell = refl;
  cell_of_a_NaN = refl;
  outside_of_falling_knots = refl;
  outside_with_an_infinite_value = refl;
  outside_where_it_extends = refl;
  outside_where_it_refuses = refl;
  both_ends_3 = refl;
  both_ends_4 = refl;
  lower_end_2 = refl;
  lower_end_3 = refl;
  upper_end_2 = refl;
  upper_end_3 = refl;
  clamped_cross_pass = refl;
  periodic_corner = refl;
  curve_at_a_knot = refl;
  divided_by_six = refl;
  rounded_twice = refl;
  down_between = refl;
  up_between = refl;
  down_at_interior_knot = refl;
  up_at_interior_knot = refl;
  down_at_last_knot = refl;
  up_at_first_knot = refl;
  down_above = refl;
  up_below = refl;
  location_at_interior_knot = refl;
  location_below = refl;
  fraction_of_one = refl;
}
