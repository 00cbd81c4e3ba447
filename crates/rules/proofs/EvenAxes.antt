-- The direct cell is one of the axis, an axis of two points is even, and examples of even axes: where the direct cell and the searched one
-- part, what the tolerance is, and what is refused and placed first.
use mathlib.Core.Path.{◌≡◌, refl}
use mathlib.Core.Bool.{Bool, true, false, cond}
use mathlib.Core.List.{List, [], ◌∷◌}
use Prim.Native.Nat.{ℕ, ◌-◌, min, ◌≤◌}
use native.Mathlib.Omega.{arith}
use lib.Ieee as Ieee
use lib.Ieee.{Float, nan, inf, binary64, lt}
use Rattle.rules.specs.Numbers.{◌⊖◌, ◌⊗◌, ◌⊘◌, plus_zero, at, zeros, any}
use Rattle.rules.specs.Ends.{natural}
use Rattle.rules.specs.Sizes.{Grid, sum_below, product_below, unused_axis}
use Rattle.rules.specs.Steps.{h}
use Rattle.rules.specs.Refusals.{step_refused}
use Rattle.rules.specs.Locate.{locate}
use Rattle.rules.specs.Outside.{side}
use Rattle.rules.specs.Even.{
  absolute,
  epsilon,
  doubled,
  tolerance,
  first_that,
  first_failing,
  uneven_refused,
  some_uneven_refused,
  uneven_axis,
  uneven_interval,
  first_too_large,
  as_index,
  direct_cell,
}
use Rattle.rules.specs.Query.{hermite, fraction, even_cell_of}
use Rattle.rules.specs.Calls.{query_answer}
use Rattle.rules.specs.EvenCalls.{even_query_refusal, even_query_answer}
use Rattle.rules.specs.declared.Mode.{Mode}
use Rattle.rules.specs.declared.Mode.TheVariants.{Extend, Hold, Refuse}

-- whatever the numbers are
pub direct_cell_inside : (first step : Float) (points : ℕ) (p : Float) → direct_cell first step points p ≤ points - 2
unfolding direct_cell
direct_cell_inside first step points p = go (lt ((p ⊖ first) ⊘ step) plus_zero)
  where
    go : (t : Bool) → cond t 0 (min (as_index ((p ⊖ first) ⊘ step)) (points - 2)) ≤ points - 2
    go true = omega arith
    go false = omega arith

pub two_points_even : (x : List Float) → uneven_refused x 2 ≡ false
unfolding first_failing first_that
two_points_even x = refl

-- ---- examples

-- the float of a bit pattern
abbrev pattern : ℕ → Float
pattern bits = Ieee.of_bits binary64 bits

abbrev 0' : Float
0' = pattern 0x0000_0000_0000_0000

abbrev 1' : Float
1' = pattern 0x3FF0_0000_0000_0000

abbrev 2' : Float
2' = pattern 0x4000_0000_0000_0000

abbrev 3' : Float
3' = pattern 0x4008_0000_0000_0000

abbrev 4' : Float
4' = pattern 0x4010_0000_0000_0000

abbrev 5' : Float
5' = pattern 0x4014_0000_0000_0000

abbrev 8' : Float
8' = pattern 0x4020_0000_0000_0000

-- 1e308 and -1e308: their difference overflows
abbrev huge : Float
huge = pattern 0x7FE1_CCF3_85EB_C8A0

abbrev -huge : Float
-huge = pattern 0xFFE1_CCF3_85EB_C8A0

-- 2 to the -1030, which is 2 to the 44 units of the least number above zero
abbrev tiny : Float
tiny = pattern 0x0000_1000_0000_0000

abbrev knots_3 : List Float
knots_3 = 0' ∷ 1' ∷ 2' ∷ []

abbrev knots_huge : List Float
knots_huge = -huge ∷ 0' ∷ huge ∷ []

-- 1e-17 is too small to show beside 1
abbrev knots_close : List Float
knots_close = pattern 0xBFF0_0000_0000_0000 ∷ pattern 0x3C67_0EF5_4646_D497 ∷ 1' ∷ []

-- the direct cell of a point on the knots 0 1 2
abbrev cell_at : Float → ℕ
cell_at p = direct_cell 0' 1' 3 p

-- the first interval that fails of knots 0, tiny, and a last one by its pattern
abbrev tiny_failing : ℕ → ℕ
tiny_failing last = first_failing (0' ∷ tiny ∷ pattern last ∷ []) 3

-- two axes of three points each, both in refuse, on these knots
abbrev two_axes : List Float → Grid
two_axes knots = record {
  axes = 2;
  entries =
      record { points = 3; condition = natural; mode = Refuse } ∷ record { points = 3; condition = natural; mode = Refuse } ∷ unused_axis
      ∷ unused_axis ∷ [];
  flat_knots = knots;
}

abbrev second_axis_uneven : Grid
second_axis_uneven = two_axes (0' ∷ 1' ∷ 2' ∷ 0' ∷ 1' ∷ 3' ∷ [])

abbrev both_axes_even : Grid
both_axes_even = two_axes (0' ∷ 1' ∷ 2' ∷ 0' ∷ 1' ∷ 2' ∷ [])

-- one axis on the knots 0 1 2 in this mode, and the tensor of the line through 0 0, 1 1, 2 2
abbrev one_axis : Mode → Grid
one_axis mode = record {
  axes = 1;
  entries = record { points = 3; condition = natural; mode = mode } ∷ unused_axis ∷ unused_axis ∷ unused_axis ∷ [];
  flat_knots = knots_3;
}

abbrev line : List Float
line = 0' ∷ 1' ∷ 1' ∷ 1' ∷ 2' ∷ 1' ∷ []

pub record EvenExamples : Type 0 where
  -- on knot 1 of 0 1 2 the two cells part; on the last knot, below the first and just below knot 1 they do not
  pub direct_at_interior_knot : cell_at 1' ≡ 1
  pub searched_at_interior_knot : locate knots_3 2 1' ≡ 0
  pub direct_at_last_knot : cell_at 2' ≡ 1
  pub direct_below : cell_at (pattern 0xBFF0_0000_0000_0000) ≡ 0
  pub direct_before_knot : cell_at (pattern 0x3FEF_FFFF_FFFF_FFFF) ≡ 0
  -- on the knots -1 1e-17 1, an even axis, 0 lies in the first cell, and the direct cell is the next
  pub close_is_even : first_failing knots_close 3 ≡ 0
  pub direct_before_close_knot : direct_cell (at knots_close 0) (h knots_close 0) 3 0' ≡ 1
  pub searched_before_close_knot : locate knots_close 2 0' ≡ 0
  -- the last float below 2 to the 64, and 2 to the 64
  pub direct_before_too_large : cell_at (pattern 0x43EF_FFFF_FFFF_FFFF) ≡ 1
  pub direct_too_large : cell_at (pattern 0x43F0_0000_0000_0000) ≡ 0
  pub searched_too_large : locate knots_3 2 (pattern 0x43F0_0000_0000_0000) ≡ 1
  -- a quotient that is a NaN: 0 / 0
  pub direct_of_nan : direct_cell 0' 0' 3 0' ≡ 0
  -- at the last of the knots -1e308 0 1e308, an even axis, the quotient is infinite: the cell is 0, the fraction there infinite, and a
  -- blend of samples 0 with slopes 0 is no number
  pub huge_is_even : first_failing knots_huge 3 ≡ 0
  pub direct_at_huge : direct_cell -huge (h knots_huge 0) 3 huge ≡ 0
  pub searched_at_huge : locate knots_huge 2 huge ≡ 1
  pub fraction_at_huge : fraction knots_huge 0 huge ≡ inf false
  pub blend_at_huge : hermite 0' 0' 0' 0' (h knots_huge 0) (inf false) ≡ nan
  -- the tolerance of step 1 is 2 to the -42, and of step -1 too; that of 2 to the -1030 is 4 units, and would be 0 if the product came
  -- before the doublings
  pub tolerance_of_1 : tolerance 1' ≡ pattern 0x3D50_0000_0000_0000
  pub tolerance_below_0 : tolerance (pattern 0xBFF0_0000_0000_0000) ≡ pattern 0x3D50_0000_0000_0000
  pub tolerance_of_tiny : tolerance tiny ≡ pattern 4
  pub product_first : doubled 10 (tiny ⊗ epsilon) ≡ 0'
  -- at the tolerance, and one unit above it
  pub tiny_at_the_tolerance : tiny_failing 0x0000_2000_0000_0004 ≡ 0
  pub tiny_above_it : tiny_failing 0x0000_2000_0000_0005 ≡ 1
  pub wider_at_the_tolerance : first_failing (0' ∷ 1' ∷ pattern 0x4000_0000_0000_0200 ∷ []) 3 ≡ 0
  pub wider_above_it : first_failing (0' ∷ 1' ∷ pattern 0x4000_0000_0000_0201 ∷ []) 3 ≡ 1
  pub narrower_at_the_tolerance : first_failing (0' ∷ 1' ∷ pattern 0x3FFF_FFFF_FFFF_FC00 ∷ []) 3 ≡ 0
  pub narrower_above_it : first_failing (0' ∷ 1' ∷ pattern 0x3FFF_FFFF_FFFF_FBFF ∷ []) 3 ≡ 1
  -- of the steps 1 1 2 1 3 interval 2 is the first that fails
  pub first_of_two : first_failing (0' ∷ 1' ∷ 2' ∷ 4' ∷ 5' ∷ 8' ∷ []) 6 ≡ 2
  -- the lowest axis that is not even, and its first interval that fails: of none, of the second, and of both
  pub both_even : some_uneven_refused both_axes_even ≡ false
  pub second_uneven : some_uneven_refused second_axis_uneven ≡ true
  pub second_axis : uneven_axis second_axis_uneven ≡ 1
  pub second_interval : uneven_interval second_axis_uneven ≡ 1
  pub lowest_of_both : uneven_axis (two_axes (0' ∷ 1' ∷ 3' ∷ 0' ∷ 1' ∷ 4' ∷ [])) ≡ 0
  -- on interior knot 1 the two queries answer the same value of two cells
  pub even_at_interior_knot : even_query_answer (one_axis Extend) line (1' ∷ [])
      ≡ record { refusal = 0; value = 1'; labels = 1 ∷ 0 ∷ 0 ∷ 0 ∷ []; axis = 0; interval = 0 }
  pub query_at_interior_knot : query_answer (one_axis Extend) line (1' ∷ [])
      ≡ record { refusal = 0; value = 1'; labels = 0 ∷ 0 ∷ 0 ∷ 0 ∷ [] }
  -- 2 to the 64 lies in cell 0 where the axis extends; hold first takes knot 2, which lies in cell 1
  pub extended_too_large : even_cell_of (one_axis Extend) (λ i. first_too_large) 0 ≡ 0
  pub held_too_large : even_cell_of (one_axis Hold) (λ i. first_too_large) 0 ≡ 1
  -- a coordinate outside on axis 0, in refuse, is refused by 18, but where axis 1 is not even by 21
  pub outside_alone : even_query_refusal both_axes_even (zeros 36) (5' ∷ 1' ∷ []) ≡ 18
  pub uneven_before_outside : even_query_answer second_axis_uneven (zeros 36) (5' ∷ 1' ∷ [])
      ≡ record { refusal = 21; value = 0'; labels = 0 ∷ 0 ∷ 0 ∷ 0 ∷ []; axis = 1; interval = 1 }

pub even_examples : EvenExamples
unfolding any sum_below product_below step_refused locate side h absolute doubled tolerance first_failing first_that uneven_axis
    uneven_interval direct_cell hermite fraction even_cell_of query_answer even_query_refusal even_query_answer Ieee.add Ieee.sub Ieee.mul
    Ieee.div Ieee.neg Ieee.lt Ieee.le Ieee.of_bits
even_examples = record {
  direct_at_interior_knot = refl;
  searched_at_interior_knot = refl;
  direct_at_last_knot = refl;
  direct_below = refl;
  direct_before_knot = refl;
  close_is_even = refl;
  direct_before_close_knot = refl;
  searched_before_close_knot = refl;
  direct_before_too_large = refl;
  direct_too_large = refl;
  searched_too_large = refl;
  direct_of_nan = refl;
  huge_is_even = refl;
  direct_at_huge = refl;
  searched_at_huge = refl;
  fraction_at_huge = refl;
  blend_at_huge = refl;
  tolerance_of_1 = refl;
  tolerance_below_0 = refl;
  tolerance_of_tiny = refl;
  product_first = refl;
  tiny_at_the_tolerance = refl;
  tiny_above_it = refl;
  wider_at_the_tolerance = refl;
  wider_above_it = refl;
  narrower_at_the_tolerance = refl;
  narrower_above_it = refl;
  first_of_two = refl;
  both_even = refl;
  second_uneven = refl;
  second_axis = refl;
  second_interval = refl;
  lowest_of_both = refl;
  even_at_interior_knot = refl;
  query_at_interior_knot = refl;
  extended_too_large = refl;
  held_too_large = refl;
  outside_alone = refl;
  uneven_before_outside = refl;
}
