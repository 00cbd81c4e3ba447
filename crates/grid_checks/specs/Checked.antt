-- What a call was given, and what is known of it once its check has found nothing to refuse.
use Rattle.std.specs.Prelude.{◌≡◌, Bool, false, List, ℕ, ◌≤◌, ◌<◌, length, Float}
use Rattle.rules.specs.Sizes.{
  fewest_on_an_axis,
  most_on_an_axis,
  most_in_a_tensor,
  scratch_of_rows,
  Grid,
  points,
  condition,
  knots_length,
  knots,
  samples_length,
  tensor_length,
  scratch_length,
  Place,
}
use Rattle.rules.specs.Refusals.{number_refused, some_number_refused, ends_refused, knots_refused, fewness_refused}
use Rattle.rules.specs.declared.Condition.{Condition}
use Rattle.grid.specs.GridOfCall.{InRange}

-- what the pass over the knots for refusal 8 says of refusal 7: where it finds nothing, they are all finite
abbrev pub FiniteUnless : Bool → List Float → Type 0
FiniteUnless refused x = refused ≡ false → some_number_refused x ≡ false

-- ---- the calls on one axis of n points

-- what each of them knows of its knots and samples
pub record AxisGiven (n : ℕ) (x y : List Float) : Type 0 where
  pub some_points : fewest_on_an_axis ≤ n
  pub few_points : n ≤ most_on_an_axis
  pub knots_exact : length x ≡ n
  pub samples_exact : length y ≡ n
  pub knots_finite : some_number_refused x ≡ false
  pub samples_finite : some_number_refused y ≡ false
  pub knots_rise : knots_refused x n ≡ false

pub record MomentsGiven (n : ℕ) (x y : List Float) (ends : Condition) (moments_given scratch_given : ℕ) : Type 0 where
  pub axis : AxisGiven n x y
  pub moments_exact : moments_given ≡ n
  pub scratch_enough : scratch_of_rows ≤ scratch_given
  pub ends_finite : ends_refused ends ≡ false
  pub enough_points : fewness_refused ends n ≡ false

pub record CurveGiven (n : ℕ) (x y : List Float) (moments_given : ℕ) (point : Float) : Type 0 where
  pub axis : AxisGiven n x y
  pub moments_exact : moments_given ≡ n
  pub point_finite : number_refused point ≡ false

pub record SlopesGiven (n : ℕ) (x y : List Float) (moments_given slopes_given : ℕ) : Type 0 where
  pub axis : AxisGiven n x y
  pub moments_exact : moments_given ≡ n
  pub slopes_exact : slopes_given ≡ n

-- ---- the calls on a grid

-- what each of them knows of its grid and of the tensor's length: the record of an accepted grid. Others say less or more of one, and say
-- how: WorkGiven of the passes, AxesGiven of steps, QueryFits of the answer, Surface at measured points, Sound of the third promise
pub record GridGiven (g : Grid) (tensor_given : ℕ) : Type 0 where
  pub in_range : InRange g.axes (points g)
  pub small : tensor_length g ≤ most_in_a_tensor
  pub knots_exact : length g.flat_knots ≡ knots_length g
  pub tensor_exact : tensor_given ≡ tensor_length g
  pub knots_finite : some_number_refused g.flat_knots ≡ false
  pub knots_rise : (i : ℕ) → i < g.axes → knots_refused (knots g i) (points g i) ≡ false

-- what a call that solves knows besides: of its scratch and of the ends
pub record SolveGiven (g : Grid) (scratch_given : ℕ) : Type 0 where
  pub scratch_enough : scratch_length g ≤ scratch_given
  pub ends_finite : (i : ℕ) → i < g.axes → ends_refused (condition g i) ≡ false
  pub enough_points : (i : ℕ) → i < g.axes → fewness_refused (condition g i) (points g i) ≡ false

pub record BuildGiven (g : Grid) (samples : List Float) (tensor_given scratch_given : ℕ) : Type 0 where
  pub grid_given : GridGiven g tensor_given
  pub solve_given : SolveGiven g scratch_given
  pub samples_exact : length samples ≡ samples_length g
  pub samples_finite : some_number_refused samples ≡ false

pub record ChangeGiven (g : Grid) (tensor : List Float) (scratch_given : ℕ) (changed : Place) (v : Float) : Type 0 where
  pub grid_given : GridGiven g (length tensor)
  pub solve_given : SolveGiven g scratch_given
  pub on_the_grid : (i : ℕ) → i < g.axes → changed i < points g i
  pub sample_finite : number_refused v ≡ false
  pub tensor_finite : some_number_refused tensor ≡ false
