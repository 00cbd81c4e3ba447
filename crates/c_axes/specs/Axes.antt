-- The chapter Axes of docs/RULES.md: how numbers and plain slices make conditions and the four axes, what 13 is of them, and how the axes
-- of a sheet are numbers again. Ends stand in one slice, kinds[2i] and values[2i] at the lower end of axis i, kinds[2i + 1] and values[2i +
-- 1] at the upper.
use Rattle.std.specs.Prelude.{◌≡◌, Bool, cond, List, [], ◌∷◌, ℕ, ◌+◌, ◌*◌, ltb, get_or, set, Float}
use Rattle.rules.specs.Numbers.{at, table, any}
use Rattle.rules.specs.Ends.{not_a_knot}
use Rattle.rules.specs.Sizes.{most_axes, unused_axis, Grid}
use Rattle.rules.specs.Outside.{mode_number}
use Rattle.rules.specs.declared.Axis.{Axis}
use Rattle.rules.specs.declared.Condition.{Condition}
use Rattle.rules.specs.declared.Mode.TheVariants.{Extend}
use Rattle.grid_codes.specs.Modes.{unknown_mode, mode_of_number}
use Rattle.grid_codes.specs.Kinds.{
  end_of_kind,
  condition_of_kind,
  kinds_refused,
  lower_kind_of,
  upper_kind_of,
  lower_value_of,
  upper_value_of,
}

-- how many ends a call on one axis has
abbrev pub two_ends : ℕ
two_ends = 2

-- how many ends a call with axes has
abbrev pub eight_ends : ℕ
eight_ends = 8

-- the kinds of the ends of axis i
abbrev pub lower_kind : List ℕ → ℕ → ℕ
lower_kind kinds i = get_or kinds (2 * i) 0

abbrev pub upper_kind : List ℕ → ℕ → ℕ
upper_kind kinds i = get_or kinds (2 * i + 1) 0

-- the condition of axis i; a value is read only where its kind has one
unfoldable pub condition_given : List ℕ → List Float → ℕ → Condition
unfolding end_of_kind condition_of_kind
condition_given kinds values i =
    condition_of_kind (lower_kind kinds i)
    (end_of_kind (lower_kind kinds i) (at values (2 * i)))
    (end_of_kind (upper_kind kinds i) (at values (2 * i + 1)))

-- 13 of the axes in use
unfoldable pub some_kinds_refused : ℕ → List ℕ → Bool
unfolding kinds_refused
some_kinds_refused axes kinds = any (λ i. kinds_refused (lower_kind kinds i) (upper_kind kinds i)) axes

-- entry i of the four: the axis so given, in extend, and the unused one where it is not in use
unfoldable pub axis_given : ℕ → List ℕ → List ℕ → List Float → ℕ → Axis
unfolding condition_given
axis_given axes points kinds values i =
    cond (ltb i axes) (record { points = get_or points i 0; condition = condition_given kinds values i; mode = Extend }) unused_axis

-- the four axes so given
unfoldable pub axes_given : ℕ → List ℕ → List ℕ → List Float → List Axis
unfolding axis_given
axes_given axes points kinds values = table most_axes (axis_given axes points kinds values)

-- entry i of the four of a call that takes no ends
unfoldable pub axis_without_ends : ℕ → List ℕ → ℕ → Axis
axis_without_ends axes points i = cond (ltb i axes) (record { points = get_or points i 0; condition = not_a_knot; mode = Extend }) unused_axis

-- the four axes of such a call
unfoldable pub axes_without_ends : ℕ → List ℕ → List Axis
unfolding axis_without_ends
axes_without_ends axes points = table most_axes (axis_without_ends axes points)

-- the grid of the axes so given
abbrev pub grid_given : ℕ → List ℕ → List ℕ → List Float → List Float → Grid
grid_given axes points kinds values knots =
    record { axes = axes; entries = axes_given axes points kinds values; flat_knots = knots }

-- the grid of such a call
abbrev pub grid_without_ends : ℕ → List ℕ → List Float → Grid
grid_without_ends axes points knots =
    record { axes = axes; entries = axes_without_ends axes points; flat_knots = knots }

-- 22 of the axes in use
unfoldable pub some_modes_refused : ℕ → List ℕ → Bool
some_modes_refused axes modes = any (λ i. unknown_mode (get_or modes i 0)) axes

-- entry i of four axes with the mode so given, and as it is where the axis is not in use
unfoldable pub axis_in_mode : ℕ → List Axis → List ℕ → ℕ → Axis
unfolding mode_of_number
axis_in_mode axes all modes i =
    let axis : Axis = get_or all i unused_axis in
    cond (ltb i axes) (record { points = axis.points; condition = axis.condition; mode = mode_of_number (get_or modes i 0) }) axis

-- the four axes with the modes so given
unfoldable pub axes_in_modes : ℕ → List Axis → List ℕ → List Axis
unfolding axis_in_mode
axes_in_modes axes all modes = table most_axes (axis_in_mode axes all modes)

-- the grid of a query, which takes modes and no ends
abbrev pub grid_in_modes : ℕ → List ℕ → List ℕ → List Float → Grid
grid_in_modes axes points modes knots =
    record { axes = axes; entries = axes_in_modes axes (axes_without_ends axes points) modes; flat_knots = knots }

-- ---- the other way, from the axes that a sheet has to numbers

-- the points of the axes, of each the kinds and the values of its two ends, lower first, and its mode
abbrev pub points_found : List Axis → List ℕ
points_found [] = []
points_found (axis ∷ rest) = axis.points ∷ points_found rest

abbrev pub kinds_found : List Axis → List ℕ
kinds_found [] = []
kinds_found (axis ∷ rest) = lower_kind_of axis.condition ∷ upper_kind_of axis.condition ∷ kinds_found rest

abbrev pub values_found : List Axis → List Float
values_found [] = []
values_found (axis ∷ rest) = lower_value_of axis.condition ∷ upper_value_of axis.condition ∷ values_found rest

abbrev pub modes_found : List Axis → List ℕ
modes_found [] = []
modes_found (axis ∷ rest) = mode_number axis.mode ∷ modes_found rest

-- slices of points, kinds and values before and after axis i was stored in them
pub record AxisStored (axis : Axis) (i : ℕ) (points kinds : List ℕ) (values : List Float) (points_later kinds_later : List ℕ)
    (values_later : List Float) : Type 0 where
  pub point : points_later ≡ set points i axis.points
  pub both_kinds :
      kinds_later ≡ set (set kinds (2 * i) (lower_kind_of axis.condition)) (2 * i + 1) (upper_kind_of axis.condition)
  pub both_values :
      values_later ≡ set (set values (2 * i) (lower_value_of axis.condition)) (2 * i + 1) (upper_value_of axis.condition)

-- the same slices after all axes were
pub record AxesStored (found : List Axis) (points_later kinds_later : List ℕ) (values_later : List Float) : Type 0 where
  pub points : points_later ≡ points_found found
  pub kinds : kinds_later ≡ kinds_found found
  pub values : values_later ≡ values_found found
