-- The axes of a sheet stored as numbers: four axes one after the other, and what these numbers are to the calls that take them.
use mathlib.Core.Path.{◌≡◌, refl, sym, ap, ◌∙◌}
use mathlib.Core.Bool.{Bool, true, false, cond}
use mathlib.Core.List.{List}
use Prim.Native.Nat.{ℕ, zero, suc}
use lib.Dec.{ltb}
use lib.ListN.{length, get_or, set, length-set}
use lib.Ieee.{Float}
use Rattle.rules.specs.Numbers.{zeros, table}
use Rattle.rules.specs.Sizes.{most_axes, unused_axis, Grid, points, condition}
use Rattle.rules.specs.Outside.{with_axes, ButForModes, mode_number}
use Rattle.rules.specs.declared.Mode.TheVariants.{Extend}
use Rattle.rules.specs.declared.Condition.{Condition}
use Rattle.rules.specs.declared.Axis.{Axis}
use Rattle.grid_codes.specs.Modes.{mode_of_number}
use Rattle.grid_codes.proofs.Told.{told, condition_again, mode_again}
use Rattle.c_axes.specs.Axes.{
  eight_ends,
  condition_given,
  axis_given,
  axes_given,
  axis_in_mode,
  axes_in_modes,
  points_found,
  kinds_found,
  values_found,
  modes_found,
  AxisStored,
  AxesStored,
}
use Rattle.c_axes.proofs.Slots.{four_stored, eight_stored, four_read}

-- slices for four axes
abbrev pub ForFour : List ℕ → List ℕ → List Float → Type 0
ForFour points kinds values = (length points ≡ 4) × (length kinds ≡ 8) × (length values ≡ 8)

module _ (axis : Axis) (i : ℕ) {p k p' k' : List ℕ} {v v' : List Float} where
  -- a store keeps their lengths
  pub still_for_four : AxisStored axis i p k v p' k' v' → ForFour p k v → ForFour p' k' v'
  still_for_four stored long = (
    rw (stored.point, length-set) long.0,
    rw (stored.both_kinds, length-set, length-set) long.1,
    rw (stored.both_values, length-set, length-set) long.2,
  )

module _
    (found : List Axis) (four : length found ≡ 4) {p p₁ p₂ p₃ p₄ k k₁ k₂ k₃ k₄ : List ℕ} {v v₁ v₂ v₃ v₄ : List Float} (long : ForFour p k v)
    (first : AxisStored (get_or found 0 unused_axis) 0 p k v p₁ k₁ v₁)
    (second : AxisStored (get_or found 1 unused_axis) 1 p₁ k₁ v₁ p₂ k₂ v₂)
    (third : AxisStored (get_or found 2 unused_axis) 2 p₂ k₂ v₂ p₃ k₃ v₃)
    (fourth : AxisStored (get_or found 3 unused_axis) 3 p₃ k₃ v₃ p₄ k₄ v₄)
  where
    pub four_axes_stored : AxesStored found p₄ k₄ v₄
    four_axes_stored =
        let read = four_read found unused_axis four in
        record {
          points = rw (fourth.point, third.point, second.point, first.point) (four_stored p _ _ _ _ long.0) ∙ ap points_found read;
          kinds =
              rw (fourth.both_kinds, third.both_kinds, second.both_kinds, first.both_kinds) (eight_stored k _ _ _ _ _ _ _ _ long.1)
              ∙ ap kinds_found read;
          values =
              rw (fourth.both_values, third.both_values, second.both_values, first.both_values)
              (eight_stored v _ _ _ _ _ _ _ _ long.2)
              ∙ ap values_found read;
        }

-- the modes of four axes, stored one after the other
pub four_modes_stored :
    (found : List Axis) → length found ≡ 4 → (m : List ℕ) {m₁ m₂ m₃ m₄ : List ℕ} → length m ≡ 4
    → m₁ ≡ set m 0 (mode_number (get_or found 0 unused_axis).mode)
    → m₂ ≡ set m₁ 1 (mode_number (get_or found 1 unused_axis).mode)
    → m₃ ≡ set m₂ 2 (mode_number (get_or found 2 unused_axis).mode)
    → m₄ ≡ set m₃ 3 (mode_number (get_or found 3 unused_axis).mode)
    → m₄ ≡ modes_found found
four_modes_stored found four m long first second third fourth =
    rw (fourth, third, second, first) (four_stored m _ _ _ _ long) ∙ ap modes_found (four_read found unused_axis four)

-- ---- what the numbers are

-- on a refusal all are 0, since no axis is in use
pub none_found :
    (points_found (table most_axes (λ i. unused_axis)) ≡ table most_axes (λ i. 0))
    × (kinds_found (table most_axes (λ i. unused_axis)) ≡ table eight_ends (λ i. 0))
    × (values_found (table most_axes (λ i. unused_axis)) ≡ zeros eight_ends)
    × (modes_found (table most_axes (λ i. unused_axis)) ≡ table most_axes (λ i. 0))
none_found = (refl, refl, refl, refl)

-- an axis is told by its numbers, but for its mode
points_again :
    (in_use : Bool) (axis : Axis) (c : Condition)
    → (cond in_use axis unused_axis).points
    ≡ (cond in_use (record { points = (cond in_use axis unused_axis).points; condition = c; mode = Extend }) unused_axis).points
points_again true axis c = refl
points_again false axis c = refl

ends_again :
    (in_use : Bool) (axis : Axis) (n : ℕ)
    → (cond in_use axis unused_axis).condition
    ≡ (cond in_use (record { points = n; condition = told (cond in_use axis unused_axis).condition; mode = Extend }) unused_axis).condition
ends_again true axis n = sym (condition_again axis.condition)
ends_again false axis n = refl

-- with the number of its mode it is told whole
mode_too :
    (in_use : Bool) (axis : Axis)
    → let found : Axis = cond in_use axis unused_axis in
    let given : Axis = cond in_use (record { points = found.points; condition = told found.condition; mode = Extend }) unused_axis in
    cond in_use (record { points = given.points; condition = given.condition; mode = mode_of_number (mode_number found.mode) }) given
    ≡ found
mode_too true axis = rw (condition_again axis.condition, mode_again axis.mode)
mode_too false axis = refl

-- the calls that take the numbers take them for the same axes
module _ (axis : ℕ → Axis) (n : ℕ) where
  abbrev found : List Axis
  found = table most_axes (λ i. cond (ltb i n) (axis i) unused_axis)

  abbrev again : List Axis
  again = axes_given n (points_found found) (kinds_found found) (values_found found)

  pub axes_in_modes_again : axes_in_modes n again (modes_found found) ≡ found
  unfolding axes_given axis_given condition_given axes_in_modes axis_in_mode
  axes_in_modes_again =
      cc (mode_too (ltb 0 n) (axis 0), mode_too (ltb 1 n) (axis 1), mode_too (ltb 2 n) (axis 2), mode_too (ltb 3 n) (axis 3))

  -- but for their modes, where no modes are taken
  module _ (x : List Float) where
    abbrev g : Grid
    g = record { axes = n; entries = found; flat_knots = x }

    pub axes_again : ButForModes g again
    unfolding axes_given axis_given condition_given
    axes_again = record { same_points = sizes; same_condition = ends }
      where
        sizes : (i : ℕ) → points g i ≡ points (with_axes g again) i
        sizes zero = points_again (ltb 0 n) (axis 0) _
        sizes (suc zero) = points_again (ltb 1 n) (axis 1) _
        sizes (suc (suc zero)) = points_again (ltb 2 n) (axis 2) _
        sizes (suc (suc (suc zero))) = points_again (ltb 3 n) (axis 3) _
        sizes (suc (suc (suc (suc i)))) = refl

        ends : (i : ℕ) → condition g i ≡ condition (with_axes g again) i
        ends zero = ends_again (ltb 0 n) (axis 0) _
        ends (suc zero) = ends_again (ltb 1 n) (axis 1) _
        ends (suc (suc zero)) = ends_again (ltb 2 n) (axis 2) _
        ends (suc (suc (suc zero))) = ends_again (ltb 3 n) (axis 3) _
        ends (suc (suc (suc (suc i)))) = refl
