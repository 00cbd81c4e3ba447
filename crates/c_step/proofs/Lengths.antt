-- Where slots and directions are not refused they have their lengths, and where no length is the surface can be stepped on.
use mathlib.Core.Path.{◌≡◌, refl, sym, ◌∙◌}
use mathlib.Core.Bool.{false, ◌||◌}
use mathlib.Core.List.{List}
use Prim.Native.Nat.{ℕ, ◌*◌, ◌^◌, ◌≤◌}
use lib.Dec.{ltb}
use lib.ListN.{length}
use lib.Ieee.{Float}
use Rattle.rules.specs.Numbers.{any}
use Rattle.rules.specs.Sizes.{most_axes, most_in_a_tensor, knots_length, samples_length, product_below, place_of}
use Rattle.rules.specs.Refusals.{points_refused, length_refused}
use Rattle.base_numbers.proofs.Scan.{neither}
use Rattle.grid_checks.proofs.Rows.{NoneApplies, none_applies, axes_few, exact, exact_2}
use Rattle.step_checks.specs.StepChecks.{stepped_lengths_refused, stepped_sizes_check}
use Rattle.step_surface.specs.OnPoints.{SurfaceFits}
use Rattle.c_refusals.specs.OwnRefusals.{sizes_given, axes_rows, query_slots_refused}
use Rattle.c_refusals.proofs.Rows.{refused_given, sum_given, product_given}
use Rattle.c_step.specs.StepExports.{location_slots_refused, stepped_slots_refused, stepped_own_rows, stepped_own_refusal}

pub location_lengths : (location : List ℕ) (fraction : List Float) → location_slots_refused location fraction ≡ false
    → (length location ≡ 2) × (length fraction ≡ 1)
location_lengths location fraction none = exact_2 (length location) 2 (length fraction) 1 none

pub directions_four : (numbers : List ℕ) (value : List Float) (indices : List ℕ) → stepped_slots_refused numbers value indices ≡ false
    → length numbers ≡ 4
directions_four numbers value indices none =
    exact (length numbers) 4 (neither (length_refused (length numbers) 4) (query_slots_refused value indices) none).0

-- ---- the stepped surface

-- what sizes and lengths leave where the host refuses none of them
pub sizes_none :
    (axes : ℕ) (points : List ℕ) (knots samples coordinates : ℕ) → NoneApplies (axes_rows axes points)
    → (
    length_refused knots (knots_length (sizes_given axes points)) || length_refused samples (samples_length (sizes_given axes points))
    || length_refused coordinates axes
    )
    ≡ false
    → stepped_sizes_check axes (place_of points) knots samples coordinates ≡ 0
unfolding stepped_sizes_check
sizes_none axes points knots samples coordinates rows lengths =
    let few = (axes_few {axes = axes} rows.0).1 in
    let sum = sum_given axes points few in
    let product = product_given axes points few in
    let two : any (λ i. points_refused (place_of points i)) axes ≡ false = sym (refused_given axes points few) ∙ rows.1.1.0 in
    let three : ltb most_in_a_tensor (product_below (place_of points) axes * 2 ^ axes) ≡ false = rw product at rows.1.1.1.0 in
    let four : stepped_lengths_refused axes (place_of points) knots samples coordinates ≡ false = rw (sum, product) at lengths in
    rw (rows.0, two, three, four) refl

module _ (axes : ℕ) (points numbers : List ℕ) (knots samples coordinates value : List Float) (indices : List ℕ) {r : ℕ}
    (e : r ≡ stepped_own_refusal axes points numbers knots samples coordinates value indices) (none : r ≡ 0) where
  rows : NoneApplies (stepped_own_rows axes points numbers knots samples coordinates value indices)
  unfolding stepped_own_refusal
  rows = none_applies (stepped_own_rows axes points numbers knots samples coordinates value indices) tt (sym e ∙ none)

  pub few : axes ≤ most_axes
  few = (axes_few {axes = axes} rows.0).1

  both : (stepped_slots_refused numbers value indices ≡ false)
      × ((
      length_refused (length knots) (knots_length (sizes_given axes points))
      || length_refused (length samples) (samples_length (sizes_given axes points))
      || length_refused (length coordinates) axes
      )
      ≡ false)
  both = neither (stepped_slots_refused numbers value indices) _ rows.1.1.1.1.0

  pub four_directions : length numbers ≡ 4
  four_directions = directions_four numbers value indices both.0

  pub surface_fits : SurfaceFits axes points knots samples coordinates
  surface_fits = record {
    four_points = exact (length points) 4 rows.1.0;
    none_refused =
        sizes_none axes points (length knots) (length samples) (length coordinates)
        (rows.0, (rows.1.0, (rows.1.1.0, (rows.1.1.1.0, tt)))) both.1;
  }
