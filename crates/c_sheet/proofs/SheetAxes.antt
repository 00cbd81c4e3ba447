-- What a read leaves in points, kinds, values and modes are the sheet's axes to the calls that take them, and the host itself accepts them.
-- Where a call takes no modes they are so but for their modes.
use mathlib.Core.Path.{◌≡◌, refl}
use mathlib.Core.Bool.{false}
use mathlib.Core.List.{List}
use Prim.Native.Nat.{ℕ, zero, suc, ◌<◌, ◌≤◌}
use native.Mathlib.Omega.{arith}
use lib.ListN.{length, get_or}
use lib.Ieee.{Float}
use Rattle.rules.specs.Sizes.{unused_axis}
use Rattle.rules.specs.Outside.{ButForModes}
use Rattle.rules.specs.declared.End.TheVariants.{NotAKnot, FirstDerivative, SecondDerivative}
use Rattle.rules.specs.declared.Axis.{Axis}
use Rattle.rules.specs.declared.Condition.{Condition}
use Rattle.rules.specs.declared.Condition.TheVariants.{Endpoints, Periodic}
use Rattle.base_numbers.proofs.Scan.{any_never}
use Rattle.grid_codes.specs.Kinds.{periodic_at_one_end, kinds_refused, lower_kind_of, upper_kind_of}
use Rattle.grid_codes.specs.Modes.{unknown_mode}
use Rattle.grid_codes.proofs.Told.{mode_known}
use Rattle.sheet_read.specs.Fields.{axis_at, axis_begin, entries}
use Rattle.c_axes.specs.Axes.{
  lower_kind,
  upper_kind,
  some_kinds_refused,
  some_modes_refused,
  axes_given,
  axes_in_modes,
  points_found,
  kinds_found,
  values_found,
  modes_found,
}
use Rattle.c_axes.proofs.Found.{axes_in_modes_again, axes_again}
use Rattle.c_tensor.proofs.Accepted.{Fine}

pub sheet_axes_again :
    (bytes : List ℕ) (n : ℕ) (x : List Float)
    → ButForModes (record { axes = n; entries = entries bytes n; flat_knots = x })
    (axes_given n (points_found (entries bytes n)) (kinds_found (entries bytes n)) (values_found (entries bytes n)))
unfolding entries
sheet_axes_again bytes n x = axes_again (λ i. axis_at bytes (axis_begin bytes i)) n x

pub sheet_axes_in_modes_again :
    (bytes : List ℕ) (n : ℕ)
    → let found : List Axis = entries bytes n in
    axes_in_modes n (axes_given n (points_found found) (kinds_found found) (values_found found)) (modes_found found) ≡ found
unfolding entries
sheet_axes_in_modes_again bytes n = axes_in_modes_again (λ i. axis_at bytes (axis_begin bytes i)) n

-- the kinds of a condition are never refused
told_stands : (c : Condition) → kinds_refused (lower_kind_of c) (upper_kind_of c) ≡ false
unfolding kinds_refused periodic_at_one_end
told_stands (Endpoints NotAKnot NotAKnot) = refl
told_stands (Endpoints NotAKnot (FirstDerivative upper)) = refl
told_stands (Endpoints NotAKnot (SecondDerivative upper)) = refl
told_stands (Endpoints (FirstDerivative lower) NotAKnot) = refl
told_stands (Endpoints (FirstDerivative lower) (FirstDerivative upper)) = refl
told_stands (Endpoints (FirstDerivative lower) (SecondDerivative upper)) = refl
told_stands (Endpoints (SecondDerivative lower) NotAKnot) = refl
told_stands (Endpoints (SecondDerivative lower) (FirstDerivative upper)) = refl
told_stands (Endpoints (SecondDerivative lower) (SecondDerivative upper)) = refl
told_stands Periodic = refl

pub sheet_axes_fine :
    (bytes : List ℕ) (n : ℕ) → n ≤ 4
    → Fine n (points_found (entries bytes n)) (kinds_found (entries bytes n)) (values_found (entries bytes n))
unfolding entries some_kinds_refused
sheet_axes_fine bytes n few = record {
  points_four = refl;
  kinds_eight = refl;
  values_eight = refl;
  kinds_stand =
      any_never (λ i. kinds_refused (lower_kind (kinds_found (entries bytes n)) i) (upper_kind (kinds_found (entries bytes n)) i)) n each;
}
  where
    each : (i : ℕ) → i < n
        → kinds_refused (lower_kind (kinds_found (entries bytes n)) i) (upper_kind (kinds_found (entries bytes n)) i) ≡ false
    each zero l = told_stands (get_or (entries bytes n) 0 unused_axis).condition
    each (suc zero) l = told_stands (get_or (entries bytes n) 1 unused_axis).condition
    each (suc (suc zero)) l = told_stands (get_or (entries bytes n) 2 unused_axis).condition
    each (suc (suc (suc zero))) l = told_stands (get_or (entries bytes n) 3 unused_axis).condition
    each (suc (suc (suc (suc i)))) l = absurd (omega arith)

-- nor are their modes
pub sheet_modes_fine :
    (bytes : List ℕ) (n : ℕ) → n ≤ 4
    → (length (modes_found (entries bytes n)) ≡ 4) × (some_modes_refused n (modes_found (entries bytes n)) ≡ false)
unfolding entries some_modes_refused
sheet_modes_fine bytes n few = (refl, any_never (λ i. unknown_mode (get_or (modes_found (entries bytes n)) i 0)) n each)
  where
    each : (i : ℕ) → i < n → unknown_mode (get_or (modes_found (entries bytes n)) i 0) ≡ false
    each zero l = mode_known (get_or (entries bytes n) 0 unused_axis).mode
    each (suc zero) l = mode_known (get_or (entries bytes n) 1 unused_axis).mode
    each (suc (suc zero)) l = mode_known (get_or (entries bytes n) 2 unused_axis).mode
    each (suc (suc (suc zero))) l = mode_known (get_or (entries bytes n) 3 unused_axis).mode
    each (suc (suc (suc (suc i)))) l = absurd (omega arith)
