-- What the host's own refusals leave, and when they refuse nothing: the same axes with slices of the right lengths are accepted again.
use mathlib.Core.Path.{◌≡◌, refl, sym, ap, fun_ext, ◌∙◌}
use mathlib.Core.Bool.{Bool, true, false, cond}
use mathlib.Core.List.{List, [], ◌∷◌, ◌++◌}
use Prim.Native.Nat.{ℕ, zero, suc, ◌*◌, ◌^◌}
use lib.Dec.{ltb}
use lib.ListN.{length, drop, get_or}
use lib.Ieee.{Float}
use Rattle.rules.specs.Numbers.{any}
use Rattle.rules.specs.Ends.{not_a_knot}
use Rattle.rules.specs.Sizes.{Grid, points, sum_below, product_below, knots_length, samples_length, tensor_length, unused_axis}
use Rattle.rules.specs.Refusals.{points_refused, length_refused}
use Rattle.rules.specs.declared.Condition.{Condition}
use Rattle.rules.specs.declared.Mode.TheVariants.{Extend}
use Rattle.grid_checks.specs.Tables.{Refusal, lowest}
use Rattle.grid_checks.proofs.Rows.{NoneApplies, none_applies, length_fits}
use Rattle.tensor.proofs.Demand3.{Sound}
use Rattle.c_axes.specs.Axes.{condition_given, axis_given, axes_given, axis_without_ends, axes_without_ends, some_kinds_refused, grid_given}
use Rattle.c_refusals.specs.OwnRefusals.{
  sizes_given,
  axes_rows,
  eight_ends_refused,
  build_own_rows,
  build_own_refusal,
  change_own_rows,
  change_own_refusal,
}
use Rattle.c_refusals.proofs.Lengths.{build_lengths}
use Rattle.rules.proofs.Cases.{neither_of}

-- no row applies, so the table gives no number
pub none_given : (rows : List Refusal) → NoneApplies rows → lowest rows 0 ≡ 0
none_given [] none = refl
none_given (refusal ∷ rows) none = rw none.0 (none_given rows none.1)

-- ---- ends play no part in the sizes of a grid

-- an entry in use has its points, whatever its ends are
any_ends : (in_use : Bool) (n : ℕ) (ends others : Condition)
    → (cond in_use (record { points = n; condition = ends; mode = Extend }) unused_axis).points
    ≡ (cond in_use (record { points = n; condition = others; mode = Extend }) unused_axis).points
any_ends true n ends others = refl
any_ends false n ends others = refl

module _ (axes : ℕ) (points_in kinds : List ℕ) (values knots : List Float) where
  abbrev g : Grid
  g = grid_given axes points_in kinds values knots

  pub same_points : (i : ℕ) → points g i ≡ points (sizes_given axes points_in) i
  unfolding axes_given axis_given axes_without_ends axis_without_ends
  same_points zero = any_ends (ltb 0 axes) (get_or points_in 0 0) (condition_given kinds values 0) not_a_knot
  same_points (suc zero) = any_ends (ltb 1 axes) (get_or points_in 1 0) (condition_given kinds values 1) not_a_knot
  same_points (suc (suc zero)) = any_ends (ltb 2 axes) (get_or points_in 2 0) (condition_given kinds values 2) not_a_knot
  same_points (suc (suc (suc zero))) = any_ends (ltb 3 axes) (get_or points_in 3 0) (condition_given kinds values 3) not_a_knot
  same_points (suc (suc (suc (suc i)))) = refl

  -- what the rows look at is the same on the grid with its ends
  same_sizes : {A : Type 0} (f : (ℕ → ℕ) → A) → f (points (sizes_given axes points_in)) ≡ f (points g)
  same_sizes f = ap f (sym (fun_ext same_points))

-- ---- the axes that the host itself accepts

pub record Fine (axes : ℕ) (points_in kinds : List ℕ) (values : List Float) : Type 0 where
  pub points_four : length points_in ≡ 4
  pub kinds_eight : length kinds ≡ 8
  pub values_eight : length values ≡ 8
  pub kinds_stand : some_kinds_refused axes kinds ≡ false

module _ (axes : ℕ) (points_in kinds : List ℕ) (values knots : List Float) where
  pub build_fine : (samples out : List Float) → build_own_refusal axes points_in kinds values knots samples out ≡ 0
      → Fine axes points_in kinds values
  unfolding build_own_refusal
  build_fine samples out none =
      let lengths = build_lengths axes points_in kinds values knots samples out none in
      let rows = none_applies (build_own_rows axes points_in kinds values knots samples out) tt none in
      record {
        points_four = lengths.0;
        kinds_eight = lengths.1;
        values_eight = lengths.2;
        kinds_stand = rows.1.1.1.1.1.0;
      }

  abbrev h : Grid
  h = grid_given axes points_in kinds values knots

  -- they are accepted again with slices of the lengths of their grid
  module _ (fine : Fine axes points_in kinds values) (samples : List Float) (sound : Sound h samples) where
    ends_fit : eight_ends_refused kinds values ≡ false
    ends_fit = neither_of (length_fits (length kinds) 8 fine.kinds_eight) (length_fits (length values) 8 fine.values_eight)

    sizes_fine : (later : List Refusal) → NoneApplies later → NoneApplies (axes_rows axes points_in ++ later)
    sizes_fine later none = (
      sound.axes_fine,
      (
        length_fits (length points_in) 4 fine.points_four,
        (
          same_sizes axes points_in kinds values knots (λ n. any (λ i. points_refused (n i)) axes) ∙ sound.points_fine,
          (same_sizes axes points_in kinds values knots (λ n. ltb 4096 (product_below n axes * 2 ^ axes)) ∙ sound.tensor_fine, none),
        ),
      ),
    )

    knots_fit : length_refused (length knots) (knots_length (sizes_given axes points_in)) ≡ false
    knots_fit = length_fits _ _ (sound.knots_exact ∙ sym (same_sizes axes points_in kinds values knots (λ n. sum_below n axes)))

    tensor_fits : (t : List Float) → length t ≡ tensor_length h
        → length_refused (length t) (tensor_length (sizes_given axes points_in)) ≡ false
    tensor_fits t e = length_fits _ _ (e ∙ sym (same_sizes axes points_in kinds values knots (λ n. product_below n axes * 2 ^ axes)))

    pub build_accepted :
        (others out : List Float) → length others ≡ samples_length h → length out ≡ tensor_length h
        → build_own_refusal axes points_in kinds values knots others out ≡ 0
    unfolding build_own_refusal
    build_accepted others out e long =
        none_given (build_own_rows axes points_in kinds values knots others out)
        (sizes_fine (drop 4 (build_own_rows axes points_in kinds values knots others out)) (
          neither_of ends_fit
              (neither_of
              (neither_of knots_fit (length_fits _ _ (e ∙ sym (same_sizes axes points_in kinds values knots (λ n. product_below n axes)))))
              (tensor_fits out long)),
          (fine.kinds_stand, tt),
        ))

    pub change_accepted :
        (t : List Float) (place lanes : List ℕ) → length t ≡ tensor_length h → length place ≡ 4 → length lanes ≡ 1
        → change_own_refusal axes points_in kinds values knots t place lanes ≡ 0
    unfolding change_own_refusal
    change_accepted t place lanes long four one =
        none_given (change_own_rows axes points_in kinds values knots t place lanes)
        (sizes_fine (drop 4 (change_own_rows axes points_in kinds values knots t place lanes)) (
          neither_of
              (neither_of ends_fit (neither_of (length_fits (length place) 4 four) (length_fits (length lanes) 1 one)))
              (neither_of knots_fit (tensor_fits t long)),
          (fine.kinds_stand, tt),
        ))
