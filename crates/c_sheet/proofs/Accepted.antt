-- When the host itself refuses nothing of a read or a write, and what is known of a write then.
-- Nothing is refused of slices of their lengths, and for a write kinds and modes that stand and parts that pass the build's checks.
use mathlib.Core.Path.{◌≡◌, ap, sym, fun_ext, ◌∙◌}
use mathlib.Core.Bool.{Bool, false, cond, ◌||◌}
use mathlib.Core.List.{List}
use Prim.Native.Nat.{ℕ, ◌*◌, ◌^◌, ◌≤◌}
use lib.Dec.{ltb}
use lib.ListN.{length}
use Rattle.rules.specs.Numbers.{any}
use Rattle.rules.specs.Sizes.{Grid, points, sum_below, product_below, knots_length, samples_length}
use Rattle.rules.specs.Refusals.{axes_refused, points_refused, some_points_refused, tensor_refused, length_refused}
use Rattle.rules.specs.declared.Axis.{Axis}
use Rattle.base_numbers.proofs.Scan.{neither}
use Rattle.grid_checks.specs.Tables.{Refusal}
use Rattle.grid_checks.proofs.Rows.{none_applies, axes_few, exact_2, length_fits}
use Rattle.sheet_write.specs.Write.{no_sheet_refusal}
use Rattle.c_axes.specs.Axes.{axis_given, axes_given, some_kinds_refused, some_modes_refused}
use Rattle.c_axes.proofs.InModes.{modes_put_in}
use Rattle.c_refusals.specs.OwnRefusals.{
  sizes_given,
  eight_ends_refused,
  modes_or_slot_refused,
  write_own_rows,
  write_own_refusal,
  read_own_refusal,
}
use Rattle.c_refusals.proofs.Lengths.{mode_slot_lengths}
use Rattle.c_tensor.proofs.Accepted.{none_given, same_points}
use Rattle.rules.proofs.Cases.{neither_of, passed}
use Rattle.c_sheet.specs.RoundTrip.{Slices, Lengths, Parts, grid_of, parts_refusal}

-- ---- the read

abbrev pub read_own : Slices → ℕ
read_own lent = read_own_refusal lent.axes lent.points lent.kinds lent.values lent.modes lent.edition

pub read_accepted : (lent : Slices) → Lengths lent → read_own lent ≡ 0
unfolding read_own_refusal
read_accepted lent long =
    ap (λ (refused : Bool). cond refused 4 0)
    (neither_of
    (neither_of
    (neither_of (length_fits (length lent.axes) 1 long.one_axes) (length_fits (length lent.points) 4 long.four_points))
    (neither_of (length_fits (length lent.kinds) 8 long.eight_kinds) (length_fits (length lent.values) 8 long.eight_values)))
    (neither_of (length_fits (length lent.modes) 4 long.four_modes) (length_fits (length lent.edition) 1 long.one_edition)))

-- ---- the write

-- 4 for its knots and samples
abbrev lengths_refused : Parts → Grid → Bool
lengths_refused parts g =
    length_refused (length parts.knots) (knots_length g) || length_refused (length parts.samples) (samples_length g)

abbrev pub write_rows : Parts → List ℕ → List Refusal
write_rows parts slot =
    write_own_rows parts.axes parts.points parts.kinds parts.values parts.modes parts.knots parts.samples slot

abbrev pub write_own : Parts → List ℕ → ℕ
write_own parts slot =
    write_own_refusal parts.axes parts.points parts.kinds parts.values parts.modes parts.knots parts.samples slot

-- ends and modes play no part in the sizes of the grid
module _ (parts : Parts) where
  abbrev given : ℕ → Axis
  given = axis_given parts.axes parts.points parts.kinds parts.values

  points_same : (i : ℕ) → points (sizes_given parts.axes parts.points) i ≡ points (grid_of parts) i
  unfolding axes_given
  points_same i =
      sym (same_points parts.axes parts.points parts.kinds parts.values parts.knots i)
      ∙ (modes_put_in given parts.axes parts.modes parts.knots).same_points i

  pub same_sizes : {A : Type 0} (f : (ℕ → ℕ) → A) → f (points (sizes_given parts.axes parts.points)) ≡ f (points (grid_of parts))
  same_sizes f = ap f (fun_ext points_same)

-- parts whose slices have their lengths, with kinds that are ends and numbers that are modes
pub record Standing (parts : Parts) : Type 0 where
  pub four_points : length parts.points ≡ 4
  pub eight_kinds : length parts.kinds ≡ 8
  pub eight_values : length parts.values ≡ 8
  pub four_modes : length parts.modes ≡ 4
  pub kinds_stand : some_kinds_refused parts.axes parts.kinds ≡ false
  pub modes_stand : some_modes_refused parts.axes parts.modes ≡ false

pub write_accepted : (parts : Parts) (slot : List ℕ) → Standing parts → length slot ≡ 1 → parts_refusal parts ≡ 0 → write_own parts slot ≡ 0
unfolding write_own_refusal no_sheet_refusal
write_accepted parts slot fine one none =
    let g = grid_of parts in
    let axes_pass = passed (axes_refused g) 0 _ none in
    let points_pass = passed (some_points_refused g) 1 _ axes_pass.1 in
    let tensor_passes = passed (tensor_refused g) 2 _ points_pass.1 in
    let slices = passed (lengths_refused parts g) 3 _ tensor_passes.1 in
    let long = exact_2 (length parts.knots) (knots_length g) (length parts.samples) (samples_length g) slices.0 in
    none_given (write_rows parts slot) (
      axes_pass.0,
      (
        length_fits (length parts.points) 4 fine.four_points,
        (
          same_sizes parts (λ n. any (λ i. points_refused (n i)) parts.axes) ∙ points_pass.0,
          (
            same_sizes parts (λ n. ltb 4096 (product_below n parts.axes * 2 ^ parts.axes)) ∙ tensor_passes.0,
            (
              neither_of
                  (neither_of
                  (neither_of (length_fits (length parts.kinds) 8 fine.eight_kinds)
                  (length_fits (length parts.values) 8 fine.eight_values))
                  (neither_of (length_fits (length parts.modes) 4 fine.four_modes) (length_fits (length slot) 1 one)))
                  (neither_of
                  (length_fits (length parts.knots) _ (long.0 ∙ sym (same_sizes parts (λ n. sum_below n parts.axes))))
                  (length_fits (length parts.samples) _ (long.1 ∙ sym (same_sizes parts (λ n. product_below n parts.axes))))),
              (fine.kinds_stand, (fine.modes_stand, tt)),
            ),
          ),
        ),
      ),
    )

-- what is known of parts of which it refuses nothing
pub record Passed (parts : Parts) (slot : List ℕ) : Type 0 where
  pub few_axes : parts.axes ≤ 4
  pub one_slot : length slot ≡ 1
  pub kinds_stand : some_kinds_refused parts.axes parts.kinds ≡ false
  pub modes_stand : some_modes_refused parts.axes parts.modes ≡ false

pub write_passed : (parts : Parts) (slot : List ℕ) → write_own parts slot ≡ 0 → Passed parts slot
unfolding write_own_refusal
write_passed parts slot none =
    let rows = none_applies (write_rows parts slot) tt none in
    let ends = eight_ends_refused parts.kinds parts.values in
    let told = modes_or_slot_refused parts.modes slot in
    let lengths = lengths_refused parts (sizes_given parts.axes parts.points) in
    let slots = (neither ends told (neither (ends || told) lengths rows.1.1.1.1.0).0).1 in
    record {
      few_axes = (axes_few {axes = parts.axes} rows.0).1;
      one_slot = (mode_slot_lengths parts.modes slot slots).1;
      kinds_stand = rows.1.1.1.1.1.0;
      modes_stand = rows.1.1.1.1.1.1.0;
    }
