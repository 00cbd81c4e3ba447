-- Where the host itself refuses nothing, the slices have their lengths.
use mathlib.Core.Path.{◌≡◌, refl, sym, ◌∙◌}
use mathlib.Core.Bool.{Bool, true, false, cond, ◌||◌}
use mathlib.Core.List.{List}
use Prim.Native.Nat.{ℕ, suc, ◌*◌, ◌^◌, ◌≤◌}
use native.Mathlib.Omega.{arith}
use lib.ListN.{length}
use lib.Ieee.{Float}
use borrow.Author.Tests.{ltb-false}
use Rattle.rules.specs.Sizes.{most_axes, place_of, sum_below, product_below, knots_length, samples_length, tensor_length}
use Rattle.rules.specs.Refusals.{length_refused}
use Rattle.base_numbers.proofs.Scan.{neither}
use Rattle.grid.specs.GridOfCall.{InRange}
use Rattle.grid_checks.proofs.Rows.{NoneApplies, none_applies, axes_few, in_range, exact, exact_2, exact_3}
use Rattle.c_refusals.specs.OwnRefusals.{
  sizes_given,
  two_ends_refused,
  eight_ends_refused,
  place_or_lanes_refused,
  query_slots_refused,
  modes_or_slots_refused,
  modes_or_slot_refused,
  found_slots_refused,
  moments_own_rows,
  moments_own_refusal,
  build_own_rows,
  build_own_refusal,
  change_own_rows,
  change_own_refusal,
  write_own_rows,
  write_own_refusal,
  axes_rows,
  query_later_rows,
  query_own_rows,
  query_own_refusal,
  even_query_own_rows,
  even_query_own_refusal,
  read_edition_1_own_refusal,
  read_own_refusal,
  sheet_tensor_own_refusal,
}
use Rattle.c_refusals.proofs.Rows.{refused_given, sum_given, product_given}

-- one row that does not apply
not_the_first : (applies : Bool) (number : ℕ) → cond applies (suc number) 0 ≡ 0 → applies ≡ false
not_the_first true number e = absurd (omega arith)
not_the_first false number e = refl

pub two_lengths : (kinds : List ℕ) (values : List Float) → two_ends_refused kinds values ≡ false → (length kinds ≡ 2) × (length values ≡ 2)
two_lengths kinds values none = exact_2 (length kinds) 2 (length values) 2 none

pub eight_lengths : (kinds : List ℕ) (values : List Float) → eight_ends_refused kinds values ≡ false
    → (length kinds ≡ 8) × (length values ≡ 8)
eight_lengths kinds values none = exact_2 (length kinds) 8 (length values) 8 none

pub slot_lengths : (value : List Float) (labels : List ℕ) → query_slots_refused value labels ≡ false
    → (length value ≡ 1) × (length labels ≡ 4)
slot_lengths value labels none = exact_2 (length value) 1 (length labels) 4 none

module _ (n : ℕ) (knots samples : List Float) (kinds : List ℕ) (values moments : List Float) where
  pub moments_lengths : moments_own_refusal n knots samples kinds values moments ≡ 0 → (length kinds ≡ 2) × (length values ≡ 2)
  unfolding moments_own_refusal
  moments_lengths none =
      let rows = none_applies (moments_own_rows n knots samples kinds values moments) tt none in
      two_lengths kinds values
      (neither (two_ends_refused kinds values)
      (length_refused (length knots) n || length_refused (length samples) n || length_refused (length moments) n) rows.1.0).0

module _ (axes : ℕ) (points kinds : List ℕ) (values knots samples tensor : List Float) where
  pub build_lengths : build_own_refusal axes points kinds values knots samples tensor ≡ 0
      → (length points ≡ 4) × (length kinds ≡ 8) × (length values ≡ 8)
  unfolding build_own_refusal
  build_lengths none =
      let rows = none_applies (build_own_rows axes points kinds values knots samples tensor) tt none in
      let g = sizes_given axes points in
      let ends =
      eight_lengths kinds values
      (neither (eight_ends_refused kinds values)
      (length_refused (length knots) (knots_length g) || length_refused (length samples) (samples_length g)
      || length_refused (length tensor) (tensor_length g))
      rows.1.1.1.1.0).0 in
      (exact (length points) 4 rows.1.0, ends.0, ends.1)

module _ (axes : ℕ) (points kinds : List ℕ) (values knots tensor : List Float) (place lanes : List ℕ) where
  pub change_lengths :
      change_own_refusal axes points kinds values knots tensor place lanes ≡ 0
      → (length place ≡ 4) × (length points ≡ 4) × (length kinds ≡ 8) × (length values ≡ 8) × (length lanes ≡ 1)
  unfolding change_own_refusal
  change_lengths none =
      let rows = none_applies (change_own_rows axes points kinds values knots tensor place lanes) tt none in
      let g = sizes_given axes points in
      let given =
      (neither (eight_ends_refused kinds values || place_or_lanes_refused place lanes)
      (length_refused (length knots) (knots_length g) || length_refused (length tensor) (tensor_length g)) rows.1.1.1.1.0).0 in
      let two = neither (eight_ends_refused kinds values) (place_or_lanes_refused place lanes) given in
      let ends = eight_lengths kinds values two.0 in
      let slots = exact_2 (length place) 4 (length lanes) 1 two.1 in
      (slots.0, exact (length points) 4 rows.1.0, ends.0, ends.1, slots.1)

pub mode_slot_lengths : (modes slot : List ℕ) → modes_or_slot_refused modes slot ≡ false → (length modes ≡ 4) × (length slot ≡ 1)
mode_slot_lengths modes slot none = exact_2 (length modes) 4 (length slot) 1 none

pub write_lengths :
    (axes : ℕ) (points kinds : List ℕ) (values : List Float) (modes : List ℕ) (knots samples : List Float) (length_lent : List ℕ)
    → write_own_refusal axes points kinds values modes knots samples length_lent ≡ 0
    → ((length points ≡ 4) × (length kinds ≡ 8) × (length values ≡ 8)) × (length modes ≡ 4)
unfolding write_own_refusal
write_lengths axes points kinds values modes knots samples length_lent none =
    let rows = none_applies (write_own_rows axes points kinds values modes knots samples length_lent) tt none in
    let g = sizes_given axes points in
    let given =
    (neither (eight_ends_refused kinds values || modes_or_slot_refused modes length_lent)
    (length_refused (length knots) (knots_length g) || length_refused (length samples) (samples_length g)) rows.1.1.1.1.0).0 in
    let both = neither (eight_ends_refused kinds values) (modes_or_slot_refused modes length_lent) given in
    let ends = eight_lengths kinds values both.0 in
    ((exact (length points) 4 rows.1.0, ends.0, ends.1), (mode_slot_lengths modes length_lent both.1).0)

pub mode_lengths : (modes : List ℕ) (value : List Float) (labels : List ℕ) → modes_or_slots_refused modes value labels ≡ false
    → length modes ≡ 4
mode_lengths modes value labels none =
    exact (length modes) 4 (neither (length_refused (length modes) 4) (query_slots_refused value labels) none).0

-- of a query: where nothing is refused of its own, its slices have their lengths, and its axes are in range
pub record OwnFits (axes : ℕ) (points modes : List ℕ) (knots tensor coordinates value : List Float) (labels : List ℕ) : Type 0 where
  pub four_points : length points ≡ 4
  pub four_modes : length modes ≡ 4
  pub one_value : length value ≡ 1
  pub four_labels : length labels ≡ 4
  pub in_range : InRange axes (place_of points)
  pub small : product_below (place_of points) axes * 2 ^ axes ≤ 4096
  pub knots_exact : length knots ≡ sum_below (place_of points) axes
  pub tensor_exact : length tensor ≡ product_below (place_of points) axes * 2 ^ axes
  pub coordinates_exact : length coordinates ≡ axes

module _ (axes : ℕ) (points modes : List ℕ) (knots tensor coordinates value : List Float) (labels : List ℕ) where
  -- neither the rows of the axes apply nor those after them
  fits : NoneApplies (axes_rows axes points) → NoneApplies (query_later_rows axes points modes knots tensor coordinates value labels)
      → OwnFits axes points modes knots tensor coordinates value labels
  fits first later =
      let g = sizes_given axes points in
      let few = axes_few {axes = axes} first.0 in
      let sums = sum_given axes points few.1 in
      let products = product_given axes points few.1 in
      let both =
      neither (modes_or_slots_refused modes value labels)
      (length_refused (length knots) (knots_length g) || length_refused (length tensor) (tensor_length g)
      || length_refused (length coordinates) axes)
      later.0 in
      let slots = neither (length_refused (length modes) 4) (query_slots_refused value labels) both.0 in
      let answer = slot_lengths value labels slots.1 in
      let slices = exact_3 (length knots) (knots_length g) (length tensor) (tensor_length g) (length coordinates) axes both.1 in
      record {
        four_points = exact (length points) 4 first.1.0;
        four_modes = exact (length modes) 4 slots.0;
        one_value = answer.0;
        four_labels = answer.1;
        in_range = in_range few.0 few.1 (sym (refused_given axes points few.1) ∙ first.1.1.0);
        small = rw products at (ltb-false 4096 (tensor_length g) first.1.1.1.0);
        knots_exact = slices.0 ∙ sums;
        tensor_exact = rw products at slices.1;
        coordinates_exact = slices.2;
      }

  pub query_own_fits : query_own_refusal axes points modes knots tensor coordinates value labels ≡ 0
      → OwnFits axes points modes knots tensor coordinates value labels
  unfolding query_own_refusal
  query_own_fits none =
      let rows = none_applies (query_own_rows axes points modes knots tensor coordinates value labels) tt none in
      fits (rows.0, (rows.1.0, (rows.1.1.0, (rows.1.1.1.0, tt)))) rows.1.1.1.1

  pub even_query_own_fits :
      (uneven : List ℕ) → even_query_own_refusal axes points modes knots tensor coordinates value labels uneven ≡ 0
      → OwnFits axes points modes knots tensor coordinates value labels × (length uneven ≡ 2)
  unfolding even_query_own_refusal
  even_query_own_fits uneven none =
      let rows = none_applies (even_query_own_rows axes points modes knots tensor coordinates value labels uneven) tt none in (
        fits (rows.0, (rows.1.0, (rows.1.1.0, (rows.1.1.1.0, tt)))) rows.1.1.1.1.1,
        exact (length uneven) 2 rows.1.1.1.1.0,
      )

found_lengths :
    (axes points kinds : List ℕ) (values : List Float)
    → found_slots_refused axes points kinds values ≡ false
    → (length axes ≡ 1) × (length points ≡ 4) × (length kinds ≡ 8) × (length values ≡ 8)
found_lengths axes points kinds values none =
    let found =
    neither (length_refused (length axes) 1 || length_refused (length points) most_axes) (eight_ends_refused kinds values) none in
    let sizes = exact_2 (length axes) 1 (length points) 4 found.0 in
    let ends = eight_lengths kinds values found.1 in
    (sizes.0, sizes.1, ends.0, ends.1)

pub read_edition_1_lengths :
    (axes points kinds : List ℕ) (values : List Float)
    → read_edition_1_own_refusal axes points kinds values ≡ 0
    → (length axes ≡ 1) × (length points ≡ 4) × (length kinds ≡ 8) × (length values ≡ 8)
unfolding read_edition_1_own_refusal
read_edition_1_lengths axes points kinds values none = found_lengths axes points kinds values (not_the_first _ 3 none)

-- what is found of axes, their modes, and the slot of the edition
pub record Found (axes points kinds : List ℕ) (values : List Float) (modes edition : List ℕ) : Type 0 where
  pub one_slot : length axes ≡ 1
  pub for_axes : (length points ≡ 4) × (length kinds ≡ 8) × (length values ≡ 8)
  pub four_modes : length modes ≡ 4
  pub one_edition : length edition ≡ 1

found :
    (axes points kinds : List ℕ) (values : List Float) (modes edition : List ℕ)
    → (found_slots_refused axes points kinds values || modes_or_slot_refused modes edition) ≡ false
    → Found axes points kinds values modes edition
found axes points kinds values modes edition none =
    let both = neither (found_slots_refused axes points kinds values) (modes_or_slot_refused modes edition) none in
    let slots = found_lengths axes points kinds values both.0 in
    let told = mode_slot_lengths modes edition both.1 in
    record { one_slot = slots.0; for_axes = (slots.1, slots.2, slots.3); four_modes = told.0; one_edition = told.1 }

pub read_lengths :
    (axes points kinds : List ℕ) (values : List Float) (modes edition : List ℕ)
    → read_own_refusal axes points kinds values modes edition ≡ 0
    → Found axes points kinds values modes edition
unfolding read_own_refusal
read_lengths axes points kinds values modes edition none = found axes points kinds values modes edition (not_the_first _ 3 none)

pub sheet_tensor_lengths :
    (axes points kinds : List ℕ) (values : List Float) (modes edition length_lent : List ℕ)
    → sheet_tensor_own_refusal axes points kinds values modes edition length_lent ≡ 0
    → Found axes points kinds values modes edition × (length length_lent ≡ 1)
unfolding sheet_tensor_own_refusal
sheet_tensor_lengths axes points kinds values modes edition length_lent none =
    let two =
    neither (found_slots_refused axes points kinds values || modes_or_slot_refused modes edition)
    (length_refused (length length_lent) 1) (not_the_first _ 3 none) in
    (found axes points kinds values modes edition two.0, exact (length length_lent) 1 two.1)
