-- What does not read the modes of a grid's axes: sizes, knots, all refusals but 18, the cells and the value in a cell; and so the build,
-- the change, and the queries where every axis extends.
use mathlib.Core.Path.{◌≡◌, refl, ap, ap₂, fun_ext, ◌∙◌}
use mathlib.Core.Bool.{true, false}
use mathlib.Core.List.{List, ◌++◌}
use Prim.Native.Nat.{ℕ, zero, suc, ◌+◌, ◌-◌, ◌*◌, ◌/◌, ◌%◌, ◌^◌}
use lib.Dec.{ltb, eqb}
use lib.ListN.{take, drop}
use lib.Ieee.{Float}
use Rattle.rules.specs.Numbers.{at, any, table, filter}
use Rattle.rules.specs.Sizes.{
  Grid,
  points,
  condition,
  sum_below,
  product_below,
  knots,
  knots_length,
  samples_length,
  masks,
  tensor_length,
  Place,
  flat,
  unflat,
  spot,
}
use Rattle.rules.specs.Refusals.{
  points_refused,
  some_points_refused,
  place_refused,
  ends_refused,
  some_ends_refused,
  knots_refused,
  some_knots_refused,
  found_cell_refused,
  some_found_cell_refused,
  fewness_refused,
  some_fewness_refused,
}
use Rattle.rules.specs.Tensor.{slope_along, entry, sample, place_at, mask_at, tensor}
use Rattle.rules.specs.Change.{
  can_differ,
  with_sample,
  changed_entry,
  changed_tensor,
  Lane,
  starts,
  lanes_from,
  lanes_along,
  lanes_below,
  change_lanes,
}
use Rattle.rules.specs.Steps.{h}
use Rattle.rules.specs.Outside.{with_axes, ButForModes}
use Rattle.rules.specs.Even.{first_that, uneven_refused, some_uneven_refused, uneven_axis, uneven_interval, direct_cell_of}
use Rattle.rules.specs.Query.{corner, cell, fraction, value_in, cell_of, query, quick_cell_of, quick_query}
use Rattle.rules.specs.Calls.{
  labels_of,
  labels,
  quick_labels,
  build_refusal,
  BuildPromise,
  change_refusal,
  change_answer,
  ChangePromise,
}
use Rattle.rules.specs.Extended.{
  extended_query_refusal,
  extended_query_answer,
  extended_quick_refusal,
  extended_quick_answer,
  extended_even_value,
  extended_even_refusal,
  extended_even_answer,
}
use Rattle.rules.specs.declared.Axis.{Axis}
use Rattle.rules.specs.Answers.{ChangeAnswer}
use Rattle.rules.specs.declared.Condition.{Condition}
use Rattle.rules.proofs.Cells.{blend_ext}

module _ (g : Grid) (all : List Axis) (same : ButForModes g all) where
  abbrev other : Grid
  other = with_axes g all

  -- ---- sizes, knots and refusals

  points_same : points g ≡ points other
  points_same = fun_ext same.same_points

  condition_same : condition g ≡ condition other
  condition_same = fun_ext same.same_condition

  pub knots_same : (i : ℕ) → knots g i ≡ knots other i
  knots_same i = ap (λ (n : ℕ → ℕ). take (n i) (drop (sum_below n i) g.flat_knots)) points_same

  pub points_refused_same : some_points_refused g ≡ some_points_refused other
  points_refused_same = ap (λ (n : ℕ → ℕ). any (λ i. points_refused (n i)) g.axes) points_same

  pub knots_length_same : knots_length g ≡ knots_length other
  knots_length_same = ap (λ (n : ℕ → ℕ). sum_below n g.axes) points_same

  pub samples_length_same : samples_length g ≡ samples_length other
  samples_length_same = ap (λ (n : ℕ → ℕ). product_below n g.axes) points_same

  pub tensor_length_same : tensor_length g ≡ tensor_length other
  tensor_length_same = ap (λ (n : ℕ). n * masks g) samples_length_same

  place_refused_same : (p : Place) → place_refused g p ≡ place_refused other p
  place_refused_same p = rw points_same refl

  ends_refused_same : some_ends_refused g ≡ some_ends_refused other
  ends_refused_same = ap (λ (c : ℕ → Condition). any (λ i. ends_refused (c i)) g.axes) condition_same

  pub uneven_refused_same : some_uneven_refused g ≡ some_uneven_refused other
  uneven_refused_same =
      ap (λ (n : ℕ → ℕ). any (λ i. uneven_refused (take (n i) (drop (sum_below n i) g.flat_knots)) (n i)) g.axes) points_same

  pub uneven_axis_same : uneven_axis g ≡ uneven_axis other
  unfolding uneven_axis
  uneven_axis_same =
      ap (λ (n : ℕ → ℕ). first_that (λ i. uneven_refused (take (n i) (drop (sum_below n i) g.flat_knots)) (n i)) g.axes 0)
      points_same

  pub uneven_interval_same : uneven_interval g ≡ uneven_interval other
  unfolding uneven_interval
  uneven_interval_same = cc (uneven_axis_same, knots_same (uneven_axis g), same.same_points (uneven_axis g))

  pub knots_refused_same : some_knots_refused g ≡ some_knots_refused other
  knots_refused_same =
      ap (λ (n : ℕ → ℕ). any (λ i. knots_refused (take (n i) (drop (sum_below n i) g.flat_knots)) (n i)) g.axes) points_same

  fewness_refused_same : some_fewness_refused g ≡ some_fewness_refused other
  fewness_refused_same =
      ap₂ (λ (c : ℕ → Condition) (n : ℕ → ℕ). any (λ i. fewness_refused (c i) (n i)) g.axes) condition_same points_same

  -- ---- the tensor

  slope_same : (i mask : ℕ) (numbers : Place → Float) (p : Place) → slope_along g i mask numbers p ≡ slope_along other i mask numbers p
  unfolding slope_along
  slope_same i mask numbers p = cc (knots_same i, same.same_points i, same.same_condition i)

  entry_same : (samples : Place → Float) (i mask : ℕ) → entry g samples i mask ≡ entry other samples i mask
  unfolding entry
  entry_same samples zero mask = refl
  entry_same samples (suc i) mask =
      fun_ext (λ p. ap₂ (λ (below : Place → Float) (along : Float). elim (ltb mask (2 ^ i)) [ true ↦ below p | false ↦ along ])
      (entry_same samples i mask)
      (slope_same i (mask - 2 ^ i) (entry g samples i (mask - 2 ^ i)) p
      ∙ ap (λ (numbers : Place → Float). slope_along other i (mask - 2 ^ i) numbers p) (entry_same samples i (mask - 2 ^ i))))

  sample_same : (samples : List Float) → sample g samples ≡ sample other samples
  unfolding sample
  sample_same samples = fun_ext (λ p. ap (λ (n : ℕ → ℕ). at samples (flat n g.axes p)) points_same)

  place_same : (e : ℕ) → place_at g e ≡ place_at other e
  place_same e = ap (λ (n : ℕ → ℕ). unflat n g.axes (e / masks g)) points_same

  pub tensor_without_modes : (samples : List Float) → tensor g samples ≡ tensor other samples
  unfolding tensor
  tensor_without_modes samples =
      ap₂ (λ (n : ℕ) (f : ℕ → Float). table n f) tensor_length_same
      (fun_ext (λ e. rw (sample_same samples, entry_same (sample other samples) g.axes (mask_at g e), place_same e) refl))

  pub build_refusal_without_modes : (samples out scratch : List Float)
      → build_refusal g samples out scratch ≡ build_refusal other samples out scratch
  unfolding build_refusal
  build_refusal_without_modes samples out scratch =
      rw (
        tensor_without_modes samples,
        points_refused_same,
        tensor_length_same,
        knots_length_same,
        samples_length_same,
        ends_refused_same,
        knots_refused_same,
        fewness_refused_same,
      )
      refl

  -- what the build promises of a grid it promises of the same grid in other modes
  pub build_without_modes :
      (samples out scratch : List Float) {refusal : ℕ} {tensor_later scratch_later : List Float}
      → BuildPromise g samples out scratch refusal tensor_later scratch_later
      → BuildPromise other samples out scratch refusal tensor_later scratch_later
  build_without_modes samples out scratch p =
      let same_refusal = build_refusal_without_modes samples out scratch in
      record {
        answer = p.answer ∙ same_refusal;
        output = cc (p.output, same_refusal, tensor_without_modes samples);
        scratch = p.scratch ∙ rw same_refusal refl;
      }

  -- ---- the change

  changed_entry_same : (changed : Place) (v : Float) (old : Place → ℕ → Float) (i mask : ℕ)
      → changed_entry g changed v old i mask ≡ changed_entry other changed v old i mask
  unfolding changed_entry with_sample can_differ
  changed_entry_same changed v old zero mask = refl
  changed_entry_same changed v old (suc i) mask =
      fun_ext (λ p. ap₂
      (λ (below : Place → Float) (along : Float).
      elim (ltb mask (2 ^ i)) [
        | true ↦ below p
        | false ↦ elim (can_differ g changed i (mask - 2 ^ i) p) [ true ↦ along | false ↦ old p mask ]
      ])
      (changed_entry_same changed v old i mask)
      (slope_same i (mask - 2 ^ i) (changed_entry g changed v old i (mask - 2 ^ i)) p
      ∙ ap (λ (numbers : Place → Float). slope_along other i (mask - 2 ^ i) numbers p) (changed_entry_same changed v old i (mask - 2 ^ i))))

  abbrev old_numbers : Grid → List Float → Place → ℕ → Float
  old_numbers grid numbers p mask = at numbers (spot grid p mask)

  old_same : (numbers : List Float) → old_numbers g numbers ≡ old_numbers other numbers
  old_same numbers = fun_ext (λ p. fun_ext (λ mask. ap (λ (n : ℕ → ℕ). at numbers (flat n g.axes p * masks g + mask)) points_same))

  pub changed_tensor_without_modes : (changed : Place) (v : Float) (old : List Float)
      → changed_tensor g changed v old ≡ changed_tensor other changed v old
  unfolding changed_tensor
  changed_tensor_without_modes changed v old =
      ap₂ (λ (n : ℕ) (f : ℕ → Float). table n f) tensor_length_same
      (fun_ext (λ e. rw (old_same old, changed_entry_same changed v (old_numbers other old) g.axes (mask_at g e), place_same e) refl))

  pub change_refusal_without_modes : (old scratch : List Float) (changed : Place) (v : Float)
      → change_refusal g old scratch changed v ≡ change_refusal other old scratch changed v
  unfolding change_refusal
  change_refusal_without_modes old scratch changed v =
      rw (
        changed_tensor_without_modes changed v old,
        points_refused_same,
        tensor_length_same,
        knots_length_same,
        place_refused_same changed,
        ends_refused_same,
        knots_refused_same,
        fewness_refused_same,
      )
      refl

  starts_same : (i : ℕ) → starts g i ≡ starts other i
  unfolding starts
  starts_same i = ap (λ (n : ℕ → ℕ). filter (λ f. eqb (unflat n g.axes f i) 0) (table (product_below n g.axes) (λ f. f))) points_same

  lanes_along_same : (i mask : ℕ) → lanes_along g i mask ≡ lanes_along other i mask
  unfolding lanes_along
  lanes_along_same i zero = refl
  lanes_along_same i (suc mask) =
      ap₂ (λ (before here : List Lane). before ++ here) (lanes_along_same i mask) (ap (lanes_from i mask) (starts_same i))

  lanes_below_same : (i : ℕ) → lanes_below g i ≡ lanes_below other i
  unfolding lanes_below
  lanes_below_same zero = refl
  lanes_below_same (suc i) = ap₂ (λ (before here : List Lane). before ++ here) (lanes_below_same i) (lanes_along_same i (2 ^ i))

  lanes_same : (changed : Place) → change_lanes g changed ≡ change_lanes other changed
  unfolding change_lanes can_differ
  lanes_same changed =
      ap₂
      (λ (n : ℕ → ℕ) (lanes : List Lane). filter
      (λ lane. can_differ g changed lane.axis lane.mask (unflat n g.axes lane.start)) lanes)
      points_same (lanes_below_same g.axes)

  change_answer_same : (old scratch : List Float) (changed : Place) (v : Float)
      → change_answer g old scratch changed v ≡ change_answer other old scratch changed v
  unfolding change_answer
  change_answer_same old scratch changed v = cc (change_refusal_without_modes old scratch changed v, lanes_same changed)

  -- so of the change
  pub change_without_modes :
      (old scratch : List Float) (changed : Place) (v : Float) {given : ChangeAnswer} {tensor_later scratch_later : List Float}
      → ChangePromise g old scratch changed v given tensor_later scratch_later
      → ChangePromise other old scratch changed v given tensor_later scratch_later
  change_without_modes old scratch changed v p =
      let same_refusal = change_refusal_without_modes old scratch changed v in
      record {
        answer = p.answer ∙ change_answer_same old scratch changed v;
        output = cc (p.output, same_refusal, changed_tensor_without_modes changed v old);
        scratch = p.scratch ∙ rw same_refusal refl;
      }

  -- ---- cells and values

  pub cell_without_modes : (point : ℕ → Float) → cell_of g point ≡ cell_of other point
  unfolding cell_of
  cell_without_modes point = fun_ext (λ i. cc (knots_same i, same.same_points i))

  quick_cell_without_modes : (point : ℕ → Float) → quick_cell_of g point ≡ quick_cell_of other point
  unfolding quick_cell_of
  quick_cell_without_modes point = fun_ext (λ i. cc (knots_same i))

  pub direct_cell_without_modes : (point : ℕ → Float) → direct_cell_of g point ≡ direct_cell_of other point
  unfolding direct_cell_of
  direct_cell_without_modes point = fun_ext (λ i. cc (knots_same i, same.same_points i))

  numbers_same : (numbers : List Float) (cells : Place) (e : ℕ) → cell g numbers cells e ≡ cell other numbers cells e
  unfolding cell
  numbers_same numbers cells e =
      ap (λ (n : ℕ → ℕ). at numbers (flat n g.axes (corner g.axes cells (e / masks g)) * masks g + e % masks g)) points_same

  pub value_without_modes : (numbers : List Float) (cells : Place) (point : ℕ → Float)
      → value_in g numbers cells point ≡ value_in other numbers cells point
  unfolding value_in
  value_without_modes numbers cells point =
      blend_ext g.axes 0 _ _ _ _ _ _
      (λ i a b. ap (λ (x : List Float). h x (cells i)) (knots_same i))
      (λ i a b. ap (λ (x : List Float). fraction x (cells i) (point i)) (knots_same i))
      (λ e b. numbers_same numbers cells e)

  pub labels_without_modes : (coordinates : List Float) → labels g coordinates ≡ labels other coordinates
  unfolding labels
  labels_without_modes coordinates = ap (labels_of g) (cell_without_modes (at coordinates))

  quick_labels_same : (coordinates : List Float) → quick_labels g coordinates ≡ quick_labels other coordinates
  unfolding quick_labels
  quick_labels_same coordinates = ap (labels_of g) (quick_cell_without_modes (at coordinates))

  query_same : (numbers : List Float) (point : ℕ → Float) → query g numbers point ≡ query other numbers point
  unfolding query
  query_same numbers point =
      value_without_modes numbers (cell_of g point) point
      ∙ ap (λ (cells : Place). value_in other numbers cells point) (cell_without_modes point)

  quick_query_same : (numbers : List Float) (point : ℕ → Float) → quick_query g numbers point ≡ quick_query other numbers point
  unfolding quick_query
  quick_query_same numbers point =
      value_without_modes numbers (quick_cell_of g point) point
      ∙ ap (λ (cells : Place). value_in other numbers cells point) (quick_cell_without_modes point)

  found_cells_same : (point : ℕ → Float)
      → some_found_cell_refused g (quick_cell_of g point) ≡ some_found_cell_refused other (quick_cell_of other point)
  found_cells_same point =
      ap₂
      (λ (n : ℕ → ℕ) (cells : Place). any (λ i. found_cell_refused (take (n i) (drop (sum_below n i) g.flat_knots)) (cells i))
      g.axes)
      points_same (quick_cell_without_modes point)

  extended_refusal_same : (numbers coordinates : List Float)
      → extended_query_refusal g numbers coordinates ≡ extended_query_refusal other numbers coordinates
  unfolding extended_query_refusal
  extended_refusal_same numbers coordinates =
      rw (query_same numbers (at coordinates), points_refused_same, tensor_length_same, knots_length_same, knots_refused_same) refl

  extended_quick_refusal_same : (numbers coordinates : List Float)
      → extended_quick_refusal g numbers coordinates ≡ extended_quick_refusal other numbers coordinates
  unfolding extended_quick_refusal
  extended_quick_refusal_same numbers coordinates =
      rw (
        quick_query_same numbers (at coordinates),
        found_cells_same (at coordinates),
        points_refused_same,
        tensor_length_same,
        knots_length_same,
      )
      refl

  pub extended_without_modes : (numbers coordinates : List Float)
      → extended_query_answer g numbers coordinates ≡ extended_query_answer other numbers coordinates
  unfolding extended_query_answer
  extended_without_modes numbers coordinates =
      cc (extended_refusal_same numbers coordinates, query_same numbers (at coordinates), labels_without_modes coordinates)

  pub extended_quick_without_modes : (numbers coordinates : List Float)
      → extended_quick_answer g numbers coordinates ≡ extended_quick_answer other numbers coordinates
  unfolding extended_quick_answer
  extended_quick_without_modes numbers coordinates =
      cc (extended_quick_refusal_same numbers coordinates, quick_query_same numbers (at coordinates), quick_labels_same coordinates)

  extended_even_value_same :
      (numbers coordinates : List Float) → extended_even_value g numbers coordinates ≡ extended_even_value other numbers coordinates
  unfolding extended_even_value
  extended_even_value_same numbers coordinates =
      value_without_modes numbers (direct_cell_of g (at coordinates)) (at coordinates)
      ∙ ap (λ (cells : Place). value_in other numbers cells (at coordinates)) (direct_cell_without_modes (at coordinates))

  extended_even_refusal_same :
      (numbers coordinates : List Float) → extended_even_refusal g numbers coordinates ≡ extended_even_refusal other numbers coordinates
  unfolding extended_even_refusal
  extended_even_refusal_same numbers coordinates =
      rw (
        extended_even_value_same numbers coordinates,
        points_refused_same,
        tensor_length_same,
        knots_length_same,
        knots_refused_same,
        uneven_refused_same,
      )
      refl

  pub extended_even_without_modes :
      (numbers coordinates : List Float) → extended_even_answer g numbers coordinates ≡ extended_even_answer other numbers coordinates
  unfolding extended_even_answer
  extended_even_without_modes numbers coordinates =
      cc (
        extended_even_refusal_same numbers coordinates,
        extended_even_value_same numbers coordinates,
        ap (labels_of g) (direct_cell_without_modes (at coordinates)),
        uneven_axis_same,
        uneven_interval_same,
      )
