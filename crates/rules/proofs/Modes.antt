-- What the modes of a query come to: where no coordinate is moved and none refused, the answer is the one without modes. So with extend on
-- every axis, and so in every mode where every coordinate lies inside. And 18 is given exactly where an axis in refuse has its coordinate
-- outside and none of 1 2 3 4 7 8 applies, nor 21 in the query of even axes.
use mathlib.Core.Path.{◌≡◌, refl, sym, ap, ◌∙◌}
use mathlib.Core.Bool.{Bool, true, false, cond, ◌||◌}
use mathlib.Core.List.{List}
use Prim.Native.Nat.{ℕ, ◌<◌}
use native.Mathlib.Omega.{arith}
use lib.Ieee.{Float}
use Rattle.rules.specs.Numbers.{at}
use Rattle.rules.specs.Sizes.{Grid, points, knots}
use Rattle.rules.specs.Steps.{h}
use Rattle.rules.specs.Refusals.{
  axes_refused,
  some_points_refused,
  tensor_refused,
  some_number_refused,
  some_knots_refused,
  some_found_cell_refused,
  answer_refused,
}
use Rattle.rules.specs.Outside.{
  mode_at,
  side,
  nearest,
  placed,
  placed_on,
  outside_refused,
  some_outside_refused,
  with_axes,
  ButForModes,
}
use Rattle.rules.specs.Even.{some_uneven_refused, direct_cell, direct_cell_of}
use Rattle.rules.specs.Query.{query, quick_cell_of, quick_query, query_in_modes, quick_query_in_modes, even_cell_of, even_query}
use Rattle.rules.specs.Calls.{labels_of, query_lengths_refused, query_refusal, query_answer, quick_query_refusal, quick_query_answer}
use Rattle.rules.specs.EvenCalls.{even_query_refusal, even_labels, even_query_answer}
use Rattle.rules.specs.Extended.{
  extended_query_refusal,
  extended_query_answer,
  extended_quick_refusal,
  extended_quick_answer,
  extended_even_value,
  extended_even_refusal,
  extended_even_answer,
}
use Rattle.rules.specs.declared.Axis.{Axis}
use Rattle.rules.specs.declared.Mode.{Mode}
use Rattle.rules.specs.declared.Mode.TheVariants.{Extend, Hold, Refuse}
use Rattle.rules.specs.declared.Side.{Side}
use Rattle.rules.specs.declared.Side.TheVariants.{Inside}
use Rattle.rules.proofs.Cases.{any_never}
use Rattle.rules.proofs.Places.{One}
use Rattle.rules.proofs.Cells.{value_in_ext, value_at_ext, labels_ext}
use Rattle.rules.proofs.WithoutModes.{
  knots_same,
  extended_without_modes,
  extended_quick_without_modes,
  extended_even_without_modes,
}

module _ (g : Grid) (tensor coordinates : List Float) where
  -- on each axis in use the coordinate stays where it is and is not refused
  pub record AtEase : Type 0 where
    pub stays : (i : ℕ) → i < g.axes → placed_on g (at coordinates) i ≡ at coordinates i
    pub passes : (i : ℕ) → i < g.axes → outside_refused (mode_at g i) (side (knots g i) (at coordinates i)) ≡ false

  module _ (ease : AtEase) where
    pub none_outside : some_outside_refused g (at coordinates) ≡ false
    none_outside = any_never (λ i. outside_refused (mode_at g i) (side (knots g i) (at coordinates i))) g.axes ease.passes

    same_value : query_in_modes g tensor (at coordinates) ≡ query g tensor (at coordinates)
    unfolding query_in_modes query
    same_value = value_at_ext g tensor _ _ _ ease.stays

    same_quick_value : quick_query_in_modes g tensor (at coordinates) ≡ quick_query g tensor (at coordinates)
    unfolding quick_query_in_modes quick_query
    same_quick_value = value_at_ext g tensor _ _ _ ease.stays

    same_even_cell : One g.axes (even_cell_of g (at coordinates)) (direct_cell_of g (at coordinates))
    unfolding even_cell_of direct_cell_of
    same_even_cell i l = ap (direct_cell (at (knots g i) 0) (h (knots g i) 0) (points g i)) (ease.stays i l)

    same_even_value : even_query g tensor (at coordinates) ≡ extended_even_value g tensor coordinates
    unfolding even_query extended_even_value
    same_even_value =
        value_in_ext g tensor (even_cell_of g (at coordinates)) (direct_cell_of g (at coordinates)) _ same_even_cell
        ∙ value_at_ext g tensor _ _ _ ease.stays

    same_even_labels : even_labels g tensor coordinates ≡ labels_of g (direct_cell_of g (at coordinates))
    unfolding even_labels
    same_even_labels = labels_ext g (even_cell_of g (at coordinates)) (direct_cell_of g (at coordinates)) same_even_cell

    same_refusal : query_refusal g tensor coordinates ≡ extended_query_refusal g tensor coordinates
    unfolding query_refusal extended_query_refusal
    same_refusal = rw (none_outside, same_value) refl

    same_quick_refusal : quick_query_refusal g tensor coordinates ≡ extended_quick_refusal g tensor coordinates
    unfolding quick_query_refusal extended_quick_refusal
    same_quick_refusal = rw (none_outside, same_quick_value) refl

    same_even_refusal : even_query_refusal g tensor coordinates ≡ extended_even_refusal g tensor coordinates
    unfolding even_query_refusal extended_even_refusal
    same_even_refusal = rw (none_outside, same_even_value) refl

    -- the answers are those without modes
    pub as_extended : query_answer g tensor coordinates ≡ extended_query_answer g tensor coordinates
    unfolding query_answer extended_query_answer
    as_extended = cc (same_refusal, same_value)

    pub quick_as_extended : quick_query_answer g tensor coordinates ≡ extended_quick_answer g tensor coordinates
    unfolding quick_query_answer extended_quick_answer
    quick_as_extended = cc (same_quick_refusal, same_quick_value)

    pub even_as_extended : even_query_answer g tensor coordinates ≡ extended_even_answer g tensor coordinates
    unfolding even_query_answer extended_even_answer
    even_as_extended = cc (same_even_refusal, same_even_value, same_even_labels)

  -- ---- extend on every axis in use

  module _ (extend : (i : ℕ) → i < g.axes → mode_at g i ≡ Extend) where
    extends : AtEase
    extends = record {
      stays = λ i l. rw (extend i l) refl;
      passes = λ i l. rw (extend i l) refl;
    }

    pub extend_as_before : query_answer g tensor coordinates ≡ extended_query_answer g tensor coordinates
    extend_as_before = as_extended extends

    pub quick_extend_as_before : quick_query_answer g tensor coordinates ≡ extended_quick_answer g tensor coordinates
    quick_extend_as_before = quick_as_extended extends

    pub even_extend_as_before : even_query_answer g tensor coordinates ≡ extended_even_answer g tensor coordinates
    even_extend_as_before = even_as_extended extends

  -- ---- every coordinate inside

  module _ (inside : (i : ℕ) → i < g.axes → side (knots g i) (at coordinates i) ≡ Inside) where
    pub within : AtEase
    within = record {
      stays = λ i l. stay i (mode_at g i) (inside i l);
      passes = λ i l. rw (inside i l) (pass (mode_at g i));
    }
      where
        stay : (i : ℕ) (mode : Mode) → side (knots g i) (at coordinates i) ≡ Inside
            → placed mode (knots g i) (at coordinates i) ≡ at coordinates i
        stay i Extend e = refl
        stay i Hold e = ap (λ (s : Side). nearest s (knots g i) (at coordinates i)) e
        stay i Refuse e = refl

        pass : (mode : Mode) → outside_refused mode Inside ≡ false
        pass Extend = refl
        pass Hold = refl
        pass Refuse = refl

-- all modes give the same whole answer
module _ (g : Grid) (all : List Axis) (same : ButForModes g all) (tensor coordinates : List Float)
    (inside : (i : ℕ) → i < g.axes → side (knots g i) (at coordinates i) ≡ Inside) where
  inside_there : (i : ℕ) → i < g.axes → side (knots (with_axes g all) i) (at coordinates i) ≡ Inside
  inside_there i l = rw (← knots_same g all same i) (inside i l)

  pub inside_alike : query_answer g tensor coordinates ≡ query_answer (with_axes g all) tensor coordinates
  inside_alike =
      as_extended g tensor coordinates (within g tensor coordinates inside)
      ∙ extended_without_modes g all same tensor coordinates
      ∙ sym (as_extended (with_axes g all) tensor coordinates (within (with_axes g all) tensor coordinates inside_there))

  pub quick_inside_alike : quick_query_answer g tensor coordinates ≡ quick_query_answer (with_axes g all) tensor coordinates
  quick_inside_alike =
      quick_as_extended g tensor coordinates (within g tensor coordinates inside)
      ∙ extended_quick_without_modes g all same tensor coordinates
      ∙ sym (quick_as_extended (with_axes g all) tensor coordinates (within (with_axes g all) tensor coordinates inside_there))

  pub even_inside_alike : even_query_answer g tensor coordinates ≡ even_query_answer (with_axes g all) tensor coordinates
  even_inside_alike =
      even_as_extended g tensor coordinates (within g tensor coordinates inside)
      ∙ extended_even_without_modes g all same tensor coordinates
      ∙ sym (even_as_extended (with_axes g all) tensor coordinates (within (with_axes g all) tensor coordinates inside_there))

-- ---- 18

-- a test that gives another number than the answer has not been met
passed : (test : Bool) (number : ℕ) {later answer : ℕ} → (number ≡ answer → ⊥) → cond test number later ≡ answer
    → (test ≡ false) × (later ≡ answer)
passed true number other e = absurd (other e)
passed false number other e = (refl, e)

-- the test of 18 and what may follow it
met_18 : (test beyond : Bool) (answer : ℕ) → answer ≡ cond test 18 (cond beyond 10 0) → answer ≡ 18 → test ≡ true
met_18 true beyond answer e eighteen = refl
met_18 false true answer e eighteen = absurd (omega (arith, e, eighteen))
met_18 false false answer e eighteen = absurd (omega (arith, e, eighteen))

module _ (g : Grid) (tensor coordinates : List Float) (numbers_refused cells_refused uneven_refused : Bool) where
  -- the order of all three queries, 1 2 3 4 7 8 21 18 10: to those that do not look for 21 no axis is uneven
  abbrev pub in_order : Bool → ℕ
  in_order value_refused =
      cond (axes_refused g) 1
      (cond (some_points_refused g) 2
      (cond (tensor_refused g) 3
      (cond (query_lengths_refused g tensor coordinates) 4
      (cond numbers_refused 7
      (cond cells_refused 8
      (cond uneven_refused 21
      (cond (some_outside_refused g (at coordinates)) 18
      (cond value_refused 10 0))))))))

  -- none of 1 2 3 4 7 8 21 applies, and an axis in refuse has its coordinate outside
  pub record OnlyOutside : Type 0 where
    pub axes_pass : axes_refused g ≡ false
    pub points_pass : some_points_refused g ≡ false
    pub size_passes : tensor_refused g ≡ false
    pub lengths_pass : query_lengths_refused g tensor coordinates ≡ false
    pub numbers_pass : numbers_refused ≡ false
    pub cells_pass : cells_refused ≡ false
    pub even : uneven_refused ≡ false
    pub outside : some_outside_refused g (at coordinates) ≡ true

  only_outside : (beyond : Bool) → in_order beyond ≡ 18 → OnlyOutside
  only_outside beyond e =
      let after_1 = passed (axes_refused g) 1 (λ z. omega (arith, z)) e in
      let after_2 = passed (some_points_refused g) 2 (λ z. omega (arith, z)) after_1.1 in
      let after_3 = passed (tensor_refused g) 3 (λ z. omega (arith, z)) after_2.1 in
      let after_4 = passed (query_lengths_refused g tensor coordinates) 4 (λ z. omega (arith, z)) after_3.1 in
      let after_7 = passed numbers_refused 7 (λ z. omega (arith, z)) after_4.1 in
      let after_8 = passed cells_refused 8 (λ z. omega (arith, z)) after_7.1 in
      let after_21 = passed uneven_refused 21 (λ z. omega (arith, z)) after_8.1 in
      record {
        axes_pass = after_1.0;
        points_pass = after_2.0;
        size_passes = after_3.0;
        lengths_pass = after_4.0;
        numbers_pass = after_7.0;
        cells_pass = after_8.0;
        even = after_21.0;
        outside = met_18 (some_outside_refused g (at coordinates)) beyond _ refl after_21.1;
      }

  outside_only : (beyond : Bool) → OnlyOutside → in_order beyond ≡ 18
  outside_only beyond only =
      rw (
        only.axes_pass,
        only.points_pass,
        only.size_passes,
        only.lengths_pass,
        only.numbers_pass,
        only.cells_pass,
        only.even,
        only.outside,
      )
      refl

module _ (g : Grid) (tensor coordinates : List Float) where
  -- 7 of the query and of that of even axes
  abbrev some_number : Bool
  some_number = some_number_refused g.flat_knots || some_number_refused coordinates

  -- 18 of the query
  abbrev pub OutsideOfQuery : Type 0
  OutsideOfQuery = OnlyOutside g tensor coordinates some_number (some_knots_refused g) false

  pub refused_by_18 : (query_refusal g tensor coordinates ≡ 18 → OutsideOfQuery)
      × (OutsideOfQuery → query_refusal g tensor coordinates ≡ 18)
  unfolding query_refusal
  refused_by_18 =
      let beyond = answer_refused (query_in_modes g tensor (at coordinates)) in
      (only_outside g tensor coordinates _ _ false beyond, outside_only g tensor coordinates _ _ false beyond)

  -- 18 of the quick query
  abbrev pub OutsideOfQuickQuery : Type 0
  OutsideOfQuickQuery =
      OnlyOutside g tensor coordinates (some_number_refused coordinates)
      (some_found_cell_refused g (quick_cell_of g (at coordinates))) false

  pub quick_refused_by_18 : (quick_query_refusal g tensor coordinates ≡ 18 → OutsideOfQuickQuery)
      × (OutsideOfQuickQuery → quick_query_refusal g tensor coordinates ≡ 18)
  unfolding quick_query_refusal
  quick_refused_by_18 =
      let beyond = answer_refused (quick_query_in_modes g tensor (at coordinates)) in
      (only_outside g tensor coordinates _ _ false beyond, outside_only g tensor coordinates _ _ false beyond)

  -- 18 of the query of even axes
  abbrev pub OutsideOfEvenQuery : Type 0
  OutsideOfEvenQuery = OnlyOutside g tensor coordinates some_number (some_knots_refused g) (some_uneven_refused g)

  pub even_refused_by_18 :
      (even_query_refusal g tensor coordinates ≡ 18 → OutsideOfEvenQuery)
      × (OutsideOfEvenQuery → even_query_refusal g tensor coordinates ≡ 18)
  unfolding even_query_refusal
  even_refused_by_18 =
      let beyond = answer_refused (even_query g tensor (at coordinates)) in
      (only_outside g tensor coordinates _ _ _ beyond, outside_only g tensor coordinates _ _ _ beyond)
