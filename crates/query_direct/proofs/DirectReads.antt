-- What a direct query reads. Knots that agree at the first two of each axis, at the two of the found cell and, where the mode is hold or
-- refuse, at the last, and tensors that agree at the cell that is found, have one whole answer. So at most 5 knots of an axis matter.
use native.Mathlib.Omega.{arith}
use mathlib.Core.Path.{◌≡◌, refl, sym, ap, ◌∙◌}
use mathlib.Core.List.{List}
use Prim.Native.Nat.{ℕ, ◌+◌, ◌-◌, ◌^◌, min, ◌<◌, ◌≤◌}
use lib.ListN.{length, drop, length-take, length-drop}
use lib.Ieee.{Float}
use Rattle.rules.specs.Numbers.{at}
use Rattle.rules.specs.Sizes.{Grid, points, knots, sum_below}
use Rattle.rules.specs.Steps.{h}
use Rattle.rules.specs.Refusals.{step_refused, found_cell_refused}
use Rattle.rules.specs.Outside.{mode_at, side, nearest, placed, placed_on, outside, outside_refused}
use Rattle.rules.specs.Even.{direct_cell_of}
use Rattle.rules.specs.Query.{cell, fraction, value_in, even_cell_of, even_query}
use Rattle.rules.specs.declared.Axis.{Axis}
use Rattle.rules.specs.declared.Mode.{Mode}
use Rattle.rules.specs.declared.Mode.TheVariants.{Extend, Hold, Refuse}
use Rattle.rules.specs.declared.Side.{Side}
use Rattle.rules.specs.declared.Side.TheVariants.{Below, Inside, Above}
use Rattle.rules.proofs.Refused.{any_ext}
use Rattle.rules.proofs.Cells.{blend_ext, value_in_ext, labels_ext}
use Rattle.rules.proofs.QuickReads.{AgreeAt}
use Rattle.query_direct.specs.DirectCalls.{looked_at, direct_labels, direct_query_refusal, direct_query_answer}

-- at most 5 knots of an axis, whatever they are
pub few_looked_at : (mode : Mode) (n l : ℕ) → length (looked_at mode n l) ≤ 5
few_looked_at Extend n l = omega arith
few_looked_at Hold n l = omega arith
few_looked_at Refuse n l = omega arith

-- ---- one axis

module _ (x y : List Float) (p : Float) (count : length x ≡ length y) (first : at x 0 ≡ at y 0) where
  -- where the last knots agree too, both have the point on one side, with one nearest end
  module _ (last : at x (length x - 1) ≡ at y (length x - 1)) where
    side_same : side x p ≡ side y p
    unfolding side
    side_same = rw (← first, ← count, ← last) refl

    nearest_same : (s : Side) → nearest s x p ≡ nearest s y p
    nearest_same Below = first
    nearest_same Inside = refl
    nearest_same Above = rw (← count) last

  -- in each mode the point is placed, and refused, alike
  pub placed_alike : (mode : Mode) (l : ℕ) → AgreeAt x y (looked_at mode (length x) l) → placed mode x p ≡ placed mode y p
  placed_alike Extend l agree = refl
  placed_alike Hold l agree =
      let last = agree.1.1.1.1.0 in nearest_same last (side x p) ∙ ap (λ (s : Side). nearest s y p) (side_same last)
  placed_alike Refuse l agree = refl

  pub outside_alike :
      (mode : Mode) (l : ℕ) → AgreeAt x y (looked_at mode (length x) l) → outside_refused mode (side x p) ≡ outside_refused mode (side y p)
  outside_alike Extend l agree = refl
  outside_alike Hold l agree = refl
  outside_alike Refuse l agree = ap outside (side_same agree.1.1.1.1.0)

-- ---- the whole answer

module _ (axes : ℕ) (all : List Axis) (x x' tensor tensor' coordinates : List Float) where
  abbrev g : Grid
  g = record { axes = axes; entries = all; flat_knots = x }

  abbrev g' : Grid
  g' = record { axes = axes; entries = all; flat_knots = x' }

  abbrev cells : ℕ → ℕ
  cells = even_cell_of g (at coordinates)

  abbrev cells' : ℕ → ℕ
  cells' = even_cell_of g' (at coordinates)

  -- the same lengths, and the same numbers where the query looks
  pub record DirectReadAlike : Type 0 where
    pub knots_count : length x ≡ length x'
    pub tensor_count : length tensor ≡ length tensor'
    pub knots_agree : (i : ℕ) → i < axes → AgreeAt (knots g i) (knots g' i) (looked_at (mode_at g i) (length (knots g i)) (cells i))
    pub tensor_agrees : (e : ℕ) → e < 4 ^ axes → cell g tensor cells e ≡ cell g tensor' cells e

  module _ (alike : DirectReadAlike) where
    axis_count : (i : ℕ) → length (knots g i) ≡ length (knots g' i)
    axis_count i =
        length-take (points g i) (drop (sum_below (points g) i) x)
        ∙ ap (min (points g i))
        (length-drop (sum_below (points g) i) x ∙ ap (λ (n : ℕ). n - sum_below (points g) i) alike.knots_count
        ∙ sym (length-drop (sum_below (points g) i) x'))
        ∙ sym (length-take (points g i) (drop (sum_below (points g) i) x'))

    module _ (i : ℕ) (l : i < axes) where
      first_same : at (knots g i) 0 ≡ at (knots g' i) 0
      first_same = (alike.knots_agree i l).0

      second_same : at (knots g i) 1 ≡ at (knots g' i) 1
      second_same = (alike.knots_agree i l).1.0

      lower_same : at (knots g i) (cells i) ≡ at (knots g' i) (cells i)
      lower_same = (alike.knots_agree i l).1.1.0

      upper_same : at (knots g i) (cells i + 1) ≡ at (knots g' i) (cells i + 1)
      upper_same = (alike.knots_agree i l).1.1.1.0

      placed_same : placed_on g (at coordinates) i ≡ placed_on g' (at coordinates) i
      placed_same =
          placed_alike (knots g i) (knots g' i) (at coordinates i) (axis_count i) first_same (mode_at g i) (cells i)
          (alike.knots_agree i l)

      outside_same :
          outside_refused (mode_at g i) (side (knots g i) (at coordinates i))
          ≡ outside_refused (mode_at g i) (side (knots g' i) (at coordinates i))
      outside_same =
          outside_alike (knots g i) (knots g' i) (at coordinates i) (axis_count i) first_same (mode_at g i) (cells i)
          (alike.knots_agree i l)

      cells_same : cells i ≡ cells' i
      unfolding even_cell_of direct_cell_of h
      cells_same = cc (first_same, second_same, placed_same)

    refused_same : (i : ℕ) → i < axes → found_cell_refused (knots g i) (cells i) ≡ found_cell_refused (knots g' i) (cells' i)
    unfolding found_cell_refused step_refused h
    refused_same i l = rw (← cells_same i l, ← lower_same i l, ← upper_same i l) refl

    value_same : even_query g tensor (at coordinates) ≡ even_query g' tensor' (at coordinates)
    unfolding even_query value_in h fraction cell
    value_same =
        blend_ext axes 0 _ _ _ _ _ _
        (λ i a b. rw (lower_same i (omega arith), upper_same i (omega arith)) refl)
        (λ i a b. rw (lower_same i (omega arith), upper_same i (omega arith), placed_same i (omega arith)) refl)
        alike.tensor_agrees
        ∙ value_in_ext g' tensor' cells cells' (placed_on g' (at coordinates)) cells_same

    labels_same : direct_labels g coordinates ≡ direct_labels g' coordinates
    unfolding direct_labels
    labels_same = labels_ext g cells cells' cells_same

    refusal_same : direct_query_refusal g tensor coordinates ≡ direct_query_refusal g' tensor' coordinates
    unfolding direct_query_refusal
    refusal_same =
        rw (
          alike.knots_count,
          alike.tensor_count,
          value_same,
          any_ext (λ i. found_cell_refused (knots g i) (cells i)) (λ i. found_cell_refused (knots g' i) (cells' i)) axes refused_same,
          any_ext (λ i. outside_refused (mode_at g i) (side (knots g i) (at coordinates i)))
              (λ i. outside_refused (mode_at g i) (side (knots g' i) (at coordinates i))) axes outside_same,
        )
        refl

    -- refusal, value and labels are the same: nothing else can matter
    pub direct_reads : direct_query_answer g tensor coordinates ≡ direct_query_answer g' tensor' coordinates
    unfolding direct_query_answer
    direct_reads = cc (refusal_same, value_same, labels_same)
