-- What a quick query reads. Knots that agree where the search looks, and tensors that agree at the cell that is found, have one whole
-- answer; and no more than 12 knots of an axis are looked at.
use native.Mathlib.Omega.{arith}
use mathlib.Core.Path.{◌≡◌, refl, sym, ap, ◌∙◌, subst}
use mathlib.Core.Bool.{Bool, true, false, cond, ◌&&◌}
use mathlib.Core.List.{List, [], ◌∷◌}
use mathlib.Core.Logic.{◌⊎◌, inl, inr, ⊎_elim}
use Prim.Native.Nat.{ℕ, zero, suc, ◌+◌, ◌-◌, ◌^◌, min, ◌<◌, ◌≤◌}
use lib.Dec.{ltb}
use lib.ListN.{length, drop, length-take, length-drop}
use lib.Ieee.{Float, lt, le}
use borrow.Author.Tests.{ltb-true, ltb-false}
use Rattle.rules.specs.Numbers.{at}
use Rattle.rules.specs.Sizes.{Grid, points, knots, sum_below}
use Rattle.rules.specs.Steps.{h}
use Rattle.rules.specs.Search.{middle, halving, most_halvings, one_back, rust_index, lower_index, middles, visited}
use Rattle.rules.specs.Refusals.{step_refused, found_cell_refused}
use Rattle.rules.specs.Outside.{mode_at, side, nearest, placed, placed_on, outside_refused}
use Rattle.rules.specs.Query.{cell, fraction, value_in, quick_cell_of, quick_query_in_modes}
use Rattle.rules.specs.Calls.{quick_query_refusal, quick_labels, quick_query_answer}
use Rattle.rules.specs.declared.Axis.{Axis}
use Rattle.rules.specs.declared.Mode.{Mode}
use Rattle.rules.specs.declared.Mode.TheVariants.{Extend, Hold, Refuse}
use Rattle.rules.specs.declared.Side.{Side}
use Rattle.rules.specs.declared.Side.TheVariants.{Below, Inside, Above}
use Rattle.rules.proofs.Cases.{not_both}
use Rattle.rules.proofs.Tables.{table_ext}
use Rattle.rules.proofs.Refused.{any_ext}
use Rattle.rules.proofs.Cells.{blend_ext, value_in_ext}
use Rattle.rules.proofs.Halving.{halving_under}

-- two lists that agree at these places
abbrev pub AgreeAt : List Float → List Float → List ℕ → Type 0
AgreeAt x y [] = Unit {0}
AgreeAt x y (k ∷ places) = (at x k ≡ at y k) × AgreeAt x y places

-- ---- the search on one axis

module _ (x y : List Float) (point : Float) where
  halving_reads : (d low high : ℕ) → AgreeAt x y (middles x point d low high) → halving x point d low high ≡ halving y point d low high
  unfolding halving middles
  halving_reads zero low high agree = refl
  halving_reads (suc d) low high agree =
      go (ltb low high) (le point (at x (middle low high))) refl agree (halving_reads d low (middle low high))
      (halving_reads d (middle low high + 1) high)
    where
      go : (t u : Bool) → le point (at x (middle low high)) ≡ u
          → AgreeAt x y
          (cond t (middle low high ∷ cond u (middles x point d low (middle low high)) (middles x point d (middle low high + 1) high))
          [])
          → (AgreeAt x y (middles x point d low (middle low high))
          → halving x point d low (middle low high) ≡ halving y point d low (middle low high))
          → (AgreeAt x y (middles x point d (middle low high + 1) high)
          → halving x point d (middle low high + 1) high ≡ halving y point d (middle low high + 1) high)
          → cond t (cond u (halving x point d low (middle low high)) (halving x point d (middle low high + 1) high)) low
          ≡ cond t
          (cond (le point (at y (middle low high))) (halving y point d low (middle low high))
          (halving y point d (middle low high + 1) high))
          low
      go false u e both down up = refl
      go true true e both down up = rw (← both.0, e) (down both.1)
      go true false e both down up = rw (← both.0, e) (up both.1)

  -- where the search ended is a knot of the cell
  ended_in_cell : (n low : ℕ) → low ≤ n - 1 → (low ≡ min (one_back x point low) (n - 2)) ⊎ (low ≡ min (one_back x point low) (n - 2) + 1)
  unfolding one_back
  ended_in_cell n low most = go (ltb 0 low) refl (le point (at x low))
    where
      near : (l : ℕ) → (b : Bool) → ltb l low ≡ b → l ≤ low → low ≤ l + 1 → (low ≡ l) ⊎ (low ≡ l + 1)
      near l true e a c = let z = ltb-true l low e in inr (omega arith)
      near l false e a c = let z = ltb-false l low e in inl (omega arith)

      go : (t : Bool) → ltb 0 low ≡ t → (u : Bool)
          → (low ≡ min (cond (t && u) (low - 1) low) (n - 2)) ⊎ (low ≡ min (cond (t && u) (low - 1) low) (n - 2) + 1)
      go true e true =
          let z = ltb-true 0 low e in near (min (low - 1) (n - 2)) (ltb (min (low - 1) (n - 2)) low) refl (omega arith) (omega arith)
      go true e false = near (min low (n - 2)) (ltb (min low (n - 2)) low) refl (omega arith) (omega arith)
      go false e u = near (min low (n - 2)) (ltb (min low (n - 2)) low) refl (omega arith) (omega arith)

  one_back_reads : (low : ℕ) → at x low ≡ at y low → one_back x point low ≡ one_back y point low
  unfolding one_back
  one_back_reads low same = rw same refl

  -- the places that the halvings look at, where there are halvings
  middles_of : (t u : Bool) (places : List ℕ) → t ≡ false → u ≡ false → AgreeAt x y (cond t [] (cond u [] places)) → AgreeAt x y places
  middles_of true u places e f agree = not_both true refl e
  middles_of false true places e f agree = not_both true refl f
  middles_of false false places e f agree = agree

  ended_alike :
      (n low low' : ℕ) → low ≤ n - 1 → low ≡ low'
      → at x (min (one_back x point low) (n - 2)) ≡ at y (min (one_back x point low) (n - 2))
      → at x (min (one_back x point low) (n - 2) + 1) ≡ at y (min (one_back x point low) (n - 2) + 1)
      → one_back x point low ≡ one_back y point low'
  ended_alike n low low' most same lower upper =
      one_back_reads low
      (⊎_elim (λ z. subst (λ (k : ℕ). at x k ≡ at y k) (sym z) lower) (λ z. subst (λ (k : ℕ). at x k ≡ at y k) (sym z) upper)
      (ended_in_cell n low most))
      ∙ ap (one_back y point) same

  pub lower_index_reads : length x ≡ length y → AgreeAt x y (visited x point) → lower_index x point ≡ lower_index y point
  unfolding visited lower_index rust_index
  lower_index_reads count agree =
      chosen (lt point (at x 0)) (lt point (at y 0)) (le (at x (length x - 1)) point) (le (at y (length y - 1)) point) (length x) (length y)
      _ _
      (ap (lt point) agree.0)
      (ap (λ (v : Float). le v point) agree.1.0 ∙ ap (λ (n : ℕ). le (at y (n - 1)) point) count)
      count
      (λ e f lower upper. ended_alike (length x) _ _
      (halving_under x point most_halvings 0 (length x - 1) (omega arith))
      (halving_reads most_halvings 0 (length x - 1) (middles_of _ _ _ e f agree.1.1.1.1)
      ∙ ap (λ (n : ℕ). halving y point most_halvings 0 (n - 1)) count)
      lower upper)
      agree.1.1.0 agree.1.1.1.0
    where
      chosen : (t t' u u' : Bool) (n n' a a' : ℕ) → t ≡ t' → u ≡ u' → n ≡ n'
          → (t ≡ false → u ≡ false → at x (min a (n - 2)) ≡ at y (min a (n - 2)) → at x (min a (n - 2) + 1) ≡ at y (min a (n - 2) + 1)
          → a ≡ a')
          → at x (min (cond t 0 (cond u (n - 2) a)) (n - 2)) ≡ at y (min (cond t 0 (cond u (n - 2) a)) (n - 2))
          → at x (min (cond t 0 (cond u (n - 2) a)) (n - 2) + 1) ≡ at y (min (cond t 0 (cond u (n - 2) a)) (n - 2) + 1)
          → min (cond t 0 (cond u (n - 2) a)) (n - 2) ≡ min (cond t' 0 (cond u' (n' - 2) a')) (n' - 2)
      chosen true t' u u' n n' a a' e f c same lower upper = rw (← e, ← c)
      chosen false t' true u' n n' a a' e f c same lower upper = rw (← e, ← f, ← c)
      chosen false t' false u' n n' a a' e f c same lower upper = let z = same refl refl lower upper in rw (← e, ← f, ← c, ← z)

  -- how many places are looked at
  pub few_middles : (d low high : ℕ) → length (middles x point d low high) ≤ d
  unfolding middles
  few_middles zero low high = omega arith
  few_middles (suc d) low high =
      go (ltb low high) (le point (at x (middle low high))) (few_middles d low (middle low high)) (few_middles d (middle low high + 1) high)
    where
      go : (t u : Bool) → length (middles x point d low (middle low high)) ≤ d → length (middles x point d (middle low high + 1) high) ≤ d
          → length
          (cond t (middle low high ∷ cond u (middles x point d low (middle low high)) (middles x point d (middle low high + 1) high))
          [])
          ≤ suc d
      go true true down up = omega arith
      go true false down up = omega arith
      go false u down up = omega arith

-- at most 12 knots of an axis, whatever they are
pub few_visited : (x : List Float) (point : Float) → length (visited x point) ≤ 12
unfolding visited
few_visited x point = go (lt point (at x 0)) (le (at x (length x - 1)) point)
  where
    go : (t u : Bool) → suc (suc (suc (suc (length (cond t [] (cond u [] (middles x point most_halvings 0 (length x - 1)))))))) ≤ 12
    go true u = omega arith
    go false true = omega arith
    go false false = let f = few_middles x x point most_halvings 0 (length x - 1) in omega arith

-- ---- the whole answer

module _ (axes : ℕ) (all : List Axis) (x x' tensor tensor' coordinates : List Float) where
  abbrev g : Grid
  g = record { axes = axes; entries = all; flat_knots = x }

  abbrev g' : Grid
  g' = record { axes = axes; entries = all; flat_knots = x' }

  -- the same lengths, and the same numbers where the query looks: on each axis in use at the knots that are visited, and in the tensor at
  -- the cell that is found
  pub record ReadAlike : Type 0 where
    pub knots_count : length x ≡ length x'
    pub tensor_count : length tensor ≡ length tensor'
    pub knots_agree : (i : ℕ) → i < axes → AgreeAt (knots g i) (knots g' i) (visited (knots g i) (at coordinates i))
    pub tensor_agrees : (e : ℕ) → e < 4 ^ axes
        → cell g tensor (quick_cell_of g (at coordinates)) e ≡ cell g tensor' (quick_cell_of g (at coordinates)) e

  module _ (alike : ReadAlike) where
    abbrev cells : ℕ → ℕ
    cells = quick_cell_of g (at coordinates)

    axis_count : (i : ℕ) → length (knots g i) ≡ length (knots g' i)
    axis_count i =
        length-take (points g i) (drop (sum_below (points g) i) x)
        ∙ ap (min (points g i))
        (length-drop (sum_below (points g) i) x ∙ ap (λ (n : ℕ). n - sum_below (points g) i) alike.knots_count
        ∙ sym (length-drop (sum_below (points g) i) x'))
        ∙ sym (length-take (points g i) (drop (sum_below (points g) i) x'))

    cells_same : (i : ℕ) → i < axes → cells i ≡ quick_cell_of g' (at coordinates) i
    unfolding quick_cell_of
    cells_same i l = lower_index_reads (knots g i) (knots g' i) (at coordinates i) (axis_count i) (alike.knots_agree i l)

    lower_same : (i : ℕ) → i < axes → at (knots g i) (cells i) ≡ at (knots g' i) (cells i)
    unfolding quick_cell_of visited
    lower_same i l = (alike.knots_agree i l).1.1.0

    upper_same : (i : ℕ) → i < axes → at (knots g i) (cells i + 1) ≡ at (knots g' i) (cells i + 1)
    unfolding quick_cell_of visited
    upper_same i l = (alike.knots_agree i l).1.1.1.0

    refused_same : (i : ℕ) → i < axes
        → found_cell_refused (knots g i) (cells i) ≡ found_cell_refused (knots g' i) (quick_cell_of g' (at coordinates) i)
    unfolding found_cell_refused step_refused h
    refused_same i l = rw (← cells_same i l, ← lower_same i l, ← upper_same i l) refl

    side_same : (i : ℕ) → i < axes → side (knots g i) (at coordinates i) ≡ side (knots g' i) (at coordinates i)
    unfolding side visited
    side_same i l = rw (← (alike.knots_agree i l).0, ← axis_count i, ← (alike.knots_agree i l).1.0) refl

    nearest_same : (i : ℕ) → i < axes → (s : Side) → nearest s (knots g i) (at coordinates i) ≡ nearest s (knots g' i) (at coordinates i)
    unfolding visited
    nearest_same i l Below = (alike.knots_agree i l).0
    nearest_same i l Inside = refl
    nearest_same i l Above = rw (← axis_count i) (alike.knots_agree i l).1.0

    placed_same : (i : ℕ) → i < axes → placed_on g (at coordinates) i ≡ placed_on g' (at coordinates) i
    placed_same i l = go (mode_at g i)
      where
        go : (mode : Mode) → placed mode (knots g i) (at coordinates i) ≡ placed mode (knots g' i) (at coordinates i)
        go Extend = refl
        go Hold =
            nearest_same i l (side (knots g i) (at coordinates i))
            ∙ ap (λ (s : Side). nearest s (knots g' i) (at coordinates i)) (side_same i l)
        go Refuse = refl

    value_same : quick_query_in_modes g tensor (at coordinates) ≡ quick_query_in_modes g' tensor' (at coordinates)
    unfolding quick_query_in_modes value_in h fraction cell
    value_same =
        blend_ext axes 0 _ _ _ _ _ _
        (λ i a b. rw (lower_same i (omega arith), upper_same i (omega arith)) refl)
        (λ i a b. rw (lower_same i (omega arith), upper_same i (omega arith), placed_same i (omega arith)) refl)
        alike.tensor_agrees
        ∙ value_in_ext g' tensor' cells (quick_cell_of g' (at coordinates)) (placed_on g' (at coordinates)) cells_same

    labels_same : quick_labels g coordinates ≡ quick_labels g' coordinates
    unfolding quick_labels
    labels_same = table_ext 4 _ _ (λ i l. go i (ltb i axes) refl)
      where
        go : (i : ℕ) (b : Bool) → ltb i axes ≡ b → cond b (cells i) 0 ≡ cond b (quick_cell_of g' (at coordinates) i) 0
        go i true e = cells_same i (ltb-true i axes e)
        go i false e = refl

    refusal_same : quick_query_refusal g tensor coordinates ≡ quick_query_refusal g' tensor' coordinates
    unfolding quick_query_refusal
    refusal_same =
        rw (
          alike.knots_count,
          alike.tensor_count,
          value_same,
          any_ext (λ i. found_cell_refused (knots g i) (cells i))
              (λ i. found_cell_refused (knots g' i) (quick_cell_of g' (at coordinates) i)) axes refused_same,
          any_ext (λ i. outside_refused (mode_at g i) (side (knots g i) (at coordinates i)))
              (λ i. outside_refused (mode_at g i) (side (knots g' i) (at coordinates i))) axes
              (λ i l. ap (outside_refused (mode_at g i)) (side_same i l)),
        )
        refl

    -- refusal, value and labels are the same: nothing else can matter
    pub quick_reads : quick_query_answer g tensor coordinates ≡ quick_query_answer g' tensor' coordinates
    unfolding quick_query_answer
    quick_reads = cc (refusal_same, value_same, labels_same)
