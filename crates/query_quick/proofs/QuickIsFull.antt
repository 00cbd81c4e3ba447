-- On knots that the query does not refuse the quick query gives its whole answer: refusal, value and labels. The numbers are those that an
-- f64 holds, as every slice's are.
use native.Mathlib.Omega.{arith}
use mathlib.Core.Path.{◌≡◌, refl, ap, ◌∙◌}
use mathlib.Core.Bool.{Bool, true, false, cond, ◌||◌}
use mathlib.Core.List.{List, [], ◌∷◌, ◌++◌}
use Prim.Native.Nat.{ℕ, zero, suc, ◌+◌, ◌<◌}
use lib.Dec.{T}
use lib.ListN.{length}
use lib.Ieee.{Float, binary64, fits}
use lib.Ieee.Fits.{nan-fits}
use lib.Ieee.Scale.{finite}
use borrow.Author.Tests.{not-false}
use Rattle.rules.specs.Numbers.{at, table, table_from}
use Rattle.rules.specs.Sizes.{Grid, points, knots, sum_below, knots_length, tensor_length}
use Rattle.rules.specs.Refusals.{
  length_refused,
  number_refused,
  some_number_refused,
  knots_refused,
  some_knots_refused,
  found_cell_refused,
  some_found_cell_refused,
  answer_refused,
}
use Rattle.rules.specs.Outside.{placed_on, some_outside_refused}
use Rattle.rules.specs.Query.{cell_of, quick_cell_of, query_in_modes, quick_query_in_modes}
use Rattle.rules.specs.Calls.{
  or_else,
  answer_of,
  query_refusal,
  labels,
  query_answer,
  quick_query_refusal,
  quick_labels,
  quick_query_answer,
}
use Rattle.rules.proofs.Cells.{value_in_ext, labels_ext}
use Rattle.rules.proofs.Halving.{quick_cell_inside}
use Rattle.base_numbers.proofs.Scan.{neither, any_at, any_never}
use Rattle.base_floats.specs.Place.{AllFit}
use Rattle.base_floats.proofs.Parts.{part_fits}
use Rattle.grid.specs.GridOfCall.{InRange}
use Rattle.grid_checks.specs.Check.{sizes_rows}
use Rattle.grid_checks.specs.Tables.{Refusal, row, lowest}
use Rattle.grid_checks.proofs.Rows.{rows_then, none_applies, axes_few, in_range, exact_3}
use Rattle.axis_locate.specs.CellFound.{Rising}
use Rattle.axis_locate.proofs.Among.{lower_index_is_locate}
use Rattle.query_answer.proofs.Accepted.{rising_on_axis, cell_accepted}

-- the knots of each axis fit
pub axis_fits : (g : Grid) → AllFit g.flat_knots → (i : ℕ) → AllFit (knots g i)
axis_fits g knots_fit i = part_fits g.flat_knots (sum_below (points g) i) (points g i) knots_fit

-- a table fits whose every number does
pub table_fits : (n : ℕ) (f : ℕ → Float) → ((k : ℕ) → T (fits binary64 (f k))) → AllFit (table n f)
table_fits n f each = from n 0
  where
    from : (n a : ℕ) → AllFit (table_from n a f)
    from zero a k = nan-fits binary64
    from (suc n) a zero = each a
    from (suc n) a (suc k) = from n (suc a) k

-- a refusal leaves nothing of the value and the labels
refused_alike : {r r' n : ℕ} (v v' : Float) (l l' : List ℕ) → r ≡ suc n → r' ≡ suc n → answer_of r v l ≡ answer_of r' v' l'
refused_alike v v' l l' e f = rw (e, f) refl

module _ (g : Grid) (tensor coordinates : List Float) (knots_fit : AllFit g.flat_knots) (coordinates_fit : AllFit coordinates) where
  -- the rows that both have first
  abbrev first_rows : List Refusal
  first_rows =
      sizes_rows g ++ (
      row 4
      (length_refused (length g.flat_knots) (knots_length g) || length_refused (length tensor) (tensor_length g)
      || length_refused (length coordinates) g.axes)
      ∷ []
      )

  abbrev early : ℕ
  early = lowest first_rows 0

  abbrev full_later : ℕ
  full_later =
      cond (some_number_refused g.flat_knots || some_number_refused coordinates) 7
      (cond (some_knots_refused g) 8
      (cond (some_outside_refused g (at coordinates)) 18 (cond (answer_refused (query_in_modes g tensor (at coordinates))) 10 0)))

  abbrev quick_later : ℕ
  quick_later =
      cond (some_number_refused coordinates) 7
      (cond (some_found_cell_refused g (quick_cell_of g (at coordinates))) 8
      (cond (some_outside_refused g (at coordinates)) 18 (cond (answer_refused (quick_query_in_modes g tensor (at coordinates))) 10 0)))

  full_is : query_refusal g tensor coordinates ≡ or_else early full_later
  unfolding query_refusal
  full_is = rows_then first_rows full_later tt

  quick_is : quick_query_refusal g tensor coordinates ≡ or_else early quick_later
  unfolding quick_query_refusal
  quick_is = rows_then first_rows quick_later tt

  -- ---- they refuse early

  early_alike : (n : ℕ) → early ≡ suc n → quick_query_answer g tensor coordinates ≡ query_answer g tensor coordinates
  unfolding quick_query_answer query_answer
  early_alike n e =
      refused_alike _ _ _ _ (quick_is ∙ ap (λ (k : ℕ). or_else k quick_later) e) (full_is ∙ ap (λ (k : ℕ). or_else k full_later) e)

  -- ---- they do not

  module _ (none : early ≡ 0) (numbers : some_number_refused g.flat_knots ≡ false) (rise : some_knots_refused g ≡ false) where
    range : InRange g.axes (points g)
    range =
        let rows = none_applies first_rows tt none in
        let count = axes_few {axes = g.axes} rows.0 in
        in_range count.0 count.1 rows.1.0

    lengths : (length g.flat_knots ≡ knots_length g) × (length tensor ≡ tensor_length g) × (length coordinates ≡ g.axes)
    lengths =
        exact_3 (length g.flat_knots) (knots_length g) (length tensor) (tensor_length g) (length coordinates) g.axes
        (none_applies first_rows tt none).1.1.1.0

    both_7 : some_number_refused coordinates ≡ true → quick_query_answer g tensor coordinates ≡ query_answer g tensor coordinates
    unfolding quick_query_answer query_answer
    both_7 e = refused_alike {n = 6} _ _ _ _ (quick_is ∙ rw (none, e) refl) (full_is ∙ rw (none, numbers, e) refl)

    module _ (finite_point : some_number_refused coordinates ≡ false) where
      module _ (i : ℕ) (lt : i < g.axes) where
        rising : Rising (knots g i) (points g i)
        rising = rising_on_axis g lengths.0 numbers i lt (any_at (λ j. knots_refused (knots g j) (points g j)) g.axes rise i lt)

        point_finite : finite (at coordinates i) ≡ true
        point_finite =
            not-false _ (any_at (λ j. number_refused (at coordinates j)) (length coordinates) finite_point i (omega (arith, lengths.2)))

        cell_same : quick_cell_of g (at coordinates) i ≡ cell_of g (at coordinates) i
        unfolding quick_cell_of cell_of
        cell_same =
            lower_index_is_locate (knots g i) (at coordinates i) (points g i) rising (axis_fits g knots_fit i)
            (record { fits = coordinates_fit i; finite = point_finite })
            (range.some_points i lt) (range.few_points i lt)

        cell_below : quick_cell_of g (at coordinates) i + 1 < points g i
        unfolding quick_cell_of
        cell_below = omega (arith, quick_cell_inside (knots g i) (at coordinates i), rising.count, range.some_points i lt)

        found_fine : found_cell_refused (knots g i) (quick_cell_of g (at coordinates) i) ≡ false
        found_fine =
            cell_accepted g lengths.0 numbers i lt (any_at (λ j. knots_refused (knots g j) (points g j)) g.axes rise i lt)
            (quick_cell_of g (at coordinates) i) cell_below

      none_found : some_found_cell_refused g (quick_cell_of g (at coordinates)) ≡ false
      none_found = any_never (λ i. found_cell_refused (knots g i) (quick_cell_of g (at coordinates) i)) g.axes found_fine

      value_same : quick_query_in_modes g tensor (at coordinates) ≡ query_in_modes g tensor (at coordinates)
      unfolding quick_query_in_modes query_in_modes
      value_same =
          value_in_ext g tensor (quick_cell_of g (at coordinates)) (cell_of g (at coordinates)) (placed_on g (at coordinates)) cell_same

      labels_same : quick_labels g coordinates ≡ labels g coordinates
      unfolding quick_labels labels
      labels_same = labels_ext g (quick_cell_of g (at coordinates)) (cell_of g (at coordinates)) cell_same

      refusal_same : quick_query_refusal g tensor coordinates ≡ query_refusal g tensor coordinates
      refusal_same = rw (quick_is, full_is, none, finite_point, none_found, value_same, numbers, rise) refl

      both_answer : quick_query_answer g tensor coordinates ≡ query_answer g tensor coordinates
      unfolding quick_query_answer query_answer
      both_answer = cc (refusal_same, value_same, labels_same)

    later_alike : (b : Bool) → some_number_refused coordinates ≡ b
        → quick_query_answer g tensor coordinates ≡ query_answer g tensor coordinates
    later_alike true e = both_7 e
    later_alike false e = both_answer e

  -- where the knots are finite and rise by finite steps, whatever else is given
  pub quick_is_full : some_number_refused g.flat_knots ≡ false → some_knots_refused g ≡ false
      → quick_query_answer g tensor coordinates ≡ query_answer g tensor coordinates
  quick_is_full numbers rise = go early refl
    where
      go : (n : ℕ) → early ≡ n → quick_query_answer g tensor coordinates ≡ query_answer g tensor coordinates
      go zero e = later_alike e numbers rise (some_number_refused coordinates) refl
      go (suc n) e = early_alike n e

  -- so wherever the query refuses neither by 7 nor by 8
  pub quick_is_full_unless_refused : (query_refusal g tensor coordinates ≡ 7 → ⊥) → (query_refusal g tensor coordinates ≡ 8 → ⊥)
      → quick_query_answer g tensor coordinates ≡ query_answer g tensor coordinates
  quick_is_full_unless_refused not_7 not_8 = go early refl
    where
      seven : early ≡ 0 → (b : Bool) → (some_number_refused g.flat_knots || some_number_refused coordinates) ≡ b → b ≡ false
      seven e true f = absurd (not_7 (full_is ∙ rw (e, f) refl))
      seven e false f = refl

      eight : early ≡ 0 → (some_number_refused g.flat_knots || some_number_refused coordinates) ≡ false → (b : Bool)
          → some_knots_refused g ≡ b → b ≡ false
      eight e f true h = absurd (not_8 (full_is ∙ rw (e, f, h) refl))
      eight e f false h = refl

      go : (n : ℕ) → early ≡ n → quick_query_answer g tensor coordinates ≡ query_answer g tensor coordinates
      go zero e =
          let f = seven e (some_number_refused g.flat_knots || some_number_refused coordinates) refl in
          quick_is_full (neither (some_number_refused g.flat_knots) (some_number_refused coordinates) f).0
          (eight e f (some_knots_refused g) refl)
      go (suc n) e = early_alike n e
