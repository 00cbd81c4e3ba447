-- What is answered where a point was looked for on the axes: the first refusal that applies, or the value in the cell that was found, and
-- the cell as labels.
use native.Mathlib.Omega.{arith}
use mathlib.Core.Path.{◌≡◌, refl, sym, ◌∙◌}
use mathlib.Core.Logic.{◌≢◌}
use mathlib.Core.Bool.{Bool, true, false, cond}
use mathlib.Core.List.{List}
use Prim.Native.Nat.{ℕ, zero, suc, ◌<◌}
use native.Mathlib.Nat.{zero-add}
use lib.Dec.{ltb}
use lib.Ieee.{Float}
use lib.Ieee.Scale.{finite}
use borrow.Author.Tests.{ltb-true, ltb-false}
use Rattle.rules.specs.Numbers.{at}
use Rattle.rules.specs.Sizes.{most_axes, Grid, points, knots, Place, place_of, flat}
use Rattle.rules.specs.Steps.{h}
use Rattle.rules.specs.Refusals.{some_number_refused, answer_refused}
use Rattle.rules.specs.Outside.{placed_on}
use Rattle.rules.specs.Query.{cell, fraction, value_in}
use Rattle.rules.specs.Calls.{labels_of, answer_of}
use Rattle.rules.specs.declared.Axis.{Axis}
use Rattle.rules.specs.Answers.{QueryAnswer}
use Rattle.rules.proofs.Tables.{table_is}
use Rattle.rules.proofs.Cells.{blend_ext, value_in_ext}
use Rattle.grid.specs.GridOfCall.{grid}
use Rattle.query_blend.specs.Blend.{WeightsOn}
use Rattle.query_cell.specs.Points.{CellAt, blended}
use Rattle.query_answer.specs.PointsAndModes.{AxesOf, QueryFits}
use Rattle.query_answer.specs.CellsFound.{cells_by, FoundOn, FoundAmong}
use Rattle.query_answer.specs.AnswerByWay.{
  refused_with,
  answer_in,
  knots_refusal,
  refusal_found,
  value_by,
  refusal_by,
  AnswerAmong,
}
use Rattle.query_answer.specs.declared.ways.Way.{Way}
use Rattle.query_answer.specs.declared.ways.Way.TheVariants.{Walked, Searched, Direct, Divided}
use Rattle.query_answer.specs.declared.searched.Refusals.{Refusals}

-- ---- the answer in a cell

module _ (value : Float) (lower : List ℕ) {tested : Bool} (is : tested ≡ finite value) where
  pub accepted : tested ≡ true → record { refusal = 0; value = value; labels = lower } ≡ answer_in value lower
  accepted e = rw (← is, e) refl

  pub not_accepted : tested ≡ false → refused_with 10 ≡ answer_in value lower
  not_accepted e = rw (← is, e) refl

-- ---- refusals

-- a refusal leaves nothing but its number
pub refused_is : (refusal number : ℕ) (value : Float) (labels : List ℕ) → refusal ≡ number → number ≢ 0
    → refused_with number ≡ answer_of refusal value labels
refused_is refusal zero value labels e some = absurd (some refl)
refused_is refusal (suc number) value labels e some = rw e refl

pub seven_or_eight : (not-Finite : Bool) → cond {A = ℕ} not-Finite 7 8 ≢ 0
seven_or_eight true z = omega arith
seven_or_eight false z = omega arith

some_refusal : (way : Way) (x : List Float) → knots_refusal way x ≢ 0
some_refusal Walked x z = seven_or_eight (some_number_refused x) z
some_refusal Searched x z = omega arith
some_refusal Direct x z = omega arith
some_refusal Divided x z = omega arith

-- what was found refuses, whatever the value would be
found_some : (seven eight eighteen : Bool) (by_knots by_value number : ℕ) → number ≡ cond seven 7 (cond eight by_knots (cond eighteen 18 0))
    → number ≢ 0 → cond seven 7 (cond eight by_knots (cond eighteen 18 by_value)) ≡ number
found_some true eight eighteen by_knots by_value number is some = sym is
found_some false true eighteen by_knots by_value number is some = sym is
found_some false false true by_knots by_value number is some = sym is
found_some false false false by_knots by_value number is some = absurd (some is)

-- or nothing does, and the value decides
found_none : (seven eight eighteen : Bool) (by_knots by_value number : ℕ) → number ≡ cond seven 7 (cond eight by_knots (cond eighteen 18 0))
    → number ≡ 0 → by_knots ≢ 0 → cond seven 7 (cond eight by_knots (cond eighteen 18 by_value)) ≡ by_value
found_none true eight eighteen by_knots by_value number is none some = absurd (omega (arith, is, none))
found_none false true eighteen by_knots by_value number is none some = absurd (some (sym is ∙ none))
found_none false false true by_knots by_value number is none some = absurd (omega (arith, is, none))
found_none false false false by_knots by_value number is none some = refl

-- ---- one number for a place on axes of the same points

same_flat : (u v : ℕ → ℕ) (d : ℕ) (p : Place) → ((k : ℕ) → k < d → u k ≡ v k) → flat u d p ≡ flat v d p
unfolding flat
same_flat u v zero p same = refl
same_flat u v (suc d) p same = cc (same_flat u v d p (λ k l. same k (omega arith)), same d (omega arith))

-- ---- the answers

module _ (way : Way) (axes : ℕ) (points_in modes_in : List ℕ) (x tensor coordinates : List Float)
    (fits : QueryFits axes points_in modes_in x tensor coordinates)
    (lower : List ℕ) (weights : List Float) (r : Refusals)
    (found : FoundAmong way axes points_in modes_in x coordinates lower weights r) where
  module _ (all : List Axis) (are : AxesOf axes points_in modes_in all) where
    abbrev g : Grid
    g = grid axes all x

    on : FoundOn way g coordinates axes lower weights r
    on = found.on all are

    -- the refusal by what was told
    abbrev told : Bool → Bool → Bool → ℕ
    told seven eight eighteen =
        cond seven 7 (cond eight (knots_refusal way x) (cond eighteen 18 (cond (answer_refused (value_by way g tensor coordinates)) 10 0)))

    refusal_is : refusal_by way g tensor coordinates ≡ told r.coordinates r.knots r.outside
    refusal_is = rw (on.coordinates_refused, on.knots_refused, on.outside_refused, fits.search_fits.coordinates_exact) refl

    -- the value by the weights is that of the cell
    abbrev width : ℕ → Float
    width i = h (knots g i) (place_of lower i)

    abbrev fraction_there : ℕ → Float
    fraction_there i = fraction (knots g i) (place_of lower i) (placed_on g (at coordinates) i)

    weights_on : WeightsOn axes 0 width fraction_there weights
    weights_on a l = rw (zero-add a) (on.weighted a l)

    value_same : blended axes (place_of points_in) (place_of lower) width fraction_there tensor ≡ value_by way g tensor coordinates
    unfolding value_in cell
    value_same =
        blend_ext axes 0 _ _ _ _ _ _
        (λ i a b. refl)
        (λ i a b. refl)
        (λ e b. rw (same_flat (place_of points_in) (points g) axes _ (λ k l. sym (are.points_are k l))) refl)
        ∙ value_in_ext g tensor (place_of lower) (cells_by way g coordinates) (placed_on g (at coordinates)) on.found

    labels_are : lower ≡ labels_of g (cells_by way g coordinates)
    labels_are = table_is 0 lower most_axes _ found.placed.four (λ i few. go i few (ltb i axes) refl)
      where
        go : (i : ℕ) → i < most_axes → (b : Bool) → ltb i axes ≡ b → place_of lower i ≡ cond b (cells_by way g coordinates i) 0
        go i few true e = on.found i (ltb-true i axes e)
        go i few false e = found.placed.unused i (ltb-false i axes e) few

    refused_by : (number : ℕ) → refusal_by way g tensor coordinates ≡ number → number ≢ 0 → (a : QueryAnswer) → a ≡ refused_with number
        → a ≡ answer_of (refusal_by way g tensor coordinates) (value_by way g tensor coordinates) (labels_of g (cells_by way g coordinates))
    refused_by number e some a is = is ∙ refused_is _ number _ _ e some

  module _ (number : ℕ) (which : number ≡ refusal_found way x r) where
    -- what was found refuses the point
    pub found_refuses : number ≢ 0 → (a : QueryAnswer) → a ≡ refused_with number
        → AnswerAmong way axes points_in modes_in x tensor coordinates a
    found_refuses some a is all are = record {
      answer = refused_by all are number
          (refusal_is all are ∙ found_some r.coordinates r.knots r.outside (knots_refusal way x) _ number which some) some a is;
      rising = (on all are).rising;
    }

    -- nothing does: the cell is evaluated
    pub cell_answers :
        number ≡ 0 → (v : Float)
        → ((widths ts : ℕ → Float) → WeightsOn axes 0 widths ts weights
        → v ≡ blended axes (place_of points_in) (place_of lower) widths ts tensor)
        → (a : QueryAnswer) → a ≡ answer_in v lower → AnswerAmong way axes points_in modes_in x tensor coordinates a
    cell_answers none v worked a is all are =
        let value : v ≡ value_by way (grid axes all x) tensor coordinates =
        worked (width all are) (fraction_there all are) (weights_on all are) ∙ value_same all are in
        let decided : refusal_by way (grid axes all x) tensor coordinates
        ≡ cond (answer_refused (value_by way (grid axes all x) tensor coordinates)) 10 0 =
        refusal_is all are
        ∙ found_none r.coordinates r.knots r.outside (knots_refusal way x) _ number which none (some_refusal way x) in
        record {
          answer = is ∙ rw (decided, value, ← labels_are all are) refl;
          rising = (on all are).rising;
        }

  -- the cell can be evaluated
  pub cell_fits : CellAt axes (place_of points_in) (place_of lower)
  cell_fits = record {
    some_axes = fits.search_fits.in_range.some_axes;
    few_axes = fits.search_fits.in_range.few_axes;
    small = fits.small;
    upper = found.placed.inside;
  }
