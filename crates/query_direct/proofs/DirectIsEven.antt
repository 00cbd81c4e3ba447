-- On axes that the query of even axes accepts the direct query gives its whole answer: refusal, value and labels, with axis and interval 0.
use native.Mathlib.Omega.{arith}
use mathlib.Core.Path.{◌≡◌, refl, sym, ap, ◌∙◌}
use mathlib.Core.Logic.{◌≢◌}
use mathlib.Core.Bool.{Bool, true, false, cond}
use mathlib.Core.List.{List}
use Prim.Native.Nat.{ℕ, ◌+◌, ◌<◌}
use lib.Ieee.{Float}
use Rattle.rules.specs.Numbers.{at}
use Rattle.rules.specs.Sizes.{Grid, points, knots}
use Rattle.rules.specs.Steps.{h}
use Rattle.rules.specs.Refusals.{
  axes_refused,
  some_points_refused,
  tensor_refused,
  some_number_refused,
  knots_refused,
  some_knots_refused,
  found_cell_refused,
  some_found_cell_refused,
  answer_refused,
}
use Rattle.rules.specs.Outside.{placed_on, some_outside_refused}
use Rattle.rules.specs.Even.{some_uneven_refused, direct_cell_of}
use Rattle.rules.specs.Query.{even_cell_of, even_query}
use Rattle.rules.specs.Calls.{answer_of, query_lengths_refused}
use Rattle.rules.specs.EvenCalls.{nothing_told, even_query_refusal, even_labels, even_query_answer}
use Rattle.rules.proofs.EvenAxes.{direct_cell_inside}
use Rattle.rules.proofs.EvenIsQuery.{answers_as_query}
use Rattle.base_numbers.proofs.Scan.{any_at, any_never}
use Rattle.query_answer.proofs.Accepted.{cell_accepted}
use Rattle.query_answer.proofs.Held.{Stands, stands_then}
use Rattle.query_direct.specs.DirectCalls.{direct_labels, direct_query_refusal, direct_query_answer}

-- two refusals that begin with one test
under : (test : Bool) (number : ℕ) {later later' : ℕ} → (test ≡ false → later ≡ later') → cond test number later ≡ cond test number later'
under true number same = refl
under false number same = same refl

-- a refusal is another number than 21 where both of its outcomes are
other_than_21 : (test : Bool) {number later : ℕ} → number ≢ 21 → later ≢ 21 → cond test number later ≢ 21
other_than_21 true first second = first
other_than_21 false first second = second

module _ (g : Grid) (tensor coordinates : List Float) where
  abbrev cells : ℕ → ℕ
  cells = even_cell_of g (at coordinates)

  -- the direct query has no 21
  never_21 : direct_query_refusal g tensor coordinates ≢ 21
  unfolding direct_query_refusal
  never_21 =
      other_than_21 (axes_refused g) (λ z. omega arith)
      (other_than_21 (some_points_refused g) (λ z. omega arith)
      (other_than_21 (tensor_refused g) (λ z. omega arith)
      (other_than_21 (query_lengths_refused g tensor coordinates) (λ z. omega arith)
      (other_than_21 (some_number_refused coordinates) (λ z. omega arith)
      (other_than_21 (some_found_cell_refused g cells) (λ z. omega arith)
      (other_than_21 (some_outside_refused g (at coordinates)) (λ z. omega arith)
      (other_than_21 (answer_refused (even_query g tensor (at coordinates))) (λ z. omega arith) (λ z. omega arith))))))))

  -- a direct cell lies on its axis
  inside : Stands g coordinates → (i : ℕ) → i < g.axes → cells i + 1 < points g i
  unfolding even_cell_of direct_cell_of
  inside stands i l =
      omega (
        arith,
        direct_cell_inside (at (knots g i) 0) (h (knots g i) 0) (points g i) (placed_on g (at coordinates) i),
        stands.range.some_points i l,
      )

  -- the knots are finite and rise by finite steps, and every axis is even
  module _ (numbers : some_number_refused g.flat_knots ≡ false) (rise : some_knots_refused g ≡ false)
      (even : some_uneven_refused g ≡ false) where
    none_found :
        axes_refused g ≡ false → some_points_refused g ≡ false → query_lengths_refused g tensor coordinates ≡ false
        → some_found_cell_refused g cells ≡ false
    none_found few fine long =
        let stands = stands_then g tensor coordinates few fine long numbers in
        any_never (λ i. found_cell_refused (knots g i) (cells i)) g.axes λ i l.
        cell_accepted g stands.knots_exact numbers i l
        (any_at (λ j. knots_refused (knots g j) (points g j)) g.axes rise i l) (cells i) (inside stands i l)

    refusal_same : direct_query_refusal g tensor coordinates ≡ even_query_refusal g tensor coordinates
    unfolding direct_query_refusal even_query_refusal
    refusal_same =
        under (axes_refused g) 1 λ few.
        under (some_points_refused g) 2 λ fine.
        under (tensor_refused g) 3 λ small.
        under (query_lengths_refused g tensor coordinates) 4 λ long.
        rw (numbers, rise, even, none_found few fine long) refl

    pub direct_is_even : even_query_answer g tensor coordinates ≡ nothing_told (direct_query_answer g tensor coordinates)
    unfolding even_query_answer even_labels direct_query_answer direct_labels
    direct_is_even =
        answers_as_query (even_query_refusal g tensor coordinates) _ _ _ _ (λ z. never_21 (refusal_same ∙ z))
        ∙ ap (λ (refusal : ℕ). nothing_told (answer_of refusal (even_query g tensor (at coordinates)) (direct_labels g coordinates)))
        (sym refusal_same)
