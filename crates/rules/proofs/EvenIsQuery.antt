-- Where every axis is even and the direct cells are those that the query evaluates, the query of even axes answers as the query does, with
-- axis and interval 0.
use mathlib.Core.Path.{◌≡◌, refl, ◌∙◌}
use mathlib.Core.Bool.{Bool, true, false, cond}
use mathlib.Core.List.{List}
use Prim.Native.Nat.{ℕ}
use native.Mathlib.Omega.{arith}
use lib.Dec.{eqb, ltb}
use lib.Ieee.{Float}
use borrow.Author.Tests.{eqb-true, ltb-true}
use Rattle.rules.specs.Numbers.{at}
use Rattle.rules.specs.Sizes.{Grid}
use Rattle.rules.specs.Outside.{placed_on}
use Rattle.rules.specs.Even.{some_uneven_refused}
use Rattle.rules.specs.Query.{cell_of, query_in_modes, even_cell_of, even_query}
use Rattle.rules.specs.Calls.{answer_of, labels, query_refusal, query_answer}
use Rattle.rules.specs.EvenCalls.{told_of_uneven, even_answer_of, nothing_told, even_query_refusal, even_labels, even_query_answer}
use Rattle.rules.proofs.Places.{One}
use Rattle.rules.proofs.Cells.{value_in_ext, labels_ext}

-- whether a number is below 21, of the one of two that a test gives
tested : (test : Bool) (one other : ℕ) → ltb (cond test one other) 21 ≡ cond test (ltb one 21) (ltb other 21)
tested true one other = refl
tested false one other = refl

either : (test : Bool) → cond test true true ≡ true
either true = refl
either false = refl

-- nothing is told beside another refusal than 21
not_told : (refusal number : ℕ) → (refusal ≡ 21 → ⊥) → told_of_uneven refusal number ≡ 0
not_told refusal number other = go (eqb refusal 21) refl
  where
    go : (b : Bool) → eqb refusal 21 ≡ b → cond b number 0 ≡ 0
    go true e = absurd (other (eqb-true refusal 21 e))
    go false e = refl

-- so the rest is a query's answer
pub answers_as_query : (refusal : ℕ) (value : Float) (labels : List ℕ) (axis interval : ℕ) → (refusal ≡ 21 → ⊥)
    → even_answer_of refusal value labels axis interval ≡ nothing_told (answer_of refusal value labels)
answers_as_query refusal value labels axis interval other = rw (not_told refusal axis other, not_told refusal interval other) refl

module _ (g : Grid) (tensor coordinates : List Float) where
  -- no number of the query is as large as 21, in whatever order they come
  below_21 : ltb (query_refusal g tensor coordinates) 21 ≡ true
  unfolding query_refusal
  below_21 = simp (tested, either)

  query_never_21 : query_refusal g tensor coordinates ≡ 21 → ⊥
  query_never_21 z = omega (arith, ltb-true (query_refusal g tensor coordinates) 21 below_21, z)

  module _ (even : some_uneven_refused g ≡ false)
      (agree : One g.axes (even_cell_of g (at coordinates)) (cell_of g (at coordinates))) where
    same_value : even_query g tensor (at coordinates) ≡ query_in_modes g tensor (at coordinates)
    unfolding even_query query_in_modes
    same_value = value_in_ext g tensor (even_cell_of g (at coordinates)) (cell_of g (at coordinates)) (placed_on g (at coordinates)) agree

    same_refusal : even_query_refusal g tensor coordinates ≡ query_refusal g tensor coordinates
    unfolding even_query_refusal query_refusal
    same_refusal = rw (even, same_value) refl

    same_labels : even_labels g tensor coordinates ≡ labels g coordinates
    unfolding even_labels labels
    same_labels = labels_ext g (even_cell_of g (at coordinates)) (cell_of g (at coordinates)) agree

    pub even_is_query_where_cells_agree : even_query_answer g tensor coordinates ≡ nothing_told (query_answer g tensor coordinates)
    unfolding even_query_answer query_answer
    even_is_query_where_cells_agree =
        answers_as_query (even_query_refusal g tensor coordinates) _ _ _ _ (rw same_refusal query_never_21)
        ∙ rw (same_refusal, same_value, same_labels) refl
