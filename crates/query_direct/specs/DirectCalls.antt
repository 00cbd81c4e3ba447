-- The chapter DirectCalls of docs/RULES.md: the refusal of the direct query, its answer, and the knots that matter to it.
use Rattle.std.specs.Prelude.{◌≡◌, List, [], ◌∷◌, ℕ, ◌+◌, ◌-◌, Float}
use Rattle.rules.specs.Numbers.{at}
use Rattle.rules.specs.Sizes.{Grid}
use Rattle.rules.specs.Refusals.{some_number_refused, some_found_cell_refused, answer_refused}
use Rattle.rules.specs.Query.{even_cell_of, even_query}
use Rattle.rules.specs.Calls.{labels_of, answer_of, refusal_in_order}
use Rattle.rules.specs.declared.Mode.{Mode}
use Rattle.rules.specs.declared.Mode.TheVariants.{Extend, Hold, Refuse}
use Rattle.rules.specs.Answers.{QueryAnswer}

-- the labels: the direct cells of the coordinates where the modes place them, on any knots
unfoldable pub direct_labels : Grid → List Float → List ℕ
unfolding even_cell_of
direct_labels g coordinates = labels_of g (even_cell_of g (at coordinates))

module _ (g : Grid) (tensor_lent coordinates : List Float) where
  -- the direct query's refusal, the first of 1 2 3 4 7 8 18 10 that applies: 7 of the coordinates and 8 of the found cells alone
  unfoldable pub direct_query_refusal : ℕ
  unfolding even_cell_of even_query
  direct_query_refusal =
      refusal_in_order g tensor_lent coordinates (some_number_refused coordinates)
      (some_found_cell_refused g (even_cell_of g (at coordinates)))
      (answer_refused (even_query g tensor_lent (at coordinates)))

  -- its answer: the refusal, the value at the coordinates in those cells, and the labels
  unfoldable pub direct_query_answer : QueryAnswer
  unfolding direct_query_refusal direct_labels
  direct_query_answer = answer_of direct_query_refusal (even_query g tensor_lent (at coordinates)) (direct_labels g coordinates)

  -- what it promises: the answer
  pub record DirectQueryPromise (given : QueryAnswer) : Type 0 where
    pub answer : given ≡ direct_query_answer

-- ---- what is looked at

-- the last knot, where the mode is one that looks on which side of the knots a point lies
abbrev pub last_looked_at : Mode → ℕ → List ℕ
last_looked_at Extend last = []
last_looked_at Hold last = last ∷ []
last_looked_at Refuse last = last ∷ []

-- all knots of an axis of n points in this mode that matter where l is its cell: the first two, the two of the cell, and that last one
abbrev pub looked_at : Mode → ℕ → ℕ → List ℕ
looked_at mode n l = 0 ∷ 1 ∷ l ∷ (l + 1) ∷ last_looked_at mode (n - 1)
