-- The chapter Extended of docs/RULES.md: the queries where every axis in use extends, said without modes and sides.
use Rattle.std.proofs.Math.Bool.{cond}
use Rattle.std.specs.Prelude.{◌||◌, List, ℕ, Float}
use Rattle.rules.specs.Numbers.{at}
use Rattle.rules.specs.Sizes.{Grid}
use Rattle.rules.specs.Refusals.{
  axes_refused,
  some_points_refused,
  tensor_refused,
  some_number_refused,
  some_knots_refused,
  some_found_cell_refused,
  answer_refused,
}
use Rattle.rules.specs.Even.{some_uneven_refused, uneven_axis, uneven_interval, direct_cell_of}
use Rattle.rules.specs.Query.{value_in, query, quick_cell_of, quick_query}
use Rattle.rules.specs.Calls.{answer_of, labels_of, query_lengths_refused, labels, quick_labels}
use Rattle.rules.specs.EvenCalls.{even_answer_of}
use Rattle.rules.specs.Answers.{QueryAnswer, EvenAnswer}

module _ (g : Grid) (tensor_lent coordinates : List Float) where
  -- the query's refusal, the first of 1 2 3 4 7 8 10 that applies
  unfoldable pub extended_query_refusal : ℕ
  unfolding query
  extended_query_refusal =
      cond (axes_refused g) 1
      (cond (some_points_refused g) 2
      (cond (tensor_refused g) 3
      (cond (query_lengths_refused g tensor_lent coordinates) 4
      (cond (some_number_refused g.flat_knots || some_number_refused coordinates) 7
      (cond (some_knots_refused g) 8
      (cond (answer_refused (query g tensor_lent (at coordinates))) 10 0))))))

  -- its answer
  unfoldable pub extended_query_answer : QueryAnswer
  unfolding extended_query_refusal labels
  extended_query_answer = answer_of extended_query_refusal (query g tensor_lent (at coordinates)) (labels g coordinates)

  -- the quick query's refusal, likewise
  unfoldable pub extended_quick_refusal : ℕ
  unfolding quick_cell_of quick_query
  extended_quick_refusal =
      cond (axes_refused g) 1
      (cond (some_points_refused g) 2
      (cond (tensor_refused g) 3
      (cond (query_lengths_refused g tensor_lent coordinates) 4
      (cond (some_number_refused coordinates) 7
      (cond (some_found_cell_refused g (quick_cell_of g (at coordinates))) 8
      (cond (answer_refused (quick_query g tensor_lent (at coordinates))) 10 0))))))

  -- its answer
  unfoldable pub extended_quick_answer : QueryAnswer
  unfolding extended_quick_refusal quick_labels
  extended_quick_answer = answer_of extended_quick_refusal (quick_query g tensor_lent (at coordinates)) (quick_labels g coordinates)

  -- the value of the query of even axes: in the direct cell of the coordinates as they are given
  unfoldable pub extended_even_value : Float
  unfolding value_in direct_cell_of
  extended_even_value = value_in g tensor_lent (direct_cell_of g (at coordinates)) (at coordinates)

  -- its refusal, the first of 1 2 3 4 7 8 21 10 that applies
  unfoldable pub extended_even_refusal : ℕ
  unfolding extended_even_value
  extended_even_refusal =
      cond (axes_refused g) 1
      (cond (some_points_refused g) 2
      (cond (tensor_refused g) 3
      (cond (query_lengths_refused g tensor_lent coordinates) 4
      (cond (some_number_refused g.flat_knots || some_number_refused coordinates) 7
      (cond (some_knots_refused g) 8
      (cond (some_uneven_refused g) 21
      (cond (answer_refused extended_even_value) 10 0)))))))

  -- its answer
  unfoldable pub extended_even_answer : EvenAnswer
  unfolding extended_even_refusal uneven_axis uneven_interval
  extended_even_answer =
      even_answer_of extended_even_refusal extended_even_value (labels_of g (direct_cell_of g (at coordinates)))
      (uneven_axis g) (uneven_interval g)
