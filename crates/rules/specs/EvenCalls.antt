-- The chapter EvenCalls of docs/RULES.md: the refusal of the query of even axes, and its answer.
use Rattle.std.specs.Prelude.{◌≡◌, ◌||◌, List, ℕ, eqb, Float}
use Rattle.std.proofs.Math.Bool.{cond}
use Rattle.rules.specs.Numbers.{at}
use Rattle.rules.specs.Sizes.{Grid}
use Rattle.rules.specs.Refusals.{
  axes_refused,
  some_points_refused,
  tensor_refused,
  some_number_refused,
  some_knots_refused,
  answer_refused,
}
use Rattle.rules.specs.Outside.{some_outside_refused}
use Rattle.rules.specs.Even.{some_uneven_refused, uneven_axis, uneven_interval}
use Rattle.rules.specs.Query.{even_cell_of, even_query}
use Rattle.rules.specs.Calls.{answered, labelled, labels_of, query_lengths_refused}
use Rattle.rules.specs.Answers.{QueryAnswer, EvenAnswer}

-- what is told of an axis that is not even: 0 where the refusal is not 21
abbrev pub told_of_uneven : ℕ → ℕ → ℕ
told_of_uneven refusal number = cond (eqb refusal 21) number 0

-- what the query of even axes answers of its refusal, value, labels, axis and interval
abbrev pub even_answer_of : ℕ → Float → List ℕ → ℕ → ℕ → EvenAnswer
even_answer_of refusal value labels axis interval = record {
  refusal = refusal;
  value = answered refusal value;
  labels = labelled refusal labels;
  axis = told_of_uneven refusal axis;
  interval = told_of_uneven refusal interval;
}

-- what it answers where nothing is told: a query's answer, with axis and interval 0
abbrev pub nothing_told : QueryAnswer → EvenAnswer
nothing_told answer = record {
  refusal = answer.refusal;
  value = answer.value;
  labels = answer.labels;
  axis = 0;
  interval = 0;
}

module _ (g : Grid) (tensor_lent coordinates : List Float) where
  -- its refusal, the first of 1 2 3 4 7 8 21 18 10 that applies: an axis that is not even comes before a coordinate outside
  unfoldable pub even_query_refusal : ℕ
  unfolding even_query
  even_query_refusal =
      cond (axes_refused g) 1
      (cond (some_points_refused g) 2
      (cond (tensor_refused g) 3
      (cond (query_lengths_refused g tensor_lent coordinates) 4
      (cond (some_number_refused g.flat_knots || some_number_refused coordinates) 7
      (cond (some_knots_refused g) 8
      (cond (some_uneven_refused g) 21
      (cond (some_outside_refused g (at coordinates)) 18
      (cond (answer_refused (even_query g tensor_lent (at coordinates))) 10 0))))))))

  -- its labels: the cells that are evaluated
  unfoldable pub even_labels : List ℕ
  unfolding even_cell_of
  even_labels = labels_of g (even_cell_of g (at coordinates))

  -- its answer: the refusal, the value, the labels, and of an axis that is not even which it is and where
  unfoldable pub even_query_answer : EvenAnswer
  unfolding even_query_refusal even_labels uneven_axis uneven_interval
  even_query_answer =
      even_answer_of even_query_refusal (even_query g tensor_lent (at coordinates)) even_labels (uneven_axis g) (uneven_interval g)

  -- what it promises: the answer
  pub record EvenQueryPromise (given : EvenAnswer) : Type 0 where
    pub answer : given ≡ even_query_answer
