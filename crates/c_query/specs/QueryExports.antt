-- The chapter QueryExports of docs/RULES.md: the exported queries, in the manner of CurveExports.
use Rattle.std.specs.Prelude.{◌≡◌, List, ℕ, Float}
use Rattle.rules.specs.Calls.{or_else, answered, counted, labelled, query_answer, quick_query_answer}
use Rattle.rules.specs.EvenCalls.{even_query_answer}
use Rattle.rules.specs.Answers.{EvenAnswer, QueryAnswer}
use Rattle.c_axes.specs.Axes.{grid_in_modes}
use Rattle.c_refusals.specs.OwnRefusals.{query_own_refusal, even_query_own_refusal}
use Rattle.c_refusals.specs.Slots.{QueryStored, EvenStored}

-- ---- the queries

-- what is promised of an export that gives a query's answer after its own refusal: the refusal, the value in its slot, the labels
pub record AnswerExport (own : ℕ) (given : QueryAnswer) (value_lent : List Float) (labels_lent : List ℕ) (refusal : ℕ)
    (value_later : List Float) (labels_later : List ℕ) : Type 0 where
  pub answer : refusal ≡ or_else own given.refusal
  pub answer_stored :
      QueryStored value_lent labels_lent
      (answered own given.value) (labelled own given.labels)
      value_later labels_later

module _ (axes : ℕ) (points modes : List ℕ) (knots tensor_lent coordinates value_lent : List Float) (labels_lent : List ℕ) where
  -- short names for what the promises are said by
  abbrev given_query_answer : QueryAnswer
  given_query_answer = query_answer (grid_in_modes axes points modes knots) tensor_lent coordinates

  abbrev given_quick_query_answer : QueryAnswer
  given_quick_query_answer = quick_query_answer (grid_in_modes axes points modes knots) tensor_lent coordinates

  abbrev query_own : ℕ
  query_own = query_own_refusal axes points modes knots tensor_lent coordinates value_lent labels_lent

  -- what is promised of the query, and of the quick query, which has the same slots and the same own refusal
  abbrev pub QueryExport : ℕ → List Float → List ℕ → Type 0
  QueryExport = AnswerExport query_own given_query_answer value_lent labels_lent

  abbrev pub QuickQueryExport : ℕ → List Float → List ℕ → Type 0
  QuickQueryExport = AnswerExport query_own given_quick_query_answer value_lent labels_lent

-- ---- the query of even axes

module _ (axes : ℕ) (points modes : List ℕ) (knots tensor_lent coordinates value_lent : List Float) (labels_lent uneven_lent : List ℕ) where
  -- what the call answers of what was given
  abbrev given_even_answer : EvenAnswer
  given_even_answer = even_query_answer (grid_in_modes axes points modes knots) tensor_lent coordinates

  -- the host's own refusal of what was given
  abbrev even_own : ℕ
  even_own = even_query_own_refusal axes points modes knots tensor_lent coordinates value_lent labels_lent uneven_lent

  -- what is promised: the refusal, the value in its slot, the labels, and the axis that is not even with its interval
  pub record EvenQueryExport (refusal : ℕ) (value_later : List Float) (labels_later uneven_later : List ℕ) : Type 0 where
    pub answer : refusal ≡ or_else even_own given_even_answer.refusal
    pub answer_stored :
        EvenStored value_lent labels_lent uneven_lent
        (answered even_own given_even_answer.value) (labelled even_own given_even_answer.labels)
        (counted even_own given_even_answer.axis) (counted even_own given_even_answer.interval)
        value_later labels_later uneven_later
