-- The chapter ManyCalls of docs/RULES.md: the quick query and the direct query of many points by one call.
use Rattle.std.specs.Prelude.{cond, ◌||◌, List, ℕ, length, Float}
use Rattle.rules.specs.Sizes.{Grid, knots_length, tensor_length}
use Rattle.rules.specs.Refusals.{axes_refused, some_points_refused, tensor_refused, length_refused}
use Rattle.rules.specs.Calls.{quick_query_answer}
use Rattle.many_points.specs.ManyPoints.{point_of, points_lengths_refused, EachAnswered}
use Rattle.query_direct.specs.DirectCalls.{direct_query_answer}

module _ (g : Grid) (tensor_lent coordinates values_lent : List Float) (labels_lent refusals_lent : List ℕ) where
  -- the refusal of both calls, the first of 1 2 3 4 that applies: from 7 on each point has its own
  unfoldable pub queries_refusal : ℕ
  queries_refusal =
      cond (axes_refused g) 1
      (cond (some_points_refused g) 2
      (cond (tensor_refused g) 3
      (cond
      (length_refused (length g.flat_knots) (knots_length g) || length_refused (length tensor_lent) (tensor_length g)
      || points_lengths_refused g.axes (length coordinates) (length values_lent) (length labels_lent) (length refusals_lent))
      4 0)))

  -- what is promised of the quick query of many points, and of the direct query: at each the answer of the call for that one
  abbrev pub QuickQueriesPromise : ℕ → List Float → List ℕ → List ℕ → Type 0
  QuickQueriesPromise =
      EachAnswered queries_refusal (λ j. quick_query_answer g tensor_lent (point_of g.axes coordinates j))
      values_lent labels_lent refusals_lent

  abbrev pub DirectQueriesPromise : ℕ → List Float → List ℕ → List ℕ → Type 0
  DirectQueriesPromise =
      EachAnswered queries_refusal (λ j. direct_query_answer g tensor_lent (point_of g.axes coordinates j))
      values_lent labels_lent refusals_lent
