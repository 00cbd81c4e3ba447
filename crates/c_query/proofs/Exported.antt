-- Each export of queries refuses as the host's own refusal says, or answers as the call promises for what was given.
use mathlib.Core.Path.{◌≡◌, sym, ap, ◌∙◌}
use mathlib.Core.List.{List}
use Prim.Native.Nat.{ℕ, ◌≤◌}
use lib.Ieee.{Float}
use Rattle.rules.specs.Numbers.{plus_zero, table}
use Rattle.rules.specs.Sizes.{most_axes}
use Rattle.rules.specs.Calls.{QueryPromise, QuickQueryPromise}
use Rattle.rules.specs.EvenCalls.{even_query_answer, EvenQueryPromise}
use Rattle.rules.specs.Answers.{QueryAnswer, EvenAnswer}
use Rattle.c_axes.specs.Axes.{grid_in_modes}
use Rattle.c_refusals.specs.OwnRefusals.{query_own_refusal, even_query_own_refusal}
use Rattle.c_refusals.specs.Slots.{QueryStored, EvenStored}
use Rattle.c_refusals.proofs.Exported.{own_answer, no_value, no_count, no_labels, call_answer}
use Rattle.c_refusals.proofs.Lengths.{query_own_fits, even_query_own_fits}
use Rattle.query_answer.specs.PointsAndModes.{OfAnyAxes}
use Rattle.c_query.specs.QueryExports.{AnswerExport, QueryExport, QuickQueryExport, EvenQueryExport}
use Rattle.c_query.proofs.Given.{axes_given}

-- ---- the queries

module _ (own : ℕ) (given : QueryAnswer) (value_lent : List Float) (labels_lent : List ℕ) {r : ℕ} (e : r ≡ own) where
  pub answer_refused :
      (r ≡ 0 → ⊥) → {v : List Float} {l : List ℕ} → QueryStored value_lent labels_lent plus_zero (table most_axes (λ i. 0)) v l
      → AnswerExport own given value_lent labels_lent r v l
  answer_refused some in_place = record {
    answer = own_answer _ _ e some;
    answer_stored = rw (← no_value _ given.value e some, ← no_labels _ given.labels e some) in_place;
  }

  pub answer_given :
      r ≡ 0 → (a : QueryAnswer) {v : List Float} {l : List ℕ} → a ≡ given → QueryStored value_lent labels_lent a.value a.labels v l
      → AnswerExport own given value_lent labels_lent a.refusal v l
  answer_given none a is in_place = record {
    answer = call_answer own e none (ap (λ (b : QueryAnswer). b.refusal) is);
    answer_stored = rw (sym e ∙ none, ← is) in_place;
  }

module _ (axes : ℕ) (points modes : List ℕ) (knots tensor_lent coordinates value_lent : List Float) (labels_lent : List ℕ) {r : ℕ}
    (e : r ≡ query_own_refusal axes points modes knots tensor_lent coordinates value_lent labels_lent) where
  pub query_refused :
      (r ≡ 0 → ⊥) → {v : List Float} {l : List ℕ} → QueryStored value_lent labels_lent plus_zero (table most_axes (λ i. 0)) v l
      → QueryExport axes points modes knots tensor_lent coordinates value_lent labels_lent r v l
  query_refused = answer_refused _ _ value_lent labels_lent e

  pub quick_query_refused :
      (r ≡ 0 → ⊥) → {v : List Float} {l : List ℕ} → QueryStored value_lent labels_lent plus_zero (table most_axes (λ i. 0)) v l
      → QuickQueryExport axes points modes knots tensor_lent coordinates value_lent labels_lent r v l
  quick_query_refused = answer_refused _ _ value_lent labels_lent e

  module _ (none : r ≡ 0) where
    few : axes ≤ 4
    few = (query_own_fits axes points modes knots tensor_lent coordinates value_lent labels_lent (sym e ∙ none)).in_range.few_axes

    pub query_called :
        (a : QueryAnswer) {v : List Float} {l : List ℕ} → OfAnyAxes axes points modes knots (λ g. QueryPromise g tensor_lent coordinates a)
        → QueryStored value_lent labels_lent a.value a.labels v l
        → QueryExport axes points modes knots tensor_lent coordinates value_lent labels_lent a.refusal v l
    query_called a among = answer_given _ _ value_lent labels_lent e none a (among _ (axes_given axes points modes few)).answer

    pub quick_query_called :
        (a : QueryAnswer) {v : List Float} {l : List ℕ}
        → OfAnyAxes axes points modes knots (λ g. QuickQueryPromise g tensor_lent coordinates a)
        → QueryStored value_lent labels_lent a.value a.labels v l
        → QuickQueryExport axes points modes knots tensor_lent coordinates value_lent labels_lent a.refusal v l
    quick_query_called a among = answer_given _ _ value_lent labels_lent e none a (among _ (axes_given axes points modes few)).answer

-- ---- the query of even axes

module _ (axes : ℕ) (points modes : List ℕ) (knots tensor_lent coordinates value_lent : List Float) (labels_lent uneven_lent : List ℕ)
    {r : ℕ} (e : r ≡ even_query_own_refusal axes points modes knots tensor_lent coordinates value_lent labels_lent uneven_lent) where
  abbrev given_answer : EvenAnswer
  given_answer = even_query_answer (grid_in_modes axes points modes knots) tensor_lent coordinates

  pub even_query_refused :
      (r ≡ 0 → ⊥) → {v : List Float} {l u : List ℕ}
      → EvenStored value_lent labels_lent uneven_lent plus_zero (table most_axes (λ i. 0)) 0 0 v l u
      → EvenQueryExport axes points modes knots tensor_lent coordinates value_lent labels_lent uneven_lent r v l u
  even_query_refused some in_place = record {
    answer = own_answer _ _ e some;
    answer_stored =
        rw (
          ← no_value _ given_answer.value e some,
          ← no_labels _ given_answer.labels e some,
          ← no_count _ given_answer.axis e some,
          ← no_count _ given_answer.interval e some,
        )
        in_place;
  }

  module _ (none : r ≡ 0) where
    even_few : axes ≤ 4
    even_few =
        (even_query_own_fits axes points modes knots tensor_lent coordinates value_lent labels_lent uneven_lent
        (sym e ∙ none)).0.in_range.few_axes

    pub even_query_called :
        (a : EvenAnswer) {v : List Float} {l u : List ℕ}
        → OfAnyAxes axes points modes knots (λ g. EvenQueryPromise g tensor_lent coordinates a)
        → EvenStored value_lent labels_lent uneven_lent a.value a.labels a.axis a.interval v l u
        → EvenQueryExport axes points modes knots tensor_lent coordinates value_lent labels_lent uneven_lent a.refusal v l u
    even_query_called a among in_place =
        let is : a ≡ given_answer = (among _ (axes_given axes points modes even_few)).answer in
        record {
          answer = call_answer _ e none (ap (λ (b : EvenAnswer). b.refusal) is);
          answer_stored = rw (sym e ∙ none, ← is) in_place;
        }
