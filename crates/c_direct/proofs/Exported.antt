-- The exported direct query refuses as the host's own refusal says, or answers as the call promises for what was given.
use mathlib.Core.Path.{◌≡◌, sym, ◌∙◌}
use mathlib.Core.List.{List}
use Prim.Native.Nat.{ℕ, ◌≤◌}
use lib.Ieee.{Float}
use Rattle.rules.specs.Numbers.{plus_zero, table}
use Rattle.rules.specs.Sizes.{most_axes}
use Rattle.rules.specs.Answers.{QueryAnswer}
use Rattle.query_answer.specs.PointsAndModes.{OfAnyAxes}
use Rattle.query_direct.specs.DirectCalls.{DirectQueryPromise}
use Rattle.c_refusals.specs.OwnRefusals.{query_own_refusal}
use Rattle.c_refusals.specs.Slots.{QueryStored}
use Rattle.c_refusals.proofs.Lengths.{query_own_fits}
use Rattle.c_query.proofs.Given.{axes_given}
use Rattle.c_query.proofs.Exported.{answer_refused, answer_given}
use Rattle.c_direct.specs.DirectExports.{DirectQueryExport}

module _ (axes : ℕ) (points modes : List ℕ) (knots tensor_lent coordinates value_lent : List Float) (labels_lent : List ℕ) {r : ℕ}
    (e : r ≡ query_own_refusal axes points modes knots tensor_lent coordinates value_lent labels_lent) where
  pub direct_query_refused :
      (r ≡ 0 → ⊥) → {v : List Float} {l : List ℕ} → QueryStored value_lent labels_lent plus_zero (table most_axes (λ i. 0)) v l
      → DirectQueryExport axes points modes knots tensor_lent coordinates value_lent labels_lent r v l
  direct_query_refused = answer_refused _ _ value_lent labels_lent e

  pub direct_query_called :
      r ≡ 0 → (a : QueryAnswer) {v : List Float} {l : List ℕ}
      → OfAnyAxes axes points modes knots (λ g. DirectQueryPromise g tensor_lent coordinates a)
      → QueryStored value_lent labels_lent a.value a.labels v l
      → DirectQueryExport axes points modes knots tensor_lent coordinates value_lent labels_lent a.refusal v l
  direct_query_called none a among =
      let few : axes ≤ 4 =
      (query_own_fits axes points modes knots tensor_lent coordinates value_lent labels_lent (sym e ∙ none)).in_range.few_axes in
      answer_given _ _ value_lent labels_lent e none a (among _ (axes_given axes points modes few)).answer
