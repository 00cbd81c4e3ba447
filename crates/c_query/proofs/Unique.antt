-- Each export of queries has one answer: whatever satisfies its record, for the same inputs, is equal in its number and in all that was
-- lent.
use mathlib.Core.Path.{◌≡◌}
use mathlib.Core.List.{List}
use Prim.Native.Nat.{ℕ}
use lib.Ieee.{Float}
use Rattle.rules.specs.Answers.{QueryAnswer}
use Rattle.rules.proofs.Unique.{same}
use Rattle.c_query.specs.QueryExports.{AnswerExport, QueryExport, QuickQueryExport, EvenQueryExport}

pub same_answer :
    (own : ℕ) (given : QueryAnswer) (value_lent : List Float) (labels_lent : List ℕ) (r r' : ℕ) (v v' : List Float) (l l' : List ℕ)
    → AnswerExport own given value_lent labels_lent r v l
    → AnswerExport own given value_lent labels_lent r' v' l'
    → (r ≡ r') × (v ≡ v') × (l ≡ l')
same_answer own given value_lent labels_lent r r' v v' l l' p q = (
  same p.answer q.answer,
  same p.answer_stored.slot q.answer_stored.slot,
  same p.answer_stored.slots q.answer_stored.slots,
)

pub query_unique :
    (axes : ℕ) (points modes : List ℕ) (knots tensor_lent coordinates value_lent : List Float) (labels_lent : List ℕ)
    (r r' : ℕ) (v v' : List Float) (l l' : List ℕ)
    → QueryExport axes points modes knots tensor_lent coordinates value_lent labels_lent r v l
    → QueryExport axes points modes knots tensor_lent coordinates value_lent labels_lent r' v' l'
    → (r ≡ r') × (v ≡ v') × (l ≡ l')
query_unique axes points modes knots tensor_lent coordinates value_lent labels_lent = same_answer _ _ value_lent labels_lent

pub quick_query_unique :
    (axes : ℕ) (points modes : List ℕ) (knots tensor_lent coordinates value_lent : List Float) (labels_lent : List ℕ)
    (r r' : ℕ) (v v' : List Float) (l l' : List ℕ)
    → QuickQueryExport axes points modes knots tensor_lent coordinates value_lent labels_lent r v l
    → QuickQueryExport axes points modes knots tensor_lent coordinates value_lent labels_lent r' v' l'
    → (r ≡ r') × (v ≡ v') × (l ≡ l')
quick_query_unique axes points modes knots tensor_lent coordinates value_lent labels_lent = same_answer _ _ value_lent labels_lent

pub even_query_unique :
    (axes : ℕ) (points modes : List ℕ) (knots tensor_lent coordinates value_lent : List Float) (labels_lent uneven_lent : List ℕ)
    (r r' : ℕ) (v v' : List Float) (l l' u u' : List ℕ)
    → EvenQueryExport axes points modes knots tensor_lent coordinates value_lent labels_lent uneven_lent r v l u
    → EvenQueryExport axes points modes knots tensor_lent coordinates value_lent labels_lent uneven_lent r' v' l' u'
    → (r ≡ r') × (v ≡ v') × (l ≡ l') × (u ≡ u')
even_query_unique axes points modes knots tensor_lent coordinates value_lent labels_lent uneven_lent r r' v v' l l' u u' p q = (
  same p.answer q.answer,
  same p.answer_stored.slot q.answer_stored.slot,
  same p.answer_stored.slots q.answer_stored.slots,
  same p.answer_stored.told q.answer_stored.told,
)
