-- The exported direct query has one answer: whatever satisfies its record, for the same inputs, is equal in its number and in both slots.
use mathlib.Core.Path.{◌≡◌}
use mathlib.Core.List.{List}
use Prim.Native.Nat.{ℕ}
use lib.Ieee.{Float}
use Rattle.c_query.proofs.Unique.{same_answer}
use Rattle.c_direct.specs.DirectExports.{DirectQueryExport}

pub direct_query_unique :
    (axes : ℕ) (points modes : List ℕ) (knots tensor_lent coordinates value_lent : List Float) (labels_lent : List ℕ)
    (r r' : ℕ) (v v' : List Float) (l l' : List ℕ)
    → DirectQueryExport axes points modes knots tensor_lent coordinates value_lent labels_lent r v l
    → DirectQueryExport axes points modes knots tensor_lent coordinates value_lent labels_lent r' v' l'
    → (r ≡ r') × (v ≡ v') × (l ≡ l')
direct_query_unique axes points modes knots tensor_lent coordinates value_lent labels_lent = same_answer _ _ value_lent labels_lent
