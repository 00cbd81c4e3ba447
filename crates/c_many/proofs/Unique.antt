-- Each exported query of many points has one answer: whatever satisfies its record, for the same inputs, is equal in its number and in all
-- that was lent.
use mathlib.Core.Path.{◌≡◌}
use mathlib.Core.List.{List}
use Prim.Native.Nat.{ℕ}
use lib.Ieee.{Float}
use Rattle.many_points.proofs.Unique.{same_answers}
use Rattle.c_many.specs.ManyExports.{QuickQueriesExport, DirectQueriesExport}

module _ (axes : ℕ) (points modes : List ℕ) (knots tensor_lent coordinates values_lent : List Float) (labels_lent refusals_lent : List ℕ)
    (r r' : ℕ) (v v' : List Float) (l l' f f' : List ℕ) where
  pub quick_queries_unique :
      QuickQueriesExport axes points modes knots tensor_lent coordinates values_lent labels_lent refusals_lent r v l f
      → QuickQueriesExport axes points modes knots tensor_lent coordinates values_lent labels_lent refusals_lent r' v' l' f'
      → (r ≡ r') × (v ≡ v') × (l ≡ l') × (f ≡ f')
  quick_queries_unique = same_answers _ _ values_lent labels_lent refusals_lent r r' v v' l l' f f'

  pub direct_queries_unique :
      DirectQueriesExport axes points modes knots tensor_lent coordinates values_lent labels_lent refusals_lent r v l f
      → DirectQueriesExport axes points modes knots tensor_lent coordinates values_lent labels_lent refusals_lent r' v' l' f'
      → (r ≡ r') × (v ≡ v') × (l ≡ l') × (f ≡ f')
  direct_queries_unique = same_answers _ _ values_lent labels_lent refusals_lent r r' v v' l l' f f'
