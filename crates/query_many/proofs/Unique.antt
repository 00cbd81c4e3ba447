-- Each query of many points has one answer: whatever satisfies its promise, for the same inputs, is equal in its number and in all that
-- was lent.
use mathlib.Core.Path.{◌≡◌}
use mathlib.Core.List.{List}
use Prim.Native.Nat.{ℕ}
use lib.Ieee.{Float}
use Rattle.rules.specs.Sizes.{Grid}
use Rattle.many_points.proofs.Unique.{same_answers}
use Rattle.query_many.specs.ManyCalls.{QuickQueriesPromise, DirectQueriesPromise}

module _ (g : Grid) (tensor_lent coordinates values_lent : List Float) (labels_lent refusals_lent : List ℕ) where
  pub quick_queries_unique :
      (r r' : ℕ) (v v' : List Float) (l l' f f' : List ℕ)
      → QuickQueriesPromise g tensor_lent coordinates values_lent labels_lent refusals_lent r v l f
      → QuickQueriesPromise g tensor_lent coordinates values_lent labels_lent refusals_lent r' v' l' f'
      → (r ≡ r') × (v ≡ v') × (l ≡ l') × (f ≡ f')
  quick_queries_unique = same_answers _ _ values_lent labels_lent refusals_lent

  pub direct_queries_unique :
      (r r' : ℕ) (v v' : List Float) (l l' f f' : List ℕ)
      → DirectQueriesPromise g tensor_lent coordinates values_lent labels_lent refusals_lent r v l f
      → DirectQueriesPromise g tensor_lent coordinates values_lent labels_lent refusals_lent r' v' l' f'
      → (r ≡ r') × (v ≡ v') × (l ≡ l') × (f ≡ f')
  direct_queries_unique = same_answers _ _ values_lent labels_lent refusals_lent
