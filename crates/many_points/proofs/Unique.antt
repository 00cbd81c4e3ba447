-- A promise of many points has one answer, and at each point it is that of the call for that one.
use mathlib.Core.Path.{◌≡◌, ap, ◌∙◌}
use mathlib.Core.List.{List}
use Prim.Native.Nat.{ℕ, ◌*◌, ◌/◌, ◌%◌, ◌<◌}
use lib.ListN.{length}
use lib.Ieee.{Float, nan}
use Rattle.rules.specs.Numbers.{at}
use Rattle.rules.specs.Sizes.{place_of}
use Rattle.rules.specs.Answers.{QueryAnswer}
use Rattle.rules.proofs.Tables.{at_table}
use Rattle.rules.proofs.Unique.{same}
use Rattle.many_points.specs.ManyPoints.{EachAnswered}

module _ (own : ℕ) (answers : ℕ → QueryAnswer) (values_lent : List Float) (labels_lent refusals_lent : List ℕ) where
  pub same_answers :
      (r r' : ℕ) (v v' : List Float) (l l' f f' : List ℕ) → EachAnswered own answers values_lent labels_lent refusals_lent r v l f
      → EachAnswered own answers values_lent labels_lent refusals_lent r' v' l' f' → (r ≡ r') × (v ≡ v') × (l ≡ l') × (f ≡ f')
  same_answers r r' v v' l l' f f' p q = (
    same p.answer q.answer,
    same p.values q.values,
    same p.labels q.labels,
    same p.refusals q.refusals,
  )

  -- what stands for point j where the call does not refuse
  pub answered_at :
      own ≡ 0 → (r : ℕ) (v : List Float) (l f : List ℕ) → EachAnswered own answers values_lent labels_lent refusals_lent r v l f
      → (j : ℕ) → j < length refusals_lent → (at v j ≡ (answers j).value) × (place_of f j ≡ (answers j).refusal)
  answered_at none r v l f p j lt = (
    ap (λ (s : List Float). at s j) (rw none at p.values) ∙ at_table (length refusals_lent) _ j nan lt,
    ap (λ (s : List ℕ). place_of s j) (rw none at p.refusals) ∙ at_table (length refusals_lent) _ j 0 lt,
  )

  pub labelled_at :
      own ≡ 0 → (r : ℕ) (v : List Float) (l f : List ℕ) → EachAnswered own answers values_lent labels_lent refusals_lent r v l f
      → (e : ℕ) → e < 4 * length refusals_lent → place_of l e ≡ place_of (answers (e / 4)).labels (e % 4)
  labelled_at none r v l f p e lt =
      ap (λ (s : List ℕ). place_of s e) (rw none at p.labels) ∙ at_table (4 * length refusals_lent) _ e 0 lt
