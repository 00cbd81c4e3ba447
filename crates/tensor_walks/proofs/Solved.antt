-- Lanes of a walk solved behind others: what was solved stays, no number has changed that they are solved from, and so all are solved.
use native.Mathlib.Omega.{arith}
use mathlib.Core.Path.{◌≡◌, refl, ap, ◌∙◌}
use mathlib.Core.Logic.{⊎_elim}
use mathlib.Core.List.{List}
use Prim.Native.Nat.{ℕ, ◌-◌, ◌<◌, ◌≤◌}
use lib.ListN.{length}
use lib.Ieee.{Float}
use Rattle.rules.specs.Numbers.{at, table}
use Rattle.rules.specs.Curve.{lane_slope}
use Rattle.rules.specs.declared.Condition.{Condition}
use Rattle.rules.proofs.Tables.{table_ext}
use Rattle.tensor_fours.proofs.Fours.{below_or_not}
use Rattle.tensor_starts.specs.declared.Walk.{Walk}
use Rattle.tensor_walks.specs.Walked.{number_place, slope_place, WalkGiven, SomeSolved}

-- where none is counted, nothing has changed
pub none_solved :
    (w x : List Float) (condition : Condition) (walk : Walk) (to step count : ℕ) → count ≡ 0
    → SomeSolved w w x condition walk to step 0 count
none_solved w x condition walk to step count none = record {
  same_length = refl;
  slopes = λ t ge under. absurd (omega arith);
  kept = λ j behind apart. refl;
}

module _
    (w₀ w w' x : List Float) (condition : Condition) (walk : Walk) (to step from stop : ℕ) (given : WalkGiven w₀ x condition walk to step)
    (done : SomeSolved w₀ w x condition walk to step 0 from) (next : SomeSolved w w' x condition walk to step from stop)
    (on : from ≤ stop) (most : stop ≤ walk.lanes)
  where
    -- no slope has been stored over a number
    same_numbers :
        (t : ℕ) → t < walk.lanes → (j : ℕ) → j < length x → at w (number_place walk step t j) ≡ at w₀ (number_place walk step t j)
    same_numbers t less j below =
        done.kept (number_place walk step t j) (omega arith) (λ u ge before k h. given.apart t u j k less (omega arith) below h)

    -- nor over a slope
    same_slopes : (t : ℕ) → t < from → (k : ℕ) → k < length x → at w' (slope_place walk to step t k) ≡ at w (slope_place walk to step t k)
    same_slopes t before k below =
        next.kept (slope_place walk to step t k) (omega arith)
        (λ u ge under i h e. absurd (let same : t ≡ u = (given.own t u k i (omega arith) (omega arith) below h e).0 in omega arith))

    pub solved_further : SomeSolved w₀ w' x condition walk to step 0 stop
    solved_further = record {
      same_length = next.same_length ∙ done.same_length;
      slopes = λ t ge under k below.
          ⊎_elim
          (λ before. same_slopes t before k below ∙ done.slopes t ge before k below)
          (λ behind.
          next.slopes t behind under k below
          ∙ ap (λ (y : List Float). lane_slope x (length x - 1) condition y k) (table_ext (length x) _ _ (same_numbers t (omega arith))))
          (below_or_not t from);
      kept = λ j behind none.
          next.kept j behind (λ t ge under. none t (omega arith) under)
          ∙ done.kept j behind (λ t ge before. none t ge (omega arith));
    }
