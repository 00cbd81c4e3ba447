-- What both public calls do once their check has found nothing: the outcome decides, and the scratch is cleared.
use mathlib.Core.Path.{◌≡◌, refl, sym, ap, ap₂, ◌∙◌}
use mathlib.Core.Bool.{Bool, true, false, cond}
use mathlib.Core.List.{List}
use Prim.Native.Nat.{ℕ}
use lib.ListN.{length}
use lib.Ieee.{Float}
use Rattle.rules.specs.Numbers.{zeros}
use Rattle.rules.specs.Sizes.{Grid}
use Rattle.rules.specs.Refusals.{outcome_refused}
use Rattle.rules.specs.Calls.{stored, scratch_after}
use Rattle.grid_checks.specs.Checked.{GridGiven, SolveGiven}
use Rattle.grid_checks.proofs.ThenOutcome.{ThenOutcome, outcome}
use Rattle.tensor_passes.specs.Passes.{WorkGiven}
use Rattle.tensor.specs.Working.{outcome_in, Finished}

-- what the checks leave is what the passes are given
pub given_of : {g : Grid} {tensor_given : ℕ} {w : List Float} → GridGiven g tensor_given → SolveGiven g (length w) → WorkGiven g w
given_of grid solve = record {
  in_range = grid.in_range;
  small = grid.small;
  knots_exact = grid.knots_exact;
  enough_points = solve.enough_points;
  room = solve.scratch_enough;
}

-- the work began: the outcome decides, and the scratch is cleared
module _
    {check refusal r : ℕ} (old new scratch w old' w' : List Float)
    (decided : ThenOutcome check (outcome_refused new) refusal) (passed : check ≡ 0)
    (came_out : outcome_in w old ≡ new) (long : length w ≡ length scratch) (finished : Finished old w r old' w')
  where
    pub answer_is : r ≡ refusal
    answer_is = finished.answer ∙ ap (λ (l : List Float). cond (outcome_refused l) 10 0) came_out ∙ sym (outcome decided passed)

    pub output_is : old' ≡ stored refusal old new
    output_is = finished.output ∙ ap₂ (λ (k : ℕ) (l : List Float). stored k old l) answer_is came_out

    pub scratch_is : w' ≡ scratch_after refusal scratch
    scratch_is = finished.cleared ∙ ap zeros long ∙ rw (outcome decided passed) (go (outcome_refused new))
      where
        go : (b : Bool) → zeros (length scratch) ≡ scratch_after (cond b 10 0) scratch
        go true = refl
        go false = refl
