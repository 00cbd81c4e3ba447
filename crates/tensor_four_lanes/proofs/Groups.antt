-- With slopes and moments in their blocks, what is stored are the knot slopes of the four splines.
use native.Mathlib.Omega.{arith}
use mathlib.Core.Path.{◌≡◌, sym, ◌∙◌}
use mathlib.Core.Logic.{⊎_elim}
use mathlib.Core.List.{List}
use Prim.Native.Nat.{ℕ, ◌+◌, ◌-◌, ◌<◌, ◌≤◌}
use native.Mathlib.Nat.{eq-or-lt_of_le}
use lib.ListN.{length}
use lib.Ieee.{Float, nan}
use borrow.Author.Tests.{lt-ltb, le-ltb}
use Rattle.rules.specs.Numbers.{at}
use Rattle.rules.specs.Steps.{h}
use Rattle.rules.specs.Moments.{moment, moments}
use Rattle.rules.specs.Curve.{knot_slope, lane_slope}
use Rattle.rules.specs.declared.Condition.{Condition}
use Rattle.rules.proofs.Tables.{at_table}
use Rattle.tensor_fours.specs.Fours.{in_row}
use Rattle.tensor_four_lanes.specs.Groups.{samples, MomentsSolved, four_slope}
use Rattle.tensor_four_lanes.specs.Sweeps.{Lanes, slope_at, Laid}
use Rattle.tensor_fours.proofs.Fours.{lane, each}

-- the lanes lie as before in a list as long, and so does a front part of them
pub still_lies :
    (w w' : List Float) (n m : ℕ) (p : List ℕ) (o step : ℕ) → length w' ≡ length w → m ≤ n → Lanes w n p o step → Lanes w' m p o step
still_lies w w' n m p o step long le lanes = record {
  rows = record { room = omega (arith, lanes.rows.room); few = omega (arith, lanes.rows.few) };
  behind = lanes.behind;
  within = each (λ l lt k most. omega (arith, lane lanes.within l lt k (omega arith)));
}

module _
    (w w₁ w₂ x : List Float) (condition : Condition) (p : List ℕ) (to step : ℕ)
    (enough : 2 ≤ length x) (few : length x ≤ 128) (steps : (k : ℕ) → k + 1 < length x → at w k ≡ h x k)
    (solved : MomentsSolved w w₁ x condition p step)
    (laid : Laid w₁ w₂ p to step (length x - 1 + 1) (slope_at w₁ (length x - 1)))
  where
    abbrev n : ℕ
    n = length x - 1

    steps₁ : (k : ℕ) → k + 1 < length x → at w₁ k ≡ h x k
    steps₁ k less = solved.kept k (λ i b. omega (arith, few)) ∙ steps k less

    module _ (a : ℕ) (lt : a < 4) where
      abbrev y : List Float
      y = samples w x p step a

      moment_is : (k : ℕ) → k < length x → in_row w₁ 1536 k a ≡ at (moments x n condition y) k
      unfolding moments
      moment_is k less = solved.result a lt k less ∙ sym (at_table (n + 1) (moment x y n condition) k nan (omega arith))

      slope_is : (k : ℕ) → k < length x → slope_at w₁ n k a ≡ four_slope w x condition p step k a
      unfolding lane_slope knot_slope
      slope_is k less =
          ⊎_elim
          (λ end.
          rw (le-ltb k n (omega arith))
          (cc (
            solved.slopes a lt (n - 1) (omega (arith, enough)),
            steps₁ (n - 1) (omega (arith, enough)),
            moment_is (n - 1) (omega (arith, enough)),
            moment_is n (omega (arith, enough)),
          )))
          (λ inside.
          rw (lt-ltb k n inside)
          (cc (solved.slopes a lt k inside, steps₁ k (omega arith), moment_is k less, moment_is (k + 1) (omega arith))))
          (eq-or-lt_of_le (let le : k ≤ n = omega arith in le))

    pub group_solved : Laid w w₂ p to step (length x) (four_slope w x condition p step)
    group_solved = record {
      same_length = laid.same_length ∙ solved.same_length;
      there = λ G same l lt k less.
          laid.there G (λ a b c d. slope_is a b c (omega (arith, enough)) ∙ same a b c (omega (arith, enough))) l lt k
          (omega (arith, enough));
      still = λ G same j ge e.
          laid.still G (λ a b c d. slope_is a b c (omega (arith, enough)) ∙ same a b c (omega (arith, enough))) j ge
          (solved.kept j (λ i b. omega arith) ∙ e);
      rows = λ j less. laid.rows j less ∙ solved.kept j (λ i b. omega arith);
      kept = λ j ge none. laid.kept j ge (λ l lt k less. none l lt k (omega (arith, enough))) ∙ solved.kept j (λ i b. omega arith);
    }
