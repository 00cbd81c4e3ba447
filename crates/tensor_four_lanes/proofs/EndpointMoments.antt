-- In each lane the moments of the rows, with those that the ends dropped, are all moments of the rules under two ends.
use native.Mathlib.Omega.{arith}
use mathlib.Core.Path.{◌≡◌, refl, ap, sym, ◌∙◌}
use mathlib.Core.Logic.{◌≢◌, ◌⊎◌, inl, inr, ⊎_elim}
use mathlib.Core.List.{List}
use Prim.Native.Nat.{ℕ, zero, suc, ◌+◌, ◌-◌, ◌*◌, ◌<◌, ◌≤◌}
use native.Mathlib.Nat.{eq-or-lt_of_le}
use lib.ListN.{length}
use borrow.Author.Tests.{eq-eqb, ne_eqb}
use lib.Ieee.{Float}
use Rattle.rules.specs.Numbers.{at}
use Rattle.rules.specs.Ends.{dropped}
use Rattle.rules.specs.Steps.{h}
use Rattle.rules.specs.Moments.{inner, first_moment, last_moment, moment}
use Rattle.rules.specs.declared.End.{End}
use Rattle.rules.specs.declared.End.TheVariants.{NotAKnot, FirstDerivative, SecondDerivative}
use Rattle.rules.specs.declared.Condition.TheVariants.{Endpoints}
use Rattle.grid_scratch.specs.Layout.{Outside}
use Rattle.tensor_fours.specs.Fours.{Lanewise, in_row, RowSet}
use Rattle.tensor_plan.specs.PlanOfEnds.{EndsGiven}
use Rattle.tensor_plan.specs.declared.EndsPlan.{EndsPlan}
use Rattle.rules.proofs.Cases.{zero_or_more}
use Rattle.rules.proofs.Ends.{dropped_most}
use Rattle.tensor_four_lanes.specs.Groups.{lower_moment, upper_moment, samples, EndsGroup, InnerSolved, MomentsSolved}
use Rattle.tensor_fours.proofs.Fours.{row_other, row_there}

-- row j stands at knot (dropped lower) + j
abbrev OwnMoments : List Float → List Float → List Float → End → End → ℕ → Type 0
OwnMoments w x y lower upper a =
    (k j : ℕ) → k ≡ dropped lower + j → j ≤ length x - 1 - dropped lower - dropped upper
    → in_row w 1536 k a ≡ inner x y (length x - 1) lower upper j

abbrev StepsIn : List Float → List Float → Type 0
StepsIn w x = (k : ℕ) → k + 1 < length x → at w k ≡ h x k

-- where the lower end drops nothing, its moment stands as it was
nothing_dropped : (w : List Float) (a : ℕ) (lower : End) → dropped lower ≡ 0 → lower_moment w lower a ≡ in_row w 1536 0 a
unfolding lower_moment
nothing_dropped w a NotAKnot e = absurd (omega arith)
nothing_dropped w a (FirstDerivative v) e = refl
nothing_dropped w a (SecondDerivative v) e = refl

first_is :
    (w x y : List Float) (a : ℕ) (lower upper : End) → 2 + dropped lower + dropped upper ≤ length x
    → StepsIn w x → OwnMoments w x y lower upper a → lower_moment w lower a ≡ first_moment x y (length x - 1) lower upper
unfolding lower_moment first_moment
first_is w x y a NotAKnot upper enough steps own =
    cc (steps 0 (omega arith), steps 1 (omega arith), own 1 0 (omega arith) (omega arith), own 2 1 (omega arith) (omega arith))
first_is w x y a (FirstDerivative v) upper enough steps own = own 0 0 (omega arith) (omega arith)
first_is w x y a (SecondDerivative v) upper enough steps own = own 0 0 (omega arith) (omega arith)

last_is :
    (w x y : List Float) (a : ℕ) (lower upper : End) → 2 + dropped lower + dropped upper ≤ length x
    → StepsIn w x → OwnMoments w x y lower upper a → upper_moment w (length x - 1) upper a ≡ last_moment x y (length x - 1) lower upper
unfolding upper_moment last_moment
last_is w x y a lower NotAKnot enough steps own =
    cc (
      steps (length x - 1 - 2) (omega arith),
      steps (length x - 1 - 1) (omega arith),
      own (length x - 1 - 1) (length x - 1 - dropped lower - 1) (omega arith) (omega arith),
      own (length x - 1 - 2) (length x - 1 - dropped lower - 1 - 1) (omega arith) (omega arith),
    )
last_is w x y a lower (FirstDerivative v) enough steps own =
    own (length x - 1) (length x - 1 - dropped lower - 0) (omega arith) (omega arith)
last_is w x y a lower (SecondDerivative v) enough steps own =
    own (length x - 1) (length x - 1 - dropped lower - 0) (omega arith) (omega arith)

module _
    (w w₁ w₂ w₃ x : List Float) (lower upper : End) (plan : EndsPlan) (p : List ℕ) (step : ℕ)
    (given : EndsGroup w x lower upper plan p step)
    (solved : InnerSolved w w₁ x lower upper p step) (first last : List Float)
    (first_moment_is : Lanewise first (lower_moment w₁ lower)) (put_first : RowSet w₁ w₂ 1536 0 first)
    (last_moment_is : Lanewise last (upper_moment w₂ (length x - 1) upper)) (put_last : RowSet w₂ w₃ 1536 (length x - 1) last)
  where
    axis : EndsGiven w x lower upper
    axis = given.axis

    abbrev n : ℕ
    n = length x - 1

    same₁ : (j : ℕ) → Outside 1024 1024 j → at w₁ j ≡ at w j
    same₁ = solved.kept

    same₂ : (j : ℕ) → Outside 1024 1024 j → at w₂ j ≡ at w j
    same₂ j out = put_first.kept j (λ i lt. omega (arith, out (512 + i) (omega arith))) ∙ same₁ j out

    steps₁ : StepsIn w₁ x
    steps₁ k less = same₁ k (λ i b. omega (arith, axis)) ∙ given.planned.steps k less

    steps₂ : StepsIn w₂ x
    steps₂ k less = same₂ k (λ i b. omega (arith, axis)) ∙ given.planned.steps k less

    module _ (a : ℕ) (lt : a < 4) where
      abbrev y : List Float
      y = samples w x p step a

      own₁ : OwnMoments w₁ x y lower upper a
      own₁ k j e le = ap (λ (i : ℕ). in_row w₁ 1536 i a) e ∙ solved.result a lt j le

      own₂ : OwnMoments w₂ x y lower upper a
      own₂ k j e le =
          ⊎_elim
          (λ none.
          ap (λ (i : ℕ). in_row w₂ 1536 i a) none
          ∙ row_there put_first first_moment_is a lt
          ∙ nothing_dropped w₁ a lower (omega arith)
          ∙ ap (λ (i : ℕ). in_row w₁ 1536 i a) (sym none)
          ∙ own₁ k j e le)
          (λ some. row_other put_first k (omega arith) a lt ∙ own₁ k j e le)
          (zero_or_more k)

      later : (k : ℕ) → k ≢ n → in_row w₃ 1536 k a ≡ in_row w₂ 1536 k a
      later k off = row_other put_last k off a lt

      all : (k : ℕ) → k < length x → in_row w₃ 1536 k a ≡ moment x y n (Endpoints lower upper) k
      unfolding moment
      all k less =
          ⊎_elim
          (λ none.
          rw none
          (later 0 (omega (arith, axis.enough)) ∙ row_there put_first first_moment_is a lt
          ∙ first_is w₁ x y a lower upper axis.enough steps₁ own₁))
          (λ some.
          rw (ne_eqb k 0 (omega arith))
          (⊎_elim
          (λ end.
          rw (eq-eqb k n end)
          (ap (λ (i : ℕ). in_row w₃ 1536 i a) end ∙ row_there put_last last_moment_is a lt
          ∙ last_is w₂ x y a lower upper axis.enough steps₂ own₂))
          (λ inside.
          rw (ne_eqb k n (omega arith))
          (later k (omega arith)
          ∙ own₂ k (k - dropped lower) (omega (arith, dropped_most lower)) (omega (arith, dropped_most lower, dropped_most upper))))
          (eq-or-lt_of_le (let le : k ≤ n = omega arith in le))))
          (zero_or_more k)

    pub moments_solved : MomentsSolved w w₃ x (Endpoints lower upper) p step
    moments_solved = record {
      same_length = put_last.same_length ∙ put_first.same_length ∙ solved.same_length;
      slopes = λ a lt k less.
          put_last.kept (1024 + 4 * k + a) (λ i b. omega (arith, axis))
          ∙ put_first.kept (1024 + 4 * k + a) (λ i b. omega (arith, axis))
          ∙ solved.slopes a lt k less;
      result = all;
      kept = λ j out. put_last.kept j (λ i lt. omega (arith, axis, out (512 + 4 * n + i) (omega (arith, axis)))) ∙ same₂ j out;
    }
