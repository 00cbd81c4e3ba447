-- From the solved rows and the two dropped moments: all the moments under two ends.
use native.Mathlib.Omega.{arith}
use mathlib.Core.Path.{◌≡◌, refl, sym, ap, ◌∙◌}
use mathlib.Core.Logic.{◌≢◌, ⊎_elim}
use mathlib.Core.List.{List}
use Prim.Native.Nat.{ℕ, ◌+◌, ◌-◌, ◌≤◌}
use native.Mathlib.Nat.{eq-or-lt_of_le}
use lib.ListN.{length}
use borrow.Author.Tests.{eq-eqb, ne_eqb}
use lib.Ieee.{Float}
use Rattle.rules.specs.Numbers.{at}
use Rattle.rules.specs.Ends.{dropped}
use Rattle.rules.specs.Moments.{inner, first_moment, last_moment, moment}
use Rattle.rules.specs.declared.End.{End}
use Rattle.rules.specs.declared.End.TheVariants.{NotAKnot, FirstDerivative, SecondDerivative}
use Rattle.rules.specs.declared.Condition.TheVariants.{Endpoints}
use Rattle.grid_scratch.specs.Layout.{row}
use Rattle.axis_rows.specs.Rows.{samples_in}
use Rattle.rules.proofs.Cases.{zero_or_more}
use Rattle.rules.proofs.Ends.{dropped_most}
use Rattle.axis_moments.specs.SolvedMoments.{InnerSolved, lower_moment, upper_moment, OneStored, MomentsSolved}

-- a lower end that drops nothing leaves the first moment
nothing_dropped : (w x : List Float) (lower : End) → dropped lower ≡ 0 → lower_moment w x lower ≡ at w 1792
unfolding lower_moment
nothing_dropped w x NotAKnot e = absurd (omega arith)
nothing_dropped w x (FirstDerivative v) e = refl
nothing_dropped w x (SecondDerivative v) e = refl

-- the first moment is that of the definition
first_is :
    (w w₁ x : List Float) (lower upper : End) → 2 + dropped lower + dropped upper ≤ length x
    → InnerSolved w w₁ x lower upper
    → lower_moment w₁ x lower ≡ first_moment x (samples_in w x) (length x - 1) lower upper
unfolding lower_moment first_moment
first_is w w₁ x NotAKnot upper enough solved =
    cc (solved.result 0 (omega arith), solved.result 1 (omega arith))
first_is w w₁ x (FirstDerivative v) upper enough solved = solved.result 0 (omega arith)
first_is w w₁ x (SecondDerivative v) upper enough solved = solved.result 0 (omega arith)

-- the last moment is that of the definition, where the rows' own moments stand by their knots
last_is :
    (w x y : List Float) (n : ℕ) (lower upper : End) → 1 + dropped lower + dropped upper ≤ n
    → ((j k : ℕ) → j ≡ dropped lower + k → k ≤ n - dropped lower - dropped upper → row w 1792 j ≡ inner x y n lower upper k)
    → upper_moment w x n upper ≡ last_moment x y n lower upper
unfolding upper_moment last_moment
last_is w x y n lower NotAKnot enough of_rows =
    cc (
      of_rows (n - 1) (n - dropped lower - 1) (omega arith) (omega arith),
      of_rows (n - 2) (n - dropped lower - 1 - 1) (omega arith) (omega arith),
    )
last_is w x y n lower (FirstDerivative v) enough of_rows = of_rows n (n - dropped lower - 0) (omega arith) (omega arith)
last_is w x y n lower (SecondDerivative v) enough of_rows = of_rows n (n - dropped lower - 0) (omega arith) (omega arith)

module _
    (w w₁ w₂ w₃ x : List Float) (lower upper : End)
    (enough : 2 + dropped lower + dropped upper ≤ length x) (most : length x ≤ 256)
    (solved : InnerSolved w w₁ x lower upper)
    (below : OneStored w₁ w₂ 1792 (lower_moment w₁ x lower))
    (above : OneStored w₂ w₃ (1792 + (length x - 1)) (upper_moment w₂ x (length x - 1) upper))
  where
    abbrev n : ℕ
    n = length x - 1

    abbrev y : List Float
    y = samples_in w x

    -- the rows' own moments, by their knots
    of_the_rows : (j k : ℕ) → j ≡ dropped lower + k → k ≤ n - dropped lower - dropped upper → row w₁ 1792 j ≡ inner x y n lower upper k
    of_the_rows j k e le = ap (row w₁ 1792) e ∙ solved.result k le

    still : (j k : ℕ) → j ≡ dropped lower + k → k ≤ n - dropped lower - dropped upper → row w₂ 1792 j ≡ inner x y n lower upper k
    still j k e le =
        ⊎_elim
        (λ none.
        ap (row w₂ 1792) none
        ∙ below.value
        ∙ nothing_dropped w₁ x lower (omega arith)
        ∙ ap (row w₁ 1792) (sym none)
        ∙ of_the_rows j k e le)
        (λ some. below.kept (1792 + j) (omega arith) ∙ of_the_rows j k e le)
        (zero_or_more j)

    later : (j : ℕ) → j ≢ n → row w₃ 1792 j ≡ row w₂ 1792 j
    later j off = above.kept (1792 + j) (omega arith)

    pub moments_solved : MomentsSolved w w₃ x (Endpoints lower upper)
    unfolding moment
    moments_solved = record {
      same_length = above.same_length ∙ below.same_length ∙ solved.same_length;
      result = λ k lt.
          ⊎_elim
          (λ none. rw none (later 0 (omega arith) ∙ below.value ∙ first_is w w₁ x lower upper enough solved))
          (λ some.
          rw (ne_eqb k 0 (omega arith))
          (⊎_elim
          (λ end. rw (eq-eqb k n end) (ap (row w₃ 1792) end ∙ above.value ∙ last_is w₂ x y n lower upper (omega arith) still))
          (λ before.
          rw (ne_eqb k n (omega arith))
          (later k (omega arith)
          ∙ still k (k - dropped lower) (omega (arith, dropped_most lower)) (omega (arith, dropped_most lower, dropped_most upper))))
          (eq-or-lt_of_le (let le : k ≤ n = omega arith in le))))
          (zero_or_more k);
      kept = λ j outside.
          above.kept j (λ e. outside (1536 + n) (omega arith) (omega arith))
          ∙ below.kept j (λ e. outside 1536 (omega arith) (omega arith))
          ∙ solved.kept j outside;
    }
