-- The moments of a periodic lane: its rows are the definition's, so the cyclic solve is its solve, and the last moment is the first.
use native.Mathlib.Omega.{arith}
use mathlib.Core.Path.{◌≡◌, ap, ◌∙◌}
use mathlib.Core.Logic.{⊎_elim}
use mathlib.Core.List.{List}
use Prim.Native.Nat.{ℕ, ◌+◌, ◌-◌, ◌<◌, ◌≤◌}
use native.Mathlib.Nat.{eq-or-lt_of_le}
use lib.ListN.{length, set, length-set}
use lib.Seq.{get_or-set_same, get_or-set_other}
use borrow.Author.Tests.{eq-eqb, ne_eqb, le-leb, lt-leb}
use lib.Ieee.{Float, nan}
use Rattle.rules.specs.Numbers.{at, plus_zero}
use Rattle.rules.specs.Steps.{h}
use Rattle.rules.specs.Moments.{periodic_diag, periodic_rhs, periodic_moment, moment}
use Rattle.rules.specs.declared.Condition.TheVariants.{Periodic}
use Rattle.grid_scratch.specs.Layout.{row}
use Rattle.axis_solve.specs.Cyclic.{CyclicSolved}
use Rattle.axis_solve.proofs.Agreement.{same_cyclic}
use Rattle.axis_rows.specs.Rows.{samples_in, RowsFit, InteriorRows, FirstRow, periodic_row}
use Rattle.rules.proofs.Cases.{zero_or_more}
use Rattle.axis_moments.specs.SolvedMoments.{MomentsSolved}

module _
    (w w₁ w₂ w₃ x : List Float) (given : RowsFit w x) (more : 3 ≤ length x)
    (between : InteriorRows w w₁ x (samples_in w x) 0 (length x - 1))
    (first : FirstRow w₁ w₂ (periodic_row x (samples_in w x)))
    (solved : CyclicSolved w₂ w₃ (length x - 1 - 1) (h x (length x - 1 - 1)))
  where
    abbrev n : ℕ
    n = length x - 1

    abbrev l : ℕ
    l = n - 1

    abbrev y : List Float
    y = samples_in w x

    same_sub : (k : ℕ) → k < l → row w₂ 256 k ≡ h x k
    same_sub k below =
        first.kept (256 + k) (omega (arith, given)) (omega (arith, given)) (omega (arith, given))
        ∙ between.sub k (omega arith)
        ∙ ap (h x) (let e : 0 + k ≡ k = omega arith in e)

    same_sup : (k : ℕ) → k < l → row w₂ 768 k ≡ h x k
    same_sup k below =
        ⊎_elim
        (λ none. rw none first.sup)
        (λ some.
        first.kept (768 + k) (omega (arith, given)) (omega arith) (omega (arith, given))
        ∙ between.sup k some (omega arith)
        ∙ ap (h x) (let e : 0 + k ≡ k = omega arith in e))
        (zero_or_more k)

    same_diag : (k : ℕ) → k ≤ l → row w₂ 512 k ≡ periodic_diag x y n k
    unfolding periodic_diag
    same_diag k le =
        ⊎_elim
        (λ none. rw none first.diag)
        (λ some.
        rw (ne_eqb k 0 (omega arith))
        (first.kept (512 + k) (omega arith) (omega (arith, given)) (omega (arith, given))
        ∙ between.diag k some (omega arith)
        ∙ cc (let e : 0 + k ≡ k = omega arith in e)))
        (zero_or_more k)

    same_rhs : (k : ℕ) → k ≤ l → row w₂ 1024 k ≡ periodic_rhs x y n k
    unfolding periodic_rhs
    same_rhs k le =
        ⊎_elim
        (λ none. rw none first.rhs)
        (λ some.
        rw (ne_eqb k 0 (omega arith))
        (first.kept (1024 + k) (omega (arith, given)) (omega (arith, given)) (omega arith)
        ∙ between.rhs k some (omega arith)
        ∙ cc (let e : 0 + k ≡ k = omega arith in e)))
        (zero_or_more k)

    by_the_rows : (k : ℕ) → k ≤ l → row w₃ 1792 k ≡ periodic_moment x y n k
    unfolding periodic_moment
    by_the_rows k le =
        solved.result k le
        ∙ same_cyclic _ _ _ _ (h x) (periodic_diag x y n) (h x) (periodic_rhs x y n) (h x l) l same_sub same_diag same_sup same_rhs k

    room : 1792 + n < length w₃
    room = omega (arith, given, between.same_length, first.same_length, solved.same_length)

    -- with the first moment stored as the last
    pub cyclic_solved : MomentsSolved w (set w₃ (1792 + n) (at w₃ 1792)) x Periodic
    unfolding moment
    cyclic_solved = record {
      same_length = simp length-set (solved.same_length ∙ first.same_length ∙ between.same_length);
      result = λ k lt.
          rw (lt-leb n 1 (omega arith))
          (⊎_elim
          (λ end.
          rw (eq-eqb k n end)
          (ap (row (set w₃ (1792 + n) (at w₃ 1792)) 1792) end ∙ get_or-set_same w₃ (1792 + n) (at w₃ 1792) nan room
          ∙ by_the_rows 0 (omega arith)))
          (λ before.
          rw (ne_eqb k n (omega arith))
          (get_or-set_other w₃ (1792 + n) (1792 + k) (at w₃ 1792) nan (omega arith) ∙ by_the_rows k (omega arith)))
          (eq-or-lt_of_le (let le : k ≤ n = omega arith in le)));
      kept = λ j outside.
          get_or-set_other w₃ (1792 + n) j (at w₃ 1792) nan (λ e. outside (1536 + n) (omega (arith, given)) (omega arith))
          ∙ solved.kept j (λ k below e. outside (256 + k) (omega arith) (omega arith))
          (λ k below e. outside (768 + k) (omega arith) (omega arith))
          ∙ first.kept j (λ e. outside 256 (omega arith) (omega arith)) (λ e. outside 512 (omega arith) (omega arith))
          (λ e. outside 768 (omega arith) (omega arith))
          ∙ between.kept j (λ k below e. outside k (omega arith) (omega arith));
    }

-- one interval: two zeros
pub one_interval : (w x : List Float) → RowsFit w x → length x < 3 → MomentsSolved w (set (set w 1792 plus_zero) 1793 plus_zero) x Periodic
unfolding moment
one_interval w x given few =
    let w₁ : List Float = set w 1792 plus_zero in
    record {
      same_length = simp length-set;
      result = λ k lt.
          rw (le-leb (length x - 1) 1 (omega arith))
          (⊎_elim
          (λ none.
          rw none (get_or-set_other w₁ 1793 1792 plus_zero nan (omega arith) ∙ get_or-set_same w 1792 plus_zero nan (omega (arith, given))))
          (λ some.
          ap (row (set w₁ 1793 plus_zero) 1792) (let e : k ≡ 1 = omega (arith, given) in e)
          ∙ get_or-set_same w₁ 1793 plus_zero nan (simp length-set (omega (arith, given))))
          (zero_or_more k));
      kept = λ j outside.
          get_or-set_other w₁ 1793 j plus_zero nan (λ e. outside 1537 (omega arith) (omega arith))
          ∙ get_or-set_other w 1792 j plus_zero nan (λ e. outside 1536 (omega arith) (omega arith));
    }
