-- The rows of both ends and those between them are the rows of the definition, so their solve is its solve.
use native.Mathlib.Omega.{arith}
use mathlib.Core.Path.{◌≡◌, refl, ap, ◌∙◌}
use mathlib.Core.Logic.{◌≢◌, ◌⊎◌, inl, inr, ⊎_elim}
use mathlib.Core.Bool.{cond}
use mathlib.Core.List.{List}
use Prim.Native.Nat.{ℕ, zero, suc, ◌+◌, ◌-◌, ◌<◌, ◌≤◌}
use native.Mathlib.Nat.{eq-or-lt_of_le}
use lib.Dec.{eqb}
use lib.ListN.{length}
use borrow.Author.Tests.{eq-eqb, ne_eqb}
use lib.Ieee.{Float}
use Rattle.rules.specs.Numbers.{at}
use Rattle.rules.specs.Ends.{dropped}
use Rattle.rules.specs.Moments.{lower_row, upper_row, sub, diag, sup, rhs, inner}
use Rattle.rules.specs.declared.End.{End}
use Rattle.rules.specs.declared.End.TheVariants.{NotAKnot, FirstDerivative, SecondDerivative}
use Rattle.axis_rows.specs.declared.EndRow.{EndRow}
use Rattle.axis_solve.specs.RowsSolved.{Solved}
use Rattle.grid_scratch.specs.Layout.{row}
use Rattle.axis_solve.proofs.Agreement.{same_thomas}
use Rattle.axis_rows.specs.Rows.{lower_end_row, upper_end_row, samples_in, RowsFit, InteriorRows, FirstRow, LastRow}
use Rattle.rules.proofs.Cases.{zero_or_more}
use Rattle.rules.proofs.Ends.{dropped_most}
use Rattle.axis_moments.specs.SolvedMoments.{InnerSolved}

module _
    (w w₁ w₂ w₃ w₄ x : List Float) (lower upper : End) (given : RowsFit w x)
    (enough : 2 + dropped lower + dropped upper ≤ length x)
  where
    abbrev n : ℕ
    n = length x - 1

    abbrev y : List Float
    y = samples_in w x

    abbrev start : ℕ
    start = dropped lower

    abbrev l : ℕ
    l = n - dropped lower - dropped upper

    module _
        (between : InteriorRows w w₁ x y start l) (first : FirstRow w₁ w₂ (lower_row x y n lower))
        (last : LastRow w₂ w₃ l (upper_row x y n upper)) (solved : Solved w₃ w₄ l (1792 + start))
      where
        some : 0 < l
        some = omega arith

        small : l < 256
        small = omega (arith, given)

        -- what is no place of an end's row stands as the rows between left it
        untouched : (j : ℕ) → j ≢ 512 → j ≢ 768 → j ≢ 1024 → j ≢ 255 + l → j ≢ 512 + l → j ≢ 1024 + l → at w₃ j ≡ at w₁ j
        untouched j a b c d e f = last.kept j d e f ∙ first.kept j a b c

        same_sub : (k : ℕ) → k < l → row w₃ 256 k ≡ sub x y n lower upper k
        unfolding sub
        same_sub k below =
            ⊎_elim
            (λ here.
            rw (eq-eqb (k + 1) l here)
            (ap (at w₃) (let e : 256 + k ≡ 255 + l = omega arith in e) ∙ last.sub))
            (λ before.
            rw (ne_eqb (k + 1) l (omega arith))
            (untouched (256 + k) (omega (arith, small)) (omega (arith, small)) (omega (arith, small)) (omega arith) (omega (arith, small))
            (omega (arith, small))
            ∙ between.sub k before))
            (eq-or-lt_of_le (let le : k + 1 ≤ l = omega arith in le))

        -- a row with the first from the lower end, the last from the upper and all else between them
        first_last_between :
            (base : ℕ) (a b : Float) (f : ℕ → Float)
            → row w₃ base 0 ≡ a → row w₃ base l ≡ b → ((k : ℕ) → 0 < k → k < l → row w₃ base k ≡ f k)
            → (k : ℕ) → k ≤ l → row w₃ base k ≡ cond (eqb k 0) a (cond (eqb k l) b (f k))
        first_last_between base a b f at_0 at_l at_k k most =
            ⊎_elim
            (λ e. rw e at_0)
            (λ more.
            rw (ne_eqb k 0 (omega arith))
            (⊎_elim (λ e. rw (eq-eqb k l e) (ap (row w₃ base) e ∙ at_l)) (λ below. rw (ne_eqb k l (omega arith)) (at_k k more below))
            (eq-or-lt_of_le most)))
            (zero_or_more k)

        same_diag : (k : ℕ) → k ≤ l → row w₃ 512 k ≡ diag x y n lower upper k
        unfolding diag
        same_diag =
            first_last_between 512 _ _ _
            (last.kept 512 (omega (arith, small)) (omega (arith, some)) (omega (arith, some)) ∙ first.diag)
            last.diag
            (λ k more below.
            untouched (512 + k) (omega arith) (omega (arith, small)) (omega (arith, small)) (omega (arith, small)) (omega arith)
            (omega (arith, small))
            ∙ between.diag k more below)

        same_sup : (k : ℕ) → k < l → row w₃ 768 k ≡ sup x y n lower upper k
        unfolding sup
        same_sup k below =
            ⊎_elim
            (λ e. rw e (last.kept 768 (omega (arith, small)) (omega (arith, small)) (omega (arith, small)) ∙ first.sup))
            (λ more.
            rw (ne_eqb k 0 (omega arith))
            (untouched (768 + k) (omega (arith, small)) (omega arith) (omega (arith, small)) (omega (arith, small)) (omega (arith, small))
            (omega (arith, small))
            ∙ between.sup k more below))
            (zero_or_more k)

        same_rhs : (k : ℕ) → k ≤ l → row w₃ 1024 k ≡ rhs x y n lower upper k
        unfolding rhs
        same_rhs =
            first_last_between 1024 _ _ _
            (last.kept 1024 (omega (arith, small)) (omega (arith, small)) (omega (arith, some)) ∙ first.rhs)
            last.rhs
            (λ k more below.
            untouched (1024 + k) (omega (arith, small)) (omega (arith, small)) (omega arith) (omega (arith, small)) (omega (arith, small))
            (omega arith)
            ∙ between.rhs k more below)

        pub inner_solved : InnerSolved w w₄ x lower upper
        unfolding inner
        inner_solved = record {
          same_length = solved.same_length ∙ last.same_length ∙ first.same_length ∙ between.same_length;
          result = λ k most.
              ap (at w₄) (let e : 1792 + (start + k) ≡ 1792 + start + k = omega arith in e)
              ∙ solved.result k most
              ∙ same_thomas _ _ _ _ _ _ _ _ l same_sub same_diag same_sup same_rhs k;
          kept = λ j outside.
              solved.kept j
              (λ k below e. outside (1024 + k) (omega arith) (omega arith))
              (λ k below e. outside (1536 + start + k) (omega (arith, small, given)) (omega arith))
              ∙ untouched j
              (λ e. outside 256 (omega arith) (omega arith))
              (λ e. outside 512 (omega arith) (omega arith))
              (λ e. outside 768 (omega arith) (omega arith))
              (λ e. outside (l - 1) (omega (arith, small)) (omega (arith, some)))
              (λ e. outside (256 + l) (omega (arith, small)) (omega arith))
              (λ e. outside (768 + l) (omega (arith, small)) (omega arith))
              ∙ between.kept j (λ k below e. outside k (omega arith) e);
        }

-- what an end's row says that it drops is what its end drops
pub lower_drops : (x y : List Float) (end : End) (first : EndRow) → first ≡ lower_end_row x y end → first.dropped ≡ dropped end
lower_drops x y end first e = ap (λ (r : EndRow). r.dropped) e

pub upper_drops : (x y : List Float) (end : End) (last : EndRow) → last ≡ upper_end_row x y end → last.dropped ≡ dropped end
upper_drops x y end last e = ap (λ (r : EndRow). r.dropped) e

-- the same of the rows as they are found
pub rows_solved :
    (w w₁ w₂ w₃ w₄ x : List Float) (lower upper : End) (first last : EndRow)
    → RowsFit w x → 2 + dropped lower + dropped upper ≤ length x
    → first ≡ lower_end_row x (samples_in w x) lower → last ≡ upper_end_row x (samples_in w x) upper
    → InteriorRows w w₁ x (samples_in w x) first.dropped (length x - 1 - first.dropped - last.dropped)
    → FirstRow w₁ w₂ first.row
    → LastRow w₂ w₃ (length x - 1 - first.dropped - last.dropped) last.row
    → Solved w₃ w₄ (length x - 1 - first.dropped - last.dropped) (1792 + first.dropped)
    → InnerSolved w w₄ x lower upper
rows_solved w w₁ w₂ w₃ w₄ x lower upper first last given enough e f between at_first at_last solved =
    inner_solved w w₁ w₂ w₃ w₄ x lower upper given enough
    (rw (e, f) at between) (rw e at at_first) (rw (e, f) at at_last) (rw (e, f) at solved)
