-- In each lane of a periodic axis, what the ways forward and back leave, less its part of z, are the moments that the rules give.
use native.Mathlib.Omega.{arith}
use mathlib.Core.Path.{◌≡◌, refl, ap, ◌∙◌}
use mathlib.Core.Logic.{⊎_elim}
use mathlib.Core.List.{List}
use Prim.Native.Nat.{ℕ, zero, suc, ◌+◌, ◌-◌, ◌*◌, ◌<◌, ◌≤◌}
use native.Mathlib.Nat.{eq-or-lt_of_le}
use lib.ListN.{length}
use lib.Ieee.{Float}
use borrow.Author.Tests.{eq-eqb, ne_eqb, lt-leb}
use Rattle.rules.specs.Numbers.{at, ◌⊕◌, ◌⊖◌, ◌⊗◌, ◌⊘◌, six}
use Rattle.rules.specs.Steps.{s, u}
use Rattle.rules.specs.Solve as Solve
use Rattle.rules.specs.Solve.{dp, before_last, thomas, factor, cyclic_thomas}
use Rattle.rules.specs.Moments.{periodic_rhs, periodic_moment, moment}
use Rattle.rules.specs.declared.Condition.TheVariants.{Periodic}
use Rattle.grid_scratch.specs.Layout.{Outside}
use Rattle.tensor_fours.specs.Fours.{Lanewise, in_row, place, RowSet}
use Rattle.tensor_plan.specs.Cycle.{of_cycle, of_open, CyclePlanned}
use Rattle.tensor_four_lanes.specs.Groups.{samples, SlopesOf, MomentsSolved, CycleGroup, Subtracted}
use Rattle.tensor_four_lanes.specs.Sweeps.{step_slope, Sloped, Forward, Back}
use Rattle.tensor_fours.proofs.Fours.{lane, number, row_other, row_there}
use Rattle.tensor_four_lanes.proofs.InnerMoments.{slope_of_samples}

rhs_next : (x y : List Float) (n k : ℕ) → periodic_rhs x y n (suc k) ≡ six ⊗ (s x y (k + 1) ⊖ s x y k)
unfolding periodic_rhs u
rhs_next x y n k = let e : suc k - 1 ≡ k = omega arith in rw (ne_eqb (suc k) 0 (omega arith), e)

cyclic_is :
    (x y : List Float) (n l k : ℕ) → 0 < l
    → of_cycle cyclic_thomas x y n l k ≡ of_cycle Solve.y x y n l k ⊖ of_cycle factor x y n l ⊗ of_cycle Solve.z x y n l k
unfolding cyclic_thomas
cyclic_is x y n zero k some = absurd (omega arith)
cyclic_is x y n (suc l) k some = refl

module _
    (w w₁ w₂ w₃ w₄ w₅ w₆ w₇ x : List Float) (ratio rest : Float) (p : List ℕ) (step : ℕ) (given : CycleGroup w x ratio rest p step)
    (s_0 s_l difference six_times first y_0 y_l product sum factors m : List Float)
    (sloped_first : Sloped w w₁ 0 1 p step)
    (sloped_last : Sloped w₁ w₂ (length x - 1 - 1) (length x - 1) p step)
    (s_0_is : Lanewise s_0 (λ a. in_row w₂ 1024 0 a))
    (s_l_is : Lanewise s_l (λ a. in_row w₂ 1024 (length x - 1 - 1) a))
    (difference_is : Lanewise difference (λ a. at s_0 a ⊖ at s_l a))
    (six_times_is : Lanewise six_times (λ a. six ⊗ at difference a))
    (first_is : Lanewise first (λ a. at six_times a ⊘ at w₂ 128))
    (put_first : RowSet w₂ w₃ 1536 0 first)
    (forth : Forward w₃ w₄ 0 (length x - 1) p step)
    (back : Back w₄ w₅ 0 (length x - 1 - 1))
    (y_0_is : Lanewise y_0 (λ a. in_row w₅ 1536 0 a))
    (y_l_is : Lanewise y_l (λ a. in_row w₅ 1536 (length x - 1 - 1) a))
    (product_is : Lanewise product (λ a. ratio ⊗ at y_l a))
    (sum_is_lem : Lanewise sum (λ a. at y_0 a ⊕ at product a))
    (factors_is : Lanewise factors (λ a. at sum a ⊘ rest))
    (less_z : Subtracted w₅ w₆ (length x - 1) factors)
    (m_is : Lanewise m (λ a. in_row w₆ 1536 0 a))
    (put_last : RowSet w₆ w₇ 1536 (length x - 1) m)
  where
    planned : CyclePlanned w x ratio rest
    planned = given.planned

    abbrev n : ℕ
    n = length x - 1

    abbrev l : ℕ
    l = length x - 1 - 1

    enough : 3 ≤ length x
    enough = given.enough

    few : length x ≤ 128
    few = given.few

    same₁ : (j : ℕ) → Outside 1024 1024 j → at w₁ j ≡ at w j
    same₁ j out = sloped_first.kept j (λ k i a b c. omega (arith, out (4 * k + i) (omega arith)))

    same₂ : (j : ℕ) → Outside 1024 1024 j → at w₂ j ≡ at w j
    same₂ j out = sloped_last.kept j (λ k i a b c. omega (arith, few, out (4 * k + i) (omega (arith, few)))) ∙ same₁ j out

    same₃ : (j : ℕ) → Outside 1024 1024 j → at w₃ j ≡ at w j
    same₃ j out = put_first.kept j (λ i lt. omega (arith, out (512 + i) (omega arith))) ∙ same₂ j out

    same₄ : (j : ℕ) → Outside 1024 1024 j → at w₄ j ≡ at w j
    same₄ j out =
        forth.kept j (λ i lt. omega (arith, out (512 + i) (omega arith)))
        (λ k i a b c. omega (arith, few, out (4 * k + i) (omega (arith, few))))
        ∙ same₃ j out

    same₅ : (j : ℕ) → Outside 1024 1024 j → at w₅ j ≡ at w j
    same₅ j out = back.kept j (λ i lt. omega (arith, out (512 + i) (omega arith))) ∙ same₄ j out

    module _ (a : ℕ) (lt : a < 4) where
      abbrev y : List Float
      y = samples w x p step a

      slope_from :
          (v : List Float) → ((j : ℕ) → Outside 1024 1024 j → at v j ≡ at w j) → (k : ℕ) → k < n → step_slope v p step k a ≡ s x y k
      slope_from v same k less =
          let far = lane given.numbers.behind a lt in
          slope_of_samples w v x p step k a (omega arith)
          (same (place p a + (k + 1) * step) (λ i b. omega arith))
          (same (place p a + k * step) (λ i b. omega arith))
          (same k (λ i b. omega (arith, few)) ∙ planned.steps k (omega arith))

      slope_0 : in_row w₂ 1024 0 a ≡ s x y 0
      slope_0 =
          sloped_last.kept (1024 + 4 * 0 + a) (λ m i b c d. omega (arith, enough))
          ∙ sloped_first.slopes a lt 0 (omega arith) (omega arith)
          ∙ slope_from w (λ j out. refl) 0 (omega (arith, enough))

      slope_l : in_row w₂ 1024 l a ≡ s x y l
      slope_l = sloped_last.slopes a lt l (omega (arith, enough)) (omega arith) ∙ slope_from w₁ same₁ l (omega (arith, enough))

      slopes₄ : SlopesOf w₄ x y n a
      slopes₄ zero less =
          forth.kept (1024 + 4 * 0 + a) (λ i b. omega arith) (λ m i b c d. omega arith)
          ∙ put_first.kept (1024 + 4 * 0 + a) (λ i b. omega arith)
          ∙ slope_0
      slopes₄ (suc k) less = forth.slopes a lt (suc k) less (omega arith) ∙ slope_from w₃ same₃ (suc k) less

      helper_first : in_row w₄ 1536 0 a ≡ of_open dp x y n 0
      unfolding dp Solve.w periodic_rhs
      helper_first =
          cc (
            forth.first_is a lt,
            row_there put_first first_is a lt,
            number six_times_is a lt,
            number difference_is a lt,
            number s_0_is a lt,
            number s_l_is a lt,
            slope_0,
            slope_l,
            same₂ 128 (λ i b. omega arith),
            planned.divisors y 0 (omega arith),
          )

      helper_next : (k : ℕ) → suc k ≤ l → in_row w₄ 1536 k a ≡ of_open dp x y n k → in_row w₄ 1536 (suc k) a ≡ of_open dp x y n (suc k)
      unfolding dp
      helper_next k le is =
          let e : k + 1 ≡ suc k = omega arith in
          cc (
            forth.next a lt k (omega arith) (omega arith),
            slopes₄ (k + 1) (omega arith),
            slopes₄ k (omega arith),
            same₃ k (λ i b. omega (arith, few)),
            planned.steps k (omega arith),
            same₃ (128 + (k + 1)) (λ i b. omega (arith, few)),
            planned.divisors y (suc k) le,
            rhs_next x y n k,
          )

      helper : (k : ℕ) → k ≤ l → in_row w₄ 1536 k a ≡ of_open dp x y n k
      helper zero le = helper_first
      helper (suc k) le = helper_next k le (helper k (omega arith))

      back_first : in_row w₅ 1536 (l - 0) a ≡ of_open before_last x y n l 0
      unfolding before_last
      back_first = let e : l - 0 ≡ l = omega arith in rw e (back.top a lt ∙ helper l (omega arith))

      back_next : (j : ℕ) → suc j ≤ l → in_row w₅ 1536 (l - j) a ≡ of_open before_last x y n l j
          → in_row w₅ 1536 (l - suc j) a ≡ of_open before_last x y n l (suc j)
      unfolding before_last
      back_next j le is =
          let e : l - suc j + 1 ≡ l - j = omega arith in
          cc (
            back.next a lt (l - suc j) (omega arith) (omega arith),
            helper (l - suc j) (omega arith),
            same₄ (256 + (l - suc j)) (λ i b. omega (arith, few)),
            planned.helpers y (l - suc j) (omega arith),
          )

      before_the_last : (j : ℕ) → j ≤ l → in_row w₅ 1536 (l - j) a ≡ of_open before_last x y n l j
      before_the_last zero le = back_first
      before_the_last (suc j) le = back_next j le (before_the_last j (omega arith))

      y_is : (k : ℕ) → k ≤ l → in_row w₅ 1536 k a ≡ of_cycle Solve.y x y n l k
      unfolding Solve.y thomas
      y_is k le = let e : l - (l - k) ≡ k = omega arith in rw e at (before_the_last (l - k) (omega arith))

      factor_is : at factors a ≡ of_cycle factor x y n l
      unfolding factor
      factor_is =
          cc (
            number factors_is a lt,
            number sum_is_lem a lt,
            number product_is a lt,
            number y_0_is a lt,
            number y_l_is a lt,
            y_is 0 (omega arith),
            y_is l (omega arith),
            planned.ratio_is y,
            planned.rest_is y,
          )

      moment₆ : (k : ℕ) → k < n → in_row w₆ 1536 k a ≡ periodic_moment x y n k
      unfolding periodic_moment
      moment₆ k less =
          cc (
            less_z.result a lt k less,
            y_is k (omega arith),
            factor_is,
            same₅ (384 + k) (λ i b. omega (arith, few)),
            planned.second y k (omega arith),
            cyclic_is x y n l k (omega (arith, enough)),
          )

      all : (k : ℕ) → k < length x → in_row w₇ 1536 k a ≡ moment x y n Periodic k
      unfolding moment
      all k less =
          rw (lt-leb n 1 (omega (arith, enough)))
          (⊎_elim
          (λ end.
          rw (eq-eqb k n end)
          (ap (λ (i : ℕ). in_row w₇ 1536 i a) end ∙ row_there put_last m_is a lt ∙ moment₆ 0 (omega (arith, enough))))
          (λ before. rw (ne_eqb k n (omega arith)) (row_other put_last k (omega arith) a lt ∙ moment₆ k before))
          (eq-or-lt_of_le (let le : k ≤ n = omega arith in le)))

    pub cycle_solved : MomentsSolved w w₇ x Periodic p step
    cycle_solved = record {
      same_length =
          put_last.same_length ∙ less_z.same_length ∙ back.same_length ∙ forth.same_length ∙ put_first.same_length
          ∙ sloped_last.same_length
          ∙ sloped_first.same_length;
      slopes = λ a lt k less.
          put_last.kept (1024 + 4 * k + a) (λ i b. omega (arith, few))
          ∙ less_z.kept (1024 + 4 * k + a) (λ i b. omega (arith, few))
          ∙ back.kept (1024 + 4 * k + a) (λ i b. omega (arith, few))
          ∙ slopes₄ a lt k less;
      result = all;
      kept = λ j out.
          put_last.kept j (λ i lt. omega (arith, few, out (512 + 4 * n + i) (omega (arith, few))))
          ∙ less_z.kept j (λ i lt. omega (arith, out (512 + i) (omega arith)))
          ∙ same₅ j out;
    }
