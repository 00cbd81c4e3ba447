-- In each lane, by the plan and the slopes, the way forward gives the second helper row of the rules and the way back the moments of its
-- rows.
use native.Mathlib.Omega.{arith}
use mathlib.Core.Path.{◌≡◌, refl, ap, sym, ◌∙◌}
use mathlib.Core.Logic.{⊎_elim}
use mathlib.Core.List.{List}
use Prim.Native.Nat.{ℕ, zero, suc, ◌+◌, ◌-◌, ◌*◌, ◌<◌, ◌≤◌}
use native.Mathlib.Nat.{eq-or-lt_of_le}
use lib.ListN.{length}
use lib.Ieee.{Float, nan}
use Rattle.rules.specs.Numbers.{at, ◌⊖◌, ◌⊗◌, ◌⊘◌}
use Rattle.rules.specs.Ends.{dropped}
use Rattle.rules.specs.Steps.{h, s, u}
use Rattle.rules.specs.Solve as Solve
use Rattle.rules.specs.Solve.{dp, before_last, thomas}
use Rattle.rules.specs.Moments.{lower_row, upper_row, inner}
use Rattle.rules.specs.declared.End.{End}
use Rattle.rules.specs.declared.End.TheVariants.{NotAKnot, FirstDerivative, SecondDerivative}
use Rattle.rules.proofs.Tables.{at_table}
use Rattle.grid_scratch.specs.Layout.{Outside}
use Rattle.tensor_fours.specs.Fours.{Lanewise, in_row, place, RowSet}
use Rattle.tensor_plan.specs.PlanOfEnds.{of_ends, EndsPlanned, EndsGiven}
use Rattle.tensor_plan.specs.declared.EndsPlan.{EndsPlan}
use Rattle.tensor_four_lanes.specs.Groups.{lower_right, upper_right, samples, SlopesOf, EndsGroup, InnerSolved}
use Rattle.tensor_four_lanes.specs.Sweeps.{step_slope, Sloped, Forward, Back}
use Rattle.tensor_fours.proofs.Fours.{below_or_not, lane, number, row_other, row_there}
use Rattle.tensor_plan.proofs.EndRows as EndRows

-- the rules' right sides of the two ends
lower_right_is :
    (w x y : List Float) (n a : ℕ) (lower : End) → 2 + dropped lower ≤ length x → ((k : ℕ) → k + 1 < length x → at w k ≡ h x k)
    → SlopesOf w x y (dropped lower + 1) a → lower_right w lower a ≡ (lower_row x y n lower).right
unfolding lower_right lower_row u
lower_right_is w x y n a NotAKnot enough steps slopes = cc (steps 1 (omega arith), slopes 0 (omega arith), slopes 1 (omega arith))
lower_right_is w x y n a (FirstDerivative v) enough steps slopes = cc (slopes 0 (omega arith))
lower_right_is w x y n a (SecondDerivative v) enough steps slopes = refl

upper_right_is :
    (w x y : List Float) (a : ℕ) (upper : End) → 2 + dropped upper ≤ length x → ((k : ℕ) → k + 1 < length x → at w k ≡ h x k)
    → SlopesOf w x y (length x - 1) a → upper_right w (length x - 1) upper a ≡ (upper_row x y (length x - 1) upper).right
unfolding upper_right upper_row u
upper_right_is w x y a NotAKnot enough steps slopes =
    let e : length x - 1 - 2 + 1 ≡ length x - 1 - 1 = omega arith in
    rw e (cc (steps (length x - 1 - 2) (omega arith), slopes (length x - 1 - 2) (omega arith), slopes (length x - 1 - 1) (omega arith)))
upper_right_is w x y a (FirstDerivative v) enough steps slopes = cc (slopes (length x - 1 - 1) (omega arith))
upper_right_is w x y a (SecondDerivative v) enough steps slopes = refl

-- what `slopes` stores is the slope of a lane's samples
pub slope_of_samples :
    (w v x : List Float) (p : List ℕ) (step k a : ℕ) → k + 1 < length x
    → at v (place p a + (k + 1) * step) ≡ at w (place p a + (k + 1) * step) → at v (place p a + k * step) ≡ at w (place p a + k * step)
    → at v k ≡ h x k
    → step_slope v p step k a ≡ s x (samples w x p step a) k
unfolding s
slope_of_samples w v x p step k a less above here e =
    cc (
      above,
      here,
      e,
      at_table (length x) (λ j. at w (place p a + j * step)) k nan (omega arith),
      at_table (length x) (λ j. at w (place p a + j * step)) (k + 1) nan less,
    )

module _
    (w w₁ w₂ w₃ w₄ w₅ w₆ x : List Float) (lower upper : End) (plan : EndsPlan) (p : List ℕ) (step : ℕ)
    (given : EndsGroup w x lower upper plan p step)
    (right first end before product difference top : List Float)
    (sloped_first : Sloped w w₁ 0 (plan.low + 1) p step)
    (right_is : Lanewise right (lower_right w₁ lower))
    (first_is : Lanewise first (λ a. at right a ⊘ at w₁ (128 + plan.low)))
    (put_first : RowSet w₁ w₂ 1536 plan.low first)
    (forth : Forward w₂ w₃ plan.low plan.last p step)
    (sloped_last : Sloped w₃ w₄ plan.last (length x - 1) p step)
    (end_is : Lanewise end (upper_right w₄ (length x - 1) upper))
    (before_is : Lanewise before (λ a. in_row w₄ 1536 (plan.last - 1) a))
    (product_is : Lanewise product (λ a. plan.sub ⊗ at before a))
    (difference_is : Lanewise difference (λ a. at end a ⊖ at product a))
    (top_is : Lanewise top (λ a. at difference a ⊘ at w₄ (128 + plan.last)))
    (put_top : RowSet w₄ w₅ 1536 plan.last top)
    (back : Back w₅ w₆ plan.low plan.last)
  where
    axis : EndsGiven w x lower upper
    axis = given.axis

    planned : EndsPlanned w x lower upper plan
    planned = given.planned

    abbrev n : ℕ
    n = length x - 1

    abbrev l : ℕ
    l = n - dropped lower - dropped upper

    low_is : plan.low ≡ dropped lower
    low_is = planned.low_is

    last_is : plan.last ≡ dropped lower + l
    last_is = omega (arith, planned.last_is, axis.enough)

    -- nothing is stored but in the two blocks
    same₁ : (j : ℕ) → Outside 1024 1024 j → at w₁ j ≡ at w j
    same₁ j out = sloped_first.kept j (λ k i a b c. omega (arith, axis, low_is, out (4 * k + i) (omega (arith, axis, low_is))))

    same₂ : (j : ℕ) → Outside 1024 1024 j → at w₂ j ≡ at w j
    same₂ j out =
        put_first.kept j (λ i lt. omega (arith, axis, low_is, out (512 + 4 * plan.low + i) (omega (arith, axis, low_is)))) ∙ same₁ j out

    same₃ : (j : ℕ) → Outside 1024 1024 j → at w₃ j ≡ at w j
    same₃ j out =
        forth.kept j
        (λ i lt. omega (arith, out (512 + i) (omega arith)))
        (λ k i a b c. omega (arith, axis, last_is, out (4 * k + i) (omega (arith, axis, last_is))))
        ∙ same₂ j out

    same₄ : (j : ℕ) → Outside 1024 1024 j → at w₄ j ≡ at w j
    same₄ j out = sloped_last.kept j (λ k i a b c. omega (arith, axis, out (4 * k + i) (omega (arith, axis)))) ∙ same₃ j out

    same₅ : (j : ℕ) → Outside 1024 1024 j → at w₅ j ≡ at w j
    same₅ j out =
        put_top.kept j (λ i lt. omega (arith, axis, last_is, out (512 + 4 * plan.last + i) (omega (arith, axis, last_is)))) ∙ same₄ j out

    module _ (a : ℕ) (lt : a < 4) where
      abbrev y : List Float
      y = samples w x p step a

      -- so numbers and steps are still there when a slope is made
      slope_from :
          (v : List Float) → ((j : ℕ) → Outside 1024 1024 j → at v j ≡ at w j) → (k : ℕ) → k < n → step_slope v p step k a ≡ s x y k
      slope_from v same k less =
          let far = lane given.numbers.behind a lt in
          slope_of_samples w v x p step k a (omega arith)
          (same (place p a + (k + 1) * step) (λ i b. omega arith))
          (same (place p a + k * step) (λ i b. omega arith))
          (same k (λ i b. omega (arith, axis)) ∙ planned.steps k (omega arith))

      slopes₁ : SlopesOf w₁ x y (dropped lower + 1) a
      slopes₁ k less =
          sloped_first.slopes a lt k (omega (arith, low_is)) (omega arith) ∙ slope_from w (λ j out. refl) k (omega (arith, axis.enough))

      slopes₂ : SlopesOf w₂ x y (dropped lower + 1) a
      slopes₂ k less = put_first.kept (1024 + 4 * k + a) (λ i b. omega (arith, axis, low_is)) ∙ slopes₁ k less

      slopes₃ : SlopesOf w₃ x y (dropped lower + l) a
      slopes₃ k less =
          ⊎_elim
          (λ low.
          forth.kept (1024 + 4 * k + a) (λ i b. omega (arith, axis)) (λ m i b c d. omega (arith, low_is))
          ∙ slopes₂ k low)
          (λ more. forth.slopes a lt k (omega (arith, last_is)) (omega (arith, low_is)) ∙ slope_from w₂ same₂ k (omega arith))
          (below_or_not k (dropped lower + 1))

      slopes₄ : SlopesOf w₄ x y n a
      slopes₄ k less =
          ⊎_elim
          (λ low. sloped_last.kept (1024 + 4 * k + a) (λ m i b c d. omega (arith, last_is)) ∙ slopes₃ k low)
          (λ more. sloped_last.slopes a lt k less (omega (arith, last_is)) ∙ slope_from w₃ same₃ k less)
          (below_or_not k (dropped lower + l))

      -- the second helper row by induction, up to the row before the last
      helper_first : 0 < l → in_row w₃ 1536 (dropped lower + 0) a ≡ of_ends dp x y n lower upper 0
      unfolding dp Solve.w
      helper_first less =
          let e : dropped lower + 0 ≡ plan.low = omega (arith, low_is) in
          rw e
          (cc (
            forth.first_is a lt,
            row_there put_first first_is a lt,
            number right_is a lt,
            lower_right_is w₁ x y n a lower (omega (arith, axis.enough)) (λ k b. same₁ k (λ i c. omega (arith, axis)) ∙ planned.steps k b)
                slopes₁,
            EndRows.rhs_first x y n lower upper,
            same₁ (128 + plan.low) (λ i b. omega (arith, axis, low_is)),
            ap (λ (k : ℕ). at w (128 + k)) (let f : plan.low ≡ dropped lower + 0 = omega (arith, low_is) in f),
            planned.divisors y 0 (omega arith),
          ))

      helper_next : (j : ℕ) → suc j < l → in_row w₃ 1536 (dropped lower + j) a ≡ of_ends dp x y n lower upper j
          → in_row w₃ 1536 (dropped lower + suc j) a ≡ of_ends dp x y n lower upper (suc j)
      unfolding dp
      helper_next j less is =
          let e : dropped lower + j + 1 ≡ dropped lower + suc j = omega arith in
          cc (
            forth.next a lt (dropped lower + j) (omega (arith, last_is)) (omega (arith, low_is)),
            slopes₃ (dropped lower + j + 1) (omega arith),
            slopes₃ (dropped lower + j) (omega arith),
            same₂ (dropped lower + j) (λ i b. omega (arith, axis)),
            planned.steps (dropped lower + j) (omega (arith, axis)),
            same₂ (128 + (dropped lower + j + 1)) (λ i b. omega (arith, axis)),
            planned.divisors y (suc j) (omega arith),
            EndRows.rhs_inside x y n lower upper j less,
            EndRows.sub_inside x y n lower upper j less,
          )

      helper₃ : (j : ℕ) → j < l → in_row w₃ 1536 (dropped lower + j) a ≡ of_ends dp x y n lower upper j
      helper₃ zero less = helper_first less
      helper₃ (suc j) less = helper_next j less (helper₃ j (omega arith))

      helper : (j : ℕ) → j < l → in_row w₄ 1536 (dropped lower + j) a ≡ of_ends dp x y n lower upper j
      helper j less = sloped_last.kept (1536 + 4 * (dropped lower + j) + a) (λ m i b c d. omega (arith, axis)) ∙ helper₃ j less

      -- the last row's
      helper_last : (j : ℕ) → suc j ≡ l → in_row w₅ 1536 plan.last a ≡ of_ends dp x y n lower upper (suc j)
      unfolding dp
      helper_last j e =
          let f : plan.last - 1 ≡ dropped lower + j = omega (arith, last_is) in
          let g : plan.last ≡ dropped lower + suc j = omega (arith, last_is) in
          cc (
            row_there put_top top_is a lt,
            number difference_is a lt,
            number product_is a lt,
            number before_is a lt,
            number end_is a lt,
            upper_right_is w₄ x y a upper (omega (arith, axis.enough)) (λ k b. same₄ k (λ i c. omega (arith, axis)) ∙ planned.steps k b)
                slopes₄,
            EndRows.rhs_last x y n lower upper j e,
            EndRows.sub_last x y n lower upper j e,
            planned.sub_is y,
            helper j (omega arith),
            same₄ (128 + plan.last) (λ i b. omega (arith, axis, last_is)),
            planned.divisors y (suc j) (omega arith),
          )

      helpers : (j : ℕ) → j ≤ l → in_row w₅ 1536 (dropped lower + j) a ≡ of_ends dp x y n lower upper j
      helpers j le =
          ⊎_elim
          (λ e. at_end j e)
          (λ less. row_other put_top (dropped lower + j) (omega (arith, last_is)) a lt ∙ helper j less)
          (eq-or-lt_of_le le)
        where
          at_end : (j : ℕ) → j ≡ l → in_row w₅ 1536 (dropped lower + j) a ≡ of_ends dp x y n lower upper j
          at_end zero e = absurd (omega (arith, axis.enough))
          at_end (suc j) e =
              ap (λ (k : ℕ). in_row w₅ 1536 k a) (let f : dropped lower + suc j ≡ plan.last = omega (arith, last_is) in f)
              ∙ helper_last j e

      -- the moments by induction, from the last row down
      back_first : in_row w₆ 1536 (dropped lower + (l - 0)) a ≡ of_ends before_last x y n lower upper l 0
      unfolding before_last
      back_first =
          let e : dropped lower + (l - 0) ≡ plan.last = omega (arith, last_is) in
          let f : dropped lower + l ≡ plan.last = omega (arith, last_is) in
          rw e (back.top a lt ∙ ap (λ (k : ℕ). in_row w₅ 1536 k a) (sym f) ∙ helpers l (omega arith))

      back_next : (j : ℕ) → suc j ≤ l → in_row w₆ 1536 (dropped lower + (l - j)) a ≡ of_ends before_last x y n lower upper l j
          → in_row w₆ 1536 (dropped lower + (l - suc j)) a ≡ of_ends before_last x y n lower upper l (suc j)
      unfolding before_last
      back_next j le is =
          let e : dropped lower + (l - suc j) + 1 ≡ dropped lower + (l - j) = omega arith in
          cc (
            back.next a lt (dropped lower + (l - suc j)) (omega (arith, low_is)) (omega (arith, last_is)),
            helpers (l - suc j) (omega arith),
            same₅ (256 + (dropped lower + (l - suc j))) (λ i b. omega (arith, axis)),
            planned.helpers y (l - suc j) (omega arith),
          )

      before_the_last : (j : ℕ) → j ≤ l → in_row w₆ 1536 (dropped lower + (l - j)) a ≡ of_ends before_last x y n lower upper l j
      before_the_last zero le = back_first
      before_the_last (suc j) le = back_next j le (before_the_last j (omega arith))

      moments : (j : ℕ) → j ≤ l → in_row w₆ 1536 (dropped lower + j) a ≡ inner x y n lower upper j
      unfolding inner thomas
      moments j le = let e : l - (l - j) ≡ j = omega arith in rw e at (before_the_last (l - j) (omega arith))

      slopes₆ : SlopesOf w₆ x y n a
      slopes₆ k less =
          back.kept (1024 + 4 * k + a) (λ i b. omega (arith, axis))
          ∙ put_top.kept (1024 + 4 * k + a) (λ i b. omega (arith, axis))
          ∙ slopes₄ k less

    pub rows_solved : InnerSolved w w₆ x lower upper p step
    rows_solved = record {
      same_length =
          back.same_length ∙ put_top.same_length ∙ sloped_last.same_length ∙ forth.same_length ∙ put_first.same_length
          ∙ sloped_first.same_length;
      slopes = slopes₆;
      result = moments;
      kept = λ j out. back.kept j (λ i lt. omega (arith, out (512 + i) (omega arith))) ∙ same₅ j out;
    }
