-- What `plan_cycle` leaves is a plan by the rules, whatever the samples.
use native.Mathlib.Omega.{arith}
use mathlib.Core.Path.{◌≡◌, refl, ap, ◌∙◌}
use mathlib.Core.Logic.{◌≢◌, ⊎_elim}
use mathlib.Core.List.{List}
use Prim.Native.Nat.{ℕ, zero, suc, ◌+◌, ◌-◌, ◌<◌, ◌≤◌}
use native.Mathlib.Nat.{eq-or-lt_of_le}
use lib.ListN.{length, set, length-set}
use lib.Seq.{get_or-set_same, get_or-set_other}
use lib.Ieee.{Float, nan, neg}
use borrow.Author.Tests.{eq-eqb, ne_eqb}
use Rattle.rules.specs.Numbers.{at, ◌⊕◌, ◌⊖◌, ◌⊗◌, ◌⊘◌, two, one, plus_zero}
use Rattle.rules.specs.Steps.{h}
use Rattle.rules.specs.Solve as Solve
use Rattle.rules.specs.Solve.{cp, dp, before_last, thomas, gamma, diag_mod, u_vec}
use Rattle.rules.specs.Moments.{periodic_diag}
use Rattle.grid_scratch.specs.Layout.{Outside}
use Rattle.tensor_plan.specs.Cycle.{of_cycle, of_open, SecondForth, SecondBack, CycleGiven, CyclePlanMade}
use Rattle.tensor_plan.specs.PlanOfEnds.{Stepped, Divided}

module _ (x : List Float) where
  abbrev n : ℕ
  n = length x - 1

  abbrev l : ℕ
  l = length x - 1 - 1

  abbrev corner : Float
  corner = h x l

  -- the diagonal of the first row, as it is with the corners
  abbrev d : Float
  d = two ⊗ (h x l ⊕ h x 0)

  module _ (y : List Float) where
    gamma_is : of_cycle gamma x y n ≡ neg d
    unfolding periodic_diag
    gamma_is = refl

    diag_first : of_cycle diag_mod x y n l 0 ≡ d ⊖ neg d
    unfolding diag_mod periodic_diag
    diag_first = refl

    diag_inside : (k : ℕ) → suc k < l → of_cycle diag_mod x y n l (suc k) ≡ two ⊗ (h x k ⊕ h x (suc k))
    unfolding diag_mod periodic_diag
    diag_inside k lt =
        let e : suc k - 1 ≡ k = omega arith in
        rw (ne_eqb (suc k) 0 (omega arith), ne_eqb (suc k) l (omega arith), e)

    diag_last : (k : ℕ) → suc k ≡ l → of_cycle diag_mod x y n l (suc k) ≡ two ⊗ (h x k ⊕ h x (suc k)) ⊖ corner ⊗ corner ⊘ neg d
    unfolding diag_mod periodic_diag
    diag_last k e =
        let f : suc k - 1 ≡ k = omega arith in
        rw (ne_eqb (suc k) 0 (omega arith), eq-eqb (suc k) l e, f)

    u_first : of_cycle u_vec x y n l 0 ≡ neg d
    unfolding u_vec periodic_diag
    u_first = refl

    u_inside : (k : ℕ) → suc k < l → of_cycle u_vec x y n l (suc k) ≡ plus_zero
    unfolding u_vec
    u_inside k lt = rw (ne_eqb (suc k) 0 (omega arith), ne_eqb (suc k) l (omega arith))

    u_last : (k : ℕ) → suc k ≡ l → of_cycle u_vec x y n l (suc k) ≡ corner
    unfolding u_vec
    u_last k e = rw (ne_eqb (suc k) 0 (omega arith), eq-eqb (suc k) l e)

    -- the second solve: its right side is u-vec, its matrix the first's
    abbrev of_second : {A : Type 0} → ((ℕ → Float) → (ℕ → Float) → (ℕ → Float) → (ℕ → Float) → A) → A
    of_second f = f (h x) (of_cycle diag_mod x y n l) (h x) (of_cycle u_vec x y n l)

    -- so it has the first's divisors and helpers
    same_divisor : (k : ℕ) → of_open Solve.w x y n k ≡ of_second Solve.w k
    unfolding Solve.w
    same_divisor zero = refl
    same_divisor (suc k) = cc (same_divisor k)

    same_helper : (k : ℕ) → of_open cp x y n k ≡ of_second cp k
    unfolding cp
    same_helper k = cc (same_divisor k)

    module _
        (w₁ w₂ : List Float) (enough : 3 ≤ length x) (steps : (k : ℕ) → k + 1 < length x → at w₁ k ≡ h x k)
        (divided : Divided w₁ w₂ 0 l (d ⊖ neg d) (h x 0 ⊘ (d ⊖ neg d)))
      where
        both_first : (at w₂ (128 + 0) ≡ of_open Solve.w x y n 0) × (at w₂ (256 + 0) ≡ of_open cp x y n 0)
        unfolding Solve.w cp
        both_first = (cc (divided.first_divisor, diag_first), cc (divided.first_helper, diag_first))

        both_next : (k : ℕ) → suc k < l → at w₂ (256 + k) ≡ of_open cp x y n k
            → (at w₂ (128 + suc k) ≡ of_open Solve.w x y n (suc k)) × (at w₂ (256 + suc k) ≡ of_open cp x y n (suc k))
        unfolding Solve.w cp
        both_next k lt is =
            let e : k + 1 ≡ suc k = omega arith in
            let divisor : at w₂ (128 + suc k) ≡ of_open Solve.w x y n (suc k) =
            cc (
              divided.next_divisor k (omega arith) (omega arith),
              is,
              steps k (omega arith),
              steps (k + 1) (omega arith),
              diag_inside k lt,
            ) in
            (divisor, cc (divided.next_helper k (omega arith) (omega arith), divisor, steps (k + 1) (omega arith)))

        both : (k : ℕ) → k < l → (at w₂ (128 + k) ≡ of_open Solve.w x y n k) × (at w₂ (256 + k) ≡ of_open cp x y n k)
        both zero lt = both_first
        both (suc k) lt = both_next k lt (both k (omega arith)).1

        last_divisor : (k : ℕ) → suc k ≡ l
            → two ⊗ (h x k ⊕ corner) ⊖ corner ⊗ corner ⊘ neg d ⊖ h x k ⊗ at w₂ (256 + k) ≡ of_open Solve.w x y n (suc k)
        unfolding Solve.w cp
        last_divisor k e = cc ((both k (omega arith)).1, diag_last k e, ap (h x) e)

  module _
      (w w₁ w₂ w₄ w₆ : List Float) (g : Float) (axis : CycleGiven w x) (stepped : Stepped w w₁ x)
      (divided : Divided w₁ w₂ 0 l (d ⊖ neg d) (h x 0 ⊘ (d ⊖ neg d))) (g_is : g ≡ h x (l - 1))
    where
      enough : 3 ≤ length x
      enough = axis.enough

      few : length x ≤ 128
      few = axis.few

      abbrev v : Float
      v = two ⊗ (g ⊕ corner) ⊖ corner ⊗ corner ⊘ neg d ⊖ g ⊗ at w₂ (256 + (l - 1))

      abbrev w₃ : List Float
      w₃ = set w₂ (128 + l) v

      module _ (forth : SecondForth w₃ w₄ l (neg d ⊘ (d ⊖ neg d))) where
        abbrev q : Float
        q = (corner ⊖ g ⊗ at w₄ (384 + (l - 1))) ⊘ at w₄ (128 + l)

        abbrev w₅ : List Float
        w₅ = set w₄ (384 + l) q

        module _ (back : SecondBack w₅ w₆ 0 l) where
          same₃ : (j : ℕ) → j ≢ 128 + l → at w₃ j ≡ at w₂ j
          same₃ j off = get_or-set_other w₂ (128 + l) j v nan off

          -- the second solve stores in its own row alone
          same₆ : (j : ℕ) → Outside 384 128 j → at w₆ j ≡ at w₃ j
          same₆ j out = back.kept j out ∙ get_or-set_other w₄ (384 + l) j q nan (out l (omega (arith, few))) ∙ forth.kept j out

          long₄ : length w₄ ≡ length w
          long₄ = forth.same_length ∙ simp length-set (divided.same_length ∙ stepped.same_length)

          steps₃ : (k : ℕ) → k + 1 < length x → at w₃ k ≡ h x k
          steps₃ k less = same₃ k (omega (arith, few)) ∙ divided.kept k (λ i b. omega (arith, few)) ∙ stepped.steps k less

          module _ (y : List Float) where
            at_last : (k : ℕ) → suc k ≡ l → at w₃ (128 + l) ≡ of_open Solve.w x y n (suc k)
            at_last k e =
                let f : l - 1 ≡ k = omega arith in
                get_or-set_same w₂ (128 + l) v nan (omega (arith, few, axis.room, divided.same_length, stepped.same_length))
                ∙ cc (g_is, last_divisor y w₁ w₂ enough stepped.steps divided k e)

            divisors₃ : (k : ℕ) → k ≤ l → at w₃ (128 + k) ≡ of_open Solve.w x y n k
            divisors₃ k le =
                ⊎_elim (λ e. ending k e) (λ less. same₃ (128 + k) (omega arith) ∙ (both y w₁ w₂ enough stepped.steps divided k less).0)
                (eq-or-lt_of_le le)
              where
                ending : (k : ℕ) → k ≡ l → at w₃ (128 + k) ≡ of_open Solve.w x y n k
                ending zero e = absurd (omega (arith, enough))
                ending (suc k) e = ap (λ (i : ℕ). at w₃ (128 + i)) e ∙ at_last k e

            helpers₃ : (k : ℕ) → k < l → at w₃ (256 + k) ≡ of_open cp x y n k
            helpers₃ k less = same₃ (256 + k) (omega (arith, few)) ∙ (both y w₁ w₂ enough stepped.steps divided k less).1

            z_first : at w₄ (384 + 0) ≡ of_second y dp 0
            unfolding dp
            z_first = cc (forth.first, u_first y, diag_first y)

            z_next : (k : ℕ) → suc k < l → at w₄ (384 + k) ≡ of_second y dp k → at w₄ (384 + suc k) ≡ of_second y dp (suc k)
            unfolding dp
            z_next k lt is =
                let e : k + 1 ≡ suc k = omega arith in
                cc (
                  forth.next k (omega arith),
                  steps₃ k (omega arith),
                  divisors₃ (suc k) (omega arith),
                  same_divisor y (suc k),
                  u_inside y k lt,
                )

            z_row : (k : ℕ) → k < l → at w₄ (384 + k) ≡ of_second y dp k
            z_row zero lt = z_first
            z_row (suc k) lt = z_next k lt (z_row k (omega arith))

            z_last : (k : ℕ) → suc k ≡ l → at w₅ (384 + l) ≡ of_second y dp (suc k)
            unfolding dp
            z_last k e =
                let f : l - 1 ≡ k = omega arith in
                get_or-set_same w₄ (384 + l) q nan (omega (arith, few, axis.room, long₄))
                ∙ cc (
                  g_is,
                  z_row k (omega arith),
                  forth.kept (128 + l) (λ i b. omega (arith, few)),
                  at_last k e,
                  same_divisor y (suc k),
                  u_last y k e,
                )

            z_rows : (k : ℕ) → k ≤ l → at w₅ (384 + k) ≡ of_second y dp k
            z_rows k le =
                ⊎_elim (λ e. ending k e) (λ less. get_or-set_other w₄ (384 + l) (384 + k) q nan (omega arith) ∙ z_row k less)
                (eq-or-lt_of_le le)
              where
                ending : (k : ℕ) → k ≡ l → at w₅ (384 + k) ≡ of_second y dp k
                ending zero e = absurd (omega (arith, enough))
                ending (suc k) e = ap (λ (i : ℕ). at w₅ (384 + i)) e ∙ z_last k e

            back_first : at w₆ (384 + (l - 0)) ≡ of_second y before_last l 0
            unfolding before_last
            back_first = let e : l - 0 ≡ l = omega arith in rw e (back.top ∙ z_rows l (omega arith))

            back_next : (j : ℕ) → suc j ≤ l → at w₆ (384 + (l - j)) ≡ of_second y before_last l j
                → at w₆ (384 + (l - suc j)) ≡ of_second y before_last l (suc j)
            unfolding before_last
            back_next j le is =
                let e : l - suc j + 1 ≡ l - j = omega arith in
                cc (
                  back.next (l - suc j) (omega arith) (omega arith),
                  z_rows (l - suc j) (omega arith),
                  get_or-set_other w₄ (384 + l) (256 + (l - suc j)) q nan (omega arith),
                  forth.kept (256 + (l - suc j)) (λ i b. omega (arith, few)),
                  helpers₃ (l - suc j) (omega arith),
                  same_helper y (l - suc j),
                )

            before_the_last : (j : ℕ) → j ≤ l → at w₆ (384 + (l - j)) ≡ of_second y before_last l j
            before_the_last zero le = back_first
            before_the_last (suc j) le = back_next j le (before_the_last j (omega arith))

            z_is : (k : ℕ) → k ≤ l → at w₆ (384 + k) ≡ of_cycle Solve.z x y n l k
            unfolding Solve.z thomas
            z_is k le = let e : l - (l - k) ≡ k = omega arith in rw e at (before_the_last (l - k) (omega arith))

          pub cycle_planned :
              CyclePlanMade w w₆ x (record { ratio = corner ⊘ neg d; rest = one ⊕ (at w₆ 384 ⊕ corner ⊘ neg d ⊗ at w₆ (384 + l)) })
          cycle_planned = record {
            same_length = back.same_length ∙ simp length-set long₄;
            planned = record {
              steps = λ k less. same₆ k (λ i b. omega (arith, few)) ∙ steps₃ k less;
              divisors = λ y k le. same₆ (128 + k) (λ i b. omega (arith, few)) ∙ divisors₃ y k le;
              helpers = λ y k lt. same₆ (256 + k) (λ i b. omega (arith, few)) ∙ helpers₃ y k lt;
              second = z_is;
              ratio_is = λ y. cc (gamma_is y);
              rest_is = λ y. cc (gamma_is y, z_is y 0 (omega arith), z_is y l (omega arith));
            };
            kept = λ j ge.
                same₆ j (λ i b. omega arith)
                ∙ same₃ j (omega (arith, few))
                ∙ divided.kept j (λ i b. omega arith)
                ∙ stepped.kept j (omega arith);
          }

-- with the steps as the code reads them
pub cycle_plan_made :
    (w w₁ w₂ w₄ w₆ x : List Float) (a c g : Float) → CycleGiven w x → Stepped w w₁ x → a ≡ h x 0 → c ≡ h x (length x - 1 - 1)
    → g ≡ h x (length x - 1 - 1 - 1)
    → Divided w₁ w₂ 0 (length x - 1 - 1) (two ⊗ (c ⊕ a) ⊖ neg (two ⊗ (c ⊕ a))) (a ⊘ (two ⊗ (c ⊕ a) ⊖ neg (two ⊗ (c ⊕ a))))
    → SecondForth
    (set w₂ (128 + (length x - 1 - 1)) (two ⊗ (g ⊕ c) ⊖ c ⊗ c ⊘ neg (two ⊗ (c ⊕ a)) ⊖ g ⊗ at w₂ (256 + (length x - 1 - 1 - 1)))) w₄
    (length x - 1 - 1)
    (neg (two ⊗ (c ⊕ a)) ⊘ (two ⊗ (c ⊕ a) ⊖ neg (two ⊗ (c ⊕ a))))
    → SecondBack
    (set w₄ (384 + (length x - 1 - 1)) ((c ⊖ g ⊗ at w₄ (384 + (length x - 1 - 1 - 1))) ⊘ at w₄ (128 + (length x - 1 - 1)))) w₆ 0
    (length x - 1 - 1)
    → CyclePlanMade w w₆ x
    (record {
      ratio = c ⊘ neg (two ⊗ (c ⊕ a));
      rest = one ⊕ (at w₆ 384 ⊕ c ⊘ neg (two ⊗ (c ⊕ a)) ⊗ at w₆ (384 + (length x - 1 - 1)));
    })
cycle_plan_made w w₁ w₂ w₄ w₆ x a c g axis stepped e f i divided forth back =
    rw (e, f) (cycle_planned x w w₁ w₂ w₄ w₆ g axis stepped (rw (e, f) at divided) i (rw (e, f) at forth) (rw f at back))
