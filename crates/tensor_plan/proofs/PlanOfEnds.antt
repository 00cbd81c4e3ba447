-- What `plan_ends` leaves is a plan by the rules, whatever the samples; and it is one for the zero-valued ends too.
use native.Mathlib.Omega.{arith}
use mathlib.Core.Path.{◌≡◌, refl, ap, sym, ◌∙◌}
use mathlib.Core.Logic.{◌≢◌, ⊎_elim}
use mathlib.Core.List.{List}
use Prim.Native.Nat.{ℕ, zero, suc, ◌+◌, ◌-◌, ◌<◌, ◌≤◌}
use native.Mathlib.Nat.{eq-or-lt_of_le}
use lib.ListN.{length, set, length-set}
use lib.Seq.{get_or-set_same, get_or-set_other}
use lib.Ieee.{Float, nan}
use Rattle.rules.specs.Numbers.{at, ◌⊖◌, ◌⊗◌, ◌⊘◌}
use Rattle.rules.specs.Ends.{dropped, zero_valued}
use Rattle.rules.specs.Steps.{h}
use Rattle.rules.specs.Solve as Solve
use Rattle.rules.specs.Solve.{cp}
use Rattle.rules.specs.Moments.{lower_row, upper_row, sub, diag, sup}
use Rattle.rules.specs.declared.End.{End}
use Rattle.axis_rows.specs.declared.EndRow.{EndRow}
use Rattle.axis_rows.specs.Rows.{lower_end_row, upper_end_row}
use Rattle.tensor_plan.specs.PlanOfEnds.{of_ends, Stepped, Divided, EndsPlanned, EndsGiven, EndsPlanMade}
use Rattle.tensor_plan.specs.declared.EndsPlan.{EndsPlan}
use Rattle.tensor_plan.proofs.EndRows as EndRows

module _ (x : List Float) (lower upper : End) where
  abbrev n : ℕ
  n = length x - 1

  abbrev low : ℕ
  low = dropped lower

  abbrev last : ℕ
  last = n - dropped upper

  abbrev l : ℕ
  l = n - dropped lower - dropped upper

  module _
      (w₁ w₂ y : List Float) (enough : 2 + dropped lower + dropped upper ≤ length x)
      (steps : (k : ℕ) → k + 1 < length x → at w₁ k ≡ h x k)
      (divided : Divided w₁ w₂ low last (lower_row x x n lower).diagonal
      ((lower_row x x n lower).neighbour ⊘ (lower_row x x n lower).diagonal))
    where
      same_diagonal : (lower_row x x n lower).diagonal ≡ (lower_row x y n lower).diagonal
      same_diagonal = EndRows.lower_diagonal x x x n lower ∙ sym (EndRows.lower_diagonal x y x n lower)

      same_neighbour : (lower_row x x n lower).neighbour ≡ (lower_row x y n lower).neighbour
      same_neighbour = EndRows.lower_neighbour x x x n lower ∙ sym (EndRows.lower_neighbour x y x n lower)

      both : (j : ℕ) → j < l
          → (at w₂ (128 + (low + j)) ≡ of_ends Solve.w x y n lower upper j) × (at w₂ (256 + (low + j)) ≡ of_ends cp x y n lower upper j)
      unfolding Solve.w cp
      both zero lt =
          let e : low + 0 ≡ low = omega arith in (
            cc (divided.first_divisor, same_diagonal, EndRows.diag_first x y n lower upper),
            cc (
              divided.first_helper,
              same_diagonal,
              same_neighbour,
              EndRows.diag_first x y n lower upper,
              EndRows.sup_first x y n lower upper,
            ),
          )
      both (suc j) lt =
          let e : low + j + 1 ≡ low + suc j = omega arith in
          let divisor : at w₂ (128 + (low + suc j)) ≡ of_ends Solve.w x y n lower upper (suc j) =
          cc (
            divided.next_divisor (low + j) (omega arith) (omega arith),
            (both j (omega arith)).1,
            steps (low + j) (omega arith),
            steps (low + j + 1) (omega arith),
            EndRows.diag_inside x y n lower upper j lt,
            EndRows.sub_inside x y n lower upper j lt,
          ) in (
            divisor,
            cc (
              divided.next_helper (low + j) (omega arith) (omega arith),
              divisor,
              steps (low + j + 1) (omega arith),
              EndRows.sup_inside x y n lower upper j,
            ),
          )

      abbrev last_divisor : Float
      last_divisor = (upper_row x x n upper).diagonal ⊖ (upper_row x x n upper).neighbour ⊗ at w₂ (256 + (last - 1))

      last_is : (j : ℕ) → suc j ≡ l → last_divisor ≡ of_ends Solve.w x y n lower upper (suc j)
      unfolding Solve.w cp
      last_is j e =
          let f : last - 1 ≡ low + j = omega arith in
          cc (
            (both j (omega arith)).1,
            EndRows.diag_last x y n lower upper j e,
            EndRows.sub_last x y n lower upper j e,
            EndRows.upper_diagonal x x x n upper,
            EndRows.upper_diagonal x y x n upper,
            EndRows.upper_neighbour x x x n upper,
            EndRows.upper_neighbour x y x n upper,
          )

  module _
      (w w₁ w₂ : List Float) (given : EndsGiven w x lower upper) (stepped : Stepped w w₁ x)
      (divided : Divided w₁ w₂ low last (lower_row x x n lower).diagonal
      ((lower_row x x n lower).neighbour ⊘ (lower_row x x n lower).diagonal))
    where
      enough : 2 + dropped lower + dropped upper ≤ length x
      enough = given.enough

      abbrev v : Float
      v = (upper_row x x n upper).diagonal ⊖ (upper_row x x n upper).neighbour ⊗ at w₂ (256 + (last - 1))

      abbrev w₃ : List Float
      w₃ = set w₂ (128 + last) v

      other : (j : ℕ) → j ≢ 128 + last → at w₃ j ≡ at w₂ j
      other j off = get_or-set_other w₂ (128 + last) j v nan off

      steps_kept : (k : ℕ) → k + 1 < length x → at w₃ k ≡ h x k
      steps_kept k lt =
          other k (omega (arith, given))
          ∙ divided.kept k (λ i less. omega (arith, given))
          ∙ stepped.steps k lt

      divisors : (y : List Float) (j : ℕ) → j ≤ l → at w₃ (128 + (low + j)) ≡ of_ends Solve.w x y n lower upper j
      divisors y j le =
          ⊎_elim
          (λ e. at_end j e)
          (λ lt. other (128 + (low + j)) (omega arith) ∙ (both w₁ w₂ y enough stepped.steps divided j lt).0)
          (eq-or-lt_of_le le)
        where
          at_end : (j : ℕ) → j ≡ l → at w₃ (128 + (low + j)) ≡ of_ends Solve.w x y n lower upper j
          at_end zero e = absurd (omega arith)
          at_end (suc j) e =
              let f : 128 + (low + suc j) ≡ 128 + last = omega arith in
              ap (at w₃) f
              ∙ get_or-set_same w₂ (128 + last) v nan (omega (arith, given, divided.same_length, stepped.same_length))
              ∙ last_is w₁ w₂ y enough stepped.steps divided j e

      pub planned : EndsPlanMade w w₃ x lower upper (record { low = low; last = last; sub = (upper_row x x n upper).neighbour })
      planned = record {
        same_length = simp length-set (divided.same_length ∙ stepped.same_length);
        planned = record {
          low_is = refl;
          last_is = refl;
          sub_is = λ y. EndRows.upper_neighbour x x x n upper ∙ sym (EndRows.upper_neighbour x y x n upper);
          steps = steps_kept;
          divisors = divisors;
          helpers = λ y j lt. other (256 + (low + j)) (omega (arith, given)) ∙ (both w₁ w₂ y enough stepped.steps divided j lt).1;
        };
        kept = λ j ge.
            other j (omega (arith, given))
            ∙ divided.kept j (λ i less. omega arith)
            ∙ stepped.kept j (omega arith);
      }

-- with the ends' rows as the calls answer them
pub plan_made :
    (w w₁ w₂ x : List Float) (lower upper : End) (first end : EndRow)
    → EndsGiven w x lower upper → Stepped w w₁ x
    → first ≡ lower_end_row x x lower → end ≡ upper_end_row x x upper
    → Divided w₁ w₂ first.dropped (length x - 1 - end.dropped) first.row.diagonal (first.row.neighbour ⊘ first.row.diagonal)
    → EndsPlanMade w
    (set w₂ (128 + (length x - 1 - end.dropped))
    (end.row.diagonal ⊖ end.row.neighbour ⊗ at w₂ (256 + (length x - 1 - end.dropped - 1))))
    x lower upper
    (record { low = first.dropped; last = length x - 1 - end.dropped; sub = end.row.neighbour })
plan_made w w₁ w₂ x lower upper first end given stepped e f divided =
    rw (e, f) (planned x lower upper w w₁ w₂ given stepped (rw (e, f) at divided))

-- neither samples nor the ends' numbers matter to divisors and helpers
module _ (x y y' : List Float) (n : ℕ) (lower upper : End) where
  abbrev lower' : End
  lower' = zero_valued lower

  abbrev upper' : End
  upper' = zero_valued upper

  same_sub : (j : ℕ) → sub x y n lower upper j ≡ sub x y' n lower' upper' j
  unfolding sub
  same_sub j = cc (EndRows.same_dropped lower, EndRows.same_dropped upper, EndRows.upper_neighbour x y y' n upper)

  same_diag : (j : ℕ) → diag x y n lower upper j ≡ diag x y' n lower' upper' j
  unfolding diag
  same_diag j =
      cc
      (EndRows.same_dropped lower, EndRows.same_dropped upper, EndRows.lower_diagonal x y y' n lower, EndRows.upper_diagonal x y y' n upper)

  same_sup : (j : ℕ) → sup x y n lower upper j ≡ sup x y' n lower' upper' j
  unfolding sup
  same_sup j = cc (EndRows.same_dropped lower, EndRows.lower_neighbour x y y' n lower)

  pub same_divisor : (j : ℕ) → of_ends Solve.w x y n lower upper j ≡ of_ends Solve.w x y' n lower' upper' j
  unfolding Solve.w
  same_divisor zero = same_diag 0
  same_divisor (suc j) = cc (same_diag (suc j), same_sub j, same_sup j, same_divisor j)

  pub same_helper : (j : ℕ) → of_ends cp x y n lower upper j ≡ of_ends cp x y' n lower' upper' j
  unfolding cp
  same_helper j = cc (same_sup j, same_divisor j)

pub plan_crossed : (w x : List Float) (lower upper : End) (plan : EndsPlan) → EndsPlanned w x lower upper plan
    → EndsPlanned w x (zero_valued lower) (zero_valued upper) plan
plan_crossed w x lower upper plan p =
    let low_same = EndRows.same_dropped lower in
    let up_same = EndRows.same_dropped upper in
    record {
      low_is = p.low_is ∙ EndRows.same_dropped lower;
      last_is = omega (arith, p.last_is, EndRows.same_dropped upper);
      sub_is = λ y. p.sub_is y ∙ EndRows.upper_neighbour x y y (length x - 1) upper;
      steps = p.steps;
      divisors = λ y j le.
          ap (λ (d : ℕ). at w (128 + (d + j))) (sym (EndRows.same_dropped lower))
          ∙ p.divisors y j (omega (arith, EndRows.same_dropped lower, EndRows.same_dropped upper))
          ∙ same_divisor x y y (length x - 1) lower upper j;
      helpers = λ y j lt.
          ap (λ (d : ℕ). at w (256 + (d + j))) (sym (EndRows.same_dropped lower))
          ∙ p.helpers y j (omega (arith, EndRows.same_dropped lower, EndRows.same_dropped upper))
          ∙ same_helper x y y (length x - 1) lower upper j;
    }
