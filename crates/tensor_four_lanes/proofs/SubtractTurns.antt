-- The turns of `subtract`: below row k a lane's factor times z is taken off.
use native.Mathlib.Omega.{arith}
use mathlib.Core.Path.{◌≡◌, refl, ◌∙◌}
use mathlib.Core.List.{List}
use Prim.Native.Nat.{ℕ, ◌+◌, ◌*◌, ◌<◌, ◌≤◌}
use lib.Ieee.{Float}
use borrow.Author.Count.{below_more}
use Rattle.rules.specs.Numbers.{at, ◌⊖◌, ◌⊗◌}
use Rattle.tensor_fours.specs.Fours.{Lanewise, in_row, RowSet}
use Rattle.tensor_plan.specs.PlanOfEnds.{Room}
use Rattle.tensor_four_lanes.specs.Groups.{Subtracted}
use Rattle.tensor_fours.proofs.Fours.{number, row_other, row_there}

pub record Turn (w₀ w : List Float) (n : ℕ) (factor : List Float) (k : ℕ) : Type 0 where
  pub given : Room w₀ n
  pub most : k ≤ n
  pub done : Subtracted w₀ w k factor

pub turn_first : (w : List Float) (n : ℕ) (factor : List Float) → Room w n → Turn w w n factor 0
turn_first w n factor given = record {
  given = given;
  most = omega arith;
  done = record { same_length = refl; result = λ l lt k h. absurd (omega arith); later = λ l lt k h. refl; kept = λ j o. refl };
}

module _
    (w₀ w w₁ : List Float) (n : ℕ) (factor : List Float) (k : ℕ) (t : Turn w₀ w n factor k) (below : k < n)
    (y c m : List Float) (y_is : Lanewise y (λ l. in_row w 1536 k l)) (c_is : Lanewise c (λ l. at factor l ⊗ at w (384 + k)))
    (m_is : Lanewise m (λ l. at y l ⊖ at c l)) (put : RowSet w w₁ 1536 k m)
  where
    given : Room w₀ n
    given = t.given

    here : (l : ℕ) → l < 4 → in_row w₁ 1536 k l ≡ in_row w₀ 1536 k l ⊖ at factor l ⊗ at w₀ (384 + k)
    here l lt =
        cc (
          row_there put m_is l lt,
          number y_is l lt,
          number c_is l lt,
          t.done.later l lt k (omega arith),
          t.done.kept (384 + k) (λ i h. omega (arith, given)),
        )

    pub turn_next : Turn w₀ w₁ n factor (k + 1)
    turn_next = record {
      given = given;
      most = omega arith;
      done = record {
        same_length = put.same_length ∙ t.done.same_length;
        result = λ l lt. below_more _ k (λ j h. row_other put j (omega arith) l lt ∙ t.done.result l lt j h) (here l lt);
        later = λ l lt j h. row_other put j (omega arith) l lt ∙ t.done.later l lt j (omega arith);
        kept = λ j o. put.kept j (λ i h. omega (arith, given, o (4 * k + i) (omega (arith, given)))) ∙ t.done.kept j o;
      };
    }

pub turn_last : (w₀ w : List Float) (n : ℕ) (factor : List Float) (k : ℕ) → Turn w₀ w n factor k → n ≤ k → Subtracted w₀ w n factor
turn_last w₀ w n factor k t ge = let e : k ≡ n = omega (arith, t.most) in rw e at t.done
