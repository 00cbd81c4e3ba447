-- The turns of `steps`: the steps before knot k are in front.
use native.Mathlib.Omega.{arith}
use mathlib.Core.Path.{◌≡◌, refl, ◌∙◌}
use mathlib.Core.List.{List}
use Prim.Native.Nat.{ℕ, ◌+◌, ◌<◌, ◌≤◌}
use lib.ListN.{length, set, length-set}
use lib.Seq.{get_or-set_same, get_or-set_other}
use lib.Ieee.{Float, nan}
use borrow.Author.Count.{below_more}
use Rattle.rules.specs.Numbers.{at, ◌⊖◌}
use Rattle.rules.specs.Steps.{h}
use Rattle.tensor_plan.specs.PlanOfEnds.{Stepped}

pub record Turn (w₀ w x : List Float) (k : ℕ) : Type 0 where
  pub room : 2048 ≤ length w₀
  pub few : length x ≤ 128
  pub most : k + 1 ≤ length x
  pub same_length : length w ≡ length w₀
  pub steps : (i : ℕ) → i < k → at w i ≡ h x i
  pub kept : (j : ℕ) → 128 ≤ j → at w j ≡ at w₀ j

pub turn_first : (w x : List Float) → 2048 ≤ length w → length x ≤ 128 → 0 < length x → Turn w w x 0
turn_first w x room few some = record {
  room = room;
  few = few;
  most = omega arith;
  same_length = refl;
  steps = λ i lt. absurd (omega arith);
  kept = λ j ge. refl;
}

pub turn_next :
    (w₀ w x : List Float) (k : ℕ) → Turn w₀ w x k → k + 1 < length x → Turn w₀ (set w k (at x (k + 1) ⊖ at x k)) x (k + 1)
unfolding h
turn_next w₀ w x k t lt = record {
  room = t.room;
  few = t.few;
  most = omega arith;
  same_length = simp length-set t.same_length;
  steps = below_more _ k
      (λ i less. get_or-set_other w k i (at x (k + 1) ⊖ at x k) nan (omega arith) ∙ t.steps i less)
      (get_or-set_same w k (at x (k + 1) ⊖ at x k) nan (omega (arith, t)));
  kept = λ j ge. get_or-set_other w k j (at x (k + 1) ⊖ at x k) nan (omega (arith, t)) ∙ t.kept j ge;
}

pub turn_last : (w₀ w x : List Float) (k : ℕ) → Turn w₀ w x k → length x ≤ k + 1 → Stepped w₀ w x
turn_last w₀ w x k t ge = record {
  same_length = t.same_length;
  steps = λ i lt. t.steps i (omega (arith, t.most));
  kept = t.kept;
}
