-- Four weights that are stored in their places are those of their axis, and leave those of the others.
use native.Mathlib.Omega.{arith}
use mathlib.Core.Path.{◌≡◌, refl, ◌∙◌}
use mathlib.Core.List.{List}
use Prim.Native.Nat.{ℕ, ◌+◌, ◌*◌, ◌<◌, ◌≤◌}
use lib.ListN.{length, set, length-set}
use lib.Seq.{get_or-set_same, get_or-set_other}
use lib.Ieee.{Float, nan}
use Rattle.rules.specs.Numbers.{at}
use Rattle.rules.specs.Steps.{h}
use Rattle.rules.specs.Query.{fraction}
use Rattle.query_blend.specs.Blend.{WeightsOf, weights_in}
use Rattle.query_blend.specs.declared.Weights.{Weights}
use Rattle.query_answer.specs.CellsFound.{WeightsStored}

module _ (s : List Float) (axis : ℕ) (w : Weights) where
  -- the weights with those of the axis in their places, one after the other
  abbrev one : List Float
  one = set s (4 * axis) w.h00

  abbrev two : List Float
  two = set one (4 * axis + 1) w.h10

  abbrev three : List Float
  three = set two (4 * axis + 2) w.h01

  abbrev pub with_weights : List Float
  with_weights = set three (4 * axis + 3) w.h11

  -- what stands before the last of them, before the last two, before all but the first
  before_fourth : (k : ℕ) → (k ≡ 4 * axis + 3 → ⊥) → at with_weights k ≡ at three k
  before_fourth k ne = get_or-set_other three (4 * axis + 3) k w.h11 nan ne

  before_third : (k : ℕ) → (k ≡ 4 * axis + 3 → ⊥) → (k ≡ 4 * axis + 2 → ⊥) → at with_weights k ≡ at two k
  before_third k fourth ne = before_fourth k fourth ∙ get_or-set_other two (4 * axis + 2) k w.h01 nan ne

  before_second : (k : ℕ) → (k ≡ 4 * axis + 3 → ⊥) → (k ≡ 4 * axis + 2 → ⊥) → (k ≡ 4 * axis + 1 → ⊥) → at with_weights k ≡ at one k
  before_second k fourth third ne = before_third k fourth third ∙ get_or-set_other one (4 * axis + 1) k w.h10 nan ne

  others : (j : ℕ) → (j ≡ axis → ⊥) → weights_in with_weights j ≡ weights_in s j
  others j ne =
      let there : (k : ℕ) → 4 * j ≤ k → k < 4 * j + 4 → at with_weights k ≡ at s k = λ k least most.
      before_second k (λ e. ne (omega arith)) (λ e. ne (omega arith)) (λ e. ne (omega arith))
      ∙ get_or-set_other s (4 * axis) k w.h00 nan (λ e. ne (omega arith)) in
      cc (
        there (4 * j) (omega arith) (omega arith),
        there (4 * j + 1) (omega arith) (omega arith),
        there (4 * j + 2) (omega arith) (omega arith),
        there (4 * j + 3) (omega arith) (omega arith),
      )

  module _ (room : 4 * axis + 3 < length s) where
    first : at with_weights (4 * axis) ≡ w.h00
    first =
        before_second (4 * axis) (λ e. omega arith) (λ e. omega arith) (λ e. omega arith)
        ∙ get_or-set_same s (4 * axis) w.h00 nan (omega arith)

    second : at with_weights (4 * axis + 1) ≡ w.h10
    second =
        before_third (4 * axis + 1) (λ e. omega arith) (λ e. omega arith)
        ∙ get_or-set_same one (4 * axis + 1) w.h10 nan (simp length-set (omega arith))

    third : at with_weights (4 * axis + 2) ≡ w.h01
    third = before_fourth (4 * axis + 2) (λ e. omega arith) ∙ get_or-set_same two (4 * axis + 2) w.h01 nan (simp length-set (omega arith))

    fourth : at with_weights (4 * axis + 3) ≡ w.h11
    fourth = get_or-set_same three (4 * axis + 3) w.h11 nan (simp length-set (omega arith))

    pub weights_stored :
        (x : List Float) (lower : ℕ) (point : Float) → WeightsOf (h x lower) (fraction x lower point) w
        → WeightsStored s axis x lower point with_weights
    weights_stored x lower point are = record {
      same_length = simp length-set refl;
      stored = record { blended = λ p0 m0 p1 m1. rw (first, second, third, fourth) (are.blended p0 m0 p1 m1) };
      others = others;
    }
