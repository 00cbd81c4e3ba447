-- Changing one sample changes no answer but those that step to its place.
use mathlib.Core.Path.{◌≡◌, refl, sym, ap, ◌∙◌}
use mathlib.Core.Bool.{Bool, true, false, cond}
use mathlib.Core.List.{List}
use Prim.Native.Nat.{ℕ, zero, suc, ◌+◌, ◌-◌, ◌<◌, ◌≤◌}
use native.Mathlib.Omega.{arith}
use lib.Ieee.{Float, lt, le, eq}
use Rattle.rules.specs.Numbers.{at}
use Rattle.rules.specs.Sizes.{Grid, points, knots, Place, flat}
use Rattle.rules.specs.Locate.{first_at_or_above, locate}
use Rattle.rules.specs.Step.{lower_step, upper_step, step_index, stepped_place, stepped}
use Rattle.rules.specs.Calls.{answered, labelled}
use Rattle.rules.specs.StepCalls.{direction, stepped_refusal, step_indices, stepped_answer}
use Rattle.rules.specs.declared.StepDirection.{StepDirection}
use Rattle.rules.specs.declared.StepDirection.TheVariants.{Lower, Upper}
use Rattle.rules.specs.Answers.{SteppedAnswer}
use Rattle.rules.proofs.Places.{flat_below, flat_one}
use Rattle.grid.specs.GridOfCall.{InRange, On}
use Rattle.step_checks.proofs.Accepted.{stepped_given}
use Rattle.step_surface.specs.OneSample.{AllButOne, OneSample}
use Rattle.step_surface.proofs.Answers.{stepped_checked}

-- ---- the place of the steps lies on the grid

module _ (x : List Float) (p : Float) where
  first_within : (d k : ℕ) → first_at_or_above x p d k ≤ k + d
  unfolding first_at_or_above
  first_within zero k = omega arith
  first_within (suc d) k = go (le p (at x k)) (first_within d (suc k))
    where
      go : (t : Bool) → first_at_or_above x p d (suc k) ≤ suc k + d
          → elim t [ true ↦ k | false ↦ first_at_or_above x p d (suc k) ] ≤ k + suc d
      go true h = omega arith
      go false h = omega arith

  locate_within : (n : ℕ) → 1 ≤ n → locate x n p + 1 ≤ n
  unfolding locate
  locate_within n some = go (lt p (at x 0)) (le (at x n) p) (first_within n 0)
    where
      go : (t u : Bool) → first_at_or_above x p n 0 ≤ 0 + n → cond t 0 (cond u (n - 1) (first_at_or_above x p n 0 - 1)) + 1 ≤ n
      go true u h = omega arith
      go false true h = omega arith
      go false false h = omega arith

  step_within : (direction : StepDirection) (n : ℕ) → 1 ≤ n → step_index direction x n p ≤ n
  unfolding lower_step upper_step
  step_within Lower n some = go (eq p (at x n)) (eq p (at x (locate x n p + 1))) (locate_within n some)
    where
      go : (t u : Bool) → locate x n p + 1 ≤ n → cond t n (cond u (locate x n p + 1) (locate x n p)) ≤ n
      go true u h = omega arith
      go false true h = omega arith
      go false false h = omega arith
  step_within Upper n some = go (eq p (at x 0)) (locate_within n some)
    where
      go : (t : Bool) → locate x n p + 1 ≤ n → cond t 0 (locate x n p + 1) ≤ n
      go true h = omega arith
      go false h = omega arith

pub place_on_grid : (g : Grid) (directions : ℕ → StepDirection) (point : ℕ → Float) → InRange g.axes (points g)
    → On g (stepped_place g directions point)
unfolding stepped_place
place_on_grid g directions point range i l =
    let some = range.some_points i l in
    let h = step_within (knots g i) (point i) (directions i) (points g i - 1) (omega arith) in
    omega arith

-- ---- the two answers

answer_of : ℕ → Float → List ℕ → SteppedAnswer
answer_of refusal value indices = record { refusal = refusal; value = answered refusal value; indices = labelled refusal indices }

-- a refusal leaves nothing to differ, and no refusal leaves the value
alike : (refusal : ℕ) (value other : Float) (indices : List ℕ) → (refusal ≡ 0 → value ≡ other)
    → answer_of refusal value indices ≡ answer_of refusal other indices
unfolding answer_of
alike zero value other indices same = ap (λ (v : Float). answer_of zero v indices) (same refl)
alike (suc refusal) value other indices same = refl

module _ (g : Grid) (directions : List StepDirection) (coordinates : List Float) (changed : Place) (samples others : List Float)
    (but_one : AllButOne g changed samples others) where
  same_refusal : stepped_refusal g directions samples coordinates ≡ stepped_refusal g directions others coordinates
  unfolding stepped_refusal
  same_refusal = rw (but_one.finite, but_one.others_finite, but_one.exact, but_one.others_exact) refl

  same_indices : step_indices g directions samples coordinates ≡ step_indices g directions others coordinates
  unfolding step_indices
  same_indices = refl

  abbrev place : Place
  place = stepped_place g (direction directions) (at coordinates)

  same_value : stepped_refusal g directions samples coordinates ≡ 0 → (((i : ℕ) → i < g.axes → place i ≡ changed i) → ⊥)
      → stepped g (direction directions) samples (at coordinates) ≡ stepped g (direction directions) others (at coordinates)
  unfolding stepped
  same_value none other =
      let given = stepped_given g samples coordinates (sym (stepped_checked g directions samples coordinates) ∙ none) in
      let on = place_on_grid g (direction directions) (at coordinates) given.axes_given.in_range in
      but_one.agree (flat (points g) g.axes place) (flat_below (points g) g.axes place on)
      (λ e. other (flat_one (points g) g.axes place changed on but_one.on_grid e))

  pub one_sample : OneSample g directions coordinates changed samples others
  unfolding stepped_answer answer_of
  one_sample = record {
    refusal = same_refusal;
    indices =
        ap (λ (r : ℕ). labelled r (step_indices g directions samples coordinates)) same_refusal
        ∙ ap (labelled (stepped_refusal g directions others coordinates)) same_indices;
    elsewhere = λ other.
        alike (stepped_refusal g directions samples coordinates) _ _ _ (λ none. same_value none other)
        ∙ ap
        (λ (r : ℕ).
        answer_of r (stepped g (direction directions) others (at coordinates)) (step_indices g directions samples coordinates))
        same_refusal
        ∙ ap (answer_of (stepped_refusal g directions others coordinates) (stepped g (direction directions) others (at coordinates)))
        same_indices;
  }
