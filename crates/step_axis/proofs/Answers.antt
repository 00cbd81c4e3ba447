-- What each public call answers: its check's refusal, or what was found.
use Rattle.std.specs.Prelude.{Option, None}
use mathlib.Core.Path.{◌≡◌, refl, sym, ap, ◌∙◌}
use mathlib.Core.Bool.{true, false, cond}
use mathlib.Core.List.{List}
use Prim.Native.Nat.{ℕ, zero, suc, ◌+◌, ◌-◌, ◌<◌}
use native.Mathlib.Omega.{arith}
use lib.ListN.{length}
use lib.Ieee.{Float}
use Rattle.rules.specs.Refusals.{location_refused}
use Rattle.rules.specs.Step.{exact_index, locate_axis, step_index}
use Rattle.rules.specs.Calls.{counted}
use Rattle.rules.specs.StepCalls.{
  found,
  located,
  exact_refusal,
  exact_answer,
  ExactPromise,
  axis_refusal,
  axis_answer,
  AxisPromise,
  step_refusal,
  step_answer,
  StepPromise,
}
use Rattle.rules.specs.declared.StepDirection.{StepDirection}
use Rattle.rules.specs.declared.AxisLocation.{AxisLocation}
use Rattle.rules.specs.declared.AxisLocation.TheVariants.{Exact}
use Rattle.rules.specs.Answers.{ExactAnswer, AxisAnswer, StepAnswer}
use Rattle.rules.proofs.Refused.{or_else_passed}
use Rattle.grid_checks.proofs.ThenOutcome.{ThenOutcome, then_outcome, refused, outcome_bad, outcome_good}
use Rattle.step_checks.specs.StepChecks.{exact_check, point_rows, point_check}
use Rattle.step_checks.specs.StepsChecked.{PointGiven}
use Rattle.step_checks.proofs.Accepted.{exact_given, point_given}
use Rattle.step_axis.specs.AmongKnots.{AxisLocated, Stepped}

-- an answer of its two parts
abbrev exact_of : ℕ → Option ℕ → ExactAnswer
exact_of refusal index = record { refusal = refusal; index = index }

abbrev step_of : ℕ → ℕ → StepAnswer
step_of refusal index = record { refusal = refusal; index = index }

abbrev axis_of : ℕ → AxisLocation → AxisAnswer
axis_of refusal location = record { refusal = refusal; location = location }

-- ---- what was given once the check has found nothing, with the number of knots for that of the points

module _ (n : ℕ) (x : List Float) (point : Float) where
  counted_knots : PointGiven n x point → PointGiven (length x) x point
  counted_knots given = rw given.rising.count given

  pub point_accepted : {check : ℕ} → check ≡ point_check n x point → check ≡ 0 → PointGiven (length x) x point
  point_accepted e none = counted_knots (point_given n x point (sym e ∙ none))

  pub knots_counted : {check : ℕ} → check ≡ point_check n x point → check ≡ 0 → length x ≡ n
  knots_counted e none = (point_given n x point (sym e ∙ none)).rising.count

  pub next_inside : (lower : ℕ) {check : ℕ} → check ≡ exact_check n x lower point → check ≡ 0 → lower + 1 < length x
  next_inside lower e none =
      let given = exact_given n x lower point (sym e ∙ none) in rw given.point_given.rising.count given.next_knot

-- ---- the exact index

module _ (n : ℕ) (x : List Float) (lower : ℕ) (point : Float) {check : ℕ} (checked : check ≡ exact_check n x lower point) where
  exact_is : exact_refusal n x lower point ≡ check
  unfolding exact_refusal exact_check
  exact_is = sym checked

  not_found : (refusal number : ℕ) (index : Option ℕ) → refusal ≡ number → (number ≡ 0 → ⊥)
      → exact_of number None ≡ exact_of refusal (found refusal index)
  not_found refusal zero index e some = absurd (some refl)
  not_found refusal (suc number) index e some = rw e refl

  pub exact_refused : (check ≡ 0 → ⊥) → ExactPromise n x lower point (exact_of check None)
  unfolding exact_answer
  exact_refused some = record { answer = not_found (exact_refusal n x lower point) check (exact_index x lower point) exact_is some }

  pub exact_answered : check ≡ 0 → (index : Option ℕ) → index ≡ exact_index x lower point
      → ExactPromise n x lower point (exact_of 0 index)
  unfolding exact_answer
  exact_answered none index is = record { answer = rw (exact_is ∙ none, is) refl }

-- ---- the index of a step

pub step_check : (direction : StepDirection) (n : ℕ) (x : List Float) (point : Float)
    → step_refusal direction n x point ≡ point_check n x point
unfolding step_refusal point_check
step_check direction n x point = refl

module _ (direction : StepDirection) (n : ℕ) (x : List Float) (point : Float) {check : ℕ} (checked : check ≡ point_check n x point) where
  step_is : step_refusal direction n x point ≡ check
  step_is = step_check direction n x point ∙ sym checked

  no_index : (refusal number index : ℕ) → refusal ≡ number → (number ≡ 0 → ⊥) → step_of number 0 ≡ step_of refusal (counted refusal index)
  no_index refusal zero index e some = absurd (some refl)
  no_index refusal (suc number) index e some = rw e refl

  pub step_refused : (check ≡ 0 → ⊥) → StepPromise direction n x point (step_of check 0)
  unfolding step_answer
  step_refused some =
      record { answer = no_index (step_refusal direction n x point) check (step_index direction x (n - 1) point) step_is some }

  pub step_answered : check ≡ 0 → (index : ℕ) → Stepped direction x point index → StepPromise direction n x point (step_of 0 index)
  unfolding step_answer
  step_answered none index stepped = record {
    answer = rw (step_is ∙ none) (ap (step_of 0) (rw (knots_counted n x point checked none) at stepped.found));
  }

-- ---- the location

module _ (n : ℕ) (x : List Float) (point : Float) where
  axis_outcome : ThenOutcome (point_check n x point) (location_refused (locate_axis x (n - 1) point)) (axis_refusal n x point)
  unfolding point_check axis_refusal
  axis_outcome = then_outcome (point_rows n x point) (location_refused (locate_axis x (n - 1) point)) tt tt

  -- an accepted location has passed the check
  pub axis_checked : axis_refusal n x point ≡ 0 → point_check n x point ≡ 0
  axis_checked e =
      (or_else_passed (point_check n x point) (cond (location_refused (locate_axis x (n - 1) point)) 10 0) (sym axis_outcome.is ∙ e)).0

  on_knot_0 : (refusal number : ℕ) (location : AxisLocation) → refusal ≡ number → (number ≡ 0 → ⊥)
      → axis_of number (Exact 0) ≡ axis_of refusal (located refusal location)
  on_knot_0 refusal zero location e some = absurd (some refl)
  on_knot_0 refusal (suc number) location e some = rw e refl

  refused_by : (number : ℕ) → axis_refusal n x point ≡ number → (number ≡ 0 → ⊥) → AxisPromise n x point (axis_of number (Exact 0))
  unfolding axis_answer
  refused_by number e some = record { answer = on_knot_0 (axis_refusal n x point) number (locate_axis x (n - 1) point) e some }

  module _ {check : ℕ} (checked : check ≡ point_check n x point) where
    pub axis_refused : (check ≡ 0 → ⊥) → AxisPromise n x point (axis_of check (Exact 0))
    axis_refused some = refused_by check ((refused axis_outcome (rw checked at some)).same ∙ sym checked) some

    module _ (none : check ≡ 0) (location : AxisLocation) (is : AxisLocated x point location) where
      is_located : location ≡ locate_axis x (n - 1) point
      is_located = rw (knots_counted n x point checked none) at is

      pub location_bad : location_refused location ≡ true → AxisPromise n x point (axis_of 10 (Exact 0))
      location_bad e = refused_by 10 (outcome_bad axis_outcome (sym checked ∙ none) (rw is_located at e)) (λ z. omega arith)

      pub location_good : location_refused location ≡ false → AxisPromise n x point (axis_of 0 location)
      unfolding axis_answer
      location_good e = record { answer = rw (outcome_good axis_outcome (sym checked ∙ none) (rw is_located at e), ← is_located) refl }
