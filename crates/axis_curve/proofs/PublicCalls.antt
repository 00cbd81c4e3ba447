-- From what the work found to what the one-axis calls promise.
use native.Mathlib.Omega.{arith}
use mathlib.Core.Path.{◌≡◌, refl, sym, ap, ap₂, ◌∙◌}
use mathlib.Core.Bool.{Bool, true, false, not, cond}
use mathlib.Core.List.{List, ◌++◌}
use Prim.Native.Nat.{ℕ, ◌+◌, ◌-◌, ◌≤◌}
use lib.ListN.{length, take, drop, length-append, length-take, length-drop}
use lib.Seq.{get_or-take, get_or-drop, length-take-le, take_at}
use lib.Ieee.{Float, nan}
use lib.Ieee.Scale.{finite}
use Rattle.rules.specs.Numbers.{plus_zero, zeros}
use borrow.Author.Tests.{ltb-false, not-false}
use Rattle.rules.specs.Ends.{fewest_points}
use Rattle.rules.specs.Refusals.{outcome_refused, answer_refused}
use Rattle.rules.specs.Moments.{moment, moments}
use Rattle.rules.specs.Curve.{knot_slopes, curve_in_cell, curve}
use Rattle.rules.specs.Calls.{stored, scratch_after, moments_refusal, MomentsPromise, curve_answer, CurvePromise, SlopesPromise}
use Rattle.rules.specs.declared.Condition.{Condition}
use Rattle.rules.specs.Answers.{CurveAnswer}
use Rattle.rules.proofs.Tables.{table_is}
use Rattle.grid_checks.specs.Check.{moments_check, curve_check, slopes_check}
use Rattle.grid_checks.specs.Checked.{MomentsGiven, CurveGiven, SlopesGiven}
use Rattle.grid_checks.proofs.ThenOutcome.{refused, outcome, outcome_bad, outcome_good, moments_outcome, curve_outcome, slopes_outcome}
use Rattle.grid_checks.proofs.Accepted.{moments_given, curve_given, slopes_given}
use Rattle.axis_locate.specs.CellFound.{Located}
use Rattle.axis_locate.proofs.Accepted.{accepted_rise}
use Rattle.axis_rows.specs.Rows.{samples_in, RowsFit}
use Rattle.axis_moments.specs.SolvedMoments.{MomentsSolved}
use Rattle.axis_curve.specs.Work.{outcome_number, MomentsWorked, SlopesWorked}
use Rattle.axis_curve.proofs.SlopeTurns.{slopes_length}
use Rattle.axis_moments.specs.SlopeAndValue.{AxisLengths}

-- ---- the call of the knot slopes

module _ (n : ℕ) (x y m out : List Float) where
  pub slopes_refused :
      (r : ℕ) → r ≡ slopes_check n x y (length m) (length out) → (r ≡ 0 → ⊥) → SlopesPromise n x y m out r out
  slopes_refused r e some =
      let told = refused (slopes_outcome n x y m out) (λ none. some (e ∙ none)) in
      record { answer = e ∙ sym told.same; output = told.output out _ }

  module _ (none : slopes_check n x y (length m) (length out) ≡ 0) where
    pub slopes_known : SlopesGiven n x y (length m) (length out)
    slopes_known = slopes_given n x y (length m) (length out) none

    pub slopes_lengths : AxisLengths x y m
    slopes_lengths =
        let axis = slopes_known.axis in
        let exact = slopes_known.moments_exact in
        record { least = omega arith; samples = omega arith; moments = omega arith }

    -- the first places of the row are as many as the knots
    pub slopes_row : (row : List Float) → length row ≡ 256 → length (take (n - 0) row) ≡ length x
    slopes_row row e = let axis = slopes_known.axis in rw length-take (omega arith)

    same_slopes : knot_slopes x (length x - 1) y m ≡ knot_slopes x (n - 1) y m
    same_slopes = ap (λ (k : ℕ). knot_slopes x (k - 1) y m) slopes_known.axis.knots_exact

    module _ (flag : Bool) (part : List Float) (worked : SlopesWorked x y m flag part) where
      pub part_length : length part ≡ n
      part_length =
          let axis = slopes_known.axis in
          ap length worked.output ∙ slopes_length x y m (omega arith) ∙ axis.knots_exact

      outcome_is : outcome_refused (knot_slopes x (n - 1) y m) ≡ flag
      outcome_is = ap outcome_refused (sym same_slopes) ∙ sym worked.answer

      pub slopes_bad : flag ≡ true → SlopesPromise n x y m out 10 out
      slopes_bad f =
          let ten = outcome_bad (slopes_outcome n x y m out) none (outcome_is ∙ f) in
          record { answer = sym ten; output = rw ten }

      pub slopes_good : flag ≡ false → (rest later : List Float) → later ≡ take (n - 0) (part ++ rest) → SlopesPromise n x y m out 0 later
      slopes_good f rest later e =
          let zero = outcome_good (slopes_outcome n x y m out) none (outcome_is ∙ f) in
          record {
            answer = sym zero;
            output = rw zero (e ∙ take_at part rest (n - 0) (omega (arith, part_length)) ∙ worked.output ∙ same_slopes);
          }

-- ---- the call of the curve

-- an answer of a number and a value
abbrev answer_of : ℕ → Float → CurveAnswer
answer_of r v = record { refusal = r; value = v }

module _ (n : ℕ) (x y m : List Float) (point : Float) where
  pub curve_refused :
      (r : ℕ) → r ≡ curve_check n x y (length m) point → (r ≡ 0 → ⊥) → CurvePromise n x y m point (answer_of r plus_zero)
  unfolding curve_answer
  curve_refused r e some =
      let told = refused (curve_outcome n x y m point) (λ none. some (e ∙ none)) in
      record { answer = ap₂ answer_of (e ∙ sym told.same) (told.value _) }

  module _ (none : curve_check n x y (length m) point ≡ 0) where
    given : CurveGiven n x y (length m) point
    given = curve_given n x y (length m) point none

    pub curve_lengths : AxisLengths x y m
    curve_lengths =
        let axis = given.axis in
        let exact = given.moments_exact in
        record { least = omega arith; samples = omega arith; moments = omega arith }

    pub few_knots : length x ≤ 256
    few_knots = let axis = given.axis in omega arith

    curve_is : (cell : ℕ) (v : Float) → Located x point cell → v ≡ curve_in_cell x y m cell point → v ≡ curve x (n - 1) y m point
    unfolding curve
    curve_is cell v found e =
        let axis = given.axis in
        let rising = accepted_rise x n axis.knots_exact axis.knots_finite axis.knots_rise in
        e ∙ ap (λ (i : ℕ). curve_in_cell x y m i point) (found.rising rising (not-false (finite point) given.point_finite))

    module _ (cell : ℕ) (v : Float) (found : Located x point cell) (is : v ≡ curve_in_cell x y m cell point) (b : Bool)
        (looked : b ≡ finite v) where
      refuses : answer_refused (curve x (n - 1) y m point) ≡ not b
      refuses = ap (λ (w : Float). not (finite w)) (sym (curve_is cell v found is)) ∙ ap not (sym looked)

      pub curve_good : b ≡ true → CurvePromise n x y m point (answer_of 0 v)
      unfolding curve_answer
      curve_good e =
          let zero = outcome_good (curve_outcome n x y m point) none (refuses ∙ ap not e) in
          record { answer = rw zero (ap (answer_of 0) (curve_is cell v found is)) }

      pub curve_bad : b ≡ false → CurvePromise n x y m point (answer_of 10 plus_zero)
      unfolding curve_answer
      curve_bad e =
          let ten = outcome_bad (curve_outcome n x y m point) none (refuses ∙ ap not e) in
          record { answer = rw ten }

-- ---- the work and the call of the moments

-- once work has begun, all of scratch is +0.0
cleared : (b : Bool) (r : ℕ) (lent : List Float) → r ≡ cond b 10 0 → zeros (length lent) ≡ scratch_after r lent
cleared true r lent e = rw e
cleared false r lent e = rw e

module _
    (x y : List Float) (condition : Condition) (out scratch w w₂ : List Float)
    (lane : RowsFit scratch x) (exact : length y ≡ length x) (front : w ≡ y ++ drop (length x) scratch)
    (solved : MomentsSolved w w₂ x condition)
  where
    abbrev all : List Float
    all = moments x (length x - 1) condition y

    scratch_length : length w₂ ≡ length scratch
    scratch_length =
        solved.same_length ∙ ap length front ∙ rw (length-append, length-drop) (omega (arith, lane))

    samples_are : samples_in w x ≡ y
    samples_are = rw front (take_at y (drop (length x) scratch) (length x) exact)

    -- the moments stand from 1792 on
    moments_part : (k : ℕ) → k ≡ length x → take k (drop 1792 w₂) ≡ all
    unfolding moments
    moments_part k e =
        table_is nan (take k (drop 1792 w₂)) (length x - 1 + 1) (moment x y (length x - 1) condition)
        (rw (length-take-le k (drop 1792 w₂) (rw length-drop (omega (arith, lane, scratch_length)))) (omega (arith, lane)))
        (λ i below.
        get_or-take k (drop 1792 w₂) i nan (omega (arith, lane))
        ∙ get_or-drop 1792 w₂ i nan
        ∙ solved.result i (omega (arith, lane))
        ∙ ap (λ (l : List Float). moment x l (length x - 1) condition i) samples_are)

    module _ (k : ℕ) (e : k ≡ length x) (b : Bool) (looked : b ≡ outcome_refused (take k (drop 1792 w₂))) where
      refuses_moments : outcome_refused all ≡ b
      refuses_moments = sym (looked ∙ ap outcome_refused (moments_part k e))

      pub moments_bad : b ≡ true → (s : List Float) → s ≡ zeros (length w₂) → MomentsWorked x y condition out scratch 10 out s
      moments_bad f s g = record {
        answer = rw (refuses_moments, f);
        output = refl;
        scratch = g ∙ ap zeros scratch_length;
      }

      pub moments_good :
          b ≡ false → (k' : ℕ) → k' ≡ length x → (later s : List Float) → later ≡ take k' (drop 1792 w₂) → s ≡ zeros (length w₂)
          → MomentsWorked x y condition out scratch 0 later s
      moments_good f k' e' later s g h = record {
        answer = rw (refuses_moments, f);
        output = g ∙ moments_part k' e';
        scratch = h ∙ ap zeros scratch_length;
      }

module _ (n : ℕ) (x y : List Float) (condition : Condition) (out scratch : List Float) where
  pub moments_refused :
      (r : ℕ) → r ≡ moments_check n x y condition (length out) (length scratch) → (r ≡ 0 → ⊥)
      → MomentsPromise n x y condition out scratch r out scratch
  moments_refused r e some =
      let told = refused (moments_outcome n x y condition out scratch) (λ none. some (e ∙ none)) in
      record { answer = e ∙ sym told.same; output = told.output out _; scratch = told.scratch scratch }

  module _ (none : moments_check n x y condition (length out) (length scratch) ≡ 0) where
    moments_known : MomentsGiven n x y condition (length out) (length scratch)
    moments_known = moments_given n x y condition (length out) (length scratch) none

    pub moments_lane : RowsFit scratch x
    moments_lane =
        let axis = moments_known.axis in
        let room = moments_known.scratch_enough in
        record { room = omega arith; least = omega arith; most = omega arith }

    pub moments_fewest : fewest_points condition ≤ length x
    moments_fewest =
        let axis = moments_known.axis in
        let fewest = ltb-false n (fewest_points condition) moments_known.enough_points in
        omega arith

    pub moments_samples : length y ≡ length x
    moments_samples = let axis = moments_known.axis in omega arith

    pub moments_out : length out ≡ length x
    moments_out = let axis = moments_known.axis in let exact = moments_known.moments_exact in omega arith

    pub moments_worked : (r : ℕ) (later s : List Float) → MomentsWorked x y condition out scratch r later s
        → MomentsPromise n x y condition out scratch r later s
    moments_worked r later s work =
        let same : all' (length x) ≡ all' n = ap all' moments_known.axis.knots_exact in
        let is : r ≡ moments_refusal n x y condition out scratch =
        work.answer ∙ ap outcome_number same ∙ sym (outcome (moments_outcome n x y condition out scratch) none) in
        record {
          answer = is;
          output = work.output ∙ ap₂ (λ (k : ℕ) (l : List Float). stored k out l) is same;
          scratch =
              work.scratch ∙ cleared (outcome_refused (all' n)) _ scratch (outcome (moments_outcome n x y condition out scratch) none);
        }
      where
        all' : ℕ → List Float
        all' k = moments x (k - 1) condition y
