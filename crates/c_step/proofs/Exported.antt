-- Each export of steps refuses as the host's own refusal says, or answers as `rules` promises for what was given.
use Rattle.std.specs.Prelude.{Option, None}
use mathlib.Core.Path.{◌≡◌, refl, sym, ap, subst, ◌∙◌}
use mathlib.Core.List.{List}
use Prim.Native.Nat.{ℕ, zero, suc}
use lib.Ieee.{Float}
use Rattle.rules.specs.Numbers.{plus_zero, table}
use Rattle.rules.specs.Sizes.{most_axes}
use Rattle.rules.specs.StepCalls.{found, located, ExactPromise, AxisPromise, StepPromise, stepped_answer, SteppedPromise}
use Rattle.rules.specs.declared.StepDirection.{StepDirection}
use Rattle.rules.specs.declared.StepDirection.TheVariants.{Upper}
use Rattle.rules.specs.declared.AxisLocation.{AxisLocation}
use Rattle.rules.specs.declared.AxisLocation.TheVariants.{Exact}
use Rattle.rules.specs.Answers.{ExactAnswer, AxisAnswer, StepAnswer, SteppedAnswer}
use Rattle.step_surface.specs.OnPoints.{OfAnyPoints}
use Rattle.c_axes.specs.Axes.{axes_without_ends}
use Rattle.c_refusals.specs.Slots.{in_slot, QueryStored}
use Rattle.c_refusals.proofs.Exported.{own_answer, no_value, no_count, no_labels, call_answer}
use Rattle.c_refusals.proofs.Rows.{given_below}
use Rattle.c_step.specs.Directions.{direction_of_number, directions_given}
use Rattle.c_step.specs.StepExports.{
  in_pair,
  exact_numbers,
  exact_own_refusal,
  ExactExport,
  LocationStored,
  axis_own_refusal,
  AxisExport,
  step_own_refusal,
  StepExport,
  stepped_own_refusal,
  SteppedExport,
}
use Rattle.c_step.proofs.Lengths.{few}

-- every number other than 0 is that of Upper
pub upper_of : (number : ℕ) → (number ≡ 0 → ⊥) → Upper ≡ direction_of_number number
upper_of zero other = absurd (other refl)
upper_of (suc number) other = refl

-- ---- where the host refuses, slots say that nothing was found

none_found : (own : ℕ) (index : Option ℕ) {r : ℕ} → r ≡ own → (r ≡ 0 → ⊥) → None ≡ found own index
none_found zero index e some = absurd (some e)
none_found (suc own) index e some = refl

none_located : (own : ℕ) (location : AxisLocation) {r : ℕ} → r ≡ own → (r ≡ 0 → ⊥) → Exact 0 ≡ located own location
none_located zero location e some = absurd (some e)
none_located (suc own) location e some = refl

-- ---- the exact index

module _ (n : ℕ) (knots : List Float) (lower : ℕ) (point : Float) (found_lent : List ℕ) {r : ℕ}
    (e : r ≡ exact_own_refusal n found_lent) where
  pub exact_refused : (r ≡ 0 → ⊥) → {f : List ℕ} → f ≡ in_pair found_lent (exact_numbers None)
      → ExactExport n knots lower point found_lent r f
  exact_refused some in_place = record {
    answer = own_answer _ _ e some;
    slot = in_place ∙ ap (λ (i : Option ℕ). in_pair found_lent (exact_numbers i)) (none_found _ _ e some);
  }

  pub exact_called :
      r ≡ 0 → (a : ExactAnswer) {f : List ℕ} → ExactPromise n knots lower point a → f ≡ in_pair found_lent (exact_numbers a.index)
      → ExactExport n knots lower point found_lent a.refusal f
  exact_called none a p in_place = record {
    answer = call_answer _ e none (ap (λ (b : ExactAnswer). b.refusal) p.answer);
    slot = rw (sym e ∙ none) (in_place ∙ ap (λ (b : ExactAnswer). in_pair found_lent (exact_numbers b.index)) p.answer);
  }

-- ---- the location

module _ (n : ℕ) (knots : List Float) (point : Float) (location_lent : List ℕ) (fraction_lent : List Float) {r : ℕ}
    (e : r ≡ axis_own_refusal n location_lent fraction_lent) where
  pub axis_refused :
      (r ≡ 0 → ⊥) → {l : List ℕ} {f : List Float} → LocationStored location_lent fraction_lent (Exact 0) l f
      → AxisExport n knots point location_lent fraction_lent r l f
  axis_refused some {l} {f} in_place = record {
    answer = own_answer _ _ e some;
    answer_stored = subst (λ (a : AxisLocation). LocationStored location_lent fraction_lent a l f) (none_located _ _ e some) in_place;
  }

  pub axis_called :
      r ≡ 0 → (a : AxisAnswer) {l : List ℕ} {f : List Float} → AxisPromise n knots point a
      → LocationStored location_lent fraction_lent a.location l f
      → AxisExport n knots point location_lent fraction_lent a.refusal l f
  axis_called none a {l} {f} p in_place = record {
    answer = call_answer _ e none (ap (λ (b : AxisAnswer). b.refusal) p.answer);
    answer_stored =
        rw (sym e ∙ none) (subst (λ (b : AxisAnswer). LocationStored location_lent fraction_lent b.location l f) p.answer in_place);
  }

-- ---- the index of a step

module _ (n : ℕ) (knots : List Float) (number : ℕ) (point : Float) (index_lent : List ℕ) {r : ℕ}
    (e : r ≡ step_own_refusal n knots number index_lent) where
  pub step_refused : (r ≡ 0 → ⊥) → {i : List ℕ} → i ≡ in_slot index_lent 0 → StepExport n knots number point index_lent r i
  step_refused some in_place = record { answer = own_answer _ _ e some; slot = in_place ∙ ap (in_slot index_lent) (no_count _ _ e some) }

  pub step_called :
      r ≡ 0 → (d : StepDirection) → d ≡ direction_of_number number → (a : StepAnswer) {i : List ℕ} → StepPromise d n knots point a
      → i ≡ in_slot index_lent a.index
      → StepExport n knots number point index_lent a.refusal i
  step_called none d given a p in_place =
      let q = (rw given at p).answer in
      record {
        answer = call_answer _ e none (ap (λ (b : StepAnswer). b.refusal) q);
        slot = rw (sym e ∙ none) (in_place ∙ ap (λ (b : StepAnswer). in_slot index_lent b.index) q);
      }

-- ---- the stepped surface

module _ (axes : ℕ) (points numbers : List ℕ) (knots samples coordinates value_lent : List Float) (indices_lent : List ℕ) {r : ℕ}
    (e : r ≡ stepped_own_refusal axes points numbers knots samples coordinates value_lent indices_lent) where
  pub stepped_refused :
      (r ≡ 0 → ⊥) → {v : List Float} {i : List ℕ} → QueryStored value_lent indices_lent plus_zero (table most_axes (λ i. 0)) v i
      → SteppedExport axes points numbers knots samples coordinates value_lent indices_lent r v i
  stepped_refused some in_place = record {
    answer = own_answer _ _ e some;
    answer_stored =
        let given =
        stepped_answer (record { axes = axes; entries = axes_without_ends axes points; flat_knots = knots })
        (directions_given axes numbers) samples coordinates in
        rw (← no_value _ given.value e some, ← no_labels _ given.indices e some) in_place;
  }

  pub stepped_called :
      r ≡ 0 → (d : List StepDirection) → d ≡ directions_given axes numbers → (a : SteppedAnswer) {v : List Float} {i : List ℕ}
      → OfAnyPoints axes points knots (λ g. SteppedPromise g d samples coordinates a)
      → QueryStored value_lent indices_lent a.value a.indices v i
      → SteppedExport axes points numbers knots samples coordinates value_lent indices_lent a.refusal v i
  stepped_called none d given a promised in_place =
      let few = few axes points numbers knots samples coordinates value_lent indices_lent e none in
      let q = (rw given at (promised (axes_without_ends axes points) (given_below axes points few))).answer in
      record {
        answer = call_answer _ e none (ap (λ (b : SteppedAnswer). b.refusal) q);
        answer_stored = rw (sym e ∙ none) (rw q at in_place);
      }
