-- Each export of the curve refuses as the host's own refusal says, or answers as the call promises for what was given.
use mathlib.Core.Path.{◌≡◌, sym, ap, ◌∙◌}
use mathlib.Core.List.{List}
use Prim.Native.Nat.{ℕ}
use lib.Ieee.{Float}
use Rattle.rules.specs.Numbers.{plus_zero}
use Rattle.rules.specs.Calls.{MomentsPromise, CurvePromise}
use Rattle.rules.specs.declared.Condition.{Condition}
use Rattle.rules.specs.Answers.{CurveAnswer}
use Rattle.c_axes.specs.Axes.{condition_given}
use Rattle.c_refusals.specs.OwnRefusals.{moments_own_refusal, curve_own_refusal}
use Rattle.c_refusals.specs.Slots.{in_slot}
use Rattle.c_curve.specs.CurveExports.{MomentsExport, CurveExport}
use Rattle.c_refusals.proofs.Exported.{own_answer, untouched, no_value, call_answer, left}

-- ---- the curve's moments

module _ (n : ℕ) (knots samples : List Float) (kinds : List ℕ) (values moments_lent scratch_lent : List Float) {r : ℕ}
    (e : r ≡ moments_own_refusal n knots samples kinds values moments_lent) where
  pub moments_refused : (r ≡ 0 → ⊥) → MomentsExport n knots samples kinds values moments_lent scratch_lent r moments_lent scratch_lent
  moments_refused some = record {
    answer = own_answer _ _ e some;
    output = untouched _ _ _ e some;
    scratch = untouched _ _ _ e some;
  }

  pub moments_called :
      r ≡ 0 → (ends : Condition) → ends ≡ condition_given kinds values 0 → {a : ℕ} {m s : List Float}
      → MomentsPromise n knots samples ends moments_lent scratch_lent a m s
      → MomentsExport n knots samples kinds values moments_lent scratch_lent a m s
  moments_called none ends given p =
      let q = rw given at p in
      record {
        answer = call_answer _ e none q.answer;
        output = left _ _ e none q.output;
        scratch = left _ _ e none q.scratch;
      }

-- ---- the curve's value

module _ (n : ℕ) (knots samples moments_in : List Float) (point : Float) (value_lent : List Float) {r : ℕ}
    (e : r ≡ curve_own_refusal n value_lent) where
  pub curve_refused :
      (r ≡ 0 → ⊥) → {v : List Float} → v ≡ in_slot value_lent plus_zero → CurveExport n knots samples moments_in point value_lent r v
  curve_refused some in_place =
      record { answer = own_answer _ _ e some; slot = in_place ∙ ap (in_slot value_lent) (no_value _ _ e some) }

  pub curve_called :
      r ≡ 0 → (a : CurveAnswer) {v : List Float}
      → CurvePromise n knots samples moments_in point a
      → v ≡ in_slot value_lent a.value
      → CurveExport n knots samples moments_in point value_lent a.refusal v
  curve_called none a p in_place = record {
    answer = call_answer _ e none (ap (λ (b : CurveAnswer). b.refusal) p.answer);
    slot = rw (sym e ∙ none) (in_place ∙ ap (λ (b : CurveAnswer). in_slot value_lent b.value) p.answer);
  }
