-- Each export of the tensor refuses as the host's own refusal says, or answers as the call promises for what was given.
use mathlib.Core.Path.{◌≡◌, sym, ap, ◌∙◌}
use mathlib.Core.List.{List}
use Prim.Native.Nat.{ℕ}
use lib.Ieee.{Float}
use Rattle.rules.specs.Sizes.{place_of}
use Rattle.rules.specs.Calls.{BuildPromise, change_answer, ChangePromise}
use Rattle.rules.specs.Answers.{ChangeAnswer}
use Rattle.rules.specs.declared.Axis.{Axis}
use Rattle.c_axes.specs.Axes.{axes_given}
use Rattle.c_refusals.specs.OwnRefusals.{build_own_refusal, change_own_refusal}
use Rattle.c_refusals.specs.Slots.{in_slot}
use Rattle.c_tensor.specs.TensorExports.{BuildExport, ChangeExport}
use Rattle.c_refusals.proofs.Exported.{own_answer, untouched, no_count, call_answer, left}

-- ---- the build

module _ (axes : ℕ) (points kinds : List ℕ) (values knots samples tensor_lent scratch_lent : List Float) {r : ℕ}
    (e : r ≡ build_own_refusal axes points kinds values knots samples tensor_lent) where
  pub build_refused : (r ≡ 0 → ⊥) → BuildExport axes points kinds values knots samples tensor_lent scratch_lent r tensor_lent scratch_lent
  build_refused some = record {
    answer = own_answer _ _ e some;
    output = untouched _ _ _ e some;
    scratch = untouched _ _ _ e some;
  }

  pub build_called :
      r ≡ 0 → (all : List Axis) → all ≡ axes_given axes points kinds values → {a : ℕ} {t s : List Float}
      → BuildPromise (record { axes = axes; entries = all; flat_knots = knots }) samples tensor_lent scratch_lent a t s
      → BuildExport axes points kinds values knots samples tensor_lent scratch_lent a t s
  build_called none all given p =
      let q = rw given at p in
      record {
        answer = call_answer _ e none q.answer;
        output = left _ _ e none q.output;
        scratch = left _ _ e none q.scratch;
      }

-- ---- the change

module _ (axes : ℕ) (points kinds : List ℕ) (values knots tensor_lent scratch_lent : List Float) (place : List ℕ) (sample : Float)
    (lanes_lent : List ℕ) {r : ℕ} (e : r ≡ change_own_refusal axes points kinds values knots tensor_lent place lanes_lent) where
  pub change_refused :
      (r ≡ 0 → ⊥) → {l : List ℕ} → l ≡ in_slot lanes_lent 0
      → ChangeExport axes points kinds values knots tensor_lent scratch_lent place sample lanes_lent r tensor_lent scratch_lent l
  change_refused some in_place = record {
    answer = own_answer _ _ e some;
    output = untouched _ _ _ e some;
    scratch = untouched _ _ _ e some;
    slot = in_place ∙ ap (in_slot lanes_lent) (no_count _ _ e some);
  }

  pub change_called :
      r ≡ 0 → (all : List Axis) → all ≡ axes_given axes points kinds values → (changed : List ℕ) → changed ≡ place
      → (a : ChangeAnswer) {t s : List Float} {l : List ℕ}
      → ChangePromise (record { axes = axes; entries = all; flat_knots = knots }) tensor_lent scratch_lent (place_of changed) sample a t s
      → l ≡ in_slot lanes_lent a.lanes
      → ChangeExport axes points kinds values knots tensor_lent scratch_lent place sample lanes_lent a.refusal t s l
  unfolding change_answer
  change_called none all given changed here a p in_place =
      let q = rw (given, here) at p in
      record {
        answer = call_answer _ e none (ap (λ (b : ChangeAnswer). b.refusal) q.answer);
        output = left _ _ e none q.output;
        scratch = left _ _ e none q.scratch;
        slot = rw (sym e ∙ none) (in_place ∙ ap (λ (b : ChangeAnswer). in_slot lanes_lent b.lanes) q.answer);
      }
