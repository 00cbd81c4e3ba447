-- The export refuses as the host's own refusal says, or answers as the call promises for what was given.
use mathlib.Core.Path.{◌≡◌, sym, ap, ◌∙◌, subst}
use mathlib.Core.List.{List}
use Prim.Native.Nat.{ℕ}
use lib.Ieee.{Float}
use borrow.Author.Tests.{ne_eqb}
use Rattle.rules.specs.declared.Axis.{Axis}
use Rattle.tensor_verify.specs.Verify.{refused_with, verify_answer, VerifyPromise}
use Rattle.tensor_verify.specs.Verify.{VerifyAnswer}
use Rattle.c_axes.specs.Axes.{axes_given, grid_given}
use Rattle.c_refusals.proofs.Exported.{untouched, left}
use Rattle.c_verify.specs.VerifyExports.{verify_own_refusal, verify_told, FoundStored, VerifyExport}

module _ (axes : ℕ) (points kinds : List ℕ) (values knots tensor scratch_lent : List Float) (place_lent found_lent : List ℕ) {r : ℕ}
    (e : r ≡ verify_own_refusal axes points kinds values knots tensor place_lent found_lent) where
  abbrev told : VerifyAnswer
  told = verify_told axes points kinds values knots tensor scratch_lent place_lent found_lent

  pub verify_refused :
      (r ≡ 0 → ⊥) → (nothing : VerifyAnswer) → nothing ≡ refused_with r → (p f : List ℕ) → FoundStored place_lent found_lent nothing p f
      → VerifyExport axes points kinds values knots tensor scratch_lent place_lent found_lent r scratch_lent p f
  verify_refused some nothing is p f in_slots =
      let is_told : refused_with r ≡ told = rw (sym e, ne_eqb r 0 some) in
      record {
        answer = ap (λ (a : VerifyAnswer). a.refusal) is_told;
        scratch = untouched _ _ _ e some;
        answer_stored = subst (λ (a : VerifyAnswer). FoundStored place_lent found_lent a p f) (is ∙ is_told) in_slots;
      }

  pub verify_called :
      r ≡ 0 → (all : List Axis) → all ≡ axes_given axes points kinds values → (a : VerifyAnswer) {s : List Float} (p f : List ℕ)
      → VerifyPromise (record { axes = axes; entries = all; flat_knots = knots }) tensor scratch_lent a s
      → FoundStored place_lent found_lent a p f
      → VerifyExport axes points kinds values knots tensor scratch_lent place_lent found_lent a.refusal s p f
  verify_called none all given a p f kept in_slots =
      let q = rw given at kept in
      let is_told : verify_answer (grid_given axes points kinds values knots) tensor scratch_lent ≡ told = rw (sym e ∙ none) in
      record {
        answer = ap (λ (b : VerifyAnswer). b.refusal) (q.answer ∙ is_told);
        scratch = left _ _ e none q.scratch;
        answer_stored = subst (λ (b : VerifyAnswer). FoundStored place_lent found_lent b p f) (q.answer ∙ is_told) in_slots;
      }
