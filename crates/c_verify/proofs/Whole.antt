-- What `hullashlar_verify` calls whole stands as built, so the third promise of the exports holds of it from there on; and a tensor of
-- `hullashlar_build` is called whole after any list of calls of `hullashlar_change`.
use mathlib.Core.Path.{◌≡◌, refl, sym, ap, ◌∙◌}
use mathlib.Core.Bool.{Bool, true, false, cond}
use mathlib.Core.List.{List, [], ◌∷◌}
use Prim.Native.Nat.{ℕ, zero, suc, ◌≤◌}
use native.Mathlib.Omega.{arith}
use lib.ListN.{length, get_or}
use lib.Ieee.{Float}
use borrow.Author.Tests.{ne_eqb}
use Rattle.rules.specs.Sizes.{Grid, tensor_length, scratch_length}
use Rattle.rules.specs.Tensor.{tensor}
use Rattle.rules.proofs.Cases.{neither_of}
use Rattle.rules.proofs.Tables.{length_table}
use Rattle.base_floats.specs.Place.{AllFit}
use Rattle.grid_checks.proofs.Rows.{length_fits}
use Rattle.tensor_verify.specs.Verify.{samples_in, verify_answer}
use Rattle.tensor_verify.specs.Verify.{VerifyAnswer}
use Rattle.tensor_verify.proofs.Whole.{whole_is_built, built_is_whole}
use Rattle.c_axes.specs.Axes.{grid_given}
use Rattle.c_tensor.specs.TensorExports.{BuildExport}
use Rattle.c_tensor.proofs.Accepted.{change_accepted}
use Rattle.c_tensor.proofs.Demand3.{
  HostChange,
  Called,
  tensor_after_calls,
  samples_after_calls,
  Made,
  changes_made,
  build_made,
  HostBitsOfFreshBuild,
  HostRefusalOfFreshBuild,
  HostBitsKeptElsewhere,
  host_bits_of_fresh_build,
  host_refusal_of_fresh_build,
  host_bits_kept_elsewhere,
}
use Rattle.c_verify.specs.VerifyExports.{verify_slots_refused, verify_own_refusal, VerifyExport}
use Rattle.c_verify.proofs.OwnRows.{own_of_change, own_slots, own_fine}

-- the first of the numbers found: 1 for a whole tensor
abbrev pub says_whole : List ℕ → ℕ
says_whole found = get_or found 0 0

module _ (axes : ℕ) (points kinds : List ℕ) (values knots : List Float) where
  abbrev g : Grid
  g = grid_given axes points kinds values knots

  -- ---- what is called whole stands as built of its own samples

  module _ (t scratch : List Float) (fit : AllFit t) (place found : List ℕ) {s : List Float} {p f : List ℕ}
      (called : VerifyExport axes points kinds values knots t scratch place found 0 s p f) (whole : says_whole f ≡ 1) where
    abbrev own : ℕ
    own = verify_own_refusal axes points kinds values knots t place found

    -- no refusal of the host's own
    accepted : own ≡ 0
    accepted = go own refl
      where
        go : (r : ℕ) → own ≡ r → own ≡ 0
        go zero e = e
        go (suc r) e = let z : 0 ≡ suc r = rw (e, ne_eqb (suc r) 0 (λ z. omega arith)) at called.answer in absurd (omega arith)

    abbrev told : VerifyAnswer
    told = verify_answer g t scratch

    none : told.refusal ≡ 0
    none = sym (rw accepted at called.answer)

    one_or_none : (b : Bool) → cond {A = ℕ} b 1 0 ≡ 1 → b ≡ true
    one_or_none true e = refl
    one_or_none false e = absurd (omega arith)

    is_whole : told.whole ≡ true
    is_whole =
        let slots = own_slots axes points kinds values knots t place found accepted in
        one_or_none told.whole
        (sym (ap says_whole (rw (accepted, slots) at called.answer_stored.numbers))
        ∙ whole)

    pub verified_made : Made axes points kinds values knots (samples_in g t) t
    verified_made = record {
      fine = own_fine axes points kinds values knots t place found accepted;
      stands = whole_is_built g t scratch fit none is_whole;
    }

    pub host_verified_bits_of_fresh_build : HostBitsOfFreshBuild axes points kinds values knots (samples_in g t) t
    host_verified_bits_of_fresh_build = host_bits_of_fresh_build axes points kinds values knots (samples_in g t) t verified_made

    pub host_verified_refusal_of_fresh_build : HostRefusalOfFreshBuild axes points kinds values knots (samples_in g t) t
    host_verified_refusal_of_fresh_build = host_refusal_of_fresh_build axes points kinds values knots (samples_in g t) t verified_made

    pub host_verified_bits_kept_elsewhere : HostBitsKeptElsewhere axes points kinds values knots t
    host_verified_bits_kept_elsewhere = host_bits_kept_elsewhere axes points kinds values knots (samples_in g t) t verified_made

  -- ---- and what stands as built is called whole

  pub made_is_whole :
      (samples t : List Float) → Made axes points kinds values knots samples t
      → (scratch : List Float) (place found : List ℕ) → scratch_length g ≤ length scratch → length place ≡ 4 → length found ≡ 3
      → {r : ℕ} {s : List Float} {p f : List ℕ} → VerifyExport axes points kinds values knots t scratch place found r s p f
      → (r ≡ 0) × (says_whole f ≡ 1)
  unfolding tensor
  made_is_whole samples t made scratch place found room four three called =
      let fits : verify_slots_refused place found ≡ false =
      neither_of (length_fits (length place) 4 four) (length_fits (length found) 3 three) in
      let long : length t ≡ tensor_length g = ap length made.stands.is ∙ length_table (tensor_length g) _ in
      let own : verify_own_refusal axes points kinds values knots t place found ≡ 0 =
      sym (own_of_change axes points kinds values knots t place found (0 ∷ []) refl fits)
      ∙ change_accepted axes points kinds values knots made.fine samples made.stands.sound t place (0 ∷ []) long four refl in
      let whole = built_is_whole g samples t scratch made.stands room in (
        rw own at called.answer ∙ whole.0,
        ap says_whole (rw (own, fits) at called.answer_stored.numbers) ∙ ap (λ (b : Bool). cond {A = ℕ} b 1 0) whole.1,
      )

  -- after an accepted build and any list of calls
  pub whole_after_calls :
      (samples out cleared t lent : List Float) → BuildExport axes points kinds values knots samples out lent 0 t cleared
      → (changes : List HostChange) → Called axes points kinds values knots t changes
      → (scratch : List Float) (place found : List ℕ) → scratch_length g ≤ length scratch → length place ≡ 4 → length found ≡ 3
      → {r : ℕ} {s : List Float} {p f : List ℕ}
      → VerifyExport axes points kinds values knots (tensor_after_calls t changes) scratch place found r s p f
      → (r ≡ 0) × (says_whole f ≡ 1)
  whole_after_calls samples out cleared t lent built changes called =
      made_is_whole (samples_after_calls axes points kinds values knots samples changes) (tensor_after_calls t changes)
      (changes_made axes points kinds values knots samples t
      (build_made axes points kinds values knots samples out lent t cleared built) changes called)
