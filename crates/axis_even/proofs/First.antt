-- The laws of `first_that`: what a loop knows that looks for the first number of which a test holds.
use Rattle.std.proofs.Common.{◌≡◌, ℕ, zero, suc, ◌+◌, ◌-◌, ◌<◌, ◌≤◌, Bool, true, false, ltb, sym, refl, ap, ◌∙◌, add-one, arith, ltb-false, ltb-true}
use Rattle.rules.specs.Even.{first_that}

module _ (test : ℕ → Bool) where
  that_holds : (d k : ℕ) → 0 < d → test k ≡ true → first_that test d k ≡ k
  unfolding first_that
  that_holds zero k some e = absurd (omega arith)
  that_holds (suc d) k some e = ap (λ (t : Bool). elim t [ true ↦ k | false ↦ first_that test d (suc k) ]) e

  that_fails : (d k : ℕ) → test k ≡ false → first_that test (suc d) k ≡ first_that test d (suc k)
  unfolding first_that
  that_fails d k e = ap (λ (t : Bool). elim t [ true ↦ k | false ↦ first_that test d (suc k) ]) e

  -- what a loop over the numbers from `from` up to `to` keeps at i: what is looked for is not before i
  pub record Turn (from to i : ℕ) : Type 0 where
    pub least : from ≤ i
    pub most : i ≤ to
    pub same : first_that test (to - from) from ≡ first_that test (to - i) i

  pub turn_first : (from to : ℕ) → from ≤ to → Turn from to from
  turn_first from to order = record { least = omega arith; most = order; same = refl }

  module _ (from to i : ℕ) (t : Turn from to i) where
    pub turn_next : i < to → test i ≡ false → Turn from to (i + 1)
    turn_next l e = record {
      least = (let h = t.least in omega arith);
      most = omega arith;
      same =
          t.same
          ∙ ap (λ (d : ℕ). first_that test d i) (let z : to - i ≡ suc (to - (i + 1)) = omega arith in z)
          ∙ that_fails (to - (i + 1)) i e
          ∙ ap (first_that test (to - (i + 1))) (sym (add-one i));
    }

    pub turn_found : i < to → test i ≡ true → i ≡ first_that test (to - from) from
    turn_found l e = sym (t.same ∙ that_holds (to - i) i (omega arith) e)

    pub turn_last : to ≤ i → 0 ≡ first_that test (to - from) from
    unfolding first_that
    turn_last l = sym (t.same ∙ ap (λ (d : ℕ). first_that test d i) (let z : to - i ≡ 0 = omega arith in z))

  -- where none was found, the test holds of none
  pub none_found : (d k : ℕ) → 0 < k → first_that test d k ≡ 0 → (i : ℕ) → k ≤ i → i < k + d → test i ≡ false
  none_found zero k some none i least most = absurd (omega arith)
  none_found (suc d) k some none i least most =
      go (test k) refl (ltb k i) refl (λ z l. none_found d (suc k) (omega arith) z i l (omega arith))
    where
      go : (t : Bool) → test k ≡ t → (u : Bool) → ltb k i ≡ u → (first_that test d (suc k) ≡ 0 → k < i → test i ≡ false) → test i ≡ false
      go true e u f later = absurd (omega (arith, that_holds (suc d) k (omega arith) e))
      go false e true f later = later (sym (that_fails d k e) ∙ none) (ltb-true k i f)
      go false e false f later = let same : i ≡ k = omega (arith, ltb-false k i f) in rw same e

  -- and where it holds of none, none is found
  pub found_none : (d k : ℕ) → ((i : ℕ) → k ≤ i → i < k + d → test i ≡ false) → first_that test d k ≡ 0
  unfolding first_that
  found_none zero k none = refl
  found_none (suc d) k none =
      that_fails d k (none k (omega arith) (omega arith)) ∙ found_none d (suc k) (λ i l h. none i (omega arith) (omega arith))
