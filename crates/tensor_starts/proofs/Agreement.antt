-- Which lanes a pass solves: those that agree with its place on every axis that is not free.
use native.Mathlib.Omega.{arith}
use mathlib.Core.Path.{◌≡◌, refl, sym, ap, ◌∙◌}
use mathlib.Core.Logic.{◌≢◌}
use mathlib.Core.Bool.{Bool, true, false, cond, ◌&&◌, ◌||◌}
use Prim.Native.Nat.{ℕ, zero, suc, ◌+◌, ◌^◌, ◌<◌}
use lib.Dec.{eqb}
use borrow.Author.Tests.{eqb-true, eq-eqb, ne_eqb}
use Rattle.rules.specs.Sizes.{Place}
use Rattle.rules.specs.Change.{agree}
use Rattle.rules.proofs.Cases.{not_both}
use Rattle.rules.proofs.Places.{below_or_last}
use Rattle.rules.proofs.Mask.{in_mask_top}
use Rattle.tensor_starts.specs.Starts.{free, varies}

-- ---- two places that agree

split : (a b c : Bool) → (a || b) && c ≡ true → (a ≡ false → b ≡ true) × (c ≡ true)
split true b c e = ((λ f. not_both true refl f), e)
split false true c e = ((λ f. refl), e)
split false false c e = not_both false e refl

join : (a b c : Bool) → (a ≡ false → b ≡ true) → c ≡ true → (a || b) && c ≡ true
join true b c h e = e
join false true c h e = e
join false false c h e = h refl

module _ (free : ℕ → Bool) (p q : Place) where
  pub agree_at : (d : ℕ) → agree free d p q ≡ true → (j : ℕ) → j < d → free j ≡ false → p j ≡ q j
  unfolding agree
  agree_at zero e j below = absurd (omega arith)
  agree_at (suc d) e j below =
      let both = split (free d) (eqb (p d) (q d)) (agree free d p q) e in
      below_or_last (λ (j : ℕ). free j ≡ false → p j ≡ q j) d j
      (λ off. eqb-true (p d) (q d) (both.0 off))
      (λ before. agree_at d both.1 j before)
      below

  pub agree_all : (d : ℕ) → ((j : ℕ) → j < d → free j ≡ false → p j ≡ q j) → agree free d p q ≡ true
  unfolding agree
  agree_all zero same = refl
  agree_all (suc d) same =
      join (free d) (eqb (p d) (q d)) (agree free d p q) (λ off. eq-eqb (p d) (q d) (same d (omega arith) off))
      (agree_all d (λ j below. same j (omega arith)))

-- ---- free axes and those that vary

module _ (whole : Bool) (target i : ℕ) where
  pub varies_own : varies whole target i i ≡ false
  unfolding varies
  varies_own = ap (λ (b : Bool). cond b false (free whole target i)) (eq-eqb i i refl)

  pub varies_other : (j : ℕ) → j ≢ i → varies whole target i j ≡ free whole target j
  unfolding varies
  varies_other j other = ap (λ (b : Bool). cond b false (free whole target j)) (ne_eqb j i other)

  -- an axis that varies is not the lanes' own
  pub varies_not_own : (j : ℕ) → varies whole target i j ≡ true → j ≢ i
  varies_not_own j e is = not_both (varies whole target i i) (ap (varies whole target i) (sym is) ∙ e) varies_own

-- the lanes' own axis is free
pub free_own : (whole : Bool) (i mask : ℕ) → mask < 2 ^ i → free whole (mask + 2 ^ i) i ≡ true
unfolding free
free_own true i mask lt = refl
free_own false i mask lt = in_mask_top i mask lt
