-- The indices of a place by remainders, from the last axis down.
use mathlib.Core.Path.{◌≡◌, refl, sym, ap, ◌∙◌, subst}
use mathlib.Core.Logic.{⊎_elim}
use mathlib.Core.Bool.{cond}
use mathlib.Core.List.{List, [], ◌∷◌}
use Prim.Native.Nat.{ℕ, zero, suc, ◌/◌, ◌%◌, ◌<◌, ◌≤◌}
use native.Mathlib.Nat.{eq-or-lt_of_le}
use native.Mathlib.Omega.{arith}
use lib.ListN.{length, get_or, set, length-set}
use lib.Seq.{get_or-set_same, get_or-set_other}
use borrow.Author.Tests.{eq-eqb, ne_eqb}
use Rattle.rules.specs.Numbers.{table}
use Rattle.rules.specs.Sizes.{most_axes, unflat}
use Rattle.rules.proofs.Tables.{table_is}

module _ (n : ℕ → ℕ) where
  unflat_here : (d f : ℕ) → unflat n (suc d) f d ≡ f % n d
  unfolding unflat
  unflat_here d f = rw (eq-eqb d d refl)

  unflat_other : (d f j : ℕ) → (j ≡ d → ⊥) → unflat n (suc d) f j ≡ unflat n d (f / n d) j
  unfolding unflat
  unflat_other d f j other = rw (ne_eqb j d other)

  -- past the axes in use every index is 0
  unflat_past : (d f j : ℕ) → d ≤ j → unflat n d f j ≡ 0
  unfolding unflat
  unflat_past zero f j past = refl
  unflat_past (suc d) f j past = unflat_other d f j (λ e. omega arith) ∙ unflat_past d (f / n d) j (omega arith)

  module _ (axes number : ℕ) where
    -- the axes from `left` on have their indices, and `rest` gives those of the others
    pub record Turn (place : List ℕ) (rest left : ℕ) : Type 0 where
      pub four : length place ≡ most_axes
      pub few : left ≤ most_axes
      pub within : left ≤ axes
      pub others : (j : ℕ) → j < left → unflat n axes number j ≡ unflat n left rest j
      pub done : (j : ℕ) → left ≤ j → get_or place j 0 ≡ unflat n axes number j

    none_yet : (j : ℕ) → ◌≡◌ {A = ℕ} (get_or (0 ∷ 0 ∷ 0 ∷ 0 ∷ []) j 0) 0
    none_yet zero = refl
    none_yet (suc zero) = refl
    none_yet (suc (suc zero)) = refl
    none_yet (suc (suc (suc zero))) = refl
    none_yet (suc (suc (suc (suc j)))) = refl

    pub turn_first : axes ≤ most_axes → Turn (0 ∷ 0 ∷ 0 ∷ 0 ∷ []) number axes
    turn_first few = record {
      four = refl;
      few = few;
      within = omega arith;
      others = λ j l. refl;
      done = λ j l. none_yet j ∙ sym (unflat_past axes number j l);
    }

    next : (place : List ℕ) (rest axis : ℕ) → Turn place rest (suc axis) → Turn (set place axis (rest % n axis)) (rest / n axis) axis
    next place rest axis t = record {
      four = length-set place axis (rest % n axis) ∙ t.four;
      few = omega (arith, t.few);
      within = omega (arith, t.within);
      others = λ j l. t.others j (omega arith) ∙ unflat_other axis rest j (λ e. omega arith);
      done = λ j l.
          ⊎_elim
          (λ same.
          ap (λ (k : ℕ). get_or (set place axis (rest % n axis)) k 0) (sym same)
          ∙ get_or-set_same place axis (rest % n axis) 0 (omega (arith, t.four, t.few))
          ∙ sym (unflat_here axis rest) ∙ sym (t.others axis (omega arith)) ∙ ap (unflat n axes number) same)
          (λ above. get_or-set_other place axis j (rest % n axis) 0 (λ e. omega arith) ∙ t.done j (omega arith))
          (eq-or-lt_of_le l);
    }

    pub turn_next : (place : List ℕ) (rest left axis : ℕ) → left ≡ suc axis → Turn place rest left
        → Turn (set place axis (rest % n axis)) (rest / n axis) axis
    turn_next place rest left axis e t = next place rest axis (subst (Turn place rest) e t)

    pub turn_last : (place : List ℕ) (rest left : ℕ) → Turn place rest left → left ≤ 0 → place ≡ table most_axes (unflat n axes number)
    turn_last place rest left t none = table_is 0 place most_axes (unflat n axes number) t.four (λ k l. t.done k (omega arith))
