-- A list that is filled from its front, one number after the other or four at a time, on plain lists.
use native.Mathlib.Omega.{arith}
use mathlib.Core.Path.{◌≡◌, refl, subst, sym, ◌∙◌}
use mathlib.Core.List.{List}
use Prim.Native.Nat.{ℕ, ◌+◌, ◌<◌, ◌≤◌}
use lib.ListN.{length, set, length-set}
use lib.Seq.{get_or-set_same, get_or-set_other}
use lib.Ieee.{Float, nan}
use borrow.Author.Count.{below_more}
use Rattle.rules.specs.Numbers.{at}
use Rattle.query_blend.specs.Blend.{with_four}

-- the numbers below e are those of f, and those from e on stand as they were
pub record Reached (cell₀ cell : List Float) (f : ℕ → Float) (e : ℕ) : Type 0 where
  pub same_length : length cell ≡ length cell₀
  pub done : (k : ℕ) → k < e → at cell k ≡ f k
  pub kept : (k : ℕ) → e ≤ k → at cell k ≡ at cell₀ k

module _ (cell₀ : List Float) (f : ℕ → Float) where
  pub reached_none : Reached cell₀ cell₀ f 0
  reached_none = record { same_length = refl; done = λ k h. absurd (omega arith); kept = λ k h. refl }

  pub reached_more : (cell : List Float) (e : ℕ) → Reached cell₀ cell f e → (r : Float) → r ≡ f e → e < length cell₀ → (next : ℕ)
      → next ≡ e + 1 → Reached cell₀ (set cell e r) f next
  reached_more cell e i r is room next one =
      subst (Reached cell₀ (set cell e r) f) (sym one)
      (record {
        same_length = simp length-set i.same_length;
        done = below_more _ e
            (λ k h. get_or-set_other cell e k r nan (omega arith) ∙ i.done k h)
            (get_or-set_same cell e r nan (omega (arith, i.same_length)) ∙ is);
        kept = λ k h. get_or-set_other cell e k r nan (omega arith) ∙ i.kept k (omega arith);
      })

  pub reached_four :
      (cell : List Float) (e : ℕ) → Reached cell₀ cell f e → (four : List Float) → at four 0 ≡ f e → at four 1 ≡ f (e + 1)
      → at four 2 ≡ f (e + 2) → at four 3 ≡ f (e + 3)
      → e + 3 < length cell₀ → (next : ℕ) → next ≡ e + 4 → Reached cell₀ (with_four cell e four) f next
  reached_four cell e i four first second third fourth room next is =
      let one = reached_more cell e i (at four 0) first (omega arith) (e + 1) (omega arith) in
      let two = reached_more _ (e + 1) one (at four 1) second (omega arith) (e + 2) (omega arith) in
      let three = reached_more _ (e + 2) two (at four 2) third (omega arith) (e + 3) (omega arith) in
      reached_more _ (e + 3) three (at four 3) fourth (omega arith) next (omega (arith, is))
