-- What holds of four lanes holds of every lane below four, and back; what four stores leave behind; and two cases that a number can be in
-- beside another.
use native.Mathlib.Omega.{arith}
use native.Mathlib.Nat.{add-zero}
use mathlib.Core.Path.{◌≡◌, refl, ap, ◌∙◌}
use mathlib.Core.Logic.{◌≢◌, ◌⊎◌, inl, inr, ⊎_elim}
use mathlib.Core.List.{List}
use Prim.Native.Nat.{ℕ, zero, suc, ◌+◌, ◌*◌, ◌<◌, ◌≤◌}
use lib.ListN.{length, set, length-set}
use lib.Seq.{get_or-set_same, get_or-set_other}
use lib.Ieee.{Float, nan}
use Rattle.rules.specs.Numbers.{at}
use Rattle.rules.proofs.Tables.{at_table, table_ext}
use Rattle.tensor_fours.specs.Fours.{Lanewise, Four, in_row, place, RowSet, Stored}

pub lane : {p : ℕ → Type 0} → Four p → (l : ℕ) → l < 4 → p l
lane f zero lt = f.of_0
lane f (suc zero) lt = f.of_1
lane f (suc (suc zero)) lt = f.of_2
lane f (suc (suc (suc zero))) lt = f.of_3
lane f (suc (suc (suc (suc l)))) lt = absurd (omega arith)

pub each : {p : ℕ → Type 0} → ((l : ℕ) → l < 4 → p l) → Four p
each f = record { of_0 = f 0 (omega arith); of_1 = f 1 (omega arith); of_2 = f 2 (omega arith); of_3 = f 3 (omega arith) }

-- an operation's number at l is what it says of lane l
pub number : {r : List Float} {f : ℕ → Float} → Lanewise r f → (l : ℕ) → l < 4 → at r l ≡ f l
number {r} {f} e l lt = ap (λ (v : List Float). at v l) e.is ∙ at_table 4 f l nan lt

pub same_or_other : (j i : ℕ) → (j ≡ i) ⊎ (j ≢ i)
same_or_other zero zero = inl refl
same_or_other zero (suc i) = inr (λ e. omega arith)
same_or_other (suc j) zero = inr (λ e. omega arith)
same_or_other (suc j) (suc i) = ⊎_elim (λ e. inl (ap suc e)) (λ n. inr (λ e. n (omega arith))) (same_or_other j i)

pub below_or_not : (j i : ℕ) → (j < i) ⊎ (i ≤ j)
below_or_not j zero = inr (omega arith)
below_or_not zero (suc i) = inl (omega arith)
below_or_not (suc j) (suc i) = ⊎_elim (λ b. inl (omega arith)) (λ b. inr (omega arith)) (below_or_not j i)

-- four stores in a row of a block
module _ (w : List Float) (block k : ℕ) (v : List Float) (room : block + 4 * k + 4 ≤ length w) where
  abbrev i : ℕ
  i = block + 4 * k

  abbrev v₁ : List Float
  v₁ = set w i (at v 0)

  abbrev v₂ : List Float
  v₂ = set v₁ (i + 1) (at v 1)

  abbrev v₃ : List Float
  v₃ = set v₂ (i + 2) (at v 2)

  abbrev v₄ : List Float
  v₄ = set v₃ (i + 3) (at v 3)

  pub row_set : RowSet w v₄ block k v
  row_set = record {
    same_length = simp length-set;
    numbers = record {
      of_0 =
          get_or-set_other v₃ (i + 3) (i + 0) (at v 3) nan (omega arith)
          ∙ get_or-set_other v₂ (i + 2) (i + 0) (at v 2) nan (omega arith)
          ∙ get_or-set_other v₁ (i + 1) (i + 0) (at v 1) nan (omega arith)
          ∙ rw add-zero (get_or-set_same w i (at v 0) nan (omega arith));
      of_1 =
          get_or-set_other v₃ (i + 3) (i + 1) (at v 3) nan (omega arith)
          ∙ get_or-set_other v₂ (i + 2) (i + 1) (at v 2) nan (omega arith)
          ∙ get_or-set_same v₁ (i + 1) (at v 1) nan (simp length-set (omega arith));
      of_2 =
          get_or-set_other v₃ (i + 3) (i + 2) (at v 3) nan (omega arith)
          ∙ get_or-set_same v₂ (i + 2) (at v 2) nan (simp length-set (omega arith));
      of_3 = get_or-set_same v₃ (i + 3) (at v 3) nan (simp length-set (omega arith));
    };
    kept = λ j o.
        get_or-set_other v₃ (i + 3) j (at v 3) nan (o 3 (omega arith))
        ∙ get_or-set_other v₂ (i + 2) j (at v 2) nan (o 2 (omega arith))
        ∙ get_or-set_other v₁ (i + 1) j (at v 1) nan (o 1 (omega arith))
        ∙ get_or-set_other w i j (at v 0) nan (omega (arith, o 0 (omega arith)));
  }

-- one store of what belongs at its place: there it stands then, and where something belonged and stood it stands yet
module _ (G : ℕ → Float) (w : List Float) (i : ℕ) (a : Float) (is : a ≡ G i) (inside : i < length w) where
  here : at (set w i a) i ≡ G i
  here = get_or-set_same w i a nan inside ∙ is

  still : (j : ℕ) → at w j ≡ G j → at (set w i a) j ≡ G j
  still j e = ⊎_elim (λ same. rw same here) (λ other. get_or-set_other w i j a nan other ∙ e) (same_or_other j i)

-- four of them
module _ (w : List Float) (p : List ℕ) (o : ℕ) (v : List Float) (inside : Four (λ l. place p l + o < length w)) where
  abbrev s₁ : List Float
  s₁ = set w (place p 0 + o) (at v 0)

  abbrev s₂ : List Float
  s₂ = set s₁ (place p 1 + o) (at v 1)

  abbrev s₃ : List Float
  s₃ = set s₂ (place p 2 + o) (at v 2)

  abbrev s₄ : List Float
  s₄ = set s₃ (place p 3 + o) (at v 3)

  module _ (G : ℕ → Float) (is : Four (λ l. at v l ≡ G (place p l + o))) where
    still_3 : (j : ℕ) → at s₃ j ≡ G j → at s₄ j ≡ G j
    still_3 = still G s₃ _ _ is.of_3 (simp length-set inside.of_3)

    still_2 : (j : ℕ) → at s₂ j ≡ G j → at s₄ j ≡ G j
    still_2 j e = still_3 j (still G s₂ _ _ is.of_2 (simp length-set inside.of_2) j e)

    still_1 : (j : ℕ) → at s₁ j ≡ G j → at s₄ j ≡ G j
    still_1 j e = still_2 j (still G s₁ _ _ is.of_1 (simp length-set inside.of_1) j e)

    still_0 : (j : ℕ) → at w j ≡ G j → at s₄ j ≡ G j
    still_0 j e = still_1 j (still G w _ _ is.of_0 inside.of_0 j e)

    there : Four (λ l. at s₄ (place p l + o) ≡ G (place p l + o))
    there = record {
      of_0 = still_1 _ (here G w _ _ is.of_0 inside.of_0);
      of_1 = still_2 _ (here G s₁ _ _ is.of_1 (simp length-set inside.of_1));
      of_2 = still_3 _ (here G s₂ _ _ is.of_2 (simp length-set inside.of_2));
      of_3 = here G s₃ _ _ is.of_3 (simp length-set inside.of_3);
    }

  pub stored : Stored w s₄ p o v
  stored = record {
    same_length = simp length-set;
    there = there;
    still = still_0;
    kept = λ j none.
        get_or-set_other s₃ (place p 3 + o) j (at v 3) nan (none 3 (omega arith))
        ∙ get_or-set_other s₂ (place p 2 + o) j (at v 2) nan (none 2 (omega arith))
        ∙ get_or-set_other s₁ (place p 1 + o) j (at v 1) nan (none 1 (omega arith))
        ∙ get_or-set_other w (place p 0 + o) j (at v 0) nan (none 0 (omega arith));
  }

-- once a row is set: another row of that block, and the row itself
module _ {w w' : List Float} {block k : ℕ} {v : List Float} (set : RowSet w w' block k v) where
  pub row_other : (i : ℕ) → i ≢ k → (l : ℕ) → l < 4 → in_row w' block i l ≡ in_row w block i l
  row_other i off l lt = set.kept (block + 4 * i + l) (λ m h. omega arith)

  pub row_there : {f : ℕ → Float} → Lanewise v f → (l : ℕ) → l < 4 → in_row w' block k l ≡ f l
  row_there e l lt = lane set.numbers l lt ∙ number e l lt

-- operations one in another, read lane by lane
pub composed : {r : List Float} {f : ℕ → Float} (g : ℕ → Float) → Lanewise r f → ((l : ℕ) → l < 4 → f l ≡ g l) → Lanewise r g
composed {r} {f} g e same = record { is = e.is ∙ table_ext 4 f g same }
