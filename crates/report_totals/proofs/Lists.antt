-- One element more at the end of a list: which pass a test, and the largest magnitude. A table with one place stored is again a table.
use mathlib.Core.Path.{◌≡◌, refl, ◌∙◌}
use mathlib.Core.Bool.{Bool, true, false, cond}
use mathlib.Core.List.{List, [], ◌∷◌, ◌++◌}
use Prim.Native.Nat.{ℕ, ◌<◌, ◌≤◌, max}
use native.Mathlib.Omega.{arith}
use lib.Dec.{eqb}
use lib.ListN.{length, get_or, set, length-set}
use lib.Seq.{get_or-set_same, get_or-set_other}
use borrow.Author.Tests.{eqb-true, eqb-false}
use Rattle.rules.specs.Numbers.{table, filter}
use Rattle.rules.proofs.Tables.{length_table, at_table, table_is}
use Rattle.report_totals.specs.Totals.{Entry, magnitude, largest}

module _ {A : Type 0} (test : A → Bool) where
  pub filter_kept : (xs : List A) (a : A) → test a ≡ true → filter test (xs ++ (a ∷ [])) ≡ filter test xs ++ (a ∷ [])
  unfolding filter
  filter_kept [] a e = rw e
  filter_kept (x ∷ xs) a e = rw (filter_kept xs a e) (go (test x))
    where
      go : (b : Bool)
          → cond b (x ∷ (filter test xs ++ (a ∷ []))) (filter test xs ++ (a ∷ [])) ≡ cond b (x ∷ filter test xs) (filter test xs)
          ++ (a ∷ [])
      go true = refl
      go false = refl

  pub filter_dropped : (xs : List A) (a : A) → test a ≡ false → filter test (xs ++ (a ∷ [])) ≡ filter test xs
  unfolding filter
  filter_dropped [] a e = rw e
  filter_dropped (x ∷ xs) a e = rw (filter_dropped xs a e)

  pub filter_most : (xs : List A) → length (filter test xs) ≤ length xs
  unfolding filter
  filter_most [] = omega arith
  filter_most (x ∷ xs) = go (test x) (filter_most xs)
    where
      go : (b : Bool) → length (filter test xs) ≤ length xs → length (cond b (x ∷ filter test xs) (filter test xs)) ≤ length (x ∷ xs)
      go true most = omega arith
      go false most = omega arith

pub largest_snoc : (entries : List Entry) (entry : Entry)
    → largest (entries ++ (entry ∷ [])) ≡ max (largest entries) (magnitude entry.number)
unfolding largest
largest_snoc [] entry = omega arith
largest_snoc (first ∷ rest) entry = omega (arith, largest_snoc rest entry)

pub table_set : {A : Type 0} (d : A) (n : ℕ) (f g : ℕ → A) (i : ℕ) (v : A) → i < n → v ≡ g i → ((k : ℕ) → (k ≡ i → ⊥) → f k ≡ g k)
    → set (table n f) i v ≡ table n g
table_set d n f g i v h e same =
    table_is d (set (table n f) i v) n g (length-set (table n f) i v ∙ length_table n f) (λ k l. go k l (eqb k i) refl)
  where
    go : (k : ℕ) → k < n → (b : Bool) → eqb k i ≡ b → get_or (set (table n f) i v) k d ≡ g k
    go k l true q =
        let z : k ≡ i = eqb-true k i q in
        rw z (get_or-set_same (table n f) i v d (let long = length_table n f in omega arith) ∙ e)
    go k l false q =
        let other = eqb-false k i q in
        get_or-set_other (table n f) i k v d other ∙ at_table n f k d l ∙ same k other
