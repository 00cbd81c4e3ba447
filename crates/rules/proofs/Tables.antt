-- A table has at each index what its rule gives there; two rules that agree make one table, and a list is the table of its elements.
use mathlib.Core.Path.{◌≡◌, refl, sym, ap, ◌∙◌}
use mathlib.Core.List.{List}
use Prim.Native.Nat.{ℕ, zero, suc, ◌+◌, ◌<◌}
use native.Mathlib.Omega.{arith}
use lib.ListN.{length, get_or}
use lib.Seq.{ext_get_or}
use Rattle.rules.specs.Numbers.{table, table_from}

module _ {A : Type 0} where
  length_table_from : (n a : ℕ) (f : ℕ → A) → length (table_from n a f) ≡ n
  length_table_from zero a f = refl
  length_table_from (suc n) a f = ap suc (length_table_from n (suc a) f)

  pub length_table : (n : ℕ) (f : ℕ → A) → length (table n f) ≡ n
  length_table n f = length_table_from n 0 f

  at_table_from : (n a : ℕ) (f : ℕ → A) (k : ℕ) (d : A) → k < n → get_or (table_from n a f) k d ≡ f (a + k)
  at_table_from zero a f k d lt = absurd (omega arith)
  at_table_from (suc n) a f zero d lt = ap f (let e : a ≡ a + 0 = omega arith in e)
  at_table_from (suc n) a f (suc k) d lt =
      at_table_from n (suc a) f k d (omega arith) ∙ ap f (let e : suc a + k ≡ a + suc k = omega arith in e)

  pub at_table : (n : ℕ) (f : ℕ → A) (k : ℕ) (d : A) → k < n → get_or (table n f) k d ≡ f k
  at_table n f k d lt = at_table_from n 0 f k d lt ∙ ap f (let e : 0 + k ≡ k = omega arith in e)

  table_from_ext : (n a : ℕ) (f g : ℕ → A) → ((k : ℕ) → k < a + n → f k ≡ g k) → table_from n a f ≡ table_from n a g
  table_from_ext zero a f g same = refl
  table_from_ext (suc n) a f g same =
      cc (same a (omega arith), table_from_ext n (suc a) f g (λ k lt. same k (omega arith)))

  pub table_ext : (n : ℕ) (f g : ℕ → A) → ((k : ℕ) → k < n → f k ≡ g k) → table n f ≡ table n g
  table_ext n f g same = table_from_ext n 0 f g (λ k lt. same k (omega arith))

  -- a list is the table of its elements
  pub table_of : (d : A) (l : List A) (n : ℕ) → length l ≡ n → l ≡ table n (λ k. get_or l k d)
  table_of d l n e =
      ext_get_or d l (table n (λ k. get_or l k d)) (e ∙ sym (length_table n (λ k. get_or l k d)))
      (λ k h. sym (at_table n (λ j. get_or l j d) k d (omega arith)))

  -- a list whose elements are what a function gives is its table
  pub table_is : (d : A) (l : List A) (n : ℕ) (f : ℕ → A) → length l ≡ n → ((k : ℕ) → k < n → get_or l k d ≡ f k) → l ≡ table n f
  table_is d l n f e same = table_of d l n e ∙ table_ext n (λ k. get_or l k d) f same
