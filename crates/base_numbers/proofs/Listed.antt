-- That a test holds of some element of a part of a list is that it holds at some index of the part.
use mathlib.Core.Path.{◌≡◌, sym, ap, ap₂, ◌∙◌}
use mathlib.Core.Bool.{Bool, ◌||◌}
use mathlib.Core.List.{List}
use Prim.Native.Nat.{ℕ, zero, suc, ◌+◌, ◌<◌, ◌≤◌}
use native.Mathlib.Omega.{arith}
use native.Mathlib.Numerals.{add-one}
use lib.ListN.{length, take, drop, get_or, length-drop}
use lib.Seq.{get_or-drop}
use Rattle.std.specs.List.{list_any}
use Rattle.std.proofs.lemmas.List.Folds.{list_any_more}
use Rattle.rules.specs.Numbers.{any}
use Rattle.base_numbers.proofs.Scan.{any_none, any_next}

module _ {X : Type 0} (p : X → Bool) (d : X) (test : ℕ → Bool) where
  -- of the first n elements of a list
  pub any_of_first : (xs : List X) (n : ℕ) → n ≤ length xs → ((k : ℕ) → k < n → p (get_or xs k d) ≡ test k) → list_any p (take n xs) ≡ any test n
  any_of_first xs zero h same = sym (any_none test)
  any_of_first xs (suc n) h same =
      ap (λ (k : ℕ). list_any p (take k xs)) (sym (add-one n))
      ∙ list_any_more p xs n d (omega arith)
      ∙ ap₂ ◌||◌ (any_of_first xs n (omega arith) (λ k l. same k (omega arith))) (same n (omega arith))
      ∙ sym (any_next test n)
      ∙ ap (any test) (add-one n)

  -- of n elements, from one on
  pub any_of_part : (xs : List X) (from n : ℕ) → from + n ≤ length xs → ((k : ℕ) → k < n → p (get_or xs (from + k) d) ≡ test k)
      → list_any p (take n (drop from xs)) ≡ any test n
  any_of_part xs from n h same =
      any_of_first (drop from xs) n (rw length-drop (omega arith)) (λ k l. ap p (get_or-drop from xs k d) ∙ same k l)
