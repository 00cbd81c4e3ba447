-- Slices of one, of two, of three, of four and of eight numbers, stored to the last: what stands in them.
use mathlib.Core.Path.{◌≡◌, refl, ap}
use mathlib.Core.List.{List, [], ◌∷◌}
use native.Mathlib.Omega.{arith}
use lib.ListN.{length, get_or, set}

module _ {A : Type 0} where
  pub one_stored : (l : List A) (a : A) → length l ≡ 1 → set l 0 a ≡ a ∷ []
  one_stored [] a e = absurd (omega arith)
  one_stored (x ∷ []) a e = refl
  one_stored (x ∷ y ∷ l) a e = absurd (omega arith)

  pub two_stored : (l : List A) (a b : A) → length l ≡ 2 → set (set l 0 a) 1 b ≡ a ∷ b ∷ []
  two_stored [] a b e = absurd (omega arith)
  two_stored (x ∷ []) a b e = absurd (omega arith)
  two_stored (x ∷ y ∷ []) a b e = refl
  two_stored (x ∷ y ∷ z ∷ l) a b e = absurd (omega arith)

  pub three_stored : (l : List A) (a b c : A) → length l ≡ 3 → set (set (set l 0 a) 1 b) 2 c ≡ a ∷ b ∷ c ∷ []
  three_stored [] a b c e = absurd (omega arith)
  three_stored (x ∷ []) a b c e = absurd (omega arith)
  three_stored (x ∷ y ∷ []) a b c e = absurd (omega arith)
  three_stored (x ∷ y ∷ z ∷ []) a b c e = refl
  three_stored (x ∷ y ∷ z ∷ w ∷ l) a b c e = absurd (omega arith)

  pub four_stored : (l : List A) (a b c d : A) → length l ≡ 4 → set (set (set (set l 0 a) 1 b) 2 c) 3 d ≡ a ∷ b ∷ c ∷ d ∷ []
  four_stored [] a b c d e = absurd (omega arith)
  four_stored (x ∷ []) a b c d e = absurd (omega arith)
  four_stored (x ∷ y ∷ []) a b c d e = absurd (omega arith)
  four_stored (x ∷ y ∷ z ∷ []) a b c d e = absurd (omega arith)
  four_stored (x ∷ y ∷ z ∷ w ∷ []) a b c d e = refl
  four_stored (x ∷ y ∷ z ∷ w ∷ v ∷ l) a b c d e = absurd (omega arith)

  pub eight_stored :
      (l : List A) (a b c d e f g h : A) → length l ≡ 8
      → set (set (set (set (set (set (set (set l 0 a) 1 b) 2 c) 3 d) 4 e) 5 f) 6 g) 7 h ≡ a ∷ b ∷ c ∷ d ∷ e ∷ f ∷ g ∷ h ∷ []
  eight_stored [] a b c d e f g h n = absurd (omega arith)
  eight_stored (x ∷ []) a b c d e f g h n = absurd (omega arith)
  eight_stored (x ∷ y ∷ []) a b c d e f g h n = absurd (omega arith)
  eight_stored (x ∷ y ∷ z ∷ []) a b c d e f g h n = absurd (omega arith)
  eight_stored (x ∷ y ∷ z ∷ w ∷ l) a b c d e f g h n =
      ap (λ (rest : List A). a ∷ b ∷ c ∷ d ∷ rest) (four_stored l e f g h (omega arith))

  pub four_read : (l : List A) (d : A) → length l ≡ 4 → get_or l 0 d ∷ get_or l 1 d ∷ get_or l 2 d ∷ get_or l 3 d ∷ [] ≡ l
  four_read [] d e = absurd (omega arith)
  four_read (x ∷ []) d e = absurd (omega arith)
  four_read (x ∷ y ∷ []) d e = absurd (omega arith)
  four_read (x ∷ y ∷ z ∷ []) d e = absurd (omega arith)
  four_read (x ∷ y ∷ z ∷ w ∷ []) d e = refl
  four_read (x ∷ y ∷ z ∷ w ∷ v ∷ l) d e = absurd (omega arith)
