-- The errors of a blend, over any arithmetic: from those of its four weights, of its four numbers, and of one axis after the other.
use Rattle.std.specs.Prelude.{ℕ, zero, suc, ◌+◌, ◌*◌, ◌^◌}
use Rattle.exact_arithmetic.specs.Arithmetic.{Arithmetic}
use Rattle.exact_rounding.specs.Errors as Errors

module _ (A : Arithmetic) (u v e00 e10 e01 e11 P0 M0 P1 M1 W : A.Number) where
  infixl 60 ◌⊕◌
  infixl 70 ◌⊗◌
  open A use {Number, nought, one, plus as ◌⊕◌, times as ◌⊗◌}

  -- of a weight within one times an exact number within b
  abbrev pub first : Number → Number → Number
  first e b = Errors.product_error A u v (one ⊗ b) (Errors.cross A one e b nought)

  -- of a weight times the width times a slope within b
  abbrev pub second : Number → Number → Number
  second e b = Errors.product_error A u v (one ⊗ W ⊗ b) (Errors.cross A (one ⊗ W) (first e W) b nought)

  abbrev pub size1 : Number
  size1 = one ⊗ P0 ⊕ one ⊗ W ⊗ M0

  abbrev pub size2 : Number
  size2 = size1 ⊕ one ⊗ P1

  abbrev pub size3 : Number
  size3 = size2 ⊕ one ⊗ W ⊗ M1

  abbrev pub sum1 : Number
  sum1 = Errors.sum_error A u size1 (first e00 P0) (second e10 M0)

  abbrev pub sum2 : Number
  sum2 = Errors.sum_error A u size2 sum1 (first e01 P1)

  abbrev pub total : Number
  total = Errors.sum_error A u size3 sum2 (second e11 M1)

module _ (A : Arithmetic) where
  infixl 60 ◌⊕◌
  infixl 60 ◌⊖◌
  infixl 70 ◌⊗◌
  open A use {Number, one, plus as ◌⊕◌, minus as ◌⊖◌, times as ◌⊗◌}

  -- a share of what is blended, where one more rounding adds its own
  abbrev pub again : Number → Number → Number
  again u c = c ⊕ u ⊗ (one ⊕ c)

  -- a number that one more rounding lets grow
  abbrev pub grown : Number → Number → Number
  grown u c = c ⊕ u ⊗ c

  -- the bound: a share k of what is blended, and j tiny numbers
  abbrev pub bound : (k j v P0 M0 P1 M1 W : Number) → Number
  bound k j v P0 M0 P1 M1 W = k ⊗ (P0 ⊕ P1 ⊕ W ⊗ (M0 ⊕ M1)) ⊕ j ⊗ v ⊗ (one ⊕ M0 ⊕ M1)

  -- what is left of it, share by share
  abbrev pub left_over : (u v e00 e10 e01 e11 P0 M0 P1 M1 W k j : Number) → Number
  left_over u v e00 e10 e01 e11 P0 M0 P1 M1 W k j =
      (k ⊖ again u (again u (again u (again u e00)))) ⊗ P0
      ⊕ (k ⊖ again u (again u (again u (again u (again u e10))))) ⊗ (W ⊗ M0)
      ⊕ (k ⊖ again u (again u (again u e01))) ⊗ P1
      ⊕ (k ⊖ again u (again u (again u e11))) ⊗ (W ⊗ M1)
      ⊕ (j ⊖ grown u (grown u (grown u (grown u one)))) ⊗ (v ⊗ M0)
      ⊕ (j ⊖ grown u (grown u one)) ⊗ (v ⊗ M1)
      ⊕ (j ⊖ (grown u (grown u (grown u one)) ⊕ grown u (grown u (grown u one)) ⊕ grown u (grown u one) ⊕ grown u one)) ⊗ v

  -- what is blended, by its bounds
  abbrev pub blended : (W P0 M0 P1 M1 : Number) → Number
  blended W P0 M0 P1 M1 = P0 ⊕ P1 ⊕ W ⊗ (M0 ⊕ M1)

  -- the error of a blend of numbers with errors E0, F0, E1, F1
  abbrev pub passed_on : (k j v W P0 M0 P1 M1 E0 F0 E1 F1 : Number) → Number
  passed_on k j v W P0 M0 P1 M1 E0 F0 E1 F1 = blended W E0 F0 E1 F1 ⊕ bound k j v (P0 ⊕ E0) (M0 ⊕ F0) (P1 ⊕ E1) (M1 ⊕ F1) W

  -- the bound and the error of what is left when so many axes are removed from a cell with bounds B and errors E
  unfoldable pub bounds : ℕ → ℕ → (ℕ → Number) → (ℕ → Number) → Number
  bounds zero lowest W B = B 0
  bounds (suc axes) lowest W B =
      bounds axes (suc lowest) W
      (λ e. blended (W lowest) (B (2 * e)) (B (2 * e + 1)) (B (2 * 4 ^ axes + 2 * e)) (B (2 * 4 ^ axes + 2 * e + 1)))

  unfoldable pub errors : (k j v : Number) → ℕ → ℕ → (ℕ → Number) → (ℕ → Number) → (ℕ → Number) → Number
  errors k j v zero lowest W B E = E 0
  errors k j v (suc axes) lowest W B E =
      errors k j v axes (suc lowest) W
      (λ e. blended (W lowest) (B (2 * e)) (B (2 * e + 1)) (B (2 * 4 ^ axes + 2 * e)) (B (2 * 4 ^ axes + 2 * e + 1)))
      (λ e. passed_on k j v (W lowest) (B (2 * e)) (B (2 * e + 1)) (B (2 * 4 ^ axes + 2 * e)) (B (2 * 4 ^ axes + 2 * e + 1))
      (E (2 * e)) (E (2 * e + 1)) (E (2 * 4 ^ axes + 2 * e)) (E (2 * 4 ^ axes + 2 * e + 1)))

  abbrev pub rest : (k j v a W M0 M1 N0 O0 N1 O1 : Number) → Number
  rest k j v a W M0 M1 N0 O0 N1 O1 = grown k (blended W N0 O0 N1 O1) ⊕ j ⊗ (one ⊕ (M0 ⊕ (a ⊗ M0 ⊕ v ⊗ O0)) ⊕ (M1 ⊕ (a ⊗ M1 ⊕ v ⊗ O1)))

  -- the share after so many axes more, and what the tiny numbers come to, where the errors are a share a of the bounds and N tiny numbers
  unfoldable pub shares : Number → ℕ → Number → Number
  shares k zero a = a
  shares k (suc axes) a = shares k axes (again k a)

  unfoldable pub rests : (k j v : Number) → ℕ → ℕ → (ℕ → Number) → (ℕ → Number) → (ℕ → Number) → Number → Number
  rests k j v zero lowest W B N a = N 0
  rests k j v (suc axes) lowest W B N a =
      rests k j v axes (suc lowest) W
      (λ e. blended (W lowest) (B (2 * e)) (B (2 * e + 1)) (B (2 * 4 ^ axes + 2 * e)) (B (2 * 4 ^ axes + 2 * e + 1)))
      (λ e. rest k j v a (W lowest) (B (2 * e + 1)) (B (2 * 4 ^ axes + 2 * e + 1)) (N (2 * e)) (N (2 * e + 1)) (N (2 * 4 ^ axes + 2 * e))
      (N (2 * 4 ^ axes + 2 * e + 1)))
      (again k a)

module _ (A : Arithmetic) where
  infixl 60 ◌⊕◌
  infixl 60 ◌⊖◌
  infixl 70 ◌⊗◌
  open A use {Number, one, two, three, plus as ◌⊕◌, minus as ◌⊖◌, times as ◌⊗◌}

  -- how much a weight changes from t to s, for each unit of s - t: that of a value, and those of the two slopes
  abbrev pub q00 : Number → Number → Number
  q00 t s = two ⊗ (s ⊗ s ⊕ s ⊗ t ⊕ t ⊗ t) ⊖ three ⊗ (s ⊕ t)

  abbrev pub q10 : Number → Number → Number
  q10 t s = s ⊗ s ⊕ s ⊗ t ⊕ t ⊗ t ⊖ two ⊗ (s ⊕ t) ⊕ one

  abbrev pub q11 : Number → Number → Number
  q11 t s = s ⊗ s ⊕ s ⊗ t ⊕ t ⊗ t ⊖ (s ⊕ t)

  -- the weights of the two slopes
  abbrev pub w10 : Number → Number
  w10 t = t ⊗ t ⊗ t ⊖ two ⊗ (t ⊗ t) ⊕ t

  abbrev pub w11 : Number → Number
  w11 t = t ⊗ t ⊗ t ⊖ t ⊗ t

  -- how far a blend moves where its fraction is off by d and its width W by e: values within A0, A1 and slopes within B0, B1
  abbrev pub moved_by : (d e W A0 B0 A1 B1 : Number) → Number
  moved_by d e W A0 B0 A1 B1 =
      d ⊗ three ⊗ A0 ⊕ (one ⊗ e ⊕ W ⊗ (d ⊗ one)) ⊗ B0 ⊕ d ⊗ three ⊗ A1 ⊕ (one ⊗ e ⊕ W ⊗ (d ⊗ one)) ⊗ B1

  -- of several axes: how far what is left of a cell moves when so many are removed, where fractions are off by d and widths W, in place of
  -- which stand U, by e, and the numbers of the cell, within B, by E
  unfoldable pub moved_errors : ℕ → ℕ → (d e W U B E : ℕ → Number) → Number
  moved_errors zero lowest d e W U B E = E 0
  moved_errors (suc axes) lowest d e W U B E =
      moved_errors axes (suc lowest) d e W U
      (λ k. blended A (W lowest) (B (2 * k)) (B (2 * k + 1)) (B (2 * 4 ^ axes + 2 * k)) (B (2 * 4 ^ axes + 2 * k + 1)))
      (λ k.
      moved_by (d lowest) (e lowest) (W lowest) (B (2 * k)) (B (2 * k + 1)) (B (2 * 4 ^ axes + 2 * k)) (B (2 * 4 ^ axes + 2 * k + 1))
      ⊕ blended A (U lowest) (E (2 * k)) (E (2 * k + 1)) (E (2 * 4 ^ axes + 2 * k)) (E (2 * 4 ^ axes + 2 * k + 1)))
