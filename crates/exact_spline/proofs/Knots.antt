-- The cells at their knots: the curve meets the samples, its second derivatives there are the moments, and the slopes of two neighbouring
-- cells meet exactly where the row of their knot holds.
use mathlib.Core.Path.{◌≡◌, sym, ◌∙◌, ap}
use mathlib.Core.List.{List, [], ◌∷◌}
use Prim.Native.Nat.{ℕ, ◌+◌}
use Rattle.exact_arithmetic.specs.Arithmetic.{Arithmetic, IsField}
use Rattle.exact_solver.specs.Expressions.{Term, var, t2, t6, add, sub, mul, div, terms}
use Rattle.exact_solver.proofs.Solver.{solve}
use Rattle.exact_arithmetic.proofs.FieldLaws as Laws
use Rattle.exact_spline.specs.Steps as Steps
use Rattle.exact_spline.specs.Curve.{curve_in_cell, cubic, lower_slope, upper_slope}
use Rattle.exact_spline.specs.Derivatives.{slope_in_cell, second_in_cell, slope, bend}
use Rattle.exact_spline.proofs.Cell as Cell

module _ (A : Arithmetic) (F : IsField A) where
  infixl 60 ◌⊕◌
  infixl 60 ◌⊖◌
  infixl 70 ◌⊗◌
  infixl 70 ◌⊘◌
  open A use {Number, nought, one, two, six, plus as ◌⊕◌, minus as ◌⊖◌, times as ◌⊗◌, over as ◌⊘◌}

  module _ (x y m : ℕ → Number) where
    abbrev h : ℕ → Number
    h = Steps.h A x

    abbrev s : ℕ → Number
    s = Steps.s A x y

    module _ (i : ℕ) (wide : ¬ (h i ≡ nought)) where
      pub at_lower_knot : curve_in_cell A x y m i (x i) ≡ y i
      unfolding curve_in_cell
      at_lower_knot =
          ap (cubic A (h i) (y i) (y (i + 1)) (m i) (m (i + 1))) (Laws.minus_self A F (x i))
          ∙ Cell.lower_value A F (h i) (y i) (y (i + 1)) (m i) (m (i + 1)) wide

      pub at_upper_knot : curve_in_cell A x y m i (x (i + 1)) ≡ y (i + 1)
      unfolding curve_in_cell Steps.h
      at_upper_knot = Cell.upper_value A F (h i) (y i) (y (i + 1)) (m i) (m (i + 1)) wide

      pub slope_at_lower_knot : slope_in_cell A x y m i (x i) ≡ lower_slope A (h i) (s i) (m i) (m (i + 1))
      unfolding slope_in_cell Steps.s
      slope_at_lower_knot =
          ap (slope A (h i) (y i) (y (i + 1)) (m i) (m (i + 1))) (Laws.minus_self A F (x i))
          ∙ Cell.lower_slope_is A F (h i) (y i) (y (i + 1)) (m i) (m (i + 1)) wide

      pub slope_at_upper_knot : slope_in_cell A x y m i (x (i + 1)) ≡ upper_slope A (h i) (s i) (m i) (m (i + 1))
      unfolding slope_in_cell Steps.h Steps.s
      slope_at_upper_knot = Cell.upper_slope_is A F (h i) (y i) (y (i + 1)) (m i) (m (i + 1)) wide

      pub second_at_lower_knot : second_in_cell A x y m i (x i) ≡ m i
      unfolding second_in_cell
      second_at_lower_knot =
          ap (bend A (h i) (m i) (m (i + 1))) (Laws.minus_self A F (x i))
          ∙ Cell.lower_bend A F (h i) (y i) (y (i + 1)) (m i) (m (i + 1)) wide

      pub second_at_upper_knot : second_in_cell A x y m i (x (i + 1)) ≡ m (i + 1)
      unfolding second_in_cell Steps.h
      second_at_upper_knot = Cell.upper_bend A F (h i) (y i) (y (i + 1)) (m i) (m (i + 1)) wide

  -- the slopes of two cells at the knot between them, and the row of that knot
  pub row_of_slopes : (h0 h1 s0 s1 m0 m1 m2 : Number) → upper_slope A h0 s0 m0 m1 ≡ lower_slope A h1 s1 m1 m2
      → h0 ⊗ m0 ⊕ two ⊗ (h0 ⊕ h1) ⊗ m1 ⊕ h1 ⊗ m2 ≡ six ⊗ (s1 ⊖ s0)
  row_of_slopes h0 h1 s0 s1 m0 m1 m2 e =
      solve A F 0 env tt
      row (add right (mul t6 (sub left_slope right_slope))) tt tt tt
      ∙ ap (λ z. six ⊗ (s1 ⊖ s0) ⊕ six ⊗ (z ⊖ lower_slope A h1 s1 m1 m2)) e
      ∙ solve A F 0 env tt (add right (mul t6 (sub right_slope right_slope))) right tt tt tt
    where
      env : List Number
      env = h0 ∷ h1 ∷ s0 ∷ s1 ∷ m0 ∷ m1 ∷ m2 ∷ []

      row : Term
      row = add (add (mul (var 0) (var 4)) (mul (mul t2 (add (var 0) (var 1))) (var 5))) (mul (var 1) (var 6))

      right : Term
      right = mul t6 (sub (var 3) (var 2))

      left_slope : Term
      left_slope = upper_slope terms (var 0) (var 2) (var 4) (var 5)

      right_slope : Term
      right_slope = lower_slope terms (var 1) (var 3) (var 5) (var 6)

  pub slopes_of_row : (h0 h1 s0 s1 m0 m1 m2 : Number)
      → h0 ⊗ m0 ⊕ two ⊗ (h0 ⊕ h1) ⊗ m1 ⊕ h1 ⊗ m2 ≡ six ⊗ (s1 ⊖ s0)
      → upper_slope A h0 s0 m0 m1 ≡ lower_slope A h1 s1 m1 m2
  slopes_of_row h0 h1 s0 s1 m0 m1 m2 e =
      solve A F 0 env tt
      left_slope (add right_slope (div (sub row right) t6)) tt tt tt
      ∙ ap (λ z. lower_slope A h1 s1 m1 m2 ⊕ (z ⊖ six ⊗ (s1 ⊖ s0)) ⊘ six) e
      ∙ solve A F 0 env tt (add right_slope (div (sub right right) t6)) right_slope tt tt tt
    where
      env : List Number
      env = h0 ∷ h1 ∷ s0 ∷ s1 ∷ m0 ∷ m1 ∷ m2 ∷ []

      row : Term
      row = add (add (mul (var 0) (var 4)) (mul (mul t2 (add (var 0) (var 1))) (var 5))) (mul (var 1) (var 6))

      right : Term
      right = mul t6 (sub (var 3) (var 2))

      left_slope : Term
      left_slope = upper_slope terms (var 0) (var 2) (var 4) (var 5)

      right_slope : Term
      right_slope = lower_slope terms (var 1) (var 3) (var 5) (var 6)

  module _ (x y m : ℕ → Number) where
    -- the row of knot i + 1
    abbrev pub Interior : ℕ → Type 0
    Interior i =
        Steps.h A x i ⊗ m i ⊕ two ⊗ (Steps.h A x i ⊕ Steps.h A x (i + 1)) ⊗ m (i + 1) ⊕ Steps.h A x (i + 1) ⊗ m (i + 1 + 1)
        ≡ Steps.u A x y i

    module _ (i : ℕ) (wide : ¬ (Steps.h A x i ≡ nought)) (wide' : ¬ (Steps.h A x (i + 1) ≡ nought)) where
      pub meet_of_interior : Interior i → slope_in_cell A x y m i (x (i + 1)) ≡ slope_in_cell A x y m (i + 1) (x (i + 1))
      unfolding Steps.u
      meet_of_interior e =
          slope_at_upper_knot x y m i wide
          ∙ slopes_of_row (Steps.h A x i) (Steps.h A x (i + 1)) (Steps.s A x y i) (Steps.s A x y (i + 1)) (m i) (m (i + 1))
          (m (i + 1 + 1)) e
          ∙ sym (slope_at_lower_knot x y m (i + 1) wide')

      pub interior_of_meet : slope_in_cell A x y m i (x (i + 1)) ≡ slope_in_cell A x y m (i + 1) (x (i + 1)) → Interior i
      unfolding Steps.u
      interior_of_meet e =
          row_of_slopes (Steps.h A x i) (Steps.h A x (i + 1)) (Steps.s A x y i) (Steps.s A x y (i + 1)) (m i) (m (i + 1)) (m (i + 1 + 1))
          (sym (slope_at_upper_knot x y m i wide) ∙ e ∙ slope_at_lower_knot x y m (i + 1) wide')

      pub seconds_always_meet : second_in_cell A x y m i (x (i + 1)) ≡ second_in_cell A x y m (i + 1) (x (i + 1))
      seconds_always_meet = second_at_upper_knot x y m i wide ∙ sym (second_at_lower_knot x y m (i + 1) wide')
