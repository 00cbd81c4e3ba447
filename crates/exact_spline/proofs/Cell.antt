-- One cell: its cubic meets both samples, the explicit derivatives are its own, every cubic is the cubic of a cell, and the Hermite blend
-- of
-- its knot slopes is that cubic.
use mathlib.Core.Path.{◌≡◌}
use mathlib.Core.List.{List, [], ◌∷◌}
use Rattle.exact_arithmetic.specs.Arithmetic.{Arithmetic, IsField}
use Rattle.exact_solver.specs.Expressions.{Term, var, t0, t2, t6, add, sub, mul, div, terms}
use Rattle.exact_solver.proofs.Solver.{solve}
use Rattle.exact_spline.specs.Curve.{cubic, lower_slope, upper_slope}
use Rattle.exact_spline.specs.Derivatives.{slope, bend, twist}
use Rattle.exact_spline.specs.Query.{hermite}

module _ (A : Arithmetic) (F : IsField A) where
  infixl 60 ◌⊕◌
  infixl 60 ◌⊖◌
  infixl 70 ◌⊗◌
  infixl 70 ◌⊘◌
  open A use {Number, nought, one, two, six, plus as ◌⊕◌, minus as ◌⊖◌, times as ◌⊗◌, over as ◌⊘◌}

  module _ (width y0 y1 m0 m1 : Number) (wide : ¬ (width ≡ nought)) where
    abbrev here : Number → List Number
    here a = width ∷ y0 ∷ y1 ∷ m0 ∷ m1 ∷ a ∷ []

    -- the cubic and its derivatives as expressions of variables
    abbrev cubic_term : Term → Term
    cubic_term a = cubic terms (var 0) (var 1) (var 2) (var 3) (var 4) a

    abbrev slope_term : Term → Term
    slope_term a = slope terms (var 0) (var 1) (var 2) (var 3) (var 4) a

    abbrev bend_term : Term → Term
    bend_term a = bend terms (var 0) (var 3) (var 4) a

    pub lower_value : cubic A width y0 y1 m0 m1 nought ≡ y0
    lower_value = solve A F 1 (here nought) (wide, tt) (cubic_term t0) (var 1) tt tt tt

    pub upper_value : cubic A width y0 y1 m0 m1 width ≡ y1
    upper_value = solve A F 1 (here nought) (wide, tt) (cubic_term (var 0)) (var 2) tt tt tt

    pub taylor : (dx e : Number) →
        cubic A width y0 y1 m0 m1 (dx ⊕ e)
        ≡ cubic A width y0 y1 m0 m1 dx ⊕ slope A width y0 y1 m0 m1 dx ⊗ e ⊕ bend A width m0 m1 dx ⊗ e ⊗ e ⊘ two ⊕ twist A width m0 m1 ⊗ e ⊗
        e ⊗ e ⊘ six
    taylor dx e =
        solve A F 1 (width ∷ y0 ∷ y1 ∷ m0 ∷ m1 ∷ dx ∷ e ∷ []) (wide, tt)
        (cubic_term (add (var 5) (var 6)))
        (add (add (add (cubic_term (var 5)) (mul (slope_term (var 5)) (var 6))) (div (mul (mul (bend_term (var 5)) (var 6)) (var 6)) t2))
        (div (mul (mul (mul (twist terms (var 0) (var 3) (var 4)) (var 6)) (var 6)) (var 6)) t6))
        tt tt tt

    -- the rules' slopes at the knots are the cubic's
    pub lower_slope_is : slope A width y0 y1 m0 m1 nought ≡ lower_slope A width ((y1 ⊖ y0) ⊘ width) m0 m1
    lower_slope_is =
        solve A F 1 (here nought) (wide, tt) (slope_term t0)
        (lower_slope terms (var 0) (div (sub (var 2) (var 1)) (var 0)) (var 3) (var 4)) tt tt tt

    pub upper_slope_is : slope A width y0 y1 m0 m1 width ≡ upper_slope A width ((y1 ⊖ y0) ⊘ width) m0 m1
    upper_slope_is =
        solve A F 1 (here nought) (wide, tt) (slope_term (var 0))
        (upper_slope terms (var 0) (div (sub (var 2) (var 1)) (var 0)) (var 3) (var 4)) tt tt tt

    -- the moments are the second derivatives at the knots
    pub lower_bend : bend A width m0 m1 nought ≡ m0
    lower_bend = solve A F 1 (here nought) (wide, tt) (bend_term t0) (var 3) tt tt tt

    pub upper_bend : bend A width m0 m1 width ≡ m1
    upper_bend = solve A F 1 (here nought) (wide, tt) (bend_term (var 0)) (var 4) tt tt tt

    -- the query's blend of the knots' values and slopes is the same cubic
    pub blend_is_cubic : (dx : Number) →
        hermite A y0 (lower_slope A width ((y1 ⊖ y0) ⊘ width) m0 m1) y1 (upper_slope A width ((y1 ⊖ y0) ⊘ width) m0 m1) width (dx ⊘ width)
        ≡ cubic A width y0 y1 m0 m1 dx
    unfolding hermite
    blend_is_cubic dx =
        solve A F 1 (here dx) (wide, tt)
        (hermite terms (var 1) (lower_slope terms (var 0) (div (sub (var 2) (var 1)) (var 0)) (var 3) (var 4)) (var 2)
        (upper_slope terms (var 0) (div (sub (var 2) (var 1)) (var 0)) (var 3) (var 4)) (var 0) (div (var 5) (var 0)))
        (cubic_term (var 5))
        tt tt tt

  -- every cubic a + b dx + c dx² + d dx³ is the cubic of a cell, with its own values at the two knots and its own second derivatives there
  -- for moments
  pub every_cubic : (width a b c d dx : Number) → ¬ (width ≡ nought) →
      a ⊕ b ⊗ dx ⊕ c ⊗ dx ⊗ dx ⊕ d ⊗ dx ⊗ dx ⊗ dx
      ≡ cubic A width a (a ⊕ b ⊗ width ⊕ c ⊗ width ⊗ width ⊕ d ⊗ width ⊗ width ⊗ width) (two ⊗ c) (two ⊗ c ⊕ six ⊗ d ⊗ width) dx
  every_cubic width a b c d dx wide =
      solve A F 1 (width ∷ a ∷ b ∷ c ∷ d ∷ dx ∷ []) (wide, tt) (at_term (var 5))
      (cubic terms (var 0) (var 1) (at_term (var 0)) (mul t2 (var 3)) (add (mul t2 (var 3)) (mul (mul t6 (var 4)) (var 0))) (var 5))
      tt tt tt
    where
      at_term : Term → Term
      at_term x = add (add (add (var 1) (mul (var 2) x)) (mul (mul (var 3) x) x)) (mul (mul (mul (var 4) x) x) x)
