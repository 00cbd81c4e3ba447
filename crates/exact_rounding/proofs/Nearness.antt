-- What is near to within e is near to within more.
use mathlib.Core.Path.{subst}
use mathlib.Core.List.{[], ◌∷◌}
use Rattle.exact_solver.specs.Expressions.{var, add, sub}
use Rattle.exact_rationals.specs.Rationals.{ℚ, Least, minus}
use Rattle.exact_rationals.proofs.Order.{least_plus, ring}
use Rattle.exact_rounding.specs.Near.{Near}

pub near_wider : (x y e d : ℚ) → Near x y e → Least (minus d e) → Near x y d
near_wider x y e d h k =
    record {
      under =
          subst Least (ring (x ∷ y ∷ e ∷ d ∷ []) (add (sub (add (var 1) (var 2)) (var 0)) (sub (var 3) (var 2)))
          (sub (add (var 1) (var 3)) (var 0)) tt tt tt) (least_plus _ _ h.under k);
      above =
          subst Least (ring (x ∷ y ∷ e ∷ d ∷ []) (add (sub (add (var 0) (var 2)) (var 1)) (sub (var 3) (var 2)))
          (sub (add (var 0) (var 3)) (var 1)) tt tt tt) (least_plus _ _ h.above k);
    }
