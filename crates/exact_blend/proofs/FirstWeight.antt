-- How far the first of the four weights lies from the exact one, by the error that `check_h00` finds large enough.
use lib.Dec.{T}
use lib.Ieee.{Float, binary64, fits}
use lib.Ieee.Scale.{finite}
use Rattle.exact_rationals.specs.Rationals.{number, minus, Least}
use Rattle.exact_rationals.specs.Values.{value}
use Rattle.exact_rounding.proofs.Approx.{Approx, approx_add, approx_wider, add_finite}
use Rattle.rules.specs.Numbers.{one}
use Rattle.exact_blend.proofs.Weights.{amount, check_h00, approx_one, approx_d00, g00, f00, exact_d00, exact_h00, within_h00}

module _ (t : Float) (good : T (fits binary64 t)) (low : Least (value t)) (high : Least (minus (number 1) (value t))) where
  pub approx_h00 : T (finite (f00 t good low high)) → Approx (f00 t good low high) (exact_h00 t good low high) (number 1) (amount 14347)
  approx_h00 f =
      approx_wider _ _ _ _ _
      (approx_add (g00 t good low high) one (exact_d00 t good low high) (number 1) (amount 13322) (number 1) (number 1) (number 0)
      (approx_d00 t good low high (add_finite (g00 t good low high) one f).0) approx_one (number 1) f (within_h00 t good low high)) check_h00
