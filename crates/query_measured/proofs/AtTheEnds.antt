-- The weights where one value alone counts: at t = 0 they are 1, 0, 0, 0, and at t = 1 they are 0, 0, 1, 0, exactly.
use mathlib.Core.Path.{◌≡◌, refl, sym, subst}
use mathlib.Core.Bool.{Bool, true, false}
use lib.IntN.{pos}
use lib.Ieee.{Float, fin, of_bits, neg, add, sub, mul}
use Rattle.base_floats.specs.Zeros.{Zero, one}
use Rattle.query_measured.specs.Weights.{h00, h10, h01, h11}

-- the value at the lower knot counts
pub record LowerAlone (t : Float) : Type 0 where
  pub value : h00 t ≡ one
  pub slope : Zero (h10 t)
  pub other_value : Zero (h01 t)
  pub other_slope : Zero (h11 t)

-- the value at the upper knot counts
pub record UpperAlone (t : Float) : Type 0 where
  pub other_value : Zero (h00 t)
  pub other_slope : Zero (h10 t)
  pub value : h01 t ≡ one
  pub slope : Zero (h11 t)

signed_zero : (s : Bool) → LowerAlone (fin s 0 (pos 0))
unfolding h00 h10 h01 h11 of_bits neg add sub mul
signed_zero false = record {
  value = refl;
  slope = record { sign = false; is = refl };
  other_value = record { sign = false; is = refl };
  other_slope = record { sign = false; is = refl };
}
signed_zero true = record {
  value = refl;
  slope = record { sign = true; is = refl };
  other_value = record { sign = false; is = refl };
  other_slope = record { sign = true; is = refl };
}

pub at_zero : (t : Float) → Zero t → LowerAlone t
at_zero t z = subst LowerAlone (sym z.is) (signed_zero z.sign)

exactly_one : UpperAlone one
unfolding h00 h10 h01 h11 of_bits neg add sub mul
exactly_one = record {
  other_value = record { sign = false; is = refl };
  other_slope = record { sign = false; is = refl };
  value = refl;
  slope = record { sign = false; is = refl };
}

pub at_one : (t : Float) → t ≡ one → UpperAlone t
at_one t e = subst UpperAlone (sym e) exactly_one
