-- The chapter Near of docs/RULES.md: how far two rational numbers are apart, the size of a float, and how far one rounding may be off.
use Rattle.std.specs.Prelude.{◌-◌, ◌*◌, ◌^◌, ◌<◌, Float}
use Rattle.std.proofs.Common.{mul-pos, arith, pow_pos}
use Rattle.std.specs.Float.{nan, inf, fin, Format}
use Rattle.std.specs.Float.Ieee.{up, down, prec, low}
use Rattle.exact_rationals.specs.Rationals.{ℚ, Least, mk, number, plus, minus}
use Rattle.exact_rationals.specs.Values.{down_positive}

-- x is y to within e
pub record Near (x y e : ℚ) : Type 0 where
  pub under : Least (minus (plus y e) x)
  pub above : Least (minus (plus x e) y)

-- y lies between -b and b
pub record Within (y b : ℚ) : Type 0 where
  pub under : Least (minus b y)
  pub above : Least (plus b y)

-- the size of a float: its exact value without the sign
abbrev pub size : Float → ℚ
size nan = number 0
size (inf s) = number 0
size (fin s m e) = mk (record { p = m * up e; n = 0; d = down e; below = down_positive e })

pub share_below : (f : Format) → 0 < 2 * 2 ^ (prec f - 1)
share_below f = mul-pos (omega arith) (pow_pos (prec f - 1))

pub tiny_below : (f : Format) → 0 < 2 * 2 ^ low f
tiny_below f = mul-pos (omega arith) (pow_pos (low f))

-- the share that one rounding may be off, for binary64 2 to the -53
abbrev pub share : Format → ℚ
share f = mk (record { p = 1; n = 0; d = 2 * 2 ^ (prec f - 1); below = share_below f })

-- and the tiny number beside it for products and quotients, 2 to the -1075
abbrev pub tiny : Format → ℚ
tiny f = mk (record { p = 1; n = 0; d = 2 * 2 ^ low f; below = tiny_below f })
