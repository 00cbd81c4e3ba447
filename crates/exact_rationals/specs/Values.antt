-- The chapter Values of docs/RULES.md: the exact value of a float, as a rational number.
use Rattle.std.specs.Prelude.{true, false, suc, ◌*◌, ◌<◌, ℤ, pos, negsuc, Float}
use Rattle.std.proofs.Common.{arith, pow_pos}
use Rattle.std.specs.Float.{nan, inf, fin}
use Rattle.std.specs.Float.Ieee.{up, down}
use Rattle.exact_rationals.specs.Rationals.{ℚ, mk, number}

pub down_positive : (e : ℤ) → 0 < down e
down_positive (pos k) = omega arith
down_positive (negsuc k) = pow_pos (suc k)

-- m times 2 to the e, with its sign; what is no number has none, and counts as nought
abbrev pub value : Float → ℚ
value nan = number 0
value (inf s) = number 0
value (fin false m e) = mk (record { p = m * up e; n = 0; d = down e; below = down_positive e })
value (fin true m e) = mk (record { p = 0; n = m * up e; d = down e; below = down_positive e })
