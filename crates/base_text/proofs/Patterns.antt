-- The pattern of any number: the one NaN is told by `!=`.
use mathlib.Core.Path.{◌≡◌, sym, subst, ap}
use mathlib.Core.Bool.{true, false, not}
use Prim.Native.Nat.{ℕ}
use lib.Dec.{T}
use lib.Ieee.{Float, nan, inf, fin, binary64, to_bits, ne, is_nan}
use lib.Ieee.Compare.{differs_from_itself}

pub quiet : (x : Float) → ne x x ≡ true → ◌≡◌ {A = ℕ} 0x7FF8_0000_0000_0000 (to_bits binary64 x)
unfolding to_bits
quiet x e = ap (to_bits binary64) (sym (differs_from_itself x (subst T (sym e) tt)))

pub no_nan : (x : Float) → ne x x ≡ false → T (not (is_nan x))
unfolding is_nan ne
no_nan nan e = subst T e tt
no_nan (inf s) e = tt
no_nan (fin s m k) e = tt
