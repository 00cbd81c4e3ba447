-- The place of a float among all of its format, a whole number, and the finite numbers that an f64 holds.
use Rattle.std.specs.Prelude.{◌≡◌, true, false, List, ℕ, suc, ◌+◌, ◌-◌, ◌*◌, ◌^◌, T, ℤ, pos, negsuc, get_or, Float}
use Rattle.std.specs.Float.{nan, inf, fin, Format, binary64}
use Rattle.std.specs.Float.Ieee.{low, fits}
use Rattle.std.specs.Float.Ieee.Scale.{overflow, finite}

-- 2 to the e, in units of the format's smallest value
abbrev pub weight : Format → ℤ → ℕ
weight f (pos k) = 2 ^ (k + low f)
weight f (negsuc k) = 2 ^ (low f - suc k)

-- m times 2 to the e, in those units
abbrev pub magnitude : Format → ℕ → ℤ → ℕ
magnitude f m e = m * weight f e

-- the zeros stand in the middle, the infinities at the ends
unfoldable pub place_in : Format → Float → ℕ
place_in f nan = 0
place_in f (inf true) = 0
place_in f (inf false) = overflow f + overflow f
place_in f (fin true m e) = overflow f - magnitude f m e
place_in f (fin false m e) = overflow f + magnitude f m e

abbrev pub place : Float → ℕ
place x = place_in binary64 x

-- a finite number that an f64 holds
pub record Real (x : Float) : Type 0 where
  pub fits : T (fits binary64 x)
  pub finite : finite x ≡ true

-- numbers that an f64 each holds, as those of every slice are
abbrev pub AllFit : List Float → Type 0
AllFit xs = (k : ℕ) → T (fits binary64 (get_or xs k nan))
