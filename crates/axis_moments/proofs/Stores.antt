-- One store, or none where the number stands there already: what stands at the place, and that all else is as it was.
use mathlib.Core.Path.{◌≡◌, refl, ◌∙◌}
use mathlib.Core.List.{List}
use Prim.Native.Nat.{ℕ, ◌<◌}
use lib.ListN.{length, set, length-set}
use lib.Seq.{get_or-set_same, get_or-set_other}
use lib.Ieee.{Float, nan}
use Rattle.rules.specs.Numbers.{at}
use Rattle.axis_moments.specs.SolvedMoments.{OneStored}

-- a number stored
pub one_stored : (w : List Float) (i : ℕ) (a v : Float) → i < length w → a ≡ v → OneStored w (set w i a) i v
one_stored w i a v inside e = record {
  same_length = length-set w i a;
  value = get_or-set_same w i a nan inside ∙ e;
  kept = λ j off. get_or-set_other w i j a nan off;
}

-- the number that stands there already
pub none_stored : (w : List Float) (i : ℕ) (v : Float) → at w i ≡ v → OneStored w w i v
none_stored w i v e = record { same_length = refl; value = e; kept = λ j off. refl }
