-- Three stores at three places: what stands at each, and that all else is as it was.
use mathlib.Core.Path.{◌≡◌, ◌∙◌}
use mathlib.Core.Logic.{◌≢◌}
use mathlib.Core.List.{List}
use Prim.Native.Nat.{ℕ, ◌<◌}
use lib.ListN.{length, set, length-set}
use lib.Seq.{get_or-set_same, get_or-set_other}
use lib.Ieee.{Float, nan}
use Rattle.rules.specs.Numbers.{at}

module _ (w : List Float) (i j k : ℕ) (a b c : Float) where
  abbrev pub stored : List Float
  stored = set (set (set w i a) j b) k c

  pub at_none : (m : ℕ) → m ≢ i → m ≢ j → m ≢ k → at stored m ≡ at w m
  at_none m off_i off_j off_k =
      get_or-set_other (set (set w i a) j b) k m c nan off_k ∙ get_or-set_other (set w i a) j m b nan off_j ∙ get_or-set_other w i m a nan off_i

  module _ (off_j : i ≢ j) (off_k : i ≢ k) (inside : i < length w) where
    pub at_first : at stored i ≡ a
    at_first =
        get_or-set_other (set (set w i a) j b) k i c nan off_k ∙ get_or-set_other (set w i a) j i b nan off_j ∙ get_or-set_same w i a nan inside

  module _ (off_k : j ≢ k) (inside : j < length w) where
    pub at_second : at stored j ≡ b
    at_second = get_or-set_other (set (set w i a) j b) k j c nan off_k ∙ get_or-set_same (set w i a) j b nan (simp length-set inside)

  module _ (inside : k < length w) where
    pub at_third : at stored k ≡ c
    at_third = get_or-set_same (set (set w i a) j b) k c nan (simp length-set inside)
