-- The numbers of the modes of four axes are those of the axes.
use native.Mathlib.Omega.{arith}
use mathlib.Core.Path.{◌≡◌, refl, sym, ap, ◌∙◌}
use mathlib.Core.List.{List, [], ◌∷◌}
use Prim.Native.Nat.{ℕ, zero, suc, ◌<◌}
use Rattle.rules.specs.Sizes.{place_of}
use Rattle.rules.specs.Outside.{mode_number}
use Rattle.rules.specs.declared.Axis.{Axis}
use Rattle.rules.specs.declared.Mode.{Mode}
use Rattle.rules.specs.declared.Mode.TheVariants.{Extend, Hold, Refuse}
use Rattle.grid_codes.specs.Modes.{mode_of_number}
use Rattle.query_answer.specs.PointsAndModes.{modes_of, ModesOf}

-- a mode is that of its number
mode_back : (mode : Mode) → mode ≡ mode_of_number (mode_number mode)
unfolding mode_of_number
mode_back Extend = refl
mode_back Hold = refl
mode_back Refuse = refl

pub modes_taken : (all : List Axis) (a b c d : ℕ) → a ≡ mode_number (modes_of all 0) → b ≡ mode_number (modes_of all 1)
    → c ≡ mode_number (modes_of all 2) → d ≡ mode_number (modes_of all 3) → ModesOf all (a ∷ b ∷ c ∷ d ∷ [])
modes_taken all a b c d first second third fourth = record { four = refl; number = number }
  where
    back : (i n : ℕ) → n ≡ mode_number (modes_of all i) → modes_of all i ≡ mode_of_number n
    back i n is = mode_back (modes_of all i) ∙ ap mode_of_number (sym is)

    number : (i : ℕ) → i < 4 → modes_of all i ≡ mode_of_number (place_of (a ∷ b ∷ c ∷ d ∷ []) i)
    number zero l = back 0 a first
    number (suc zero) l = back 1 b second
    number (suc (suc zero)) l = back 2 c third
    number (suc (suc (suc zero))) l = back 3 d fourth
    number (suc (suc (suc (suc i)))) l = absurd (omega arith)
