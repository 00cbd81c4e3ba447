-- A pattern's digits and a line that docs/RULES.md shows, byte by byte.
use mathlib.Core.Path.{◌≡◌, refl}
use mathlib.Core.List.{[], ◌∷◌}
use Rattle.base_text.specs.Lines.{hex_digits, refused_line}

pub record Shown : Type 0 where
  -- 3FF0000000000000
  pub number : hex_digits 16 0x3FF0_0000_0000_0000 ≡ 51 ∷ 70 ∷ 70 ∷ 48 ∷ 48 ∷ 48 ∷ 48 ∷ 48 ∷ 48 ∷ 48 ∷ 48 ∷ 48 ∷ 48 ∷ 48 ∷ 48 ∷ 48 ∷ []
  -- refused 11
  pub refused : refused_line 11 ≡ 114 ∷ 101 ∷ 102 ∷ 117 ∷ 115 ∷ 101 ∷ 100 ∷ 32 ∷ 49 ∷ 49 ∷ 10 ∷ []

pub shown : Shown
unfolding hex_digits refused_line
shown = record { number = refl; refused = refl }
