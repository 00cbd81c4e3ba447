-- Lines that docs/RULES.md shows, byte by byte.
use mathlib.Core.Path.{◌≡◌, refl}
use mathlib.Core.List.{[], ◌∷◌}
use lib.IntN.{pos, negsuc}
use Rattle.base_text.specs.Lines.{word_line, refused_line}
use Rattle.device_cursor.specs.DeviceCurve.{whole_cells, curve_refusal}
use Rattle.program_device_text.specs.DeviceText.{signed_line, device_text}

pub record Shown : Type 0 where
  -- 0
  pub none : signed_line (pos 0) ≡ 48 ∷ 10 ∷ []
  -- -65536
  pub lowest : signed_line (negsuc 65535) ≡ 45 ∷ 54 ∷ 53 ∷ 53 ∷ 51 ∷ 54 ∷ 10 ∷ []
  -- refused 20
  pub empty : device_text [] ≡ 114 ∷ 101 ∷ 102 ∷ 117 ∷ 115 ∷ 101 ∷ 100 ∷ 32 ∷ 50 ∷ 48 ∷ 10 ∷ []

pub shown : Shown
unfolding word_line refused_line whole_cells curve_refusal signed_line device_text
shown = record { none = refl; lowest = refl; empty = refl }
