-- The chapter SheetOf of docs/RULES.md: the sheet of a grid and its samples in an edition, field by field.
use Rattle.std.specs.Prelude.{List, [], ◌∷◌, ◌++◌, ℕ, zero, suc, ◌-◌, get_or, Float}
use Rattle.rules.specs.Sizes.{unused_axis, Grid, knots}
use Rattle.rules.specs.Outside.{mode_number}
use Rattle.rules.specs.declared.End.{End}
use Rattle.rules.specs.declared.End.TheVariants.{NotAKnot, FirstDerivative, SecondDerivative}
use Rattle.rules.specs.declared.Condition.{Condition}
use Rattle.rules.specs.declared.Condition.TheVariants.{Endpoints, Periodic}
use Rattle.rules.specs.declared.Axis.{Axis}
use Rattle.base_bits.specs.Written.{Field, wide, number_field, number_fields, bits_in, filler, packed}
use Rattle.grid_codes.specs.Kinds.{lower_kind_of, upper_kind_of}
use Rattle.grid_codes.specs.Editions.{mode_width}

-- the number of an end, where it has one
abbrev pub end_fields : End → List Field
end_fields NotAKnot = []
end_fields (FirstDerivative value) = number_field value ∷ []
end_fields (SecondDerivative value) = number_field value ∷ []

-- the numbers of both ends, the lower first
abbrev pub ends_fields : Condition → List Field
ends_fields (Endpoints lower upper) = end_fields lower ++ end_fields upper
ends_fields Periodic = []

-- an axis: its points less 1, the kinds of its ends, its mode in as many bits as there are for it, the numbers of its ends, its knots
unfoldable pub axis_fields : ℕ → Axis → List Float → List Field
axis_fields width axis x =
    wide 8 (axis.points - 1)
    ∷ wide 2 (lower_kind_of axis.condition)
    ∷ wide 2 (upper_kind_of axis.condition)
    ∷ wide width (mode_number axis.mode)
    ∷ (ends_fields axis.condition ++ number_fields x)

-- the first i axes, one after the other
unfoldable pub axes_fields : ℕ → Grid → ℕ → List Field
axes_fields width g zero = []
axes_fields width g (suc i) = axes_fields width g i ++ axis_fields width (get_or g.entries i unused_axis) (knots g i)

-- all parts: the edition, the number of axes, the axes in use, the samples
unfoldable pub part_fields : ℕ → Grid → List Float → List Field
part_fields edition g samples =
    wide 4 edition ∷ wide 3 g.axes ∷ (axes_fields (mode_width edition) g g.axes ++ number_fields samples)

-- and zeros up to a whole byte
unfoldable pub sheet_fields : ℕ → Grid → List Float → List Field
sheet_fields edition g samples = part_fields edition g samples ++ (filler (bits_in (part_fields edition g samples)) ∷ [])

-- the sheet: these fields, packed
unfoldable pub sheet_of : ℕ → Grid → List Float → List ℕ
sheet_of edition g samples = packed (sheet_fields edition g samples)
