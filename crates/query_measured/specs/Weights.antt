-- The weights of the Hermite blend at a fraction t, with the names of the Rust: of the values at the two knots and, times the width, of the
-- slopes there.
use Rattle.std.specs.Prelude.{Float}
use Rattle.std.specs.Float.Ieee.{neg}
use Rattle.rules.specs.Numbers.{◌⊕◌, ◌⊖◌, ◌⊗◌, one, two, three}

-- of the value at the lower knot
unfoldable pub h00 : Float → Float
h00 t = two ⊗ (t ⊗ t ⊗ t) ⊖ three ⊗ (t ⊗ t) ⊕ one

-- of the slope at the lower knot
unfoldable pub h10 : Float → Float
h10 t = t ⊗ t ⊗ t ⊖ two ⊗ (t ⊗ t) ⊕ t

-- of the value at the upper knot
unfoldable pub h01 : Float → Float
h01 t = neg two ⊗ (t ⊗ t ⊗ t) ⊕ three ⊗ (t ⊗ t)

-- of the slope at the upper knot
unfoldable pub h11 : Float → Float
h11 t = t ⊗ t ⊗ t ⊖ t ⊗ t
