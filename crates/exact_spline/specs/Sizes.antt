-- The chapter Sizes of docs/RULES.md, over any arithmetic: a grid, and where its numbers stand in a tensor.
use Rattle.std.specs.Prelude.{ℕ, ◌+◌, ◌*◌, ◌^◌}
use Rattle.rules.specs.Sizes.{Place, flat}
use Rattle.exact_arithmetic.specs.Arithmetic.{Arithmetic}
use Rattle.exact_spline.specs.Ends.{Condition}

module _ (A : Arithmetic) where
  open A use {Number}

  -- how many axes there are; and of each its points, its knots and its condition
  pub record Grid : Type 0 where
    pub axes : ℕ
    pub points : ℕ → ℕ
    pub knots : ℕ → ℕ → Number
    pub condition : ℕ → Condition Number

  -- where the number of a place and a mask stands in a tensor
  abbrev pub spot : Grid → Place → ℕ → ℕ
  spot g p mask = flat g.points g.axes p * 2 ^ g.axes + mask
