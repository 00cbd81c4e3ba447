-- The chapter Query of docs/RULES.md, over any arithmetic: the Hermite blend that removes one axis after the other, and the
-- value in a cell.
use Prim.Native.Nat.{ℕ, zero, suc, ◌+◌, ◌*◌, ◌/◌, ◌%◌, ◌^◌}
use Rattle.rules.specs.Sizes.{Place}
use Rattle.rules.specs.Query.{corner}
use Rattle.exact_arithmetic.specs.Arithmetic.{Arithmetic}
use Rattle.exact_spline.specs.Sizes.{Grid, spot}
use Rattle.exact_spline.specs.Numbers.{at}
use Rattle.exact_spline.specs.Tensor.{tensor}
use Rattle.exact_spline.specs.Steps as Steps

module _ (A : Arithmetic) where
  infixl 60 ◌⊕◌
  infixl 60 ◌⊖◌
  infixl 70 ◌⊗◌
  infixl 70 ◌⊘◌
  open A use {Number, nought, one, two, three, plus as ◌⊕◌, minus as ◌⊖◌, times as ◌⊗◌, over as ◌⊘◌, negative as neg}

  -- the blend of two knots with values p0, p1 and slopes m0, m1, at the fraction t of their width
  unfoldable pub hermite : Number → Number → Number → Number → Number → Number → Number
  hermite p0 m0 p1 m1 width t =
      let t2 : Number = t ⊗ t in
      let t3 : Number = t2 ⊗ t in
      let h00 : Number = two ⊗ t3 ⊖ three ⊗ t2 ⊕ one in
      let h10 : Number = t3 ⊖ two ⊗ t2 ⊕ t in
      let h01 : Number = neg two ⊗ t3 ⊕ three ⊗ t2 in
      let h11 : Number = t3 ⊖ t2 in
      h00 ⊗ p0 ⊕ h10 ⊗ width ⊗ m0 ⊕ h01 ⊗ p1 ⊕ h11 ⊗ width ⊗ m1

  -- a cell without its lowest axis
  unfoldable pub without_lowest : ℕ → Number → Number → (ℕ → Number) → ℕ → Number
  unfolding hermite
  without_lowest size width t cell e =
      hermite (cell (2 * e)) (cell (2 * e + 1)) (cell (2 * size + 2 * e)) (cell (2 * size + 2 * e + 1)) width t

  -- what is left of a cell when its axes, so many from `lowest` on, are removed one after the other, the lowest first
  unfoldable pub blend : ℕ → ℕ → (ℕ → Number) → (ℕ → Number) → (ℕ → Number) → Number
  unfolding without_lowest
  blend zero lowest widths ts cell = cell 0
  blend (suc axes) lowest widths ts cell =
      blend axes (suc lowest) widths ts (without_lowest (4 ^ axes) (widths lowest) (ts lowest) cell)

  -- where the point lies in cell l, counted from its lower knot in widths
  unfoldable pub fraction : (ℕ → Number) → ℕ → Number → Number
  fraction x l point = (point ⊖ x l) ⊘ Steps.h A x l

  -- the value at a point of the surface's cubic in a given cell, wherever the point lies, where the tensor has these numbers
  unfoldable pub value_in : Grid A → (Place → ℕ → Number) → Place → (ℕ → Number) → Number
  unfolding corner
  value_in g numbers cells point =
      blend g.axes 0
      (λ i. Steps.h A (g.knots i) (cells i))
      (λ i. fraction (g.knots i) (cells i) (point i))
      (λ e. numbers (corner g.axes cells (e / 2 ^ g.axes)) (e % 2 ^ g.axes))

  -- the same from the tensor of the samples, a list as the rules have it
  abbrev pub value_from : Grid A → (Place → Number) → Place → (ℕ → Number) → Number
  value_from g samples cells point = value_in g (λ p mask. at A (tensor A g samples) (spot A g p mask)) cells point
