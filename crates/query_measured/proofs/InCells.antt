-- In cells beside the knots of a place, the value at a point that equals those knots equals the tensor's number at mask 0 of the place.
use native.Mathlib.Omega.{arith}
use mathlib.Core.Path.{◌≡◌, ◌∙◌}
use mathlib.Core.List.{List}
use mathlib.Core.Bool.{true}
use Prim.Native.Nat.{ℕ, ◌+◌, ◌-◌, ◌*◌, ◌/◌, ◌%◌, ◌<◌, ◌≤◌}
use native.Mathlib.Nat.{mul-div_cancel, mul-mod_left, mod-lt, zero-add}
use lib.Arith.{digits_lt}
use lib.Pow.{pow_pos}
use lib.Ieee.{Float, eq}
use Rattle.rules.specs.Numbers.{at}
use Rattle.rules.specs.Sizes.{Grid, points, knots, masks, Place, spot}
use Rattle.rules.specs.Steps.{h}
use Rattle.rules.specs.Query.{corner, cell, fraction, value_in}
use Rattle.rules.proofs.Places.{flat_below, flat_ext}
use Rattle.grid.specs.GridOfCall.{CellInside}
use Rattle.grid.proofs.Corners.{corner_on_grid}
use Rattle.base_floats.specs.Place.{Real}
use Rattle.base_floats.specs.Zeros.{Equal}
use Rattle.query_measured.specs.Measured.{Surface}
use Rattle.query_measured.proofs.Hermite.{AtEnd, end_below}
use Rattle.query_measured.proofs.Corner.{number_of, corner_at, blend_at_corner}
use Rattle.query_measured.proofs.Knots.{fraction_at_knot}
use Rattle.query_measured.proofs.Surfaces.{range, small, number_real, axis_knots}

-- a point that equals the knots of a place, and cells that have these knots for an end
pub record Beside (g : Grid) (cells place : Place) (point : ℕ → Float) : Type 0 where
  pub upper : (i : ℕ) → i < g.axes → cells i + 1 < points g i
  pub from : (i : ℕ) → i < g.axes → cells i ≤ place i
  pub to : (i : ℕ) → i < g.axes → place i ≤ cells i + 1
  pub real : (i : ℕ) → i < g.axes → Real (point i)
  pub meets : (i : ℕ) → i < g.axes → eq (point i) (at (knots g i) (place i)) ≡ true

module _ (g : Grid) (tensor : List Float) (S : Surface g tensor) (cells place : Place) (point : ℕ → Float)
    (B : Beside g cells place point) where
  -- the end of each cell that the knot is
  abbrev ends : Place
  ends i = place i - cells i

  at_end : (i : ℕ) → i < g.axes → AtEnd (fraction (knots g i) (cells i) (point i)) (ends i)
  at_end i l =
      fraction_at_knot (knots g i) (points g i) (axis_knots g tensor S i l) (point i) (B.real i l) (place i)
      (omega (arith, B.to i l, B.upper i l)) (B.meets i l) (cells i) (B.upper i l) (B.from i l) (B.to i l)

  inside : CellInside g.axes g.entries cells
  inside = record {
    some_axes = (range g tensor S).some_axes;
    few_axes = (range g tensor S).few_axes;
    small = small g tensor S;
    upper = B.upper;
  }

  cell_real : (e : ℕ) → Real (cell g tensor cells e)
  unfolding cell
  cell_real e =
      number_real g tensor S (spot g (corner g.axes cells (e / masks g)) (e % masks g))
      (digits_lt
      (flat_below (points g) g.axes (corner g.axes cells (e / masks g))
      (corner_on_grid g.axes g.entries cells (e / masks g) inside))
      (mod-lt e (pow_pos g.axes)))

  -- the corner at these ends is the place
  corner_is : (i : ℕ) → i < g.axes → corner g.axes cells (number_of g.axes ends) i ≡ place i
  corner_is i l =
      corner_at g.axes cells ends (λ j m. end_below (fraction (knots g j) (cells j) (point j)) (ends j) (at_end j m)) i l
      ∙ (let e : cells i + (place i - cells i) ≡ place i = omega (arith, B.from i l) in e)

  cell_is : cell g tensor cells (number_of g.axes ends * masks g) ≡ at tensor (spot g place 0)
  unfolding cell
  cell_is =
      rw (
        mul-div_cancel (number_of g.axes ends) {n = masks g} (pow_pos g.axes),
        mul-mod_left (number_of g.axes ends) (masks g),
        flat_ext (points g) g.axes (corner g.axes cells (number_of g.axes ends)) place corner_is,
      )

  pub equal_in_cells : Equal (value_in g tensor cells point) (at tensor (spot g place 0))
  unfolding value_in
  equal_in_cells =
      rw cell_is at
      (simp zero-add at
      (blend_at_corner g.axes 0 (λ i. h (knots g i) (cells i)) (λ i. fraction (knots g i) (cells i) (point i)) (cell g tensor cells) ends
      (λ i a b. (axis_knots g tensor S i (omega arith)).steps (cells i) (B.upper i (omega arith)))
      (λ i a b. at_end i (omega arith))
      (λ e l. cell_real e)))

  pub place_real : Real (at tensor (spot g place 0))
  place_real = rw cell_is at (cell_real (number_of g.axes ends * masks g))
