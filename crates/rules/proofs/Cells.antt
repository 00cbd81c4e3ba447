-- What a value in a cell sees: the two knots of the cell on each axis in use, the point there, and the numbers of the cell. And what labels
-- see: the cell on the axes in use. And how many numbers a cell has.
use native.Mathlib.Omega.{arith}
use mathlib.Core.Path.{◌≡◌, refl, ap}
use mathlib.Core.Bool.{Bool, true, false, cond}
use mathlib.Core.List.{List}
use Prim.Native.Nat.{ℕ, zero, suc, ◌+◌, ◌-◌, ◌*◌, ◌/◌, ◌%◌, ◌^◌, ◌<◌, ◌≤◌}
use native.Mathlib.Nat.{pow-suc, mul-mul-mul_comm}
use lib.Dec.{ltb}
use lib.Ieee.{Float}
use borrow.Author.Tests.{ltb-true}
use Rattle.rules.specs.Numbers.{at}
use Rattle.rules.specs.Sizes.{most_axes, Grid, points, knots, masks, Place}
use Rattle.rules.specs.Steps.{h}
use Rattle.rules.specs.Query.{without_lowest, blend, corner, cell, fraction, value_in}
use Rattle.rules.specs.Calls.{labels_of}
use Rattle.rules.proofs.Places.{One, flat_ext}
use Rattle.rules.proofs.Tables.{table_ext}

without_lowest_ext :
    (size : ℕ) {width width' t t' : Float} (cell cell' : ℕ → Float) → width ≡ width' → t ≡ t'
    → ((e : ℕ) → e < 4 * size → cell e ≡ cell' e) → (e : ℕ) → e < size
    → without_lowest size width t cell e ≡ without_lowest size width' t' cell' e
unfolding without_lowest
without_lowest_ext size cell cell' w u same e h =
    cc (
      same (2 * e) (omega arith),
      same (2 * e + 1) (omega arith),
      same (2 * size + 2 * e) (omega arith),
      same (2 * size + 2 * e + 1) (omega arith),
    )

-- two blends are equal where widths and fractions agree on the axes and the cells on their numbers
pub blend_ext :
    (axes lowest : ℕ) (widths widths' ts ts' cell cell' : ℕ → Float)
    → ((i : ℕ) → lowest ≤ i → i < lowest + axes → widths i ≡ widths' i)
    → ((i : ℕ) → lowest ≤ i → i < lowest + axes → ts i ≡ ts' i)
    → ((e : ℕ) → e < 4 ^ axes → cell e ≡ cell' e)
    → blend axes lowest widths ts cell ≡ blend axes lowest widths' ts' cell'
unfolding blend
blend_ext zero lowest widths widths' ts ts' cell cell' w t same = same 0 (omega arith)
blend_ext (suc axes) lowest widths widths' ts ts' cell cell' w t same =
    blend_ext axes (suc lowest) widths widths' ts ts' _ _
    (λ i a b. w i (omega arith) (omega arith))
    (λ i a b. t i (omega arith) (omega arith))
    (without_lowest_ext (4 ^ axes) cell cell'
    (w lowest (omega arith) (omega arith))
    (t lowest (omega arith) (omega arith))
    (λ e h. same e (omega (arith, pow-suc 4 axes))))

-- the numbers of a cell are found by its lower indices on the axes in use
pub cell_ext : (g : Grid) (tensor : List Float) (p q : Place) → One g.axes p q → (e : ℕ) → cell g tensor p e ≡ cell g tensor q e
unfolding cell corner
cell_ext g tensor p q same e =
    ap (λ (place : ℕ). at tensor (place * masks g + e % masks g))
    (flat_ext (points g) g.axes _ _ (λ j h. ap (λ (l : ℕ). l + e / masks g / 2 ^ (g.axes - 1 - j) % 2) (same j h)))

-- one value for two points that agree on the axes in use
pub value_at_ext :
    (g : Grid) (tensor : List Float) (cells : Place) (point point' : ℕ → Float) → ((i : ℕ) → i < g.axes → point i ≡ point' i)
    → value_in g tensor cells point ≡ value_in g tensor cells point'
unfolding value_in
value_at_ext g tensor cells point point' same =
    blend_ext g.axes 0 _ _ _ _ _ _
    (λ i a b. refl)
    (λ i a b. ap (fraction (knots g i) (cells i)) (same i (omega arith)))
    (λ e b. refl)

-- one value for two cells with the same lower indices
pub value_in_ext :
    (g : Grid) (tensor : List Float) (cells cells' : Place) (point : ℕ → Float) → One g.axes cells cells'
    → value_in g tensor cells point ≡ value_in g tensor cells' point
unfolding value_in
value_in_ext g tensor cells cells' point same =
    blend_ext g.axes 0 _ _ _ _ _ _
    (λ i a b. ap (h (knots g i)) (same i (omega arith)))
    (λ i a b. ap (λ (l : ℕ). fraction (knots g i) l (point i)) (same i (omega arith)))
    (λ e b. cell_ext g tensor cells cells' same e)

-- one list of labels for two cells with the same lower indices
pub labels_ext : (g : Grid) (cells cells' : Place) → One g.axes cells cells' → labels_of g cells ≡ labels_of g cells'
labels_ext g cells cells' same = table_ext most_axes _ _ (λ i l. go i (ltb i g.axes) refl)
  where
    go : (i : ℕ) (b : Bool) → ltb i g.axes ≡ b → cond b (cells i) 0 ≡ cond b (cells' i) 0
    go i true e = same i (ltb-true i g.axes e)
    go i false e = refl

-- a cell has as many numbers as corners times masks
pub four_power : (axes : ℕ) → 4 ^ axes ≡ 2 ^ axes * 2 ^ axes
four_power zero = refl
four_power (suc axes) =
    rw (pow-suc 4 axes, pow-suc 2 axes, four_power axes, mul-mul-mul_comm (2 ^ axes) 2 (2 ^ axes) 2) refl
