-- The chapter Query of docs/RULES.md: the cell of the tensor around a point, and the Hermite blend that removes one axis after the other.
use Rattle.std.specs.Prelude.{List, ℕ, zero, suc, ◌+◌, ◌-◌, ◌*◌, ◌/◌, ◌%◌, ◌^◌, Float}
use Rattle.std.specs.Float.Ieee.{neg}
use Rattle.rules.specs.Numbers.{◌⊕◌, ◌⊖◌, ◌⊗◌, ◌⊘◌, one, two, three, at}
use Rattle.rules.specs.Sizes.{Grid, points, knots, masks, Place, flat, spot}
use Rattle.rules.specs.Steps.{h}
use Rattle.rules.specs.Locate.{locate}
use Rattle.rules.specs.Search.{lower_index}
use Rattle.rules.specs.Outside.{placed_on}
use Rattle.rules.specs.Even.{direct_cell_of}

-- the blend of two knots with values p0, p1 and slopes m0, m1, at the fraction t of their width; with the names of the Rust in
-- `evaluate_hermite_1d`
unfoldable pub hermite : Float → Float → Float → Float → Float → Float → Float
hermite p0 m0 p1 m1 width t =
    let t2 : Float = t ⊗ t in
    let t3 : Float = t2 ⊗ t in
    let h00 : Float = two ⊗ t3 ⊖ three ⊗ t2 ⊕ one in
    let h10 : Float = t3 ⊖ two ⊗ t2 ⊕ t in
    let h01 : Float = neg two ⊗ t3 ⊕ three ⊗ t2 in
    let h11 : Float = t3 ⊖ t2 in
    h00 ⊗ p0 ⊕ h10 ⊗ width ⊗ m0 ⊕ h01 ⊗ p1 ⊕ h11 ⊗ width ⊗ m1

-- a cell without its lowest axis: of 4 × size numbers, that axis slowest and its bit of the mask fastest, size numbers are left
unfoldable pub without_lowest : ℕ → Float → Float → (ℕ → Float) → ℕ → Float
unfolding hermite
without_lowest size width t cell e =
    hermite (cell (2 * e)) (cell (2 * e + 1)) (cell (2 * size + 2 * e)) (cell (2 * size + 2 * e + 1)) width t

-- what is left of a cell when its axes, so many from `lowest` on, are removed one after the other, the lowest first
unfoldable pub blend : ℕ → ℕ → (ℕ → Float) → (ℕ → Float) → (ℕ → Float) → Float
unfolding without_lowest
blend zero lowest widths ts cell = cell 0
blend (suc axes) lowest widths ts cell =
    blend axes (suc lowest) widths ts (without_lowest (4 ^ axes) (widths lowest) (ts lowest) cell)

-- a corner of the cell: its bits say on which axes it is the upper one, axis 0 in the highest bit
unfoldable pub corner : ℕ → Place → ℕ → Place
corner axes lower bits i = lower i + bits / 2 ^ (axes - 1 - i) % 2

-- the numbers of a cell, corner after corner, the mask fastest
unfoldable pub cell : Grid → List Float → Place → ℕ → Float
unfolding flat corner
cell g tensor lower e = at tensor (spot g (corner g.axes lower (e / masks g)) (e % masks g))

-- where the point lies in cell l, counted from its lower knot in widths
unfoldable pub fraction : List Float → ℕ → Float → Float
unfolding h
fraction x l point = (point ⊖ at x l) ⊘ h x l

-- the value at a point of the surface's cubic in a given cell, wherever the point lies
unfoldable pub value_in : Grid → List Float → Place → (ℕ → Float) → Float
unfolding h blend cell fraction
value_in g tensor cells point =
    blend g.axes 0
    (λ i. h (knots g i) (cells i))
    (λ i. fraction (knots g i) (cells i) (point i))
    (cell g tensor cells)

-- the cell of a point: the lower knot on each axis
unfoldable pub cell_of : Grid → (ℕ → Float) → Place
unfolding locate
cell_of g point i = locate (knots g i) (points g i - 1) (point i)

-- the surface's value at a point
unfoldable pub query : Grid → List Float → (ℕ → Float) → Float
unfolding value_in cell_of
query g tensor point = value_in g tensor (cell_of g point) point

-- the cell that the search finds on each axis, on any knots
unfoldable pub quick_cell_of : Grid → (ℕ → Float) → Place
unfolding lower_index
quick_cell_of g point i = lower_index (knots g i) (point i)

-- the value at a point in the cell that the search finds
unfoldable pub quick_query : Grid → List Float → (ℕ → Float) → Float
unfolding value_in quick_cell_of
quick_query g tensor point = value_in g tensor (quick_cell_of g point) point

-- both values with a mode for each axis: the cell is that of the point as it is given, and hold moves the point in it
unfoldable pub query_in_modes : Grid → List Float → (ℕ → Float) → Float
unfolding value_in cell_of
query_in_modes g tensor point = value_in g tensor (cell_of g point) (placed_on g point)

unfoldable pub quick_query_in_modes : Grid → List Float → (ℕ → Float) → Float
unfolding value_in quick_cell_of
quick_query_in_modes g tensor point = value_in g tensor (quick_cell_of g point) (placed_on g point)

-- the cell on even axes: the direct cell of the point where the modes place it, so hold moves the point before the cell is found
unfoldable pub even_cell_of : Grid → (ℕ → Float) → Place
unfolding direct_cell_of
even_cell_of g point = direct_cell_of g (placed_on g point)

-- the value there, in that cell
unfoldable pub even_query : Grid → List Float → (ℕ → Float) → Float
unfolding value_in even_cell_of
even_query g tensor point = value_in g tensor (even_cell_of g point) (placed_on g point)
