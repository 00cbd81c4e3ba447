-- The corners of a cell: they are on the grid, and two that differ on the last axis alone stand side by side.
use native.Mathlib.Omega.{arith}
use mathlib.Core.Path.{◌≡◌, refl, ap}
use mathlib.Core.List.{List}
use Prim.Native.Nat.{ℕ, zero, suc, ◌+◌, ◌-◌, ◌/◌, ◌%◌, ◌^◌, ◌<◌, ◌≤◌}
use native.Mathlib.Nat.{pow-succ', div-div-eq-div-mul}
use Rattle.rules.specs.Sizes.{Place, flat}
use Rattle.rules.specs.Query.{corner}
use Rattle.rules.specs.declared.Axis.{Axis}
use Rattle.rules.proofs.Places.{OnGrid, flat_ext}
use Rattle.grid.specs.GridOfCall.{points_of, CellInside}

-- ---- two corners side by side

-- above the lowest bit an even number and the next have the same bits
same_half : (bits k : ℕ) → bits % 2 ≡ 0 → (bits + 1) / 2 ^ suc k ≡ bits / 2 ^ suc k
same_half bits k even =
    let half : (bits + 1) / 2 ≡ bits / 2 = omega arith in
    rw (pow-succ' 2 k, ← div-div-eq-div-mul (bits + 1) 2 (2 ^ k), ← div-div-eq-div-mul bits 2 (2 ^ k), half) refl

module _ (lower : Place) (bits : ℕ) (even : bits % 2 ≡ 0) where
  same_before : (d j : ℕ) → j < d → corner (suc d) lower (bits + 1) j ≡ corner (suc d) lower bits j
  unfolding corner
  same_before d j h =
      let e : suc d - 1 - j ≡ suc (d - 1 - j) = omega arith in
      rw e (ap (λ (b : ℕ). lower j + b % 2) (same_half bits (d - 1 - j) even))

  one_further : (d : ℕ) → corner (suc d) lower (bits + 1) d ≡ suc (corner (suc d) lower bits d)
  unfolding corner
  one_further d = let e : suc d - 1 - d ≡ 0 = omega arith in rw e (omega arith)

  -- the two corners of an even number and the next
  pub side_by_side : (n : ℕ → ℕ) (axes : ℕ) → 1 ≤ axes
      → flat n axes (corner axes lower (bits + 1)) ≡ suc (flat n axes (corner axes lower bits))
  unfolding flat
  side_by_side n zero h = absurd (omega arith)
  side_by_side n (suc d) h =
      rw (flat_ext n d (corner (suc d) lower (bits + 1)) (corner (suc d) lower bits) (same_before d), one_further d) (omega arith)

-- ---- all of them

pub corner_on_grid : (axes : ℕ) (all : List Axis) (lower : Place) (bits : ℕ) → CellInside axes all lower
    → OnGrid (points_of all) axes (corner axes lower bits)
unfolding corner
corner_on_grid axes all lower bits given i h = omega (arith, given.upper i h)
