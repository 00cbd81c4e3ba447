-- A sheet whose tensor has at most twice as many numbers has at most so many samples and knots, so they have places in buffers of so many.
use mathlib.Core.Path.{◌≡◌}
use mathlib.Core.List.{List}
use Prim.Native.Nat.{ℕ, zero, suc, ◌+◌, ◌*◌, ◌^◌, ◌<◌, ◌≤◌}
use native.Mathlib.Nat.{mul-le-mul, le_refl}
use native.Mathlib.Omega.{arith}
use lib.ListN.{length}
use lib.Ieee.{Float}
use Rattle.rules.specs.Sizes.{Grid, points, knots_length, samples_length, tensor_length, scratch_length, sum_below, product_below}
use Rattle.rules.specs.declared.Axis.{Axis}
use Rattle.grid_checks.proofs.Rows.{axes_few, in_range}
use Rattle.grid.specs.GridOfCall.{grid, sizes_of, points_of, InRange}
use Rattle.sheet_read.specs.Fields.{sheet_grid}
use Rattle.sheet_read.specs.FoundSoFar.{PartsRoom}
use Rattle.sheet_read.proofs.Parts.{Parts, parts}
use Rattle.sheet_surface.specs.OnTheStack.{ReadSheet, SmallSheet}

-- ---- sums and products of sizes that are 2 or more

sum_least : (a b : ℕ) → 2 ≤ a → 2 ≤ b → a + b ≤ a * b
sum_least a b two_a two_b = omega (arith, mul-le-mul two_a (le_refl b), mul-le-mul (le_refl a) two_b)

sum_in_product : (n : ℕ → ℕ) (i : ℕ) → ((j : ℕ) → j < suc i → 2 ≤ n j)
    → (sum_below n (suc i) ≤ product_below n (suc i)) × (2 ≤ product_below n (suc i))
unfolding sum_below product_below
sum_in_product n zero two = (omega arith, omega (arith, two 0 (omega arith)))
sum_in_product n (suc i) two =
    let before = sum_in_product n i (λ j l. two j (omega arith)) in
    let here = two (suc i) (omega arith) in
    let more = sum_least (product_below n (suc i)) (n (suc i)) before.1 here in
    (omega (arith, more, before.0), omega (arith, more, before.1))

sum_most : (n : ℕ → ℕ) (axes : ℕ) → InRange axes n → sum_below n axes ≤ product_below n axes
sum_most n zero range = absurd (omega (arith, range.some_axes))
sum_most n (suc i) range = (sum_in_product n i range.some_points).0

-- a tensor has two numbers or more for each sample
half : (samples axes most : ℕ) → 1 ≤ axes → axes ≤ 4 → samples * 2 ^ axes ≤ most + most → samples ≤ most
half samples zero most some few small = absurd (omega arith)
half samples (suc zero) most some few small = omega arith
half samples (suc (suc zero)) most some few small = omega arith
half samples (suc (suc (suc zero))) most some few small = omega arith
half samples (suc (suc (suc (suc zero)))) most some few small = omega arith
half samples (suc (suc (suc (suc (suc axes))))) most some few small = absurd (omega arith)

-- ---- a sheet that was read

module _ (bytes : List ℕ) (said n : ℕ) (all : List Axis) (s : ReadSheet bytes said n all) where
  abbrev g : Grid
  g = sheet_grid bytes

  known : Parts bytes
  known = parts bytes s.faultless

  pub axes_are : n ≡ g.axes
  unfolding sheet_grid
  axes_are = s.axes_said

  pub grid_is : grid n all g.flat_knots ≡ g
  unfolding sheet_grid
  grid_is = rw (s.axes_said, s.found)

  pub tensor_is : tensor_length (sizes_of n all) ≡ tensor_length g
  unfolding sheet_grid
  tensor_is = rw (s.axes_said, s.found)

  own_range : InRange g.axes (points g)
  own_range = let few = axes_few {axes = g.axes} known.axes in in_range few.0 few.1 known.points

  pub range : InRange n (points_of all)
  unfolding sheet_grid
  range = rw (s.axes_said, s.found) own_range

-- ---- such a sheet whose tensor is short

-- of at most twice as many numbers: each buffer has room
module _ (half_of_lem : ℕ) (bytes : List ℕ) (said n : ℕ) (all : List Axis) (s : SmallSheet (half_of_lem + half_of_lem) bytes said n all) where
  abbrev own : InRange (sheet_grid bytes).axes (points (sheet_grid bytes))
  own = own_range bytes said n all s.read

  pub samples_most : samples_length (sheet_grid bytes) ≤ half_of_lem
  samples_most = half (samples_length (sheet_grid bytes)) (sheet_grid bytes).axes half_of_lem own.some_axes own.few_axes s.small

  pub knots_most : knots_length (sheet_grid bytes) ≤ half_of_lem
  knots_most = omega (arith, samples_most, sum_most (points (sheet_grid bytes)) (sheet_grid bytes).axes own)

  pub stack_room : (knots samples scratch : List Float) → length knots ≡ half_of_lem → length samples ≡ half_of_lem
      → length scratch ≡ 2048 + (half_of_lem + half_of_lem)
      → PartsRoom bytes said n all knots samples × (scratch_length (sheet_grid bytes) ≤ length scratch)
  unfolding sheet_grid
  stack_room knots samples scratch k y w = (
    record {
      faultless = s.read.faultless;
      edition_said = s.read.edition_said;
      axes_said = s.read.axes_said;
      found = s.read.found;
      knots_room = omega (arith, (parts bytes s.read.faultless).knots, knots_most);
      samples_room = omega (arith, samples_most);
    },
    omega (arith, s.small),
  )
