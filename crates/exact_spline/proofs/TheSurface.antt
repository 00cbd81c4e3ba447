-- In any ordered field, on any number of axes: the value blended from the rules' tensor is the spline of splines through the samples.
use mathlib.Core.Path.{◌≡◌, refl, ◌∙◌, ap, ap₂, fun_ext}
use mathlib.Core.List.{List}
use Prim.Native.Nat.{ℕ, zero, suc, ◌+◌, ◌-◌, ◌*◌, ◌/◌, ◌%◌, ◌^◌, ◌<◌}
use native.Mathlib.Nat.{mod-lt, mul-le-mul_right}
use native.Mathlib.Omega.{arith}
use lib.Pow.{pow_pos}
use lib.Arith.{digits_div, digits_mod}
use Rattle.rules.specs.Numbers.{table}
use Rattle.rules.specs.Sizes.{Place, flat, unflat, product_below}
use Rattle.rules.specs.Query.{corner}
use Rattle.rules.proofs.Tables.{at_table}
use Rattle.rules.proofs.Places.{OnGrid, flat_below, flat_ext, unflat_flat}
use Rattle.exact_arithmetic.specs.Arithmetic.{Arithmetic, IsField, IsOrdered}
use Rattle.exact_spline.specs.Steps as Steps
use Rattle.exact_spline.specs.Curve.{curve_in_cell}
use Rattle.exact_spline.specs.Query.{blend, fraction, value_in, value_from}
use Rattle.exact_spline.specs.Sizes.{Grid, spot}
use Rattle.exact_spline.specs.Numbers.{at}
use Rattle.exact_spline.specs.Tensor.{entry, tensor, sample}
use Rattle.exact_spline.specs.Moments.{moments}
use Rattle.exact_spline.specs.Nested.{on_axes, other_axes, along_lowest, nested_splines, Sound}
use Rattle.exact_spline.proofs.LowestAxis.{surface_is_a_spline_of_splines, entry_ext, blend_ext}

module _ (A : Arithmetic) (F : IsField A) where
  open A use {Number}

  -- samples that are read by their place on so many axes
  abbrev pub Reads : ℕ → (Place → Number) → Type 0
  Reads axes samples = (p q : Place) → ((j : ℕ) → j < axes → p j ≡ q j) → samples p ≡ samples q

  along_reads : (g : Grid A) (axes : ℕ) (samples : Place → Number) (cell : ℕ) (coordinate : Number) → Reads (suc axes) samples
      → Reads axes (along_lowest A g samples cell coordinate)
  unfolding along_lowest
  along_reads g axes samples cell coordinate reads p q same =
      ap (λ f. curve_in_cell A (g.knots 0) (at A (table (g.points 0) f))
      (at A (moments A (g.knots 0) (g.points 0 - 1) (g.condition 0) (table (g.points 0) f))) cell coordinate)
      (fun_ext (λ k. reads (on_axes k p) (on_axes k q) (agree k)))
    where
      agree : (k j : ℕ) → j < suc axes → on_axes k p j ≡ on_axes k q j
      agree k zero h = refl
      agree k (suc j) h = same j (omega arith)

  pub surface_is_nested_splines : (O : IsOrdered A) (axes : ℕ) (g : Grid A) → g.axes ≡ axes → (samples : Place → Number)
      → Reads axes samples → (cells : Place) → Sound A O g cells → (point : ℕ → Number)
      → value_in A g (λ p mask. entry A g samples g.axes mask p) cells point ≡ nested_splines A axes g samples cells point
  unfolding nested_splines value_in blend entry
  surface_is_nested_splines O zero g used samples reads cells sound point =
      ap (λ a. blend A a 0 (λ i. Steps.h A (g.knots i) (cells i)) (λ i. fraction A (g.knots i) (cells i) (point i))
      (λ e. entry A g samples a (e % 2 ^ a) (corner a cells (e / 2 ^ a)))) used
      ∙ reads _ cells (λ j h. let z : ⊥ = omega arith in absurd z)
  surface_is_nested_splines O (suc axes) g used samples reads cells sound point =
      surface_is_a_spline_of_splines A F O g axes used samples reads
      (λ i h. sound.rising i (omega arith))
      (λ i h. sound.enough i (omega arith))
      (λ i h. omega (arith, sound.inside i (omega arith)))
      cells
      (λ i h. sound.inside i (omega arith))
      point
      ∙ surface_is_nested_splines O axes (other_axes A g axes) refl (along_lowest A g samples (cells 0) (point 0))
      (along_reads g axes samples (cells 0) (point 0) reads) (λ i. cells (suc i))
      (record {
        rising = λ i h. sound.rising (suc i) (omega arith);
        enough = λ i h. sound.enough (suc i) (omega arith);
        inside = λ i h. sound.inside (suc i) (omega arith);
      })
      (λ i. point (suc i))

  -- the tensor's list holds the numbers, and the value read from it is the value
  module _ (g : Grid A) (samples : Place → Number) (reads : Reads g.axes samples) where
    number_in_tensor : (p : Place) → OnGrid g.points g.axes p → (mask : ℕ) → mask < 2 ^ g.axes
        → at A (tensor A g samples) (spot A g p mask) ≡ entry A g samples g.axes mask p
    unfolding tensor
    number_in_tensor p on mask h =
        at_table (product_below g.points g.axes * 2 ^ g.axes)
        (λ e. entry A g samples g.axes (e % 2 ^ g.axes) (unflat g.points g.axes (e / 2 ^ g.axes))) (spot A g p mask) A.absent
        (below (flat g.points g.axes p) (product_below g.points g.axes) (2 ^ g.axes) (flat_below g.points g.axes p on) h)
        ∙ ap₂ (λ mask f. entry A g samples g.axes mask (unflat g.points g.axes f)) (digits_mod (flat g.points g.axes p) h)
        (digits_div (flat g.points g.axes p) h)
        ∙ entry_ext A F g g.axes samples reads g.axes mask _ p (omega arith) (unflat_flat g.points g.axes p on)
      where
        below : (f n m : ℕ) → f < n → mask < m → f * m + mask < n * m
        below f n m i j = omega (arith, mul-le-mul_right m i)

    pub value_from_the_tensor : (cells : Place) → ((i : ℕ) → i < g.axes → cells i + 1 < g.points i) → (point : ℕ → Number)
        → value_from A g samples cells point
        ≡ value_in A g (λ p mask. entry A g samples g.axes mask p) cells point
    unfolding value_in corner
    value_from_the_tensor cells inside point =
        blend_ext A F g.axes 0 _ _ _ _
        (λ e h. number_in_tensor (corner g.axes cells (e / 2 ^ g.axes)) (corner_on (e / 2 ^ g.axes)) (e % 2 ^ g.axes)
        (mod-lt e (pow_pos g.axes)))
      where
        corner_on : (bits : ℕ) → OnGrid g.points g.axes (corner g.axes cells bits)
        corner_on bits j h = omega (arith, inside j h)

  sample_reads : (g : Grid A) (samples : List Number) → Reads g.axes (sample A g samples)
  unfolding sample
  sample_reads g samples p q same = ap (at A samples) (flat_ext g.points g.axes p q same)

  -- the whole way: the tensor is built from the list of samples, and the value in a cell is blended from the tensor; it is the spline of
  -- splines through the samples
  pub the_surface_is_the_spline_of_splines : (O : IsOrdered A) (g : Grid A) (samples : List Number) (cells : Place) → Sound A O g cells
      → (point : ℕ → Number)
      → value_from A g (sample A g samples) cells point ≡ nested_splines A g.axes g (sample A g samples) cells point
  the_surface_is_the_spline_of_splines O g samples cells sound point =
      value_from_the_tensor g (sample A g samples) (sample_reads g samples) cells sound.inside point
      ∙ surface_is_nested_splines O g.axes g refl (sample A g samples) (sample_reads g samples) cells sound point
