-- A blend of finite numbers whose every fraction is 0 or 1 equals the number of one corner at mask 0.
use native.Mathlib.Omega.{arith}
use mathlib.Core.Path.{◌≡◌, refl, sym, ap, ◌∙◌}
use mathlib.Core.Logic.{inl}
use mathlib.Core.Bool.{true}
use Prim.Native.Nat.{ℕ, zero, suc, ◌+◌, ◌-◌, ◌*◌, ◌/◌, ◌%◌, ◌^◌, ◌<◌, ◌≤◌}
use native.Mathlib.Nat.{pow-suc, pow-succ', mul_assoc, add-mul, mul-lt-mul_of_pos_right, mul-le-mul_right, div-one, div-div-eq-div-mul}
use lib.Pow.{pow_pos}
use lib.Ieee.{Float}
use lib.Ieee.Scale.{finite}
use Rattle.rules.specs.Sizes.{Place, product_below, flat, unflat}
use Rattle.rules.specs.Query.{without_lowest, blend, corner}
use Rattle.rules.proofs.Cells.{four_power}
use Rattle.rules.proofs.Places.{below_or_last, flat_below, unflat_last, unflat_before, unflat_flat}
use Rattle.base_floats.specs.Place.{Real}
use Rattle.base_floats.specs.Zeros.{Equal}
use Rattle.base_floats.proofs.Equals.{equal_then, equal_finite}
use Rattle.query_measured.proofs.Hermite.{
  FiniteEnds,
  hermite_fits,
  AtEnd,
  at_lower,
  at_upper,
  end_below,
  hermite_at_lower,
  hermite_at_upper,
}

-- ---- the number of a corner

-- the points of axes that have their two ends alone
abbrev two_points : ℕ → ℕ
two_points i = 2

-- the number of the corner at these ends, each 0 for the lower and 1 for the upper: that of a place on such axes
abbrev pub number_of : ℕ → Place → ℕ
number_of axes ends = flat two_points axes ends

powers : (axes : ℕ) → product_below two_points axes ≡ 2 ^ axes
unfolding product_below
powers zero = refl
powers (suc axes) = rw (powers axes, pow-suc 2 axes) refl

number_below : (axes : ℕ) (ends : Place) → ((i : ℕ) → i < axes → ends i < 2) → number_of axes ends < 2 ^ axes
number_below axes ends bits = rw (powers axes) at (flat_below two_points axes ends bits)

-- the bit of axis j is a digit of the number
digit : (axes number j : ℕ) → j < axes → unflat two_points axes number j ≡ number / 2 ^ (axes - 1 - j) % 2
digit zero number j below = absurd (omega arith)
digit (suc axes) number j below =
    below_or_last (λ (j : ℕ). unflat two_points (suc axes) number j ≡ number / 2 ^ (suc axes - 1 - j) % 2) axes j
    (let none : suc axes - 1 - axes ≡ 0 = omega arith in unflat_last two_points axes number ∙ rw (none, div-one number) refl)
    (λ before.
    let more : suc axes - 1 - j ≡ suc (axes - 1 - j) = omega arith in
    unflat_before two_points axes number j before ∙ digit axes (number / 2) j before
    ∙ rw (more, pow-succ' 2 (axes - 1 - j), div-div-eq-div-mul number 2 (2 ^ (axes - 1 - j))) refl)
    below

-- so the corner with that number stands at those ends
pub corner_at : (axes : ℕ) (lower ends : Place) → ((i : ℕ) → i < axes → ends i < 2) → (i : ℕ) → i < axes
    → corner axes lower (number_of axes ends) i ≡ lower i + ends i
unfolding corner
corner_at axes lower ends bits i below =
    ap (λ (k : ℕ). lower i + k) (sym (digit axes (number_of axes ends) i below) ∙ unflat_flat two_points axes ends bits i below)

one_axis_more : (axes : ℕ) (ends : Place) → number_of (suc axes) ends ≡ number_of axes ends * 2 + ends axes
unfolding flat
one_axis_more axes ends = refl

-- the lowest axis has the highest bit
first_out : (axes lowest : ℕ) (ends : Place)
    → number_of (suc axes) (λ i. ends (lowest + i)) ≡ ends lowest * 2 ^ axes + number_of axes (λ i. ends (suc lowest + i))
unfolding flat
first_out zero lowest ends = let e : lowest + 0 ≡ lowest = omega arith in rw e (omega arith)
first_out (suc axes) lowest ends =
    let last : ends (lowest + suc axes) ≡ ends (suc lowest + axes) = ap ends (omega arith) in
    let higher : ends lowest * 2 ^ suc axes ≡ ends lowest * 2 ^ axes * 2 = rw (pow-suc 2 axes, mul_assoc (ends lowest) (2 ^ axes) 2) refl in
    one_axis_more (suc axes) (λ i. ends (lowest + i))
    ∙ omega (arith, first_out axes lowest ends, one_axis_more axes (λ i. ends (suc lowest + i)))

-- ---- where it stands in the cell

spot_in_cell : (end number axes : ℕ) → 2 * (end * 4 ^ axes) + 2 * (number * 2 ^ axes) ≡ (end * 2 ^ axes + number) * 2 ^ suc axes
spot_in_cell end number axes =
    rw (
      pow-suc 2 axes,
      ← mul_assoc (end * 2 ^ axes + number) (2 ^ axes) 2,
      add-mul (end * 2 ^ axes) number (2 ^ axes),
      mul_assoc end (2 ^ axes) (2 ^ axes),
      four_power axes,
    )
    (omega arith)

-- ---- one axis removed

module _ (axes : ℕ) (width t : Float) (cell : ℕ → Float) (fine : finite width ≡ true)
    (real : (e : ℕ) → e < 4 ^ suc axes → Real (cell e)) where
  ends_finite : (e : ℕ) → e < 4 ^ axes
      → FiniteEnds (cell (2 * e)) (cell (2 * e + 1)) (cell (2 * 4 ^ axes + 2 * e)) (cell (2 * 4 ^ axes + 2 * e + 1)) width
  ends_finite e l = record {
    lower_value = real (2 * e) (omega (arith, pow-suc 4 axes));
    lower_slope = real (2 * e + 1) (omega (arith, pow-suc 4 axes));
    upper_value = real (2 * 4 ^ axes + 2 * e) (omega (arith, pow-suc 4 axes));
    upper_slope = real (2 * 4 ^ axes + 2 * e + 1) (omega (arith, pow-suc 4 axes));
    width_finite = fine;
  }

  -- the number at the end where the fraction stands is left
  removed : (e end : ℕ) → e < 4 ^ axes → AtEnd t end
      → Equal (without_lowest (4 ^ axes) width t cell e) (cell (2 * (end * 4 ^ axes) + 2 * e))
  unfolding without_lowest
  removed e end l (at_lower z) =
      let spot : 2 * (0 * 4 ^ axes) + 2 * e ≡ 2 * e = omega arith in
      rw spot
      (hermite_at_lower (cell (2 * e)) (cell (2 * e + 1)) (cell (2 * 4 ^ axes + 2 * e)) (cell (2 * 4 ^ axes + 2 * e + 1)) width t
      (ends_finite e l) z)
  removed e end l (at_upper z) =
      let spot : 2 * (1 * 4 ^ axes) + 2 * e ≡ 2 * 4 ^ axes + 2 * e = omega arith in
      rw spot
      (hermite_at_upper (cell (2 * e)) (cell (2 * e + 1)) (cell (2 * 4 ^ axes + 2 * e)) (cell (2 * 4 ^ axes + 2 * e + 1)) width t
      (ends_finite e l) z)

  -- what is left is finite
  removed_real : (end : ℕ) → AtEnd t end → (e : ℕ) → e < 4 ^ axes → Real (without_lowest (4 ^ axes) width t cell e)
  unfolding without_lowest
  removed_real end at_end e l =
      let few = end_below t end at_end in
      let most : end * 4 ^ axes ≤ 1 * 4 ^ axes = mul-le-mul_right (4 ^ axes) (omega arith) in
      let spot : ℕ = 2 * (end * 4 ^ axes) + 2 * e in
      record {
        fits = hermite_fits (cell (2 * e)) (cell (2 * e + 1)) (cell (2 * 4 ^ axes + 2 * e)) (cell (2 * 4 ^ axes + 2 * e + 1)) width t;
        finite =
            equal_finite (without_lowest (4 ^ axes) width t cell e) (cell spot) (removed e end l at_end)
            (real spot (omega (arith, pow-suc 4 axes))).finite;
      }

-- ---- all axes removed

pub blend_at_corner :
    (axes lowest : ℕ) (widths ts cell : ℕ → Float) (ends : Place)
    → ((i : ℕ) → lowest ≤ i → i < lowest + axes → finite (widths i) ≡ true)
    → ((i : ℕ) → lowest ≤ i → i < lowest + axes → AtEnd (ts i) (ends i))
    → ((e : ℕ) → e < 4 ^ axes → Real (cell e))
    → Equal (blend axes lowest widths ts cell) (cell (number_of axes (λ i. ends (lowest + i)) * 2 ^ axes))
unfolding blend flat
blend_at_corner zero lowest widths ts cell ends fine at_end real = inl refl
blend_at_corner (suc axes) lowest widths ts cell ends fine at_end real =
    let end : AtEnd (ts lowest) (ends lowest) = at_end lowest (omega arith) (omega arith) in
    let width : finite (widths lowest) ≡ true = fine lowest (omega arith) (omega arith) in
    let smaller : ℕ → Float = without_lowest (4 ^ axes) (widths lowest) (ts lowest) cell in
    let number : ℕ = number_of axes (λ i. ends (suc lowest + i)) in
    let below : number * 2 ^ axes < 4 ^ axes =
    rw (four_power axes)
    (mul-lt-mul_of_pos_right
    (number_below axes (λ i. ends (suc lowest + i))
    (λ i l. end_below (ts (suc lowest + i)) (ends (suc lowest + i)) (at_end (suc lowest + i) (omega arith) (omega arith))))
    (pow_pos axes)) in
    rw (first_out axes lowest ends, ← spot_in_cell (ends lowest) number axes)
    (equal_then (blend axes (suc lowest) widths ts smaller) (smaller (number * 2 ^ axes))
    (cell (2 * (ends lowest * 4 ^ axes) + 2 * (number * 2 ^ axes)))
    (blend_at_corner axes (suc lowest) widths ts smaller ends
    (λ i a b. fine i (omega arith) (omega arith))
    (λ i a b. at_end i (omega arith) (omega arith))
    (removed_real axes (widths lowest) (ts lowest) cell width real (ends lowest) end))
    (removed axes (widths lowest) (ts lowest) cell width real (number * 2 ^ axes) (ends lowest) below end))
