-- The bits of a sheet counted from its sizes, and how long it can be: 10,309 bytes at most, 10,308 in edition 1, and a grid of 256 × 4 with
-- four numbers at its ends has them.
use mathlib.Core.Path.{◌≡◌, ◌∙◌}
use mathlib.Core.List.{List}
use Prim.Native.Nat.{ℕ, zero, suc, ◌+◌, ◌-◌, ◌*◌, ◌^◌, ◌<◌, ◌≤◌}
use native.Mathlib.Nat.{le_refl, mul-le-mul, mul-suc, one-mul, add-mul, mul-add}
use native.Mathlib.Decide.{dec_lt}
use native.Mathlib.Omega.{arith}
use lib.ListN.{length}
use lib.Ieee.{Float}
use Rattle.rules.specs.Sizes.{Grid, points, condition, sum_below, product_below, knots}
use Rattle.rules.specs.declared.Condition.{Condition}
use Rattle.grid.proofs.Knots.{knots_of_axis}
use Rattle.grid_codes.specs.Kinds.{lower_kind_of, upper_kind_of}
use Rattle.base_bits.specs.Written.{bits_in, bytes_for}
use Rattle.grid_codes.specs.Editions.{mode_width}
use Rattle.sheet_read.proofs.Extents.{value_most, width_most}
use Rattle.rules.proofs.Sums.{sum_bound}
use Rattle.sheet_write.specs.SheetOf.{axes_fields, part_fields, sheet_of}
use Rattle.sheet_write.specs.Write.{no_sheet_refusal}
use Rattle.sheet_write.specs.PartsWithRoom.{values, values_below, parts_bits}
use Rattle.sheet_write.proofs.Lengths.{axis_bits, axes_next, axes_none, part_bits, sheet_length}
use Rattle.sheet_write.proofs.Parts.{Known, known}
use Rattle.sheet_write.specs.RoundTrip.{entry}

-- ---- counted from the sizes

module _ (g : Grid) (samples : List Float) (k : Known g samples) where
  axes_count : (width i : ℕ) → i ≤ g.axes
      → bits_in (axes_fields width g i) ≡ 12 * i + width * i + 64 * (values_below g.entries i + sum_below (points g) i)
  unfolding sum_below
  axes_count width zero l = let none = axes_none width g in omega arith
  axes_count width (suc i) l =
      let before = axes_count width i (omega arith) in
      let next = axes_next width g i in
      let here = axis_bits width (entry g i) (knots g i) in
      let more = mul-suc width i in
      let exact = knots_of_axis g k.grid_given.knots_exact i l in omega arith

  pub part_count : (edition : ℕ) → bits_in (part_fields edition g samples) ≡ parts_bits edition g.axes g.entries
  unfolding parts_bits
  part_count edition =
      let a = part_bits edition g samples in
      let b = axes_count (mode_width edition) g.axes (le_refl _) in
      let c = k.samples_exact in omega arith

-- ---- how many there can be

pub values_most : (c : Condition) → values c ≤ 2
values_most c = let a = value_most (lower_kind_of c) in let b = value_most (upper_kind_of c) in omega arith

-- two sizes of a product that is not above 1,024
two_sum : (a b : ℕ) → a ≤ 256 → b ≤ 256 → a * b ≤ 1024 → a + b ≤ 260
two_sum a b h k l =
    elim (dec_lt a 4) [
      | yes few ↦ omega (arith, few)
      | no many ↦
          elim (dec_lt b 4) [
            | yes few ↦ omega (arith, few)
            | no more ↦
                let u : ℕ = a - 4 in
                let v : ℕ = b - 4 in
                let x : a ≡ u + 4 = omega (arith, many) in
                let y : b ≡ v + 4 = omega (arith, more) in
                let z : (u + 4) * (v + 4) ≡ u * v + u * 4 + (4 * v + 16) =
                rw (add-mul u 4 (v + 4), mul-add u v 4, mul-add 4 v 4) (omega arith) in
                let w : (u + 4) * (v + 4) ≤ 1024 = rw (← x, ← y) l in omega (arith, x, y, z, w)
          ]
    ]

all_most : (width : ℕ) (p : ℕ → ℕ) (n : ℕ) → width ≤ 2 → 1 ≤ n → n ≤ 4 → ((i : ℕ) → i < n → 2 ≤ p i) → ((i : ℕ) → i < n → p i ≤ 256)
    → product_below p n * 2 ^ n ≤ 4096 → 140 * n + width * n + 64 * (sum_below p n + product_below p n) ≤ 82456 + 2 * width
unfolding sum_below product_below
all_most width p zero narrow some few two most small = absurd (omega arith)
all_most width p (suc zero) narrow some few two most small = let a = most 0 (omega arith) in omega arith
all_most width p (suc (suc zero)) narrow some few two most small =
    let s =
    two_sum (p 0) (p 1) (most 0 (omega arith)) (most 1 (omega arith))
    (rw one-mul at (let e : 1 * p 0 * p 1 ≤ 1024 = omega arith in e)) in
    omega arith
all_most width p (suc (suc (suc zero))) narrow some few two most small =
    let a = most 0 (omega arith) in
    let b = most 1 (omega arith) in
    let c = most 2 (omega arith) in omega arith
all_most width p (suc (suc (suc (suc zero)))) narrow some few two most small =
    let a = most 1 (omega arith) in
    let b = most 2 (omega arith) in
    let c = most 3 (omega arith) in
    let x : 1 * p 0 * 2 ≤ 1 * p 0 * p 1 = mul-le-mul (le_refl (1 * p 0)) (two 1 (omega arith)) in
    let y : 1 * p 0 * p 1 * 2 ≤ 1 * p 0 * p 1 * p 2 = mul-le-mul (le_refl (1 * p 0 * p 1)) (two 2 (omega arith)) in
    let z : 1 * p 0 * p 1 * p 2 * 2 ≤ 1 * p 0 * p 1 * p 2 * p 3 = mul-le-mul (le_refl (1 * p 0 * p 1 * p 2)) (two 3 (omega arith)) in
    omega arith
all_most width p (suc (suc (suc (suc (suc n))))) narrow some few two most small = absurd (omega arith)

-- the parts of any sheet
pub bits_most : (edition : ℕ) (g : Grid) (samples : List Float) → Known g samples
    → parts_bits edition g.axes g.entries ≤ 82463 + 2 * mode_width edition
unfolding parts_bits
bits_most edition g samples k =
    let range = k.grid_given.in_range in
    let v = sum_bound (λ i. values (condition g i)) 2 g.axes (λ i l. values_most (condition g i)) in
    let a =
    all_most (mode_width edition) (points g) g.axes (width_most edition) range.some_axes range.few_axes range.some_points
    range.few_points k.grid_given.small in
    omega arith

length_most : (edition : ℕ) (g : Grid) (samples : List Float) → no_sheet_refusal g samples ≡ 0
    → length (sheet_of edition g samples) ≤ bytes_for (82463 + 2 * mode_width edition)
length_most edition g samples e =
    let k = known g samples e in
    let a = sheet_length edition g samples in
    let b = part_count g samples k edition in
    let c = bits_most edition g samples k in omega arith

pub sheet_length_most : (edition : ℕ) (g : Grid) (samples : List Float) → no_sheet_refusal g samples ≡ 0
    → length (sheet_of edition g samples) ≤ 10309
sheet_length_most edition g samples e = let a = length_most edition g samples e in let b = width_most edition in omega arith

pub edition_1_length_most : (g : Grid) (samples : List Float) → no_sheet_refusal g samples ≡ 0 → length (sheet_of 1 g samples) ≤ 10308
unfolding mode_width
edition_1_length_most g samples e = length_most 1 g samples e

-- and so none has more than 65,536
pub sheet_length_below : (edition : ℕ) (g : Grid) (samples : List Float) → no_sheet_refusal g samples ≡ 0
    → length (sheet_of edition g samples) ≤ 65536
sheet_length_below edition g samples e = let most = sheet_length_most edition g samples e in omega arith

-- the largest: two axes of 256 and of 4 points, with a number at each of the four ends
module _ (g : Grid) (samples : List Float) (e : no_sheet_refusal g samples ≡ 0) (two : g.axes ≡ 2) (first : points g 0 ≡ 256)
    (second : points g 1 ≡ 4)
    (lower : values (condition g 0) ≡ 2) (upper : values (condition g 1) ≡ 2) where
  largest_bits : (edition : ℕ) → bits_in (part_fields edition g samples) ≡ 82463 + mode_width edition * 2
  unfolding parts_bits sum_below product_below
  largest_bits edition = part_count g samples (known g samples e) edition ∙ rw (two, first, second, lower, upper) (omega arith)

  pub largest_length : length (sheet_of 2 g samples) ≡ 10309
  unfolding mode_width
  largest_length = sheet_length 2 g samples ∙ rw (largest_bits 2)

  pub largest_length_of_edition_1 : length (sheet_of 1 g samples) ≡ 10308
  unfolding mode_width
  largest_length_of_edition_1 = sheet_length 1 g samples ∙ rw (largest_bits 1)
