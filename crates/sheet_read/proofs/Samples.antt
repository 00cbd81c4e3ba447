-- The fault that is met after the last axis, test by test, and the bits that follow the last sample.
use mathlib.Core.Path.{◌≡◌, refl, sym, ◌∙◌}
use mathlib.Core.Bool.{Bool, true, false, not, cond, ◌||◌}
use mathlib.Core.List.{List}
use Prim.Native.Nat.{ℕ, zero, suc, ◌+◌, ◌-◌, ◌*◌, ◌/◌, ◌<◌, ◌≤◌}
use native.Mathlib.Nat.{le-mul_of_pos_right, lt_of_lt_of_le}
use native.Mathlib.Omega.{arith}
use borrow.Author.Tests.{lt-ltb, le-ltb, le-leb, lt-leb, ne_eqb, ltb-false}
use lib.Dec.{eqb}
use lib.ListN.{length}
use lib.Pow.{pow_pos}
use Rattle.rules.specs.Numbers.{any}
use Rattle.rules.specs.Sizes.{product_below, samples_length, tensor_length}
use Rattle.rules.specs.declared.Axis.{Axis}
use Rattle.grid.specs.GridOfCall.{sizes_of, points_of}
use Rattle.base_bits.specs.Bits.{bit, field, numbers_short}
use Rattle.sheet_read.specs.Fields.{samples_begin, sheet_grid}
use Rattle.sheet_read.specs.Faults.{tail_refused, samples_fault}
use Rattle.sheet_read.specs.FoundSoFar.{Ended}
use Rattle.base_bits.proofs.Runs.{short_together}
use Rattle.sheet_read.proofs.Extents.{begin_most}

-- ---- the tail

either_set : (high low : ℕ) → (not (eqb high 0) || not (eqb low 0)) ≡ not (eqb (high * 2 + low) 0)
either_set zero zero = refl
either_set zero (suc low) = rw (ne_eqb (suc low) 0 (omega arith), ne_eqb (0 * 2 + suc low) 0 (omega arith))
either_set (suc high) low = rw (ne_eqb (suc high) 0 (omega arith), ne_eqb (suc high * 2 + low) 0 (omega arith))

-- a run has a bit that is not zero where its number is not
pub bits_set : (bytes : List ℕ) (at n : ℕ) → any (λ k. not (eqb (bit bytes (at + k)) 0)) n ≡ not (eqb (field bytes at n) 0)
unfolding any field
bits_set bytes at zero = refl
bits_set bytes at (suc n) = rw (bits_set bytes at n) (either_set (field bytes at n) (bit bytes (at + n)))

module _ (bytes : List ℕ) (at : ℕ) where
  abbrev left : ℕ
  left = 8 * length bytes - at

  pub many_left : (at + 15) / 8 ≤ length bytes → true ≡ tail_refused bytes at
  unfolding tail_refused
  many_left many = rw (le-leb 8 left (omega arith))

  pub few_left : length bytes < (at + 15) / 8 → (n : ℕ) → n ≡ field bytes at left → not (eqb n 0) ≡ tail_refused bytes at
  unfolding tail_refused
  few_left few n e = rw (lt-leb 8 left (omega arith), e) (sym (bits_set bytes at left))

-- ---- after the last axis

-- a product of numbers that are not zero is not
pub product_least : (sizes : ℕ → ℕ) (n : ℕ) → ((k : ℕ) → k < n → 2 ≤ sizes k) → 0 < product_below sizes n
unfolding product_below
product_least sizes zero least = omega arith
product_least sizes (suc n) least =
    let before = product_least sizes n (λ k l. least k (omega arith)) in
    let here = least n (omega arith) in
    lt_of_lt_of_le before (le-mul_of_pos_right (product_below sizes n) (omega arith))

module _ (bytes : List ℕ) (at n : ℕ) (all : List Axis) (t : Ended bytes at n all) where
  pub count_is : samples_length (sizes_of n all) ≡ samples_length (sheet_grid bytes)
  unfolding sheet_grid
  count_is = rw (t.found, t.said)

  pub begin_small : at ≤ 131072
  begin_small = omega (arith, begin_most bytes n, t.end, t.range.few_axes)

  pub samples_least : 0 < samples_length (sizes_of n all)
  samples_least = product_least (points_of all) n t.range.some_points

  tensor_is : tensor_length (sizes_of n all) ≡ tensor_length (sheet_grid bytes)
  unfolding sheet_grid
  tensor_is = rw (t.found, t.said)

  pub too_large : 4096 < tensor_length (sizes_of n all) → 3 ≡ samples_fault bytes
  unfolding samples_fault
  too_large large = rw (← tensor_is, lt-ltb 4096 (tensor_length (sizes_of n all)) large)

  module _ (count : ℕ) (c : count ≡ samples_length (sizes_of n all)) (small : tensor_length (sizes_of n all) ≤ 4096) where
    pub samples_few : count ≤ 4096
    samples_few = omega (arith, le-mul_of_pos_right (samples_length (sizes_of n all)) (pow_pos n))

    begin_is : samples_begin bytes ≡ at
    begin_is = sym (t.end ∙ rw t.said)

    pub no_samples : numbers_short bytes at count ≡ true → 11 ≡ samples_fault bytes
    unfolding samples_fault
    no_samples short = rw (← tensor_is, le-ltb 4096 (tensor_length (sizes_of n all)) small, begin_is, ← count_is, ← c, short)

    module _ (long : numbers_short bytes at count ≡ false) where
      pub samples_room : at + 64 * count ≤ 8 * length bytes
      samples_room = ltb-false _ _ (short_together bytes at count (omega (arith, samples_least)) ∙ long)

      pub after_samples : (test : Bool) → tail_refused bytes (at + 64 * count) ≡ test → cond test 14 0 ≡ samples_fault bytes
      unfolding samples_fault
      after_samples test e =
          rw (← tensor_is, le-ltb 4096 (tensor_length (sizes_of n all)) small, begin_is, ← count_is, ← c, long, e)
