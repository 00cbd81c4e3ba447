-- The loop over the places, with two masks at hand that lie side by side: how many were passed is the number of entries of each, and the
-- other four are what the masks have there. Every number that is looked at is there and finite.
use mathlib.Core.Path.{◌≡◌, refl, sym}
use mathlib.Core.Bool.{Bool, true, false, not}
use mathlib.Core.List.{List}
use Prim.Native.Nat.{ℕ, ◌+◌, ◌*◌, ◌/◌, ◌^◌, ◌<◌, ◌≤◌, max}
use native.Mathlib.Nat.{le-mul_of_pos_right}
use native.Mathlib.Numerals.{add-one}
use native.Mathlib.Omega.{arith}
use lib.Arith.{digits_lt}
use lib.Dec.{eqb}
use lib.Ieee.{Float}
use lib.Ieee.Scale.{finite}
use lib.ListN.{length}
use Rattle.rules.specs.Numbers.{at}
use Rattle.base_numbers.proofs.Scan.{any_at}
use Rattle.report_totals.specs.Totals.{magnitude}
use Rattle.report_totals.specs.Counting.{one_if, of_mask, InPlaces}
use Rattle.report_totals.specs.declared.OrderTotals.{OrderTotals}
use Rattle.report_totals.proofs.Orders.{totals_parts}
use Rattle.report_totals.proofs.Masks.{of_mask_most}

abbrev counts : ℕ → ℕ → ℕ → OrderTotals
counts entries nonzero largest = record { entries = entries; nonzero = nonzero; largest = largest }

-- a mask with one place more
mask_next : (masks mask : ℕ) (numbers : List Float) (e p nonzero largest size one most : ℕ) → e ≡ p * masks + mask
    → of_mask masks mask numbers p ≡ counts p nonzero largest
    → size ≡ magnitude (at numbers e) → one ≡ one_if (not (eqb size 0)) → most ≡ max largest size
    → of_mask masks mask numbers (p + 1) ≡ counts (p + 1) (nonzero + one) most
unfolding of_mask
mask_next masks mask numbers e p nonzero largest size one most place so_far size_is one_is most_is =
    rw (add-one p, so_far, ← place) (totals_parts _ _ _ _ _ _ (omega arith) (rw (one_is, size_is)) (rw (most_is, size_is)))

truth : (b : Bool) → not b ≡ false → b ≡ true
truth true e = refl
truth false e = sym e

module _ (masks mask : ℕ) (numbers : List Float) where
  pub record Counted (nonzero largest next_nonzero next_largest p : ℕ) : Type 0 where
    pub first : of_mask masks mask numbers p ≡ record { entries = p; nonzero = nonzero; largest = largest }
    pub second : of_mask masks (mask + 1) numbers p ≡ record { entries = p; nonzero = next_nonzero; largest = next_largest }

module _ (axes masks mask places : ℕ) (numbers : List Float) (given : InPlaces axes numbers) (masks_are : masks ≡ 2 ^ axes)
    (below : mask + 1 < masks) (places_are : places ≡ length numbers / 2 ^ axes) where
  whole : places * masks ≡ length numbers
  whole = rw (masks_are, places_are) (sym given.whole)

  pub counted_first : Counted masks mask numbers 0 0 0 0 0
  unfolding of_mask
  counted_first = record { first = refl; second = refl }

  pub places_few : places ≤ 4096
  places_few =
      let some : 0 < masks = omega (arith, below) in
      omega (arith, le-mul_of_pos_right places some, whole, given.small)

  pub finite_at : (k : ℕ) → k < length numbers → finite (at numbers k) ≡ true
  finite_at k h = truth (finite (at numbers k)) (any_at _ (length numbers) given.finite k h)

  module _ (nonzero largest next_nonzero next_largest p : ℕ) (t : Counted masks mask numbers nonzero largest next_nonzero next_largest p) where
    -- where the number of the first mask stands
    abbrev e : ℕ
    e = p * masks + mask

    pub counts_few : (nonzero ≤ p) × (next_nonzero ≤ p)
    counts_few = (
      rw t.first at (of_mask_most masks mask numbers p).1,
      rw t.second at (of_mask_most masks (mask + 1) numbers p).1,
    )

    module _ (h : p < places) where
      -- both numbers are there
      pub inside : e + 1 < length numbers
      inside = let l = digits_lt {q = p} {m = places} {r = mask + 1} {c = masks} h below in omega (arith, whole)

      pub counted_next : (size next_size one next_one later next_later : ℕ)
          → size ≡ magnitude (at numbers e) → next_size ≡ magnitude (at numbers (e + 1))
          → one ≡ one_if (not (eqb size 0)) → next_one ≡ one_if (not (eqb next_size 0))
          → later ≡ max largest size → next_later ≡ max next_largest next_size
          → Counted masks mask numbers (nonzero + one) later (next_nonzero + next_one) next_later (p + 1)
      counted_next size next_size one next_one later next_later s s' o o' l l' = record {
        first = mask_next masks mask numbers e p nonzero largest size one later refl t.first s o l;
        second =
            mask_next masks (mask + 1) numbers (e + 1) p next_nonzero next_largest next_size next_one next_later (omega arith)
            t.second s' o' l';
      }

    pub counted_last : p ≡ places
        → (record { entries = places; nonzero = nonzero; largest = largest } ≡ of_mask masks mask numbers places)
        × (record { entries = places; nonzero = next_nonzero; largest = next_largest } ≡ of_mask masks (mask + 1) numbers places)
    counted_last full = (rw (← full) (sym t.first), rw (← full) (sym t.second))
