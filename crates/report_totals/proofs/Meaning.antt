-- What the definitions mean. The largest magnitude is that of some entry, and none has a larger one. An entry's order is the number of axes
-- along which it is a derivative.
use mathlib.Core.Path.{◌≡◌, refl, sym, ap, ◌∙◌}
use mathlib.Core.Bool.{Bool, true, false}
use mathlib.Core.List.{List, [], ◌∷◌}
use Prim.Native.Nat.{ℕ, zero, suc, ◌+◌, ◌-◌, ◌*◌, ◌^◌, ◌<◌, ◌≤◌, max}
use native.Mathlib.Nat.{pow-suc}
use native.Mathlib.Omega.{arith}
use lib.Count.{ones, ones_cat}
use lib.Dec.{ltb}
use lib.ListN.{length, get_or}
use borrow.Author.Tests.{ltb-true, ltb-false}
use Rattle.rules.specs.Sizes.{sum_below, in_mask}
use Rattle.rules.proofs.Mask.{in_mask_top, in_mask_below, in_mask_above}
use Rattle.rules.proofs.Sums.{sum_ext}
use Rattle.report_totals.specs.Totals.{Entry, magnitude, largest}
use Rattle.report_totals.specs.Counting.{one_if}

-- ---- the largest

pub largest_bounds : (entries : List Entry) (k : ℕ) (d : Entry) → k < length entries
    → magnitude (get_or entries k d).number ≤ largest entries
unfolding largest
largest_bounds [] k d h = absurd (omega arith)
largest_bounds (entry ∷ rest) zero d h = omega arith
largest_bounds (entry ∷ rest) (suc k) d h = omega (arith, largest_bounds rest k d (omega arith))

-- some entry has this magnitude
abbrev Met : List Entry → Entry → ℕ → Type 0
Met entries d size = (k : ℕ) × (k < length entries) × (magnitude (get_or entries k d).number ≡ size)

pub largest_met : (entries : List Entry) (d : Entry) → 0 < length entries → Met entries d (largest entries)
unfolding largest
largest_met [] d h = absurd (omega arith)
largest_met (entry ∷ []) d h = (0, omega arith, omega arith)
largest_met (entry ∷ next ∷ rest) d h =
    go (ltb (magnitude entry.number) (largest (next ∷ rest))) refl (largest_met (next ∷ rest) d (omega arith))
  where
    go : (b : Bool) → ltb (magnitude entry.number) (largest (next ∷ rest)) ≡ b → Met (next ∷ rest) d (largest (next ∷ rest))
        → Met (entry ∷ next ∷ rest) d (max (magnitude entry.number) (largest (next ∷ rest)))
    go true e later =
        let below = ltb-true (magnitude entry.number) (largest (next ∷ rest)) e in
        (suc later.0, omega (arith, later.1), later.2 ∙ omega arith)
    go false e later =
        let above = ltb-false (magnitude entry.number) (largest (next ∷ rest)) e in
        (0, omega arith, omega arith)

-- ---- the order

-- how many of the first so many axes lie in a mask
abbrev axes_in : ℕ → ℕ → ℕ
axes_in mask axes = sum_below (λ i. one_if (in_mask mask i)) axes

one_more : (k mask : ℕ) → mask < 2 ^ k → ones (mask + 2 ^ k) ≡ ones mask + 1
unfolding ones
one_more k mask h =
    let e : mask + 2 ^ k ≡ 1 * 2 ^ k + mask = omega arith in
    ap ones e ∙ ones_cat k 1 mask h ∙ (let o : ones 1 + ones mask ≡ ones mask + 1 = omega arith in o)

ones_of_none : ones 0 ≡ 0
unfolding ones
ones_of_none = refl

pub ones_are_axes : (axes mask : ℕ) → mask < 2 ^ axes → ones mask ≡ axes_in mask axes
unfolding sum_below
ones_are_axes zero mask h = let e : mask ≡ 0 = omega arith in ap ones e ∙ ones_of_none
ones_are_axes (suc k) mask h = go (ltb mask (2 ^ k)) refl (ones_are_axes k)
  where
    go : (b : Bool) → ltb mask (2 ^ k) ≡ b → ((m : ℕ) → m < 2 ^ k → ones m ≡ axes_in m k)
        → ones mask ≡ axes_in mask k + one_if (in_mask mask k)
    go true e rest =
        let below = ltb-true mask (2 ^ k) e in
        rw (in_mask_above k mask k below (omega arith)) (rest mask below ∙ omega arith)
    go false e rest =
        let above = ltb-false mask (2 ^ k) e in
        let p = pow-suc 2 k in
        let m : ℕ = mask - 2 ^ k in
        let small : m < 2 ^ k = omega arith in
        let is : mask ≡ m + 2 ^ k = omega arith in
        let same =
        sum_ext (λ i. one_if (in_mask m i)) (λ i. one_if (in_mask (m + 2 ^ k) i)) k (λ i l. ap one_if (sym (in_mask_below k m i l))) in
        rw (is, in_mask_top k m small) (one_more k m small ∙ rw (rest m small, same))
