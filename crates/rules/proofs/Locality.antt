-- Locality: a tensor number over the axes of a mask is a matter of the samples alone that agree with its place on every axis outside the
-- mask.
use mathlib.Core.Path.{◌≡◌, refl, sym, ap₂, ◌∙◌, subst}
use mathlib.Core.Logic.{◌≢◌}
use mathlib.Core.List.{List}
use mathlib.Core.Bool.{Bool, true, false}
use Prim.Native.Nat.{ℕ, zero, suc, ◌+◌, ◌-◌, ◌^◌, ◌<◌, ◌≤◌}
use native.Mathlib.Omega.{arith}
use native.Mathlib.Nat.{pow-suc}
use lib.Dec.{ltb}
use borrow.Author.Tests.{ltb-true, ltb-false}
use lib.Ieee.{Float}
use Rattle.rules.specs.Ends.{condition_at}
use Rattle.rules.specs.Sizes.{Grid, points, condition, knots, Place, moved, in_mask}
use Rattle.rules.specs.Curve.{lane_slope}
use Rattle.rules.specs.Tensor.{slope_along, entry}
use Rattle.rules.proofs.Cases.{arms_ext, arms_one, not_both}
use Rattle.rules.proofs.Tables.{table_ext}
use Rattle.rules.proofs.Places.{OnGrid, One, moved_off, moved_on_grid, moved_one}
use Rattle.rules.proofs.Mask.{in_mask_top, in_mask_below, in_mask_above}

-- q agrees with p on every axis outside the mask
abbrev pub Agrees : ℕ → Place → Place → Type 0
Agrees mask q p = (j : ℕ) → in_mask mask j ≡ false → q j ≡ p j

-- the mask below 2^i that is left of one from 2^i on
pub rest_below : (i mask : ℕ) → mask < 2 ^ suc i → ltb mask (2 ^ i) ≡ false → mask - 2 ^ i < 2 ^ i
rest_below i mask lt e = omega (arith, pow-suc 2 i, ltb-false mask (2 ^ i) e)

pub rest_and_top : (i mask : ℕ) → ltb mask (2 ^ i) ≡ false → mask - 2 ^ i + 2 ^ i ≡ mask
rest_and_top i mask e = omega (arith, ltb-false mask (2 ^ i) e)

-- an axis outside a mask with i put in is not i, and lies outside the mask
outside_of_both : (i rest j : ℕ) → rest < 2 ^ i → in_mask (rest + 2 ^ i) j ≡ false → (j ≢ i) × (in_mask rest j ≡ false)
outside_of_both i rest j lt off = (other, go (ltb j i) refl)
  where
    other : j ≢ i
    other e = not_both (in_mask (rest + 2 ^ i) i) (in_mask_top i rest lt) (subst (λ (k : ℕ). in_mask (rest + 2 ^ i) k ≡ false) e off)

    go : (b : Bool) → ltb j i ≡ b → in_mask rest j ≡ false
    go true e = sym (in_mask_below i rest j (ltb-true j i e)) ∙ off
    go false e = in_mask_above i rest j lt (ltb-false j i e)

-- what agrees with p moved along i outside the mask agrees with p outside the mask with i put in
agrees_along :
    (i rest k : ℕ) (q p : Place) → rest < 2 ^ i
    → Agrees rest q (moved p i k) → Agrees (rest + 2 ^ i) q p
agrees_along i rest k q p lt agrees j off =
    let both = outside_of_both i rest j lt off in
    agrees j both.1 ∙ moved_off p i k j both.0

-- the slope along an axis reads the lane alone
pub slope_along_ext :
    (g : Grid) (i mask : ℕ) (numbers numbers' : Place → Float) (p p' : Place)
    → p i ≡ p' i
    → ((k : ℕ) → k < points g i → numbers (moved p i k) ≡ numbers' (moved p' i k))
    → slope_along g i mask numbers p ≡ slope_along g i mask numbers' p'
unfolding slope_along
slope_along_ext g i mask numbers numbers' p p' here same =
    ap₂ (λ (l : List Float) (k : ℕ). lane_slope (knots g i) (points g i - 1) (condition_at mask (condition g i)) l k)
    (table_ext (points g i) _ _ same) here

-- ---- an entry's two cases, by its mask

pub entry_low :
    (g : Grid) (samples : Place → Float) (i mask : ℕ) (p : Place) → ltb mask (2 ^ i) ≡ true
    → entry g samples (suc i) mask p ≡ entry g samples i mask p
unfolding entry
entry_low g samples i mask p e = arms_one (ltb mask (2 ^ i)) (λ f. refl) (λ f. not_both (ltb mask (2 ^ i)) e f)

pub entry_high :
    (g : Grid) (samples : Place → Float) (i mask : ℕ) (p : Place) → ltb mask (2 ^ i) ≡ false
    → entry g samples (suc i) mask p ≡ slope_along g i (mask - 2 ^ i) (entry g samples i (mask - 2 ^ i)) p
unfolding entry
entry_high g samples i mask p e = arms_one (ltb mask (2 ^ i)) (λ f. not_both (ltb mask (2 ^ i)) f e) (λ f. refl)

-- Two samplings that agree wherever a place agrees with p outside the mask have one number at p and the mask; p' is p, and q' is q, perhaps
-- written otherwise.
pub locality :
    (g : Grid) (samples samples' : Place → Float) (i mask : ℕ) (p p' : Place)
    → i ≤ g.axes → mask < 2 ^ i → OnGrid (points g) g.axes p → One g.axes p p'
    → ((q q' : Place) → OnGrid (points g) g.axes q → One g.axes q q' → Agrees mask q p → samples q ≡ samples' q')
    → entry g samples i mask p ≡ entry g samples' i mask p'
unfolding entry
locality g samples samples' zero mask p p' le lt on one same = same p p' on one (λ j off. refl)
locality g samples samples' (suc i) mask p p' le lt on one same =
    arms_ext (ltb mask (2 ^ i))
    (λ e. locality g samples samples' i mask p p' (omega arith) (ltb-true mask (2 ^ i) e) on one same)
    (λ e.
    slope_along_ext g i (mask - 2 ^ i) (entry g samples i (mask - 2 ^ i)) (entry g samples' i (mask - 2 ^ i)) p p' (one i le) (λ k below.
    locality g samples samples' i (mask - 2 ^ i) (moved p i k) (moved p' i k) (omega arith) (rest_below i mask lt e)
    (moved_on_grid (points g) g.axes i k p on below) (moved_one g.axes i k p p' one)
    (λ q q' on_q one_q agrees.
    same q q' on_q one_q
    (subst (λ (m : ℕ). Agrees m q p) (rest_and_top i mask e)
    (agrees_along i (mask - 2 ^ i) k q p (rest_below i mask lt e) agrees)))))
