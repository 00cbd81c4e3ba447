-- The working tensor before the passes and after them: what was stored, and the tensor of the definitions.
use native.Mathlib.Omega.{arith}
use native.Mathlib.Nat.{div-lt_iff_lt-mul, div-add-mod', mod-lt, add-zero}
use mathlib.Core.Path.{◌≡◌, refl, sym, ap, ◌∙◌}
use mathlib.Core.Logic.{◌≢◌}
use mathlib.Core.List.{List}
use mathlib.Core.Bool.{Bool, true, false, cond}
use Prim.Native.Nat.{ℕ, zero, suc, ◌+◌, ◌-◌, ◌*◌, ◌/◌, ◌%◌, ◌^◌, ◌<◌, ◌≤◌}
use lib.Arith.{digits_lt}
use lib.Dec.{ltb}
use lib.ListN.{take, drop}
use lib.Pow.{pow_pos}
use lib.Ieee.{Float}
use borrow.Author.Tests.{ltb-true, ltb-false}
use Rattle.rules.specs.Numbers.{at, table}
use Rattle.rules.specs.Sizes.{Grid, points, masks, tensor_length, samples_length, Place, moved, flat, spot}
use Rattle.rules.specs.Tensor.{entry, sample, tensor, place_at, mask_at}
use Rattle.rules.specs.Change.{agree, can_differ, with_sample, changed_entry, changed_tensor}
use Rattle.rules.proofs.Cases.{arms_ext, arms_one, not_both}
use Rattle.rules.proofs.Places.{moved_on_grid, flat_below, flat_ext, flat_one, flat_unflat, unflat_on_grid}
use Rattle.rules.proofs.Locality.{rest_below, slope_along_ext}
use Rattle.tensor_lane.proofs.Parts.{part_is_table}
use Rattle.tensor_starts.specs.Starts.{free}
use Rattle.tensor_starts.proofs.Agreement.{agree_at, agree_all}
use Rattle.tensor_passes.specs.Passes.{solves, working, WorkGiven, refreshed, Refreshed}
use Rattle.grid.specs.GridOfCall.{On}
use Rattle.tensor_passes.proofs.Pass.{digits_one}

module _ (g : Grid) where
  -- ---- the numbers after the passes

  -- every lane solved: the numbers of a build
  module _ (place : Place) (old : Place → ℕ → Float) (samples : Place → Float) (stored : (p : Place) → On g p → old p 0 ≡ samples p) where
    every_lane : (target : ℕ) (p : Place) → solves g true place target p ≡ true
    unfolding solves free
    every_lane target p = agree_all (λ j. true) p place g.axes (λ j below off. not_both true refl off)

    refreshed_is_entry :
        (i mask : ℕ) (p : Place) → i ≤ g.axes → mask < 2 ^ i → On g p → refreshed g true place old i mask p ≡ entry g samples i mask p
    unfolding refreshed entry
    refreshed_is_entry zero mask p le lt on = stored p on
    refreshed_is_entry (suc i) mask p le lt on =
        arms_ext (ltb mask (2 ^ i))
        (λ low. refreshed_is_entry i mask p (omega arith) (ltb-true mask (2 ^ i) low) on)
        (λ high.
        arms_one (solves g true place (mask - 2 ^ i + 2 ^ i) p)
        (λ solved.
        slope_along_ext g i (mask - 2 ^ i) (refreshed g true place old i (mask - 2 ^ i)) (entry g samples i (mask - 2 ^ i)) p p refl
        (λ k below.
        refreshed_is_entry i (mask - 2 ^ i) (moved p i k) (omega arith) (rest_below i mask lt high)
        (moved_on_grid (points g) g.axes i k p on below)))
        (λ left. not_both (solves g true place (mask - 2 ^ i + 2 ^ i) p) (every_lane (mask - 2 ^ i + 2 ^ i) p) left))

  -- the lanes that can differ solved: the numbers of a change
  module _
      (changed : Place) (v : Float) (old old' : Place → ℕ → Float)
      (stored : (p : Place) → On g p → old' p 0 ≡ with_sample g (λ q. old q 0) changed v p)
      (kept : (p : Place) (mask : ℕ) → On g p → mask < masks g → 0 < mask → old' p mask ≡ old p mask)
    where
      refreshed_is_changed :
          (i mask : ℕ) (p : Place) → i ≤ g.axes → mask < 2 ^ i → mask < masks g → On g p
          → refreshed g false changed old' i mask p ≡ changed_entry g changed v old i mask p
      unfolding refreshed changed_entry solves can_differ free
      refreshed_is_changed zero mask p le lt small on = stored p on
      refreshed_is_changed (suc i) mask p le lt small on =
          arms_ext (ltb mask (2 ^ i))
          (λ low. refreshed_is_changed i mask p (omega arith) (ltb-true mask (2 ^ i) low) small on)
          (λ high.
          arms_ext (can_differ g changed i (mask - 2 ^ i) p)
          (λ solved.
          slope_along_ext g i (mask - 2 ^ i) (refreshed g false changed old' i (mask - 2 ^ i))
          (changed_entry g changed v old i (mask - 2 ^ i)) p p refl
          (λ k below.
          refreshed_is_changed i (mask - 2 ^ i) (moved p i k) (omega arith) (rest_below i mask lt high) (omega arith)
          (moved_on_grid (points g) g.axes i k p on below)))
          (λ left. kept p mask on small (omega (arith, pow_pos i, ltb-false mask (2 ^ i) high))))

  -- ---- the working tensor as a list

  module _ (w : List Float) (given : WorkGiven g w) where
    some : (j : ℕ) → j < g.axes → 0 < points g j
    some j below = omega (arith, given.in_range.some_points j below)

    -- a number of the tensor, by its place and its mask
    number_at : (e : ℕ) → e < tensor_length g → e ≡ spot g (place_at g e) (mask_at g e)
    number_at e lt =
        sym (ap (λ (f : ℕ). f * masks g + e % masks g)
        (flat_unflat (points g) g.axes (e / masks g) some ((div-lt_iff_lt-mul (pow_pos g.axes)).1 lt))
        ∙ div-add-mod' e (masks g))

    working_list :
        (t : Place → ℕ → Float) → ((p : Place) (mask : ℕ) → On g p → mask < masks g → working g w p mask ≡ t p mask)
        → take (tensor_length g) (drop 2048 w) ≡ table (tensor_length g) (λ e. t (place_at g e) (mask_at g e))
    working_list t holds =
        part_is_table w 2048 (tensor_length g) (omega (arith, given.room)) (λ e. t (place_at g e) (mask_at g e)) (λ e lt.
        ap (λ (x : ℕ). at w (2048 + x)) (number_at e lt)
        ∙ holds (place_at g e) (mask_at g e) (unflat_on_grid (points g) g.axes (e / masks g) some) (mod-lt e (pow_pos g.axes)))

  module _ (w w' : List Float) (given : WorkGiven g w') where
    -- the samples stored and every lane solved: the tensor of a build
    pub built :
        (place : Place) (samples : List Float) → ((p : Place) → On g p → working g w p 0 ≡ sample g samples p)
        → Refreshed g w w' true place g.axes → take (tensor_length g) (drop 2048 w') ≡ tensor g samples
    unfolding tensor
    built place samples stored after =
        working_list w' given (λ p mask. entry g (sample g samples) g.axes mask p) (λ p mask on small.
        after.done p mask on small small
        ∙ refreshed_is_entry place (working g w) (sample g samples) stored g.axes mask p (omega arith) small on)

    -- one sample stored and the lanes that can differ solved: the tensor of a change
    pub changed_is :
        (changed : Place) (v : Float) (old : List Float)
        → ((p : Place) → On g p → working g w p 0 ≡ with_sample g (λ q. at old (spot g q 0)) changed v p)
        → ((p : Place) (mask : ℕ) → On g p → mask < masks g → 0 < mask → working g w p mask ≡ at old (spot g p mask))
        → Refreshed g w w' false changed g.axes → take (tensor_length g) (drop 2048 w') ≡ changed_tensor g changed v old
    unfolding changed_tensor
    changed_is changed v old stored kept after =
        working_list w' given (λ p mask. changed_entry g changed v (λ q m. at old (spot g q m)) g.axes mask p) (λ p mask on small.
        after.done p mask on small small
        ∙ refreshed_is_changed changed v (λ q m. at old (spot g q m)) (working g w) stored kept g.axes mask p (omega arith) small small
        on)

  -- ---- the working tensor before the passes

  inside : (p : Place) (mask : ℕ) → On g p → mask < masks g → spot g p mask < tensor_length g
  inside p mask on small = digits_lt (flat_below (points g) g.axes p on) small

  -- the samples stored at mask 0
  pub samples_stored :
      (w samples : List Float) → ((f : ℕ) → f < samples_length g → at w (2048 + f * masks g) ≡ at samples f)
      → (p : Place) → On g p → working g w p 0 ≡ sample g samples p
  unfolding sample
  samples_stored w samples stored p on = rw add-zero (stored (flat (points g) g.axes p) (flat_below (points g) g.axes p on))

  -- a new sample over a copy of the tensor
  module _
      (w old : List Float) (changed : Place) (v : Float) (on_changed : On g changed)
      (new : at w (2048 + spot g changed 0) ≡ v)
      (copied : (e : ℕ) → e < tensor_length g → e ≢ spot g changed 0 → at w (2048 + e) ≡ at old e)
    where
      one_spot : (p : Place) (mask : ℕ) → mask < masks g → spot g p mask ≡ spot g changed 0
          → (flat (points g) g.axes p ≡ flat (points g) g.axes changed) × (mask ≡ 0)
      one_spot p mask small e =
          digits_one (masks g) (flat (points g) g.axes p) (flat (points g) g.axes changed) mask 0 small (pow_pos g.axes) e

      pub sample_stored : (p : Place) → On g p → working g w p 0 ≡ with_sample g (λ q. at old (spot g q 0)) changed v p
      unfolding with_sample
      sample_stored p on = go (agree (λ j. false) g.axes p changed) refl
        where
          go : (b : Bool) → agree (λ j. false) g.axes p changed ≡ b → working g w p 0 ≡ cond b v (at old (spot g p 0))
          go true e =
              ap (λ (f : ℕ). at w (2048 + (f * masks g + 0)))
              (flat_ext (points g) g.axes p changed (λ j below. agree_at (λ k. false) p changed g.axes e j below refl))
              ∙ new
          go false e =
              copied (spot g p 0) (inside p 0 on (pow_pos g.axes)) (λ same.
              not_both (agree (λ j. false) g.axes p changed)
              (agree_all (λ k. false) p changed g.axes (λ j below off.
              flat_one (points g) g.axes p changed on on_changed (one_spot p 0 (pow_pos g.axes) same).0 j below))
              e)

      pub others_kept : (p : Place) (mask : ℕ) → On g p → mask < masks g → 0 < mask → working g w p mask ≡ at old (spot g p mask)
      others_kept p mask on small some =
          copied (spot g p mask) (inside p mask on small) (λ same. absurd (omega (arith, (one_spot p mask small same).1)))
