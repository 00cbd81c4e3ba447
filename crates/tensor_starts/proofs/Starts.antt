-- The lanes of a pass, numbered from 0: each starts at a place of the grid, and each place that agrees with the fixed one lies on the lane
-- of its number.
use native.Mathlib.Omega.{arith}
use mathlib.Core.Path.{◌≡◌, refl, sym, ap, ◌∙◌, subst}
use mathlib.Core.Bool.{Bool, true, false, cond}
use Prim.Native.Nat.{ℕ, suc, ◌/◌, ◌%◌, ◌<◌}
use Rattle.rules.specs.Sizes.{Place, flat, unflat, product_below}
use Rattle.rules.proofs.Places.{OnGrid, One, flat_below, flat_ext, unflat_last, unflat_before, unflat_flat, flat_unflat, unflat_on_grid}
use Rattle.tensor_starts.specs.Starts.{lane_points, lane_place}

module _ (n : ℕ → ℕ) (vary : ℕ → Bool) where
  pub varying : (j : ℕ) → vary j ≡ true → lane_points n vary j ≡ n j
  unfolding lane_points
  varying j e = ap (λ (b : Bool). cond b (n j) 1) e

  pub fixed_one : (j : ℕ) → vary j ≡ false → lane_points n vary j ≡ 1
  unfolding lane_points
  fixed_one j e = ap (λ (b : Bool). cond b (n j) 1) e

  some_lane_points : (j : ℕ) → 0 < n j → 0 < lane_points n vary j
  unfolding lane_points
  some_lane_points j h = go (vary j)
    where
      go : (b : Bool) → 0 < cond b (n j) 1
      go true = h
      go false = omega arith

  -- the number of the lane that p lies on: by its indices on the axes that vary
  abbrev pub across : Place → Place
  across p j = cond (vary j) (p j) 0

  abbrev pub lane_number : ℕ → Place → ℕ
  lane_number d p = flat (lane_points n vary) d (across p)

  across_on : (d : ℕ) (p : Place) → OnGrid n d p → OnGrid (lane_points n vary) d (across p)
  unfolding lane_points
  across_on d p on j below = go (vary j) (on j below)
    where
      go : (b : Bool) → p j < n j → cond b (p j) 0 < cond b (n j) 1
      go true h = h
      go false h = omega arith

  pub number_below : (d : ℕ) (p : Place) → OnGrid n d p → lane_number d p < product_below (lane_points n vary) d
  number_below d p on = flat_below (lane_points n vary) d (across p) (across_on d p on)

  module _ (fixed : Place) where
    -- lane t's start, axis after axis
    pub start_last : (d t : ℕ) → lane_place n vary fixed (suc d) t d ≡ cond (vary d) (t % lane_points n vary d) (fixed d)
    unfolding lane_place
    start_last d t = rw (unflat_last (lane_points n vary) d t)

    pub start_before : (d t : ℕ) → One d (lane_place n vary fixed (suc d) t) (lane_place n vary fixed d (t / lane_points n vary d))
    unfolding lane_place
    start_before d t j below = rw (unflat_before (lane_points n vary) d t j below)

    -- it lies on the grid
    pub start_on_grid : (d t : ℕ) → OnGrid n d fixed → OnGrid n d (lane_place n vary fixed d t)
    unfolding lane_place
    start_on_grid d t on j below =
        go (vary j) refl
      where
        go : (b : Bool) → vary j ≡ b → cond b (unflat (lane_points n vary) d t j) (fixed j) < n j
        go true e =
            subst (λ (k : ℕ). unflat (lane_points n vary) d t j < k) (varying j e)
            (unflat_on_grid (lane_points n vary) d t (λ i l. some_lane_points i (omega (arith, on i l))) j below)
        go false e = on j below

    -- a place with the start's index on each axis that varies lies on lane t
    pub number_of_start :
        (d t : ℕ) (p : Place) → OnGrid n d fixed → t < product_below (lane_points n vary) d
        → ((j : ℕ) → j < d → vary j ≡ true → p j ≡ lane_place n vary fixed d t j) → lane_number d p ≡ t
    unfolding lane_place
    number_of_start d t p on lt same =
        flat_ext (lane_points n vary) d (across p) (unflat (lane_points n vary) d t) (λ j below. go j below (vary j) refl (same j below))
        ∙ flat_unflat (lane_points n vary) d t (λ j below. some_lane_points j (omega (arith, on j below))) lt
      where
        go : (j : ℕ) → j < d → (b : Bool) → vary j ≡ b
            → (b ≡ true → p j ≡ cond b (unflat (lane_points n vary) d t j) (fixed j)) → cond b (p j) 0 ≡ unflat (lane_points n vary) d t j
        go j below true e s = s refl
        go j below false e s =
            let h : unflat (lane_points n vary) d t j < 1 =
            subst (λ (k : ℕ). unflat (lane_points n vary) d t j < k) (fixed_one j e)
            (unflat_on_grid (lane_points n vary) d t (λ i l. some_lane_points i (omega (arith, on i l))) j below) in
            omega arith

    -- a place that agrees with the fixed one wherever no axis varies is the start of the lane of its number
    pub start_of_number :
        (d : ℕ) (p : Place) → OnGrid n d p → ((j : ℕ) → j < d → vary j ≡ false → p j ≡ fixed j)
        → One d p (lane_place n vary fixed d (lane_number d p))
    unfolding lane_place
    start_of_number d p on same j below = go (vary j) refl (unflat_flat (lane_points n vary) d (across p) (across_on d p on) j below)
      where
        go : (b : Bool) → vary j ≡ b → unflat (lane_points n vary) d (lane_number d p) j ≡ cond b (p j) 0
            → p j ≡ cond b (unflat (lane_points n vary) d (lane_number d p) j) (fixed j)
        go true e back = sym back
        go false e back = same j below e
