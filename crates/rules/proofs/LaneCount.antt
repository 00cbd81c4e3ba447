-- The lanes of a change are as many as the closed sum over the axes says, on every grid and for every changed place on it.
use mathlib.Core.Path.{◌≡◌, refl, sym, ap, ap₂, ◌∙◌}
use mathlib.Core.Logic.{◌≢◌, ⊎_elim}
use mathlib.Core.Bool.{Bool, true, false, cond, ◌&&◌, ◌||◌, and-false}
use mathlib.Core.List.{List, [], ◌∷◌, ◌++◌}
use Prim.Native.Nat.{ℕ, zero, suc, ◌+◌, ◌-◌, ◌*◌, ◌/◌, ◌%◌, ◌^◌, ◌<◌, ◌≤◌}
use native.Mathlib.Omega.{arith}
use native.Mathlib.Nat.{
  zero-add,
  add-zero,
  add-suc,
  suc-add,
  add_assoc,
  add-sub_of_le,
  zero-mul,
  one-mul,
  mul-one,
  mul_comm,
  two-pow-succ,
  le_of_suc-le-suc,
  eq-or-lt_of_le,
}
use native.Mathlib.Numerals.{one-add}
use lib.Dec.{eqb}
use lib.ListN.{length}
use borrow.Author.Tests.{eqb-true, eqb-false, eq-eqb, ne_eqb}
use Rattle.rules.specs.Numbers.{table, table_from, filter}
use Rattle.rules.specs.Sizes.{Grid, points, sum_below, product_below, samples_length, Place, moved, unflat, in_mask}
use Rattle.rules.specs.Change.{agree, can_differ, Lane, starts, lanes_from, lanes_along, lanes_below, change_lanes, lane_sum}
use Rattle.rules.proofs.Places.{OnGrid, moved_on_grid, unflat_last, unflat_before}
use Rattle.rules.proofs.Mask.{in_mask_top, in_mask_below, in_mask_above}
use Rattle.rules.proofs.Sums.{sum_ext, sum_same, sum_digits, product_stops, points_product, sum_of_points_products}

-- how many numbers below n pass a test
abbrev one_if : Bool → ℕ
one_if b = cond b 1 0

abbrev count : (ℕ → Bool) → ℕ → ℕ
count test n = sum_below (λ k. one_if (test k)) n

one_if_both : (a b : Bool) → one_if (a && b) ≡ one_if a * one_if b
one_if_both true b = rw one-mul
one_if_both false b = rw zero-mul

-- one number below n is c
count_equal : (c n : ℕ) → c < n → count (λ k. eqb k c) n ≡ 1
unfolding sum_below
count_equal c zero h = absurd (omega arith)
count_equal c (suc n) h = go (eqb n c) refl (λ l. count_equal c n l)
  where
    go : (b : Bool) → eqb n c ≡ b → (c < n → count (λ k. eqb k c) n ≡ 1) → count (λ k. eqb k c) n + one_if b ≡ 1
    go true e before =
        let none : count (λ k. eqb k c) n ≡ n * 0 =
        sum_ext _ (λ k. 0) n (λ k l. rw (ne_eqb k c (omega (arith, eqb-true n c e)))) ∙ sum_same 0 n in
        omega arith
    go false e before = rw add-zero (before (let other : n ≢ c = eqb-false n c e in omega arith))

-- the indices on an axis of n points that agree with c: any, where the axis is set free
count_on_axis : (free : Bool) (c n : ℕ) → c < n → count (λ k. free || eqb k c) n ≡ cond free n 1
count_on_axis true c n h = sum_same 1 n ∙ mul-one n
count_on_axis false c n h = count_equal c n h

-- agreement by the same test on each axis
agree_ext : (free free' : ℕ → Bool) (d : ℕ) (p q p' q' : Place)
    → ((j : ℕ) → j < d → (free j || eqb (p j) (q j)) ≡ (free' j || eqb (p' j) (q' j)))
    → agree free d p q ≡ agree free' d p' q'
unfolding agree
agree_ext free free' zero p q p' q' same = refl
agree_ext free free' (suc d) p q p' q' same =
    ap₂ ◌&&◌ (same d (omega arith)) (agree_ext free free' d p q p' q' (λ j l. same j (omega arith)))

-- the place of a flat number agrees: by its remainder on the last axis, and by its quotient on the axes before
agree_digits : (n : ℕ → ℕ) (free : ℕ → Bool) (d : ℕ) (q : Place) (f : ℕ)
    → one_if (agree free (suc d) (unflat n (suc d) f) q)
    ≡ one_if (free d || eqb (f % n d) (q d)) * one_if (agree free d (unflat n d (f / n d)) q)
unfolding agree
agree_digits n free d q f =
    rw (
      unflat_last,
      one_if_both,
      agree_ext free free d (unflat n (suc d) f) q (unflat n d (f / n d)) q (λ j l. rw (unflat_before n d f j l)),
    )

-- the places of a grid that agree with one of them: any index on an axis set free, and one on any other
count_agreeing : (n : ℕ → ℕ) (free : ℕ → Bool) (d : ℕ) (q : Place) → OnGrid n d q
    → count (λ f. agree free d (unflat n d f) q) (product_below n d) ≡ product_below (λ j. cond (free j) (n j) 1) d
unfolding sum_below product_below agree
count_agreeing n free zero q on_grid = refl
count_agreeing n free (suc d) q on_grid =
    sum_ext _ _ (product_below n d * n d) (λ f l. agree_digits n free d q f)
    ∙ sum_digits (λ k. one_if (free d || eqb k (q d))) (λ f. one_if (agree free d (unflat n d f) q)) (product_below n d) (n d)
    ∙ ap₂ ◌*◌ (count_on_axis (free d) (q d) (n d) (on_grid d (omega arith))) (count_agreeing n free d q (λ j l. on_grid j (omega arith)))
    ∙ mul_comm _ _

and_left_comm : (a b c : Bool) → (a && (b && c)) ≡ (b && (a && c))
and_left_comm true b c = refl
and_left_comm false b c = sym (and-false b)

-- the start of a lane along axis i that can differ agrees, outside the lane's mask, with the changed place moved to index 0
start_agrees : (i mask d : ℕ) (p changed : Place) → mask < 2 ^ i → i < d
    → (eqb (p i) 0 && agree (in_mask (mask + 2 ^ i)) d p changed) ≡ agree (in_mask mask) d p (moved changed i 0)
unfolding agree
start_agrees i mask zero p changed h l = absurd (omega arith)
start_agrees i mask (suc d) p changed h l =
    ⊎_elim
    (λ e. rw (← e, in_mask_top i mask h, in_mask_above i mask i h (omega arith), eq-eqb i i refl)
    (ap (λ (b : Bool). eqb (p i) 0 && b)
    (agree_ext (in_mask (mask + 2 ^ i)) (in_mask mask) i p changed p (moved changed i 0)
    (λ j below. rw (in_mask_below i mask j below, ne_eqb j i (omega arith))))))
    (λ later. rw (
      in_mask_above (suc i) (mask + 2 ^ i) d (omega (arith, two-pow-succ i)) later,
      in_mask_above i mask d h (omega arith),
      ne_eqb d i (omega arith),
      ← start_agrees i mask d p changed h later,
    )
    (and_left_comm (eqb (p i) 0) (eqb (p d) (changed d)) _))
    (eq-or-lt_of_le (le_of_suc-le-suc l))

-- how many numbers start a lane along axis i, of one mask, that can differ
count_starts : (n : ℕ → ℕ) (i mask d : ℕ) (changed : Place) → mask < 2 ^ i → i < d → OnGrid n d changed
    → count (λ f. eqb (unflat n d f i) 0 && agree (in_mask (mask + 2 ^ i)) d (unflat n d f) changed) (product_below n d)
    ≡ points_product n mask i
count_starts n i mask d changed h l on_grid =
    sum_ext _ _ _ (λ f below. ap one_if (start_agrees i mask d (unflat n d f) changed h l))
    ∙ count_agreeing n (in_mask mask) d (moved changed i 0)
    (moved_on_grid n d i 0 changed on_grid (omega (arith, on_grid i l)))
    ∙ rw (← add-sub_of_le {n = d} {m = i} (omega arith))
    (product_stops _ i (d - i) (λ j above. rw (in_mask_above i mask j h above)))

module _ {A : Type 0} (test : A → Bool) where
  -- how many elements of a list pass a test
  abbrev passing : List A → ℕ
  passing list = length (filter test list)

  passing_cons : (a : A) (rest : List A) → passing (a ∷ rest) ≡ one_if (test a) + passing rest
  unfolding filter
  passing_cons a rest = go (test a)
    where
      go : (b : Bool) → length (cond b (a ∷ filter test rest) (filter test rest)) ≡ one_if b + passing rest
      go true = rw one-add
      go false = rw zero-add

  passing_append : (xs ys : List A) → passing (xs ++ ys) ≡ passing xs + passing ys
  unfolding filter
  passing_append [] ys = rw zero-add
  passing_append (a ∷ xs) ys = rw (passing_cons a (xs ++ ys), passing_append xs ys, ← add_assoc, ← passing_cons a xs)

abbrev lane_at : ℕ → ℕ → ℕ → Lane
lane_at i mask f = record { axis = i; mask = mask; start = f }

module _ (test : Lane → Bool) (may_start : ℕ → Bool) (i mask : ℕ) where
  -- how many numbers below n may start a lane, along axis i and of one mask, that passes a test
  abbrev lanes_passing : ℕ → ℕ
  lanes_passing n = count (λ f. may_start f && test (lane_at i mask f)) n

  -- the same as a list, one number after another
  passing_next : (b : Bool) (f : ℕ) (fs : List ℕ)
      → passing test (lanes_from i mask (cond b (f ∷ fs) fs))
      ≡ one_if (b && test (lane_at i mask f)) + passing test (lanes_from i mask fs)
  unfolding lanes_from
  passing_next true f fs = passing_cons test (lane_at i mask f) (lanes_from i mask fs)
  passing_next false f fs = rw zero-add

  passing_after : (n a : ℕ)
      → lanes_passing a + passing test (lanes_from i mask (filter may_start (table_from n a (λ f. f)))) ≡ lanes_passing (a + n)
  unfolding filter lanes_from sum_below
  passing_after zero a = simp add-zero
  passing_after (suc n) a =
      rw (add-suc, passing_next (may_start a) a (filter may_start (table_from n (suc a) (λ f. f))), ← add_assoc)
      (rw suc-add at (passing_after n (suc a)))

  passing_from : (n : ℕ) → passing test (lanes_from i mask (filter may_start (table n (λ f. f)))) ≡ lanes_passing n
  unfolding sum_below
  passing_from n = simp zero-add at (passing_after n 0)

-- whether a lane can differ
abbrev differs : Grid → Place → Lane → Bool
differs g changed lane = can_differ g changed lane.axis lane.mask (unflat (points g) g.axes lane.start)

module _ (g : Grid) (changed : Place) (on_grid : (i : ℕ) → i < g.axes → changed i < points g i) where
  -- how many lanes along axis i, of the masks below k, can differ
  count_along : (i k : ℕ) → i < g.axes → k ≤ 2 ^ i
      → passing (differs g changed) (lanes_along g i k) ≡ sum_below (λ mask. points_product (points g) mask i) k
  unfolding lanes_along starts filter can_differ sum_below
  count_along i zero h l = refl
  count_along i (suc k) h l =
      passing_append (differs g changed) (lanes_along g i k) (lanes_from i k (starts g i))
      ∙ ap₂ ◌+◌ (count_along i k h (omega arith))
      (passing_from (differs g changed) (λ f. eqb (unflat (points g) g.axes f i) 0) i k (samples_length g)
      ∙ count_starts (points g) i k g.axes changed l h on_grid)

  -- and how many along the axes below i
  count_below : (i : ℕ) → i ≤ g.axes → passing (differs g changed) (lanes_below g i) ≡ lane_sum (points g) i
  unfolding lanes_below filter lane_sum
  count_below zero h = refl
  count_below (suc i) h =
      passing_append (differs g changed) (lanes_below g i) (lanes_along g i (2 ^ i))
      ∙ ap₂ ◌+◌ (count_below i (omega arith)) (count_along i (2 ^ i) h (omega arith) ∙ sum_of_points_products (points g) i)

-- of all axes: the lanes of a change are as many as the closed sum
pub lane_count : (g : Grid) (changed : Place) → ((i : ℕ) → i < g.axes → changed i < points g i)
    → length (change_lanes g changed) ≡ lane_sum (points g) g.axes
unfolding change_lanes
lane_count g changed on_grid = count_below g changed on_grid g.axes (omega arith)
