-- A tensor counted mask by mask has the totals of its entries in their own order: sums and maxima do not depend on the order. A place more
-- is an entry more of each mask, so both are shown equal place by place.
use mathlib.Core.Path.{◌≡◌, refl, sym, ap, ◌∙◌}
use mathlib.Core.Bool.{Bool, true, false, not, cond}
use mathlib.Core.List.{List, [], ◌∷◌, ◌++◌, append-nil, append_assoc}
use Prim.Native.Nat.{ℕ, zero, suc, ◌+◌, ◌*◌, ◌%◌, ◌^◌, ◌<◌, ◌≤◌}
use native.Mathlib.Nat.{add-zero, mul-le-mul_right, suc-mul, pow-suc}
use native.Mathlib.Numerals.{add-one}
use native.Mathlib.Omega.{arith}
use lib.Arith.{digits_mod}
use lib.Count.{ones}
use lib.Dec.{eqb}
use lib.Ieee.{Float, nan}
use lib.ListN.{length, get_or, set, take}
use lib.Pow.{pow_pos}
use lib.Seq.{take-suc, take_all}
use borrow.Author.Tests.{eq-eqb, ne_eqb}
use Rattle.rules.specs.Numbers.{at, table}
use Rattle.rules.proofs.Tables.{length_table, at_table, table_of, table_ext}
use Rattle.report_totals.specs.Totals.{Entry, nonzero, of_order, tensor_entries}
use Rattle.report_totals.specs.Counting.{one_if, no_entries, of_one, sum, of_mask, order_totals, orders_of, Room, Tallied}
use Rattle.report_totals.specs.declared.OrderTotals.{OrderTotals}
use Rattle.report_totals.proofs.Lists.{filter_kept, filter_dropped, table_set}
use Rattle.report_totals.proofs.Orders.{totals_parts, order_next, order_most}

one_if_most : (test : Bool) → one_if test ≤ 1
one_if_most true = omega arith
one_if_most false = omega arith

pub one_if_not_zero_most : (size : ℕ) → one_if (not (eqb size 0)) ≤ 1
one_if_not_zero_most size = one_if_most (not (eqb size 0))

-- ---- sums of totals

sum_none : (a : OrderTotals) → a ≡ sum a no_entries
sum_none a = totals_parts _ _ _ _ _ _ (omega arith) (omega arith) (omega arith)

sum_assoc : (a b c : OrderTotals) → sum (sum a b) c ≡ sum a (sum b c)
sum_assoc a b c = totals_parts _ _ _ _ _ _ (omega arith) (omega arith) (omega arith)

sum_across : (a b c d : OrderTotals) → sum (sum a b) (sum c d) ≡ sum (sum a c) (sum b d)
sum_across a b c d = totals_parts _ _ _ _ _ _ (omega arith) (omega arith) (omega arith)

-- of more entries, where they are of the order that is counted
abbrev sum_if : Bool → OrderTotals → OrderTotals → OrderTotals
sum_if test totals more = cond test (sum totals more) totals

sums_across : (test : Bool) (a b c d : OrderTotals) → sum_if test (sum a b) (sum c d) ≡ sum (sum_if test a c) (sum_if test b d)
sums_across true a b c d = sum_across a b c d
sums_across false a b c d = refl

-- a mask has one entry at each place
pub of_mask_most : (masks mask : ℕ) (numbers : List Float) (p : ℕ)
    → ((of_mask masks mask numbers p).entries ≡ p) × ((of_mask masks mask numbers p).nonzero ≤ p)
unfolding of_mask
of_mask_most masks mask numbers zero = (refl, omega arith)
of_mask_most masks mask numbers (suc p) =
    let before = of_mask_most masks mask numbers p in
    let one = one_if_most (nonzero (at numbers (p * masks + mask))) in (omega (arith, before.0), omega (arith, before.1))

-- ---- the entries of one order, place by place and mask by mask

module _ (axes : ℕ) (numbers : List Float) (k : ℕ) where
  abbrev masks : ℕ
  masks = 2 ^ axes

  -- those at one place, of the first masks
  unfoldable at_place : ℕ → ℕ → OrderTotals
  at_place p zero = no_entries
  at_place p (suc m) = sum_if (eqb (ones m) k) (at_place p m) (of_one (at numbers (p * masks + m)))

  -- those at the first places, of the first masks, one mask after the other
  unfoldable pub by_masks : ℕ → ℕ → OrderTotals
  by_masks p zero = no_entries
  by_masks p (suc m) = sum_if (eqb (ones m) k) (by_masks p m) (of_mask masks m numbers p)

  -- one place more is one entry more of each mask
  place_more : (p m : ℕ) → by_masks (suc p) m ≡ sum (by_masks p m) (at_place p m)
  unfolding by_masks at_place of_mask
  place_more p zero = sum_none no_entries
  place_more p (suc m) = rw (place_more p m) (sums_across (eqb (ones m) k) _ _ _ _)

  no_places : (m : ℕ) → by_masks 0 m ≡ no_entries
  unfolding by_masks of_mask
  no_places zero = refl
  no_places (suc m) = rw (no_places m) (go (eqb (ones m) k))
    where
      go : (test : Bool) → sum_if test no_entries no_entries ≡ no_entries
      go true = refl
      go false = refl

  by_masks_most : (p m : ℕ) → ((by_masks p m).entries ≤ m * p) × ((by_masks p m).nonzero ≤ m * p)
  unfolding by_masks
  by_masks_most p zero = (omega arith, omega arith)
  by_masks_most p (suc m) = go (eqb (ones m) k) (by_masks_most p m) (of_mask_most masks m numbers p)
    where
      go : (test : Bool) → ((by_masks p m).entries ≤ m * p) × ((by_masks p m).nonzero ≤ m * p)
          → ((of_mask masks m numbers p).entries ≡ p) × ((of_mask masks m numbers p).nonzero ≤ p)
          → ((sum_if test (by_masks p m) (of_mask masks m numbers p)).entries ≤ suc m * p)
          × ((sum_if test (by_masks p m) (of_mask masks m numbers p)).nonzero ≤ suc m * p)
      go true before own = (omega (arith, before.0, own.0), omega (arith, before.1, own.1))
      go false before own = (omega (arith, before.0), omega (arith, before.1))

  -- ---- the same of the list of entries

  -- the entry at hand
  abbrev entry : ℕ → Entry
  entry e = record { order = ones (e % masks); number = get_or numbers e nan }

  take_next : (e : ℕ) → e < length numbers
      → take (suc e) (tensor_entries axes numbers) ≡ take e (tensor_entries axes numbers) ++ (entry e ∷ [])
  take_next e h =
      let long = length_table (length numbers) entry in
      rw (take-suc (tensor_entries axes numbers) e (entry 0) (omega arith), at_table (length numbers) entry e (entry 0) h)

  module _ (before : List Entry) where
    -- the first so many entries of the tensor behind the others
    abbrev behind : ℕ → List Entry
    behind e = before ++ take e (tensor_entries axes numbers)

    -- what is counted of them
    abbrev counted : ℕ → OrderTotals
    counted e = order_totals (of_order k (behind e))

    with_entry : (e : ℕ) (test : Bool) → eqb (ones (e % masks)) k ≡ test
        → order_totals (of_order k (behind e ++ (entry e ∷ []))) ≡ sum_if test (counted e) (of_one (at numbers e))
    with_entry e true q =
        rw (filter_kept (λ (x : Entry). eqb x.order k) (behind e) (entry e) q) (order_next (of_order k (behind e)) (entry e))
    with_entry e false q = rw (filter_dropped (λ (x : Entry). eqb x.order k) (behind e) (entry e) q)

    entry_more : (e : ℕ) → e < length numbers → counted (suc e) ≡ sum_if (eqb (ones (e % masks)) k) (counted e) (of_one (at numbers e))
    entry_more e h = rw (take_next e h, ← append_assoc) (with_entry e (eqb (ones (e % masks)) k) refl)

    -- a place, mask by mask
    place_counted : (p : ℕ) → suc p * masks ≤ length numbers → (m : ℕ) → m ≤ masks
        → counted (p * masks + m) ≡ sum (counted (p * masks)) (at_place p m)
    unfolding at_place
    place_counted p room zero h = rw (add-zero (p * masks)) (sum_none (counted (p * masks)))
    place_counted p room (suc m) h =
        let e : p * masks + suc m ≡ suc (p * masks + m) = omega arith in
        let inside : p * masks + m < length numbers = omega (arith, suc-mul p masks) in
        ap counted e ∙ entry_more (p * masks + m) inside
        ∙ rw (digits_mod p {m = masks} {r = m} (omega arith), place_counted p room m (omega arith))
        (go (eqb (ones m) k))
      where
        go : (test : Bool) → sum_if test (sum (counted (p * masks)) (at_place p m)) (of_one (at numbers (p * masks + m)))
            ≡ sum (counted (p * masks)) (sum_if test (at_place p m) (of_one (at numbers (p * masks + m))))
        go true = sum_assoc _ _ _
        go false = refl

    -- and place by place
    places_counted : (p : ℕ) → p * masks ≤ length numbers
        → counted (p * masks) ≡ sum (order_totals (of_order k before)) (by_masks p masks)
    places_counted zero room =
        let e : 0 * masks ≡ 0 = omega arith in
        ap counted e ∙ ap (λ (l : List Entry). order_totals (of_order k l)) (append-nil before)
        ∙ rw (no_places masks) (sum_none (order_totals (of_order k before)))
    places_counted (suc p) room =
        let e : suc p * masks ≡ p * masks + masks = suc-mul p masks in
        ap counted e ∙ place_counted p room masks (omega arith)
        ∙ rw (places_counted p (omega arith), place_more p masks) (sum_assoc _ _ _)

-- ---- all orders

-- one axis or more has an even number of masks
pub masks_even : (axes : ℕ) → 1 ≤ axes → (half : ℕ) × (2 ^ axes ≡ 2 * half)
masks_even zero some = absurd (omega arith)
masks_even (suc axes) some = (2 ^ axes, omega (arith, pow-suc 2 axes))

pub five_orders : (orders : List OrderTotals) (n : ℕ) → Room orders n → length orders ≡ 5
unfolding orders_of
five_orders orders n room = rw room.said (length_table 5 (λ k. order_totals (of_order k room.before)))

module _ (orders : List OrderTotals) (axes : ℕ) (numbers : List Float) (places : ℕ) where
  -- an order with the first masks counted
  abbrev so_far : ℕ → ℕ → OrderTotals
  so_far m k = sum (get_or orders k no_entries) (by_masks axes numbers k places m)

  -- so many pairs of masks are counted
  pub record Turn (all : List OrderTotals) (pair : ℕ) : Type 0 where
    pub done : all ≡ table 5 (so_far (2 * pair))

  pub turn_first : length orders ≡ 5 → Turn orders 0
  unfolding by_masks
  turn_first five = record {
    done = table_of no_entries orders 5 five ∙ table_ext 5 _ _ (λ k l. sum_none (get_or orders k no_entries));
  }

  -- one mask more is stored under its order
  mask_stored : (all : List OrderTotals) (m : ℕ) → all ≡ table 5 (so_far m) → ones m < 5 → (later : OrderTotals)
      → later ≡ sum (get_or all (ones m) no_entries) (of_mask (2 ^ axes) m numbers places)
      → set all (ones m) later ≡ table 5 (so_far (suc m))
  unfolding by_masks
  mask_stored all m done small later said =
      rw done
      (table_set no_entries 5 (so_far m) (so_far (suc m)) (ones m) later small
      (said ∙ rw (done, at_table 5 (so_far m) (ones m) no_entries small, eq-eqb (ones m) (ones m) refl) (sum_assoc _ _ _))
      (λ k other. rw (ne_eqb (ones m) k (λ z. other (sym z)))))

  module _ (room : Room orders (places * 2 ^ axes)) where
    -- no order has so many that another mask does not fit
    pub order_room : (all : List OrderTotals) (m : ℕ) → all ≡ table 5 (so_far m) → m ≤ 2 ^ axes → (k : ℕ) → k < 5
        → (mask : ℕ) → let own = of_mask (2 ^ axes) mask numbers places in
        ((get_or all k no_entries).entries + own.entries < 2 ^ 64) × ((get_or all k no_entries).nonzero + own.nonzero < 2 ^ 64)
    order_room all m done below k small mask =
        let most = order_most room.before k small in
        let counted = by_masks_most axes numbers k places m in
        let more = of_mask_most (2 ^ axes) mask numbers places in
        let all_masks = mul-le-mul_right places below in
        let one_mask = mul-le-mul_right places (pow_pos axes) in
        let few = room.few in
        rw (done, at_table 5 (so_far m) k no_entries small, room.said) (omega arith, omega arith)

  module _ (all : List OrderTotals) (pair : ℕ) (t : Turn all pair) (h : 2 * pair + 1 < 2 ^ axes) (first : OrderTotals)
      (first_is : first ≡ of_mask (2 ^ axes) (2 * pair) numbers places) (k : ℕ) (k_is : k ≡ ones (2 * pair)) (small : k < 5) where
    abbrev mask : ℕ
    mask = 2 * pair

    pub first_room : Room orders (places * 2 ^ axes)
        → ((get_or all k no_entries).entries + first.entries < 2 ^ 64) × ((get_or all k no_entries).nonzero + first.nonzero < 2 ^ 64)
    first_room room = rw first_is (order_room room all mask t.done (omega arith) k small mask)

    module _ (later : OrderTotals) (later_is : later ≡ sum (get_or all k no_entries) first) where
      half_done : set all k later ≡ table 5 (so_far (suc mask))
      half_done = rw k_is (mask_stored all mask t.done (rw k_is at small) later (later_is ∙ rw (k_is, first_is)))

      module _ (second : OrderTotals) (second_is : second ≡ of_mask (2 ^ axes) (mask + 1) numbers places) (next : ℕ)
          (next_is : next ≡ ones (mask + 1)) (next_small : next < 5) where
        pub second_room : Room orders (places * 2 ^ axes)
            → ((get_or (set all k later) next no_entries).entries + second.entries < 2 ^ 64)
            × ((get_or (set all k later) next no_entries).nonzero + second.nonzero < 2 ^ 64)
        second_room room = rw second_is (order_room room (set all k later) (suc mask) half_done (omega arith) next next_small (mask + 1))

        pub turn_next : (last : OrderTotals) → last ≡ sum (get_or (set all k later) next no_entries) second
            → Turn (set (set all k later) next last) (pair + 1)
        turn_next last last_is =
            let e = add-one mask in
            let own : next ≡ ones (suc mask) = next_is ∙ ap ones e in
            let two : 2 * (pair + 1) ≡ suc (suc mask) = omega arith in
            record {
              done =
                  rw (two, own)
                  (mask_stored (set all k later) (suc mask) half_done (rw own at next_small) last
                  (last_is ∙ rw (second_is, own, e)));
            }

  pub turn_last : (all : List OrderTotals) (pair : ℕ) → Turn all pair → 2 * pair ≡ 2 ^ axes → places * 2 ^ axes ≡ length numbers
      → Tallied orders (tensor_entries axes numbers) all
  unfolding orders_of
  turn_last all pair t full whole before said =
      let long = length_table (length numbers) (entry axes numbers 0) in
      t.done ∙ table_ext 5 _ _ (λ k l.
      let own : get_or orders k no_entries ≡ order_totals (of_order k before) =
      rw said (at_table 5 (λ j. order_totals (of_order j before)) k no_entries l) in
      let masked : so_far (2 * pair) k ≡ sum (order_totals (of_order k before)) (by_masks axes numbers k places (2 ^ axes)) = rw (full, own) in
      masked ∙ sym (places_counted axes numbers k before places (omega arith))
      ∙ ap (λ (l : List Entry). order_totals (of_order k (before ++ l)))
      (take_all (places * 2 ^ axes) (tensor_entries axes numbers) (omega arith)))
