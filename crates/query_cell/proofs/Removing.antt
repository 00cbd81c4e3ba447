-- The turns of `remove_runs`, on plain lists: each blends a run. Together the runs are the cell without its first axis.
use native.Mathlib.Omega.{arith}
use mathlib.Core.Path.{◌≡◌, refl, sym, ap, ap₂, ◌∙◌}
use mathlib.Core.Logic.{◌≢◌, ⊎_elim}
use mathlib.Core.Bool.{Bool, true, false}
use mathlib.Core.List.{List, ◌++◌}
use Prim.Native.Nat.{ℕ, zero, suc, ◌+◌, ◌-◌, ◌*◌, ◌/◌, ◌%◌, ◌^◌, ◌<◌, ◌≤◌}
use native.Mathlib.Nat.{
  add-mul,
  suc-mul,
  mul_assoc,
  mul-le-mul_right,
  add-sub_cancel_left,
  eq-or-lt_of_le,
  le_of_suc-le-suc,
  div-add-mod',
  div-lt_iff_lt-mul,
  mod-lt,
}
use native.Mathlib.Numerals.{add-one}
use lib.Arith.{digits_div, digits_mod}
use lib.Pow.{pow_pos}
use lib.Dec.{ltb}
use lib.ListN.{length, set, take, drop, length-append, length-drop, get_or-append}
use lib.Seq.{length-take-le, get_or-take, get_or-append-add, get_or-set_same}
use lib.Ieee.{Float, nan}
use borrow.Author.Tests.{ltb-true, ltb-false}
use Rattle.rules.specs.Numbers.{at}
use Rattle.rules.specs.Sizes.{Place, flat, product_below}
use Rattle.rules.specs.Query.{corner}
use Rattle.rules.proofs.Places.{OnGrid, flat_below}
use Rattle.rules.proofs.Cells.{four_power}
use Rattle.grid.specs.Strides.{stride}
use Rattle.grid.proofs.Corners.{side_by_side}
use Rattle.query_blend.specs.Blend.{weighted_at, RunGiven, RunBlended, ByFours, Smaller, Blended}
use Rattle.query_blend.specs.declared.Weights.{Weights}
use Rattle.query_cell.specs.Points.{CellAt, numbers, SpotsOf, run_start, run_above, RunsGiven, RunsRemoved, FirstRemoved, Removed}
use Rattle.query_cell.specs.declared.Spots.{Spots}
use Rattle.query_cell.proofs.Runs.{run_at, corner_above}

-- ---- a part of a list replaced by another of the same length

module _ (old new : List Float) (a k : ℕ) (room : a + k ≤ length old) (exact : length new ≡ k) where
  abbrev replaced : List Float
  replaced = take a old ++ (new ++ drop k (drop a old))

  before : length (take a old) ≡ a
  before = length-take-le a old (omega arith)

  replaced_length : length replaced ≡ length old
  replaced_length = simp (length-append, before, length-drop) (omega arith)

  replaced_before : (e : ℕ) → e < a → at replaced e ≡ at old e
  replaced_before e h =
      get_or-append (take a old) (new ++ drop k (drop a old)) nan e (omega (arith, before)) ∙ get_or-take a old e nan h

  replaced_within : (e : ℕ) → e < k → at replaced (a + e) ≡ at new e
  replaced_within e h =
      ap (λ (n : ℕ). at replaced (n + e)) (sym before)
      ∙ get_or-append-add (take a old) (new ++ drop k (drop a old)) e nan
      ∙ get_or-append new (drop k (drop a old)) nan e (omega arith)

-- ---- two corners of the cell

module _ (axes : ℕ) (n : ℕ → ℕ) (tensor : List Float) (lower : Place) (masks : ℕ) (power : masks ≡ 2 ^ axes) where
  -- where the numbers of a corner stand
  cell_at : (bits k : ℕ) → k < masks
      → numbers axes n tensor lower (bits * masks + k) ≡ at tensor (flat n axes (corner axes lower bits) * masks + k)
  cell_at bits k h = rw (← power, digits_div bits h, digits_mod bits h) refl

  module _ (bits : ℕ) (even : bits % 2 ≡ 0) (some : 1 ≤ axes) where
    abbrev place : ℕ
    place = flat n axes (corner axes lower bits)

    -- .. and those of an even one and the next
    two_corners : (k : ℕ) → k < 2 * masks → numbers axes n tensor lower (bits * masks + k) ≡ at tensor (place * masks + k)
    two_corners k h = go (ltb k masks) refl
      where
        go : (b : Bool) → ltb k masks ≡ b → numbers axes n tensor lower (bits * masks + k) ≡ at tensor (place * masks + k)
        go true e = cell_at bits k (ltb-true k masks e)
        go false e =
            let from : masks ≤ k = ltb-false k masks e in
            let left : bits * masks + k ≡ (bits + 1) * masks + (k - masks) = omega (arith, add-mul bits 1 masks) in
            let right : suc place * masks + (k - masks) ≡ place * masks + k = omega (arith, suc-mul place masks) in
            rw left
            (cell_at (bits + 1) (k - masks) (omega arith)
            ∙ ap (λ (p : ℕ). at tensor (p * masks + (k - masks))) (side_by_side lower bits even n axes some)
            ∙ ap (λ (s : ℕ). at tensor s) right)

-- ---- the powers of two to four axes

-- masks, runs, and the numbers that are left
pub record Counts (axes masks runs size : ℕ) : Type 0 where
  pub runs_of_four : 4 * runs ≡ masks
  pub all_runs : runs * masks ≡ size
  pub few : size ≤ 64
  pub few_masks : masks ≤ 16

pub counts : (axes : ℕ) → 2 ≤ axes → axes ≤ 4 → Counts axes (2 ^ axes) (2 ^ axes / 4) (4 ^ (axes - 1))
counts zero some few = absurd (omega arith)
counts (suc zero) some few = absurd (omega arith)
counts (suc (suc zero)) some few = record { runs_of_four = refl; all_runs = refl; few = omega arith; few_masks = omega arith }
counts (suc (suc (suc zero))) some few = record { runs_of_four = refl; all_runs = refl; few = omega arith; few_masks = omega arith }
counts (suc (suc (suc (suc zero)))) some few = record { runs_of_four = refl; all_runs = refl; few = omega arith; few_masks = omega arith }
counts (suc (suc (suc (suc (suc axes))))) some few = absurd (omega arith)

-- ---- the turns

module _ (cell₀ : List Float) (axes : ℕ) (spots : Spots) (tensor : List Float) (w : Weights) (masks : ℕ) where
  -- a number of a run
  abbrev run_number : ℕ → ℕ → Float
  run_number run k = weighted_at w (at tensor) (run_start spots run + 2 * k) (run_above spots run + 2 * k)

  -- the runs below `run` are blended
  pub record Turn (cell : List Float) (run : ℕ) : Type 0 where
    pub given : RunsGiven axes spots tensor
    pub power : masks ≡ 2 ^ axes
    pub exact : length cell₀ ≡ 4 ^ (axes - 1)
    pub same_length : length cell ≡ length cell₀
    pub done : (r k : ℕ) → r < run → k < masks → at cell (r * masks + k) ≡ run_number r k

  module _ (cell : List Float) (run : ℕ) (turn : Turn cell run) (lt : run < masks / 4) where
    these : Counts axes (2 ^ axes) (2 ^ axes / 4) (4 ^ (axes - 1))
    these = counts axes turn.given.two_axes turn.given.few_axes

    below : run < 2 ^ axes / 4
    below = rw (← turn.power) lt

    to_more : (run + 1) * masks ≡ run * masks + masks
    to_more = omega (arith, add-mul run 1 masks)

    in_all : run * masks + masks ≤ 4 ^ (axes - 1)
    in_all =
        omega (
          arith,
          to_more,
          these.all_runs,
          ap (λ (x : ℕ). 2 ^ axes / 4 * x) turn.power,
          mul-le-mul_right {m = run + 1} {n = 2 ^ axes / 4} masks (omega (arith, below)),
        )

    -- what the slices have room for in one turn
    pub record Room : Type 0 where
      pub to : run * masks + masks ≤ length cell
      pub few : length cell ≤ 64
      pub there : run_above spots run + 2 * masks ≤ length tensor
      pub small : length tensor ≤ 4096

    pub room : Room
    room = record {
      to = omega (arith, in_all, turn.exact, turn.same_length);
      few = omega (arith, these.few, turn.exact, turn.same_length);
      there = rw turn.power (turn.given.there run below);
      small = turn.given.few;
    }

    -- the part of the cell that is lent
    abbrev part : List Float
    part = take (run * masks + masks - run * masks) (drop (run * masks) cell)

    part_length : length part ≡ masks
    part_length = rw add-sub_cancel_left (length-take-le masks (drop (run * masks) cell) (rw length-drop (omega (arith, room.to))))

    pub run_given : RunGiven (length part) tensor (run_start spots run) (run_above spots run)
    run_given = rw part_length (record {
      fours = omega (arith, these.runs_of_four, turn.power);
      lower_there = omega (arith, room.there);
      upper_there = room.there;
      few = room.small;
    })

    module _ (new : List Float) (is : RunBlended (length part) tensor (run_start spots run) (run_above spots run) w new) where
      abbrev later : List Float
      later = take (run * masks) cell ++ (new ++ drop (run * masks + masks - run * masks) (drop (run * masks) cell))

      new_length : length new ≡ masks
      new_length = is.same_length ∙ part_length

      later_length : length later ≡ length cell
      later_length = rw (add-sub_cancel_left (run * masks) masks) (replaced_length cell new (run * masks) masks room.to new_length)

      later_before : (e : ℕ) → e < run * masks → at later e ≡ at cell e
      later_before e h =
          rw (add-sub_cancel_left (run * masks) masks) (replaced_before cell new (run * masks) masks room.to new_length e h)

      later_within : (k : ℕ) → k < masks → at later (run * masks + k) ≡ at new k
      later_within k h =
          rw (add-sub_cancel_left (run * masks) masks) (replaced_within cell new (run * masks) masks room.to new_length k h)

      earlier : (r k : ℕ) → r < run → k < masks → r * masks + k < run * masks
      earlier r k h l = omega (arith, add-mul r 1 masks, mul-le-mul_right {m = r + 1} {n = run} masks (omega arith))

      done_next : (r k : ℕ) → r < run + 1 → k < masks → at later (r * masks + k) ≡ run_number r k
      done_next r k h l =
          ⊎_elim
          (λ e. rw e (later_within k l ∙ is.number k (omega (arith, part_length))))
          (λ less. later_before (r * masks + k) (earlier r k less l) ∙ turn.done r k less l)
          (eq-or-lt_of_le (le_of_suc-le-suc (rw add-one at h)))

      pub turn_next : Turn later (run + 1)
      turn_next = record {
        given = turn.given;
        power = turn.power;
        exact = turn.exact;
        same_length = later_length ∙ turn.same_length;
        done = done_next;
      }

-- ---- what the runs are of the cell

-- a cell of two axes or more, and where its numbers stand
module _ (axes : ℕ) (n : ℕ → ℕ) (lower : Place) (tensor : List Float) (spots : Spots) (inside : CellAt axes n lower) (two : 2 ≤ axes)
    (exact : length tensor ≡ product_below n axes * 2 ^ axes) (spotted : SpotsOf axes n lower spots) where
  abbrev X : ℕ → Float
  X = numbers axes n tensor lower

  -- how many of its numbers stand at a corner, and how many are left without the first axis
  abbrev masks : ℕ
  masks = 2 ^ axes

  abbrev size : ℕ
  size = 4 ^ (axes - 1)

  powers : Counts axes masks (masks / 4) size
  powers = counts axes two inside.few_axes

  on_grid : (bits : ℕ) → OnGrid n axes (corner axes lower bits)
  unfolding corner
  on_grid bits i h = omega (arith, inside.upper i h)

  -- there are two places from a corner with even bits on
  two_places : (bits : ℕ) → bits % 2 ≡ 0 → flat n axes (corner axes lower bits) + 2 ≤ product_below n axes
  two_places bits even =
      omega (
        arith,
        side_by_side lower bits even n axes inside.some_axes,
        flat_below n axes (corner axes lower (bits + 1)) (on_grid (bits + 1)),
      )

  within : (bits : ℕ) → bits % 2 ≡ 0 → flat n axes (corner axes lower bits) * masks + 2 * masks ≤ length tensor
  within bits even =
      omega (arith, exact, add-mul (flat n axes (corner axes lower bits)) 2 masks, mul-le-mul_right masks (two_places bits even))

  module _ (run : ℕ) (lt : run < masks / 4) where
    -- the number of the run's first corner, and of that above it on the first axis
    abbrev near_bits : ℕ
    near_bits = 2 * run

    abbrev far_bits : ℕ
    far_bits = 2 * run + masks / 2

    even_near : near_bits % 2 ≡ 0
    even_near = omega arith

    even_far : far_bits % 2 ≡ 0
    even_far = omega (arith, powers.runs_of_four)

    start_is : run_start spots run ≡ flat n axes (corner axes lower near_bits) * masks
    start_is =
        rw (spotted.first, spotted.next, spotted.last, run_at n lower run axes two inside.few_axes lt)
        (omega (
          arith,
          add-mul (flat n axes lower + run / 2 * stride n axes 1) (run % 2 * stride n axes (axes - 2)) masks,
          add-mul (flat n axes lower) (run / 2 * stride n axes 1) masks,
          mul_assoc (run / 2) (stride n axes 1) masks,
          mul_assoc (run % 2) (stride n axes (axes - 2)) masks,
        ))

    above_is : run_above spots run ≡ flat n axes (corner axes lower far_bits) * masks
    above_is =
        ap₂ ◌+◌ start_is spotted.above
        ∙ rw (corner_above n lower run axes two inside.few_axes lt)
        (sym (add-mul (flat n axes (corner axes lower near_bits)) (stride n axes 0) masks))

    there : run_above spots run + 2 * masks ≤ length tensor
    there = rw above_is (within far_bits even_far)

    -- where a number of the lower half of the cell stands, and one of the upper
    lower_half : (k b : ℕ) → 2 * k + b < 2 * masks → X (2 * (run * masks + k) + b) ≡ at tensor (run_start spots run + 2 * k + b)
    lower_half k b h =
        let place : 2 * (run * masks + k) + b ≡ near_bits * masks + (2 * k + b) = omega (arith, mul_assoc 2 run masks) in
        let spot : run_start spots run + 2 * k + b ≡ flat n axes (corner axes lower near_bits) * masks + (2 * k + b) =
        omega (arith, start_is) in
        ap X place ∙ two_corners axes n tensor lower masks refl near_bits even_near inside.some_axes (2 * k + b) h
        ∙ ap (at tensor) (sym spot)

    upper_half : (k b : ℕ) → 2 * k + b < 2 * masks → X (2 * size + 2 * (run * masks + k) + b) ≡ at tensor (run_above spots run + 2 * k + b)
    upper_half k b h =
        let half : masks / 2 ≡ 2 * (masks / 4) = omega (arith, powers.runs_of_four) in
        let halves : masks / 2 * masks ≡ 2 * size = rw half (omega (arith, mul_assoc 2 (masks / 4) masks, powers.all_runs)) in
        let place : 2 * size + 2 * (run * masks + k) + b ≡ far_bits * masks + (2 * k + b) =
        omega (arith, mul_assoc 2 run masks, add-mul (2 * run) (masks / 2) masks, halves) in
        let spot : run_above spots run + 2 * k + b ≡ flat n axes (corner axes lower far_bits) * masks + (2 * k + b) =
        omega (arith, above_is) in
        ap X place ∙ two_corners axes n tensor lower masks refl far_bits even_far inside.some_axes (2 * k + b) h
        ∙ ap (at tensor) (sym spot)

    module _ (k : ℕ) (h : k < masks) where
      lower_value : X (2 * (run * masks + k)) ≡ at tensor (run_start spots run + 2 * k)
      lower_value =
          let place : 2 * (run * masks + k) ≡ 2 * (run * masks + k) + 0 = omega arith in
          let spot : run_start spots run + 2 * k + 0 ≡ run_start spots run + 2 * k = omega arith in
          ap X place ∙ lower_half k 0 (omega arith) ∙ ap (at tensor) spot

      upper_value : X (2 * size + 2 * (run * masks + k)) ≡ at tensor (run_above spots run + 2 * k)
      upper_value =
          let place : 2 * size + 2 * (run * masks + k) ≡ 2 * size + 2 * (run * masks + k) + 0 = omega arith in
          let spot : run_above spots run + 2 * k + 0 ≡ run_above spots run + 2 * k = omega arith in
          ap X place ∙ upper_half k 0 (omega arith) ∙ ap (at tensor) spot

      run_is : (w : Weights)
          → weighted_at w (at tensor) (run_start spots run + 2 * k) (run_above spots run + 2 * k)
          ≡ weighted_at w X (2 * (run * masks + k)) (2 * size + 2 * (run * masks + k))
      run_is w = cc (lower_value, lower_half k 1 (omega arith), upper_value, upper_half k 1 (omega arith))

  pub runs_given : RunsGiven axes spots tensor
  runs_given = record { two_axes = two; few_axes = inside.few_axes; there = there; few = omega (arith, exact, inside.small) }

  -- without the first axis the cell is what the runs leave
  left_of_cell : (w : Weights) (left : List Float) → RunsRemoved axes spots tensor w left → Smaller w size X left
  left_of_cell w left removed e h =
      let some : 0 < masks = pow_pos axes in
      let split : e / masks * masks + e % masks ≡ e = div-add-mod' e masks in
      let part : e % masks < masks = mod-lt e some in
      let run : e / masks < masks / 4 = (div-lt_iff_lt-mul some).1 (rw powers.all_runs h) in
      ap (at left) (sym split)
      ∙ removed.number (e / masks) (e % masks) run part
      ∙ run_is (e / masks) run (e % masks) part w
      ∙ ap (λ (x : ℕ). weighted_at w X (2 * x) (2 * size + 2 * x)) split

  -- so it is where they stand in the front of a longer list
  pub first_removed :
      (w : Weights) (cell left : List Float) → size ≤ length cell → RunsRemoved axes spots tensor w left
      → Smaller w size X (take 0 cell ++ (left ++ drop size (drop 0 cell)))
  first_removed w cell left room removed e h =
      let from : 0 + e ≡ e = omega arith in
      ap (at (take 0 cell ++ (left ++ drop size (drop 0 cell)))) (sym from)
      ∙ replaced_within cell left 0 size (omega arith) removed.exact e h
      ∙ left_of_cell w left removed e h

-- two axes have one run, of four numbers
module _ (spots : Spots) (tensor : List Float) where
  pub one_run_given : RunsGiven 2 spots tensor → RunGiven 4 tensor spots.first (spots.first + spots.above)
  one_run_given given =
      let there = given.there 0 (omega arith) in
      record { fours = refl; lower_there = omega arith; upper_there = omega arith; few = given.few }

  module _ (w : Weights) (left : List Float) (is : RunBlended 4 tensor spots.first (spots.first + spots.above) w left) where
    run_number_is :
        (run k : ℕ) → run < 1 → k < 4
        → at left (run * 4 + k) ≡ weighted_at w (at tensor) (run_start spots run + 2 * k) (run_above spots run + 2 * k)
    run_number_is (suc run) k h l = absurd (omega arith)
    run_number_is zero k h l =
        let from : 0 * 4 + k ≡ k = omega arith in
        ap (at left) from ∙ is.number k l ∙ ap₂ (weighted_at w (at tensor)) (omega arith) (omega arith)

    pub one_run : RunsRemoved 2 spots tensor w left
    one_run = record { exact = is.same_length; number = run_number_is }

-- one axis: its four numbers stand side by side
pub only_removed :
    (n : ℕ → ℕ) (tensor : List Float) (lower : Place) (w : Weights) (cell : List Float) → 0 < length cell
    → Smaller w 1 (numbers 1 n tensor lower) (set cell 0 (weighted_at w (at tensor) (2 * lower 0) (2 * lower 0 + 2)))
unfolding flat corner
only_removed n tensor lower w cell room e h =
    let X : ℕ → Float = numbers 1 n tensor lower in
    let p0 : at tensor (2 * lower 0) ≡ X 0 = ap (at tensor) (omega arith) in
    let m0 : at tensor (2 * lower 0 + 1) ≡ X 1 = ap (at tensor) (omega arith) in
    let p1 : at tensor (2 * lower 0 + 2) ≡ X 2 = ap (at tensor) (omega arith) in
    let m1 : at tensor (2 * lower 0 + 2 + 1) ≡ X 3 = ap (at tensor) (omega arith) in
    let none : e ≡ 0 = omega arith in
    rw none
    (get_or-set_same cell 0 (weighted_at w (at tensor) (2 * lower 0) (2 * lower 0 + 2)) nan room ∙ rw (p0, m0, p1, m1) refl)

pub one_within :
    (axes : ℕ) (n : ℕ → ℕ) (lower : Place) (tensor : List Float) → axes ≡ 1 → CellAt axes n lower
    → length tensor ≡ product_below n axes * 2 ^ axes
    → (2 * lower 0 + 4 ≤ length tensor) × (length tensor ≤ 4096)
unfolding product_below
one_within axes n lower tensor one inside exact =
    let upper : lower 0 + 1 < n 0 = inside.upper 0 (omega arith) in
    let all : length tensor ≡ 1 * n 0 * 2 = exact ∙ rw one refl in
    (omega arith, omega (arith, inside.small, exact))

-- neither one, nor two, nor three
pub four_axes : (axes : ℕ) (n : ℕ → ℕ) (lower : Place) → CellAt axes n lower → axes ≢ 1 → axes ≢ 2 → axes ≢ 3 → axes ≡ 4
four_axes axes n lower inside one two three = omega (arith, inside.some_axes, inside.few_axes)

-- ---- the lowest of the axes that are left

-- in the cell there is room for it
pub in_place :
    (axes left half : ℕ) → 1 ≤ left → left ≤ axes → axes ≤ 4 → left ≢ axes → half ≡ 2 ^ (left - 1)
    → (4 * (half * half) ≤ 64) × ByFours (half * half)
in_place axes zero half some few most other is = absurd (omega arith)
in_place axes (suc zero) half some few most other is =
    let one : half ≡ 1 = is in (rw one (omega arith), rw one (λ more. absurd (more refl)))
in_place axes (suc (suc zero)) half some few most other is =
    let two : half ≡ 2 = is in (rw two (omega arith), rw two (λ more. refl))
in_place axes (suc (suc (suc zero))) half some few most other is =
    let four : half ≡ 4 = is in (rw four (omega arith), rw four (λ more. refl))
in_place axes (suc (suc (suc (suc left)))) half some few most other is = absurd (other (omega arith))

module _ (axes left : ℕ) (points lower : List ℕ) (tensor : List Float) (w : Weights) (cell later : List Float) where
  pub removed_first : left ≡ axes → FirstRemoved axes points lower tensor w later → Removed axes left points lower tensor w cell later
  removed_first same removed = record { first = λ all. removed; further = λ other. absurd (other same) }

  -- one axis in all is the one that is left
  pub removed_only :
      axes ≡ 1 → 1 ≤ left → left ≤ axes → FirstRemoved 1 points lower tensor w later → Removed axes left points lower tensor w cell later
  removed_only one some few removed = removed_first (omega arith) (rw one removed)

  pub removed_further :
      (half : ℕ) → left ≢ axes → half ≡ 2 ^ (left - 1) → Blended cell later (half * half) w
      → Removed axes left points lower tensor w cell later
  removed_further half other is removed =
      let size : half * half ≡ 4 ^ (left - 1) = rw is (sym (four_power (left - 1))) in
      record { first = λ all. absurd (other all); further = λ fewer. rw size at removed.smaller }

-- ---- the last of two

last_smaller :
    (w : Weights) (cell : List Float) (r : Float) → r ≡ weighted_at w (at cell) 0 2 → 0 < length cell → Smaller w 1 (at cell) (set cell 0 r)
last_smaller w cell r is room e h = let none : e ≡ 0 = omega arith in rw none (get_or-set_same cell 0 r nan room ∙ is)

-- of two axes the second is removed in the cell, and one number is left
pub removed_last :
    (left : ℕ) (points lower : List ℕ) (tensor : List Float) (w : Weights) (cell : List Float) (r : Float) → left ≢ 2 → 1 ≤ left → left ≤ 2
    → r ≡ weighted_at w (at cell) 0 2 → 0 < length cell → Removed 2 left points lower tensor w cell (set cell 0 r)
removed_last left points lower tensor w cell r other some few is room =
    let one : left ≡ 1 = omega arith in
    record { first = λ all. absurd (other all); further = λ fewer. rw one (last_smaller w cell r is room) }
