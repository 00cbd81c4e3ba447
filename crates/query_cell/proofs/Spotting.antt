-- Where a cell's numbers stand, counted from the last axis back: each axis is as many times as far apart as the next as that has points.
use native.Mathlib.Omega.{arith}
use mathlib.Core.Path.{◌≡◌, ap, ◌∙◌}
use Prim.Native.Nat.{ℕ, suc, ◌+◌, ◌-◌, ◌*◌, ◌^◌, ◌<◌, ◌≤◌}
use native.Mathlib.Nat.{add-mul, mul_assoc, mul_comm, mul_right_comm, mul-le-mul_right}
use Rattle.rules.specs.Sizes.{Place, moved, flat, product_below}
use Rattle.rules.proofs.Places.{OnGrid, moved_on_grid, flat_below}
use Rattle.grid.specs.Strides.{stride}
use Rattle.grid.proofs.Strides.{stride_last}
use Rattle.query_cell.specs.Points.{CellAt, SpotsOf}
use Rattle.query_cell.specs.declared.Spots.{Spots}
use Rattle.query_cell.proofs.Apart.{raised, stride_before}

-- ---- from an axis to the one before it

-- how far apart neighbours are on the last axis, and on the one before another
last_apart : (n : ℕ → ℕ) (d masks : ℕ) → masks ≡ stride n (suc d) d * masks
last_apart n d masks = rw (stride_last n d) (omega arith)

apart_before : (n : ℕ → ℕ) (d i masks apart : ℕ) → suc i < d → apart ≡ stride n d (suc i) * masks → apart * n (suc i) ≡ stride n d i * masks
apart_before n d i masks apart lt is =
    rw (is, mul_right_comm (stride n d (suc i)) masks (n (suc i))) (ap (λ (x : ℕ). x * masks) (stride_before n d i lt))

-- the index on the last axis counts by itself
flat_before : (n : ℕ → ℕ) (lower : Place) (i apart : ℕ) → flat n (suc i) lower * apart ≡ flat n i lower * (apart * n i) + lower i * apart
unfolding flat
flat_before n lower i apart =
    omega (
      arith,
      add-mul (flat n i lower * n i) (lower i) apart,
      mul_assoc (flat n i lower) (n i) apart ∙ ap (λ (x : ℕ). flat n i lower * x) (mul_comm (n i) apart),
    )

flat_none : (n : ℕ → ℕ) (lower : Place) (apart : ℕ) → flat n 0 lower * apart ≡ 0
unfolding flat
flat_none n lower apart = omega arith

-- ---- the spots of a cell of two axes, of three, and of four, as the code works them out

module _ (n : ℕ → ℕ) (lower : Place) where
  abbrev pub two : Spots
  two = record { first = lower 0 * (4 * n 1) + 4 * lower 1; above = 4 * n 1; next = 4; last = 4 * n 1 }

  pub spots_of_two : SpotsOf 2 n lower two
  spots_of_two =
      let next : 4 ≡ stride n 2 1 * 4 = last_apart n 1 4 in
      let above : 4 * n 1 ≡ stride n 2 0 * 4 = apart_before n 2 0 4 4 (omega arith) next in
      record {
        first =
            omega (
              arith,
              flat_before n lower 1 4,
              flat_before n lower 0 (4 * n 1),
              flat_none n lower (4 * n 1 * n 0),
            );
        above = above;
        next = next;
        last = above;
      }

  abbrev pub three : Spots
  three =
      record {
        first = lower 0 * (8 * n 2 * n 1) + lower 1 * (8 * n 2) + 8 * lower 2;
        above = 8 * n 2 * n 1;
        next = 8 * n 2;
        last = 8 * n 2;
      }

  pub spots_of_three : SpotsOf 3 n lower three
  spots_of_three =
      let next : 8 * n 2 ≡ stride n 3 1 * 8 = apart_before n 3 1 8 8 (omega arith) (last_apart n 2 8) in
      record {
        first =
            omega (
              arith,
              flat_before n lower 2 8,
              flat_before n lower 1 (8 * n 2),
              flat_before n lower 0 (8 * n 2 * n 1),
              flat_none n lower (8 * n 2 * n 1 * n 0),
            );
        above = apart_before n 3 0 8 (8 * n 2) (omega arith) next;
        next = next;
        last = next;
      }

  abbrev pub four : Spots
  four = record {
    first = lower 0 * (16 * n 3 * n 2 * n 1) + lower 1 * (16 * n 3 * n 2) + lower 2 * (16 * n 3) + 16 * lower 3;
    above = 16 * n 3 * n 2 * n 1;
    next = 16 * n 3 * n 2;
    last = 16 * n 3;
  }

  pub spots_of_four : SpotsOf 4 n lower four
  spots_of_four =
      let last : 16 * n 3 ≡ stride n 4 2 * 16 = apart_before n 4 2 16 16 (omega arith) (last_apart n 3 16) in
      let next : 16 * n 3 * n 2 ≡ stride n 4 1 * 16 = apart_before n 4 1 16 (16 * n 3) (omega arith) last in
      record {
        first =
            omega (
              arith,
              flat_before n lower 3 16,
              flat_before n lower 2 (16 * n 3),
              flat_before n lower 1 (16 * n 3 * n 2),
              flat_before n lower 0 (16 * n 3 * n 2 * n 1),
              flat_none n lower (16 * n 3 * n 2 * n 1 * n 0),
            );
        above = apart_before n 4 0 16 (16 * n 3 * n 2) (omega arith) next;
        next = next;
        last = last;
      }

-- ---- all of them are small

pub record Small (spots : Spots) : Type 0 where
  pub first : spots.first ≤ 4096
  pub above : spots.above ≤ 4096
  pub next : spots.next ≤ 4096
  pub last : spots.last ≤ 4096

module _ (axes : ℕ) (n : ℕ → ℕ) (lower : Place) (inside : CellAt axes n lower) where
  on_grid : OnGrid n axes lower
  on_grid i h = omega (arith, inside.upper i h)

  places_small : (k : ℕ) → k ≤ product_below n axes → k * 2 ^ axes ≤ 4096
  places_small k h = omega (arith, inside.small, mul-le-mul_right (2 ^ axes) h)

  -- the neighbour on an axis is on the grid too
  apart_small : (i : ℕ) → i < axes → stride n axes i * 2 ^ axes ≤ 4096
  apart_small i h =
      places_small (stride n axes i)
      (omega (
        arith,
        raised n axes i 1 lower h,
        flat_below n axes (moved lower i (lower i + 1)) (moved_on_grid n axes i (lower i + 1) lower on_grid (inside.upper i h)),
      ))

  spots_small : (spots : Spots) → 2 ≤ axes → SpotsOf axes n lower spots → Small spots
  spots_small spots two_axes spotted = record {
    first = rw spotted.first (places_small (flat n axes lower) (omega (arith, flat_below n axes lower on_grid)));
    above = rw spotted.above (apart_small 0 (omega arith));
    next = rw spotted.next (apart_small 1 (omega arith));
    last = rw spotted.last (apart_small (axes - 2) (omega arith));
  }

module _ (n : ℕ → ℕ) (lower : Place) where
  pub two_small : CellAt 2 n lower → Small (two n lower)
  two_small inside = spots_small 2 n lower inside (two n lower) (omega arith) (spots_of_two n lower)

  pub three_small : CellAt 3 n lower → Small (three n lower)
  three_small inside = spots_small 3 n lower inside (three n lower) (omega arith) (spots_of_three n lower)

  pub four_small : CellAt 4 n lower → Small (four n lower)
  four_small inside = spots_small 4 n lower inside (four n lower) (omega arith) (spots_of_four n lower)
