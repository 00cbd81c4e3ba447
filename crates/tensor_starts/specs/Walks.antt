-- The walk over the lanes of a pass: with inner, middle and outer indices i, m and o, lane (o * middle + m) * inner + i starts at start + o
-- * farthest + m * far + i * near.
use Rattle.std.specs.Prelude.{◌≡◌, Bool, cond, ℕ, ◌+◌, ◌*◌, ◌/◌, ◌%◌, ◌^◌, ◌<◌, ◌≤◌}
use Rattle.rules.specs.Sizes.{most_in_a_tensor, Place, product_below, flat}
use Rattle.grid.specs.GridOfCall.{InRange}
use Rattle.tensor_starts.specs.Starts.{lane_points, lane_place}
use Rattle.tensor_starts.specs.declared.Walk.{Walk}
use Rattle.tensor_starts.specs.declared.Cursor.{Cursor}

-- where lane t of a walk starts
unfoldable pub lane_start : Walk → ℕ → ℕ
lane_start k t = k.start + t / k.inner / k.middle * k.farthest + t / k.inner % k.middle * k.far + t % k.inner * k.near

-- a walk with one axis more, of n points, whose index is the fastest: through all of them, or at one index
unfoldable pub on_one_more : Walk → ℕ → Bool → ℕ → Walk
on_one_more k n through index =
    cond through
    (record {
      lanes = k.lanes * n;
      start = k.start * n;
      inner = n;
      middle = k.inner;
      near = 1;
      far = k.near * n;
      farthest = k.far * n;
    })
    (record {
      lanes = k.lanes;
      start = k.start * n + index;
      inner = k.inner;
      middle = k.middle;
      near = k.near * n;
      far = k.far * n;
      farthest = k.farthest * n;
    })

-- a walk that stays in a tensor
pub record Small (k : Walk) : Type 0 where
  pub lanes : k.lanes ≤ 65536
  pub start : k.start ≤ 65536
  pub near : k.near ≤ 65536
  pub far : k.far ≤ 65536
  pub farthest : k.farthest ≤ 65536

-- axes whose places are no more than a tensor's numbers, a place on them, the axis of the lanes and one of the masks
pub record LanesGiven (axes : ℕ) (n : ℕ → ℕ) (place : Place) (axis mask : ℕ) : Type 0 where
  pub in_range : InRange axes n
  pub small : product_below n axes ≤ most_in_a_tensor
  pub on_the_grid : (j : ℕ) → j < axes → place j < n j
  pub in_use : axis < axes
  pub of_the_grid : mask < 2 ^ axes

-- the walk of a pass, over the numbers at a mask: as many lanes as there are, each where it starts
pub record Walks (n : ℕ → ℕ) (axes : ℕ) (vary : ℕ → Bool) (fixed : Place) (mask : ℕ) (k : Walk) : Type 0 where
  pub lanes_are : k.lanes ≡ product_below (lane_points n vary) axes
  pub starts : (t : ℕ) → t < k.lanes → lane_start k t ≡ flat n axes (lane_place n vary fixed axes t) * 2 ^ axes + mask
  pub some_inner : 0 < k.inner
  pub some_middle : 0 < k.middle
  pub small : Small k

-- the cursor stands at its lane
pub record Stands (c : Cursor) (k : Walk) : Type 0 where
  pub outer : ℕ
  pub inner_below : c.inner < k.inner
  pub middle_below : c.middle < k.middle
  pub lane_is : c.lane ≡ (outer * k.middle + c.middle) * k.inner + c.inner
  pub slab_is : c.slab ≡ k.start + outer * k.farthest
  pub run_is : c.run ≡ c.slab + c.middle * k.far
  pub at_is : c.at ≡ c.run + c.inner * k.near
