-- What `walk_over` computes, axis after axis: how many lanes there are, and where each starts.
use native.Mathlib.Omega.{arith}
use native.Mathlib.Nat.{
  div-one,
  mul-one,
  add-mul,
  mul_assoc,
  mul-pos,
  mul-le-mul,
  mul-le-mul_right,
  le_trans,
  le_refl,
  lt_of_lt_of_le,
  pow-le-pow_right,
  div-eq_of_lt,
  mod-eq_of_lt,
  div-lt_iff_lt-mul,
}
use native.Mathlib.Numerals.{add-one}
use mathlib.Core.Path.{◌≡◌, refl, sym, ap, ◌∙◌}
use mathlib.Core.Logic.{◌≢◌}
use mathlib.Core.Bool.{Bool, true, false, cond}
use Prim.Native.Nat.{ℕ, zero, suc, ◌+◌, ◌*◌, ◌/◌, ◌%◌, ◌^◌, ◌<◌, ◌≤◌}
use lib.Arith.{digits_lt, lt_of_le-ne}
use lib.Dec.{ltb, lit<}
use borrow.Author.Tests.{ltb-true, ltb-false}
use Rattle.rules.specs.Sizes.{Place, moved, flat, product_below}
use Rattle.rules.proofs.Places.{OnGrid, moved_on_grid, flat_ext}
use Rattle.grid.proofs.Products.{product_grows}
use Rattle.tensor_starts.specs.Starts.{lane_points, lane_place}
use Rattle.tensor_starts.specs.Walks.{lane_start, on_one_more, Small, LanesGiven, Walks}
use Rattle.tensor_starts.specs.declared.Walk.{Walk}
use Rattle.tensor_starts.proofs.Starts.{varying, fixed_one, start_last, start_before}

-- no more lanes than places
pub lanes_most : (n : ℕ → ℕ) (vary : ℕ → Bool) (d : ℕ) → ((j : ℕ) → j < d → 0 < n j)
    → product_below (lane_points n vary) d ≤ product_below n d
unfolding product_below lane_points
lanes_most n vary zero some = le_refl 1
lanes_most n vary (suc d) some = mul-le-mul (lanes_most n vary d (λ j l. some j (omega arith))) (go (vary d))
  where
    go : (b : Bool) → cond b (n d) 1 ≤ n d
    go true = le_refl (n d)
    go false = some d (omega arith)

-- ---- where a lane starts, by the last of the first d + 1 axes

module _ (n : ℕ → ℕ) (vary : ℕ → Bool) (fixed : Place) where
  -- the number of the place where lane t starts, on the first d axes
  abbrev pub begin : ℕ → ℕ → ℕ
  begin d t = flat n d (lane_place n vary fixed d t)

  begin_step : (d t : ℕ) → begin (suc d) t ≡ begin d (t / lane_points n vary d) * n d + cond (vary d) (t % lane_points n vary d) (fixed d)
  unfolding flat
  begin_step d t = rw (start_last n vary fixed d t, flat_ext n d _ _ (start_before n vary fixed d t))

  begin_through : (d t : ℕ) → vary d ≡ true → begin (suc d) t ≡ begin d (t / n d) * n d + t % n d
  begin_through d t e = begin_step d t ∙ rw (e, varying n vary d e)

  begin_beside : (d t : ℕ) → vary d ≡ false → begin (suc d) t ≡ begin d t * n d + fixed d
  begin_beside d t e = begin_step d t ∙ rw (e, fixed_one n vary d e, div-one)

-- ---- where a lane of a walk starts, with one axis more

spread : (s a x b y c z n : ℕ) → (s + a * x + b * y + c * z) * n ≡ s * n + a * (x * n) + b * (y * n) + c * (z * n)
spread s a x b y c z n = simp (add-mul, mul_assoc)

pub start_beside : (k : Walk) (n index t : ℕ) → lane_start (on_one_more k n false index) t ≡ lane_start k t * n + index
unfolding lane_start on_one_more
start_beside k n index t =
    omega (arith, spread k.start (t / k.inner / k.middle) k.farthest (t / k.inner % k.middle) k.far (t % k.inner) k.near n)

-- of a walk through two axes at most
two_deep :
    (k : Walk) (t : ℕ) → 0 < k.inner → t < k.middle * k.inner
    → lane_start k t ≡ k.start + 0 * k.farthest + t / k.inner * k.far + t % k.inner * k.near
unfolding lane_start
two_deep k t some less =
    let below : t / k.inner < k.middle = (div-lt_iff_lt-mul some).1 less in
    rw (div-eq_of_lt below, mod-eq_of_lt below)

pub start_through :
    (k : Walk) (n index t : ℕ) → 0 < k.inner → t / n < k.middle * k.inner
    → lane_start (on_one_more k n true index) t ≡ lane_start k (t / n) * n + t % n
unfolding lane_start on_one_more
start_through k n index t some less =
    rw (two_deep k (t / n) some less)
    (omega (arith, spread k.start 0 k.farthest (t / n / k.inner) k.far (t / n % k.inner) k.near n))

-- ---- the turns of `walk_over`

-- the walk over the lanes of the first j axes; at most three of four vary, since the lanes' own does not
pub record Walked (n : ℕ → ℕ) (vary : ℕ → Bool) (fixed : Place) (axis j : ℕ) (k : Walk) : Type 0 where
  pub lanes_are : k.lanes ≡ product_below (lane_points n vary) j
  pub starts : (t : ℕ) → t < k.lanes → lane_start k t ≡ begin n vary fixed j t
  pub some_inner : 0 < k.inner
  pub some_middle : 0 < k.middle
  pub start_below : k.start < product_below n j
  pub near_most : k.near ≤ product_below n j
  pub far_most : k.far ≤ product_below n j
  pub farthest_most : k.farthest ≤ product_below n j
  pub depth : ℕ
  pub depth_most : depth ≤ j
  pub own_apart : axis < j → depth < j
  pub at_none : depth < 1 → k.lanes ≤ 1
  pub at_one : depth < 2 → k.lanes ≤ k.inner
  pub at_two : depth < 3 → k.lanes ≤ k.middle * k.inner

module _ (n : ℕ → ℕ) (vary : ℕ → Bool) (fixed : Place) (axis : ℕ) where
  pub walked_first : Walked n vary fixed axis 0 (record { lanes = 1; start = 0; inner = 1; middle = 1; near = 0; far = 0; farthest = 0 })
  unfolding product_below lane_start flat
  walked_first = record {
    lanes_are = refl;
    starts = λ t less. omega arith;
    some_inner = omega arith;
    some_middle = omega arith;
    start_below = omega arith;
    near_most = omega arith;
    far_most = omega arith;
    farthest_most = omega arith;
    depth = 0;
    depth_most = omega arith;
    own_apart = λ less. absurd (omega arith);
    at_none = λ less. omega arith;
    at_one = λ less. omega arith;
    at_two = λ less. omega arith;
  }

  module _ (j : ℕ) (k : Walk) (walked : Walked n vary fixed axis j k) (some : 0 < n j) where
    abbrev product : ℕ
    product = product_below n j

    further : (stride : ℕ) → stride ≤ product → stride * n j ≤ product_below n (suc j)
    unfolding product_below
    further stride most = mul-le-mul_right (n j) most

    some_places : 1 ≤ product_below n (suc j)
    unfolding product_below
    some_places = mul-pos (let s : 0 < product = omega (arith, walked.start_below) in s) some

    placed : (index : ℕ) → index < n j → k.start * n j + index < product_below n (suc j)
    unfolding product_below
    placed index below = digits_lt walked.start_below below

    through : (index : ℕ) → vary j ≡ true → j ≢ axis → walked.depth < 3 → Walked n vary fixed axis (suc j) (on_one_more k (n j) true index)
    unfolding on_one_more product_below
    through index e other deep = record {
      lanes_are = rw (varying n vary j e, walked.lanes_are);
      starts = λ t less.
          let before : t / n j < k.lanes = (div-lt_iff_lt-mul some).1 less in
          start_through k (n j) index t walked.some_inner (lt_of_lt_of_le before (walked.at_two deep))
          ∙ ap (λ (f : ℕ). f * n j + t % n j) (walked.starts (t / n j) before)
          ∙ sym (begin_through n vary fixed j t e);
      some_inner = some;
      some_middle = walked.some_inner;
      start_below = omega (arith, placed 0 some);
      near_most = some_places;
      far_most = further k.near walked.near_most;
      farthest_most = further k.far walked.far_most;
      depth = suc walked.depth;
      depth_most = omega (arith, walked.depth_most);
      own_apart =
          λ less. let apart = walked.own_apart (lt_of_le-ne (let l : axis ≤ j = omega arith in l) (λ is. other (sym is))) in omega arith;
      at_none = λ less. absurd (omega arith);
      at_one = λ less. le_trans (mul-le-mul_right (n j) (walked.at_none (omega arith))) (omega arith);
      at_two = λ less. mul-le-mul_right (n j) (walked.at_one (omega arith));
    }

    beside : vary j ≡ false → fixed j < n j → Walked n vary fixed axis (suc j) (on_one_more k (n j) false (fixed j))
    unfolding on_one_more product_below
    beside e below = record {
      lanes_are = rw (fixed_one n vary j e, mul-one) walked.lanes_are;
      starts = λ t less.
          start_beside k (n j) (fixed j) t
          ∙ ap (λ (f : ℕ). f * n j + fixed j) (walked.starts t less)
          ∙ sym (begin_beside n vary fixed j t e);
      some_inner = walked.some_inner;
      some_middle = walked.some_middle;
      start_below = placed (fixed j) below;
      near_most = further k.near walked.near_most;
      far_most = further k.far walked.far_most;
      farthest_most = further k.farthest walked.farthest_most;
      depth = walked.depth;
      depth_most = omega (arith, walked.depth_most);
      own_apart = λ less. omega (arith, walked.depth_most);
      at_none = walked.at_none;
      at_one = walked.at_one;
      at_two = walked.at_two;
    }

    -- fewer than three axes vary before one that does
    deep : j < 4 → axis < 4 → j ≢ axis → walked.depth < 3
    deep few own other = go (ltb axis j) refl
      where
        go : (b : Bool) → ltb axis j ≡ b → walked.depth < 3
        go true e = omega (arith, walked.own_apart (ltb-true axis j e))
        go false e = let less : j < axis = lt_of_le-ne (ltb-false axis j e) other in omega (arith, walked.depth_most)

    pub walked_next :
        (go : Bool) (index : ℕ) → go ≡ vary j → index ≡ fixed j → index < n j → j < 4 → axis < 4 → (vary j ≡ true → j ≢ axis)
        → Walked n vary fixed axis (j + 1) (on_one_more k (n j) go index)
    walked_next true index e is below few own other =
        rw add-one (through index (sym e) (other (sym e)) (deep few own (other (sym e))))
    walked_next false index e is below few own other = rw (add-one, is) (beside (sym e) (rw is at below))

-- ---- the walk of a pass

module _ (axes : ℕ) (n : ℕ → ℕ) (vary : ℕ → Bool) (place : Place) (axis mask : ℕ) (given : LanesGiven axes n place axis mask) where
  abbrev fixed : Place
  fixed = moved place axis 0

  some : (j : ℕ) → j < axes → 0 < n j
  some j below = omega (arith, given.in_range.some_points j below)

  fixed_on : OnGrid n axes fixed
  fixed_on = moved_on_grid n axes axis 0 place given.on_the_grid (some axis given.in_use)

  -- a walk over the first axes stays small
  fewer : (j : ℕ) → j ≤ axes → product_below n j ≤ 4096
  fewer j most = le_trans (product_grows n j axes some most) given.small

  small : (j : ℕ) (k : Walk) → j ≤ axes → Walked n vary fixed axis j k → Small k
  small j k most walked =
      let places = fewer j most in
      record {
        lanes = omega (arith, walked.lanes_are, lanes_most n vary j (λ i below. some i (omega arith)));
        start = omega (arith, walked.start_below);
        near = omega (arith, walked.near_most);
        far = omega (arith, walked.far_most);
        farthest = omega (arith, walked.farthest_most);
      }

  few_masks : 2 ^ axes ≤ 16
  few_masks = pow-le-pow_right (lit< tt) {i = axes} {j = 4} given.in_range.few_axes

  with_masks : (k : Walk) → Walked n vary fixed axis axes k → Walks n axes vary fixed mask (on_one_more k (2 ^ axes) false mask)
  unfolding on_one_more
  with_masks k walked =
      let places = given.small in
      record {
        lanes_are = walked.lanes_are;
        starts = λ t less. start_beside k (2 ^ axes) mask t ∙ ap (λ (f : ℕ). f * 2 ^ axes + mask) (walked.starts t less);
        some_inner = walked.some_inner;
        some_middle = walked.some_middle;
        small = record {
          lanes = omega (arith, walked.lanes_are, lanes_most n vary axes some);
          start = omega (arith, digits_lt walked.start_below given.of_the_grid, mul-le-mul places few_masks);
          near = mul-le-mul (le_trans walked.near_most places) few_masks;
          far = mul-le-mul (le_trans walked.far_most places) few_masks;
          farthest = mul-le-mul (le_trans walked.farthest_most places) few_masks;
        };
      }

  module _ (j : ℕ) (k : Walk) (walked : Walked n vary fixed axis j k) where
    pub turn_given : j < axes → (index : ℕ) → index ≡ fixed j → Small k × (n j ≤ 256) × (index ≤ 256)
    turn_given less index is = (
      small j k (omega arith) walked,
      given.in_range.few_points j less,
      omega (arith, fixed_on j less, given.in_range.few_points j less),
    )

    pub turn_next :
        j < axes → (vary j ≡ true → j ≢ axis) → (through : Bool) → through ≡ vary j → (index : ℕ) → index ≡ fixed j
        → (r : Walk) → r ≡ on_one_more k (n j) through index → Walked n vary fixed axis (j + 1) r
    turn_next less other through e index is r made =
        rw made
        (walked_next n vary fixed axis j k walked (some j less) through index e is (omega (arith, fixed_on j less))
        (omega (arith, given.in_range.few_axes)) (omega (arith, given.in_range.few_axes, given.in_use)) other)

    pub end_given : j ≤ axes → (masks : ℕ) → masks ≡ 2 ^ axes → Small k × (masks ≤ 256) × (mask ≤ 256)
    end_given most masks is = (small j k most walked, omega (arith, few_masks), omega (arith, few_masks, given.of_the_grid))

    pub end_walks :
        j ≡ axes → (masks : ℕ) → masks ≡ 2 ^ axes → (r : Walk) → r ≡ on_one_more k masks false mask → Walks n axes vary fixed mask r
    end_walks e masks is r made = rw (made, is) (with_masks k (rw e at walked))
