-- What a pass is given, where the lanes of its walk stand in the working tensor, and what it leaves there.
use native.Mathlib.Omega.{arith}
use native.Mathlib.Nat.{
  add-mul,
  mul_assoc,
  mul-pos,
  mul-le-mul,
  le_trans,
  le_refl,
  le-mul_of_pos_right,
  pow-le-pow_right,
  lt_of_lt_of_le,
  two-pow-succ,
}
use mathlib.Core.Path.{◌≡◌, refl, sym, ap, ◌∙◌, subst}
use mathlib.Core.Logic.{◌≢◌}
use mathlib.Core.List.{List}
use mathlib.Core.Bool.{Bool, true, false, cond}
use Prim.Native.Nat.{ℕ, zero, suc, ◌+◌, ◌-◌, ◌*◌, ◌/◌, ◌%◌, ◌^◌, ◌<◌, ◌≤◌}
use lib.Arith.{digits_lt, digits_div, digits_mod}
use lib.Dec.{eqb, lit<}
use borrow.Author.Tests.{eqb-false, ltb-false}
use lib.ListN.{length, take, drop, length-drop}
use lib.Seq.{length-take-le}
use lib.Pow.{pow_pos, pow_mono}
use lib.Ieee.{Float}
use Rattle.rules.specs.Numbers.{at}
use Rattle.rules.specs.Ends.{condition_at, fewest_points}
use Rattle.rules.specs.Sizes.{Grid, points, condition, knots, masks, Place, moved, flat, sum_below, product_below, spot}
use Rattle.grid.specs.Strides.{stride}
use Rattle.rules.specs.Change.{agree}
use Rattle.rules.specs.Curve.{lane_slope}
use Rattle.rules.specs.Tensor.{slope_along}
use Rattle.rules.specs.declared.Condition.{Condition}
use Rattle.rules.specs.declared.Condition.TheVariants.{Endpoints, Periodic}
use Rattle.rules.proofs.Cases.{not_both}
use Rattle.rules.proofs.Tables.{table_ext}
use Rattle.rules.proofs.Places.{One, moved_on, moved_off, moved_on_grid, moved_own, flat_below, flat_ext, flat_one}
use Rattle.grid.proofs.Strides.{stride_some, stride_along, stride_fits}
use Rattle.grid.proofs.Products.{sum_within}
use Rattle.tensor_lane.specs.LaneInScratch.{Lies, LaneGiven}
use Rattle.tensor_starts.specs.Starts.{free, varies, lane_points, lane_place}
use Rattle.grid.specs.GridOfCall.{SizesGiven, On}
use Rattle.tensor_starts.proofs.Starts.{across, lane_number, number_below, start_on_grid, number_of_start, start_of_number}
use Rattle.tensor_starts.proofs.Agreement.{agree_at, agree_all, varies_own, varies_other, varies_not_own, free_own}
use Rattle.tensor_starts.specs.Walks.{lane_start, LanesGiven, Walks}
use Rattle.tensor_starts.specs.declared.Walk.{Walk}
use Rattle.tensor_starts.proofs.Axes.{lanes_most}
use Rattle.tensor_plan.proofs.EndRows.{same_dropped}
use Rattle.tensor_walks.specs.Walked.{number_place, slope_place, WalkGiven, WalkSolved}
use Rattle.tensor_passes.specs.Passes.{solves, lanes_solved, working, WorkGiven, PassGiven, Passed}

-- two numbers of two digits each that are equal have the same digits
pub digits_one : (size a b x y : ℕ) → x < size → y < size → a * size + x ≡ b * size + y → (a ≡ b) × (x ≡ y)
digits_one size a b x y hx hy e = (
  sym (digits_div a hx) ∙ ap (λ (z : ℕ). z / size) e ∙ digits_div b hy,
  sym (digits_mod a hx) ∙ ap (λ (z : ℕ). z % size) e ∙ digits_mod b hy,
)

-- the mask with axis i put in is a mask of the grid
pub target_below : (i mask d : ℕ) → i < d → mask < 2 ^ i → mask + 2 ^ i < 2 ^ d
target_below i mask d l h = lt_of_lt_of_le (let s : mask + 2 ^ i < 2 ^ suc i = omega (arith, two-pow-succ i) in s) (pow_mono l)

-- a cross pass has as many rows
fewest_at : (mask : ℕ) (ends : Condition) → fewest_points (condition_at mask ends) ≡ fewest_points ends
fewest_at zero ends = refl
fewest_at (suc mask) (Endpoints lower upper) = omega (arith, same_dropped lower, same_dropped upper)
fewest_at (suc mask) Periodic = refl

-- the sizes of a grid that was not refused
pub sizes_given : {g : Grid} {w : List Float} → WorkGiven g w → SizesGiven g.axes (points g)
sizes_given {g} given = record {
  few_axes = given.in_range.few_axes;
  some_points = λ j l. omega (arith, given.in_range.some_points j l);
  small = le_trans (le-mul_of_pos_right (product_below (points g) g.axes) (pow_pos g.axes)) given.small;
}

-- the knots of an axis, as the code finds them among all
pub knots_are :
    {g : Grid} {w : List Float} (i from n : ℕ) → WorkGiven g w → i < g.axes → from ≡ sum_below (points g) i → n ≡ points g i
    → (from + n ≤ length g.flat_knots) × (take (from + n - from) (drop from g.flat_knots) ≡ knots g i)
    × (length (knots g i) ≡ points g i)
knots_are {g} i from n given in_use from_is n_is =
    let within = sum_within (points g) i g.axes in_use in
    let e : from + n - from ≡ points g i = omega arith in (
      omega (arith, given.knots_exact),
      rw (e, from_is),
      length-take-le (points g i) (drop (sum_below (points g) i) g.flat_knots) (rw length-drop (omega (arith, given.knots_exact))),
    )

-- the number of the lane that a place lies on
abbrev pub number_in : Grid → Bool → ℕ → ℕ → Place → ℕ
number_in g whole i mask p = lane_number (points g) (varies whole (mask + 2 ^ i) i) g.axes p

module _ (g : Grid) (whole : Bool) (place : Place) (i mask : ℕ) (w₀ : List Float) (pass : PassGiven g w₀ place i mask) where
  in_use : i < g.axes
  in_use = pass.in_use

  low : mask < 2 ^ i
  low = pass.low

  some : (j : ℕ) → j < g.axes → 0 < points g j
  some j below = omega (arith, pass.given.in_range.some_points j below)

  abbrev n : ℕ → ℕ
  n = points g

  abbrev d : ℕ
  d = g.axes

  abbrev target : ℕ
  target = mask + 2 ^ i

  abbrev vary : ℕ → Bool
  vary = varies whole target i

  abbrev fixed : Place
  fixed = moved place i 0

  -- the start of lane t, and its flat number
  abbrev start : ℕ → Place
  start t = lane_place n vary fixed d t

  abbrev begin : ℕ → ℕ
  begin t = flat n d (start t)

  abbrev step : ℕ
  step = stride n d i * masks g

  fixed_on : On g fixed
  fixed_on = moved_on_grid n d i 0 place pass.on_the_grid (some i in_use)

  start_on : (t : ℕ) → On g (start t)
  start_on t = start_on_grid n vary fixed d t fixed_on

  -- where no axis varies the start is the fixed place
  start_fixed : (t j : ℕ) → vary j ≡ false → start t j ≡ fixed j
  unfolding lane_place
  start_fixed t j e = rw e

  start_own : (t : ℕ) → start t i ≡ 0
  start_own t = start_fixed t i (varies_own whole target i) ∙ moved_on place i 0

  start_begins : (t : ℕ) → flat n d (moved (start t) i 0) ≡ begin t
  start_begins t =
      flat_ext n d (moved (start t) i 0) (start t)
      (λ j below. subst (λ (k : ℕ). moved (start t) i k j ≡ start t j) (start_own t) (moved_own (start t) i d j below))

  -- ---- where a lane's numbers stand

  along : (a b k m : ℕ) → a ≡ b + k * stride n d i → 2048 + (a * masks g + m) ≡ 2048 + (b * masks g + m) + k * step
  along a b k m e =
      omega (arith, ap (λ (x : ℕ). x * masks g) e, add-mul b (k * stride n d i) (masks g), mul_assoc k (stride n d i) (masks g))

  moved_stands : (p : Place) (f k m : ℕ) → flat n d (moved p i 0) ≡ f → 2048 + spot g (moved p i k) m ≡ 2048 + (f * masks g + m) + k * step
  moved_stands p f k m e =
      along (flat n d (moved p i k)) f k m (stride_along n d i k p in_use ∙ ap (λ (x : ℕ). x + k * stride n d i) e)

  own_stands : (p : Place) (f m : ℕ) → flat n d (moved p i 0) ≡ f → 2048 + spot g p m ≡ 2048 + (f * masks g + m) + p i * step
  own_stands p f m e =
      ap (λ (x : ℕ). 2048 + (x * masks g + m)) (sym (flat_ext n d (moved p i (p i)) p (moved_own p i d)))
      ∙ moved_stands p f (p i) m e

  -- the lane's numbers lie in the scratch behind the rows
  lane_lies : (w : List Float) (t m : ℕ) → length w ≡ length w₀ → m < masks g → Lies w (points g i) (2048 + (begin t * masks g + m)) step
  lane_lies w t m long small = record {
    room = omega (arith, pass.given.room);
    behind = omega arith;
    within = λ k h.
        subst (λ (x : ℕ). x < length w) (moved_stands (start t) (begin t) k m (start_begins t))
        (let b = digits_lt (flat_below n d (moved (start t) i k) (moved_on_grid n d i k (start t) (start_on t) h)) small in
        omega (arith, pass.given.room));
  }

  lane_apart : 1 ≤ step
  lane_apart = mul-pos (stride_some n d i some) (pow_pos d)

  pub lane_given :
      (w x : List Float) (t : ℕ) → length w ≡ length w₀ → length x ≡ points g i
      → LaneGiven w x (condition_at mask (condition g i)) (2048 + (begin t * masks g + mask)) (2048 + (begin t * masks g + target)) step
  lane_given w x t long x_long =
      let top = target_below i mask d in_use low in
      record {
        some_points = omega (arith, pass.given.in_range.some_points i in_use);
        few_points = omega (arith, pass.given.in_range.few_points i in_use);
        enough_points =
            omega (
              arith,
              fewest_at mask (condition g i),
              ltb-false (points g i) (fewest_points (condition g i)) (pass.given.enough_points i in_use),
            );
        apart = lane_apart;
        numbers = rw x_long (lane_lies w t mask long (omega arith));
        slopes = rw x_long (lane_lies w t target long top);
      }

  pub begin_fits : (t : ℕ) → begin t * masks g + target < 4096
  begin_fits t = lt_of_lt_of_le (digits_lt (flat_below n d (start t) (start_on t)) (target_below i mask d in_use low)) pass.given.small

  pub lanes_given : LanesGiven d n place i mask
  lanes_given = record {
    in_range = pass.given.in_range;
    small = (sizes_given pass.given).small;
    on_the_grid = pass.on_the_grid;
    in_use = in_use;
    of_the_grid = omega (arith, target_below i mask d in_use low);
  }

  lanes_few : lanes_solved n d whole i mask ≤ 4096
  unfolding lanes_solved
  lanes_few = le_trans (lanes_most n vary d some) (sizes_given pass.given).small

  few_masks : masks g ≤ 16
  few_masks = pow-le-pow_right (lit< tt) {i = d} {j = 4} pass.given.in_range.few_axes

  pub target_fits : target < 16
  target_fits = omega (arith, target_below i mask d in_use low, few_masks)

  pub step_fits : step ≤ 65536
  step_fits = mul-le-mul (stride_fits n i d d (sizes_given pass.given) (le_refl d)) few_masks

  -- ---- which places lie on a lane

  abbrev number_of : Place → ℕ
  number_of p = number_in g whole i mask p

  -- a place that is solved starts, moved to index 0, where the lane of its number starts
  begins_at : (p : Place) → On g p → solves g whole place target p ≡ true → flat n d (moved p i 0) ≡ begin (number_of p)
  unfolding solves
  begins_at p on e =
      flat_ext n d (moved p i 0) (start (number_of (moved p i 0)))
      (start_of_number n vary fixed d (moved p i 0) (moved_on_grid n d i 0 p on (some i in_use)) same)
      ∙ ap begin (flat_ext (lane_points n vary) d (across n vary (moved p i 0)) (across n vary p) (λ j below. across_same j (vary j) refl))
    where
      across_same : (j : ℕ) (b : Bool) → vary j ≡ b → cond b (moved p i 0 j) 0 ≡ cond b (p j) 0
      across_same j true v = moved_off p i 0 j (varies_not_own whole target i j v)
      across_same j false v = refl

      same : (j : ℕ) → j < d → vary j ≡ false → moved p i 0 j ≡ moved place i 0 j
      same j below v = go (eqb j i) refl
        where
          go : (b : Bool) → eqb j i ≡ b → cond b 0 (p j) ≡ cond b 0 (place j)
          go true t = refl
          go false t =
              agree_at (free whole target) p place d e j below (sym (varies_other whole target i j (eqb-false j i t)) ∙ v)

  -- a number that stands at place k of lane t's slopes is one at the target, of a place that is solved, by lane t, with the index k
  of_lane :
      (p : Place) (m t k : ℕ) → On g p → m < masks g → t < lanes_solved n d whole i mask → k < points g i
      → 2048 + spot g p m ≡ 2048 + (begin t * masks g + target) + k * step
      → (m ≡ target) × (solves g whole place target p ≡ true) × (number_of p ≡ t) × (p i ≡ k)
  unfolding solves lanes_solved
  of_lane p m t k on small lt below e =
      (both.1, is_solved, number_of_start n vary fixed d t p fixed_on lt at_start, one i in_use ∙ moved_on (start t) i k)
    where
      both : (flat n d p ≡ flat n d (moved (start t) i k)) × (m ≡ target)
      both =
          digits_one (masks g) (flat n d p) (flat n d (moved (start t) i k)) m target small (target_below i mask d in_use low)
          (omega (arith, e, moved_stands (start t) (begin t) k target (start_begins t)))

      one : One d p (moved (start t) i k)
      one = flat_one n d p (moved (start t) i k) on (moved_on_grid n d i k (start t) (start_on t) below) both.0

      at_start : (j : ℕ) → j < d → vary j ≡ true → p j ≡ start t j
      at_start j l v = one j l ∙ moved_off (start t) i k j (varies_not_own whole target i j v)

      is_solved : agree (free whole target) d p place ≡ true
      is_solved =
          agree_all (free whole target) p place d (λ j l off.
          let other : j ≢ i =
          λ s. not_both (free whole target i) (free_own whole i mask low) (subst (λ (x : ℕ). free whole target x ≡ false) s off) in
          one j l ∙ moved_off (start t) i k j other
          ∙ start_fixed t j (varies_other whole target i j other ∙ off) ∙ moved_off place i 0 j other)

  -- ---- the walk of the pass

  module _ (walk : Walk) (walks : Walks n d vary fixed mask walk) where
    all_lanes : walk.lanes ≡ lanes_solved n d whole i mask
    unfolding lanes_solved
    all_lanes = walks.lanes_are

    -- a lane's numbers and slopes stand where the walk has them
    number_stands : (t k : ℕ) → t < walk.lanes → 2048 + (begin t * masks g + mask) + k * step ≡ number_place walk step t k
    number_stands t k less = omega (arith, walks.starts t less)

    slope_stands : (t k : ℕ) → t < walk.lanes → 2048 + (begin t * masks g + target) + k * step ≡ slope_place walk (2 ^ i) step t k
    slope_stands t k less = omega (arith, walks.starts t less)

    slope_of_lane :
        (t u k j : ℕ) → t < walk.lanes → u < walk.lanes → k < points g i → j < points g i → (m : ℕ) → m < masks g
        → 2048 + (begin t * masks g + m) + k * step ≡ slope_place walk (2 ^ i) step u j
        → (m ≡ target) × (number_of (moved (start t) i k) ≡ u) × (k ≡ j)
    slope_of_lane t u k j less less' below below' m small e =
        let found =
        of_lane (moved (start t) i k) m u j (moved_on_grid n d i k (start t) (start_on t) below) small (omega (arith, all_lanes)) below'
        (moved_stands (start t) (begin t) k m (start_begins t) ∙ e ∙ sym (slope_stands u j less')) in
        (found.0, found.2, sym (moved_on (start t) i k) ∙ found.3)

    pub walk_given :
        (x : List Float) → length x ≡ points g i → WalkGiven w₀ x (condition_at mask (condition g i)) walk (2 ^ i) step
    walk_given x x_long =
        let top = target_below i mask d in_use low in
        record {
          some_inner = walks.some_inner;
          some_middle = walks.some_middle;
          small = walks.small;
          few = omega (arith, all_lanes, lanes_few);
          inside = λ t less. omega (arith, walks.starts t less, begin_fits t);
          lane = λ w long t less.
              let from : 2048 + lane_start walk t ≡ 2048 + (begin t * masks g + mask) = omega (arith, walks.starts t less) in
              let to : 2048 + lane_start walk t + 2 ^ i ≡ 2048 + (begin t * masks g + target) = omega (arith, walks.starts t less) in
              rw (to, from) (lane_given w x t long x_long);
          own = λ t u k j less less' below below' e.
              let here = slope_of_lane t t k k less less (omega arith) (omega arith) target top (slope_stands t k less) in
              let there = slope_of_lane t u k j less less' (omega arith) (omega arith) target top (slope_stands t k less ∙ e) in
              (sym here.1 ∙ there.1, there.2);
          apart = λ t u k j less less' below below' e.
              let same : mask ≡ target =
              (slope_of_lane t u k j less less' (omega arith) (omega arith) mask (omega arith) (number_stands t k less ∙ e)).0 in
              omega (arith, pow_pos i);
        }

    -- the walk solved is the pass done
    module _
        (w' x : List Float) (x_is : x ≡ knots g i) (x_long : length x ≡ points g i)
        (count : ℕ) (done : WalkSolved w₀ w' x (condition_at mask (condition g i)) walk (2 ^ i) step count)
      where
        here : (p : Place) → On g p → solves g whole place target p ≡ true
            → working g w' p target ≡ slope_along g i mask (λ q. working g w₀ q mask) p
        unfolding slope_along
        here p on e =
            let less : number_of p < walk.lanes = rw walks.lanes_are (number_below n vary d p on) in
            let f : flat n d (moved p i 0) ≡ begin (number_of p) = begins_at p on e in
            ap (at w') (own_stands p (begin (number_of p)) target f ∙ slope_stands (number_of p) (p i) less)
            ∙ done.solved.slopes (number_of p) (omega arith) (omega (arith, done.all)) (p i) (omega (arith, on i in_use, x_long))
            ∙ rw (x_long, x_is)
            (ap (λ (y : List Float). lane_slope (knots g i) (points g i - 1) (condition_at mask (condition g i)) y (p i))
            (table_ext (points g i) _ _ (λ k h.
            ap (at w₀) (sym (number_stands (number_of p) k less) ∙ sym (moved_stands p (begin (number_of p)) k mask f)))))

        pub passed : Passed g w₀ w' whole place i mask
        passed = record {
          same_length = done.solved.same_length;
          slopes = here;
          kept = λ p m on small left.
              done.solved.kept (2048 + spot g p m) (omega arith) (λ t ge counted k below e.
              let less : t < walk.lanes = omega (arith, done.all) in
              let found = of_lane p m t k on small (omega (arith, all_lanes)) (omega (arith, x_long)) (e ∙ sym (slope_stands t k less)) in
              not_both (solves g whole place target p) found.1 (left found.0));
        }

  -- the same in the numbers that `solve_lanes` computes
  module _
      (x : List Float) (ends : Condition) (bit steps : ℕ) (walk : Walk) (x_is : x ≡ knots g i)
      (knots_long : length (knots g i) ≡ points g i)
      (ends_are : ends ≡ condition_at mask (condition g i)) (bit_is : bit ≡ 2 ^ i) (steps_are : steps ≡ step)
      (walks : Walks n d (varies whole (mask + bit) i) fixed mask walk)
    where
      walks_target : Walks n d vary fixed mask walk
      walks_target = rw bit_is at walks

      x_long : length x ≡ points g i
      x_long = ap length x_is ∙ knots_long

      pub solve_given : WalkGiven w₀ x ends walk bit steps
      solve_given = rw (ends_are, bit_is, steps_are) (walk_given walk walks_target x x_long)

      pub solve_done :
          (w' : List Float) (count : ℕ) → WalkSolved w₀ w' x ends walk bit steps count
          → Passed g w₀ w' whole place i mask × (count ≡ lanes_solved n d whole i mask)
      solve_done w' count done = (
        passed walk walks_target w' x x_is x_long count (rw (ends_are, bit_is, steps_are) at done),
        done.all ∙ all_lanes walk walks_target,
      )
