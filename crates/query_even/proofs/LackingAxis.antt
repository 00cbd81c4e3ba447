-- The turns of `first_lacking`, on plain lists: from axis to axis, until one lacks what is asked of its knots.
use native.Mathlib.Omega.{arith}
use mathlib.Core.Path.{◌≡◌, refl, sym, ap, ◌∙◌}
use mathlib.Core.Bool.{Bool, true, false}
use mathlib.Core.List.{List}
use Rattle.std.specs.Prelude.{Some, None}
use Prim.Native.Nat.{ℕ, ◌+◌, ◌-◌, ◌<◌, ◌≤◌}
use native.Mathlib.Nat.{sub-zero, add-sub_cancel_left}
use lib.ListN.{length, take, drop, length-drop}
use lib.Seq.{length-take-le}
use lib.Ieee.{Float}
use borrow.Author.Tests.{ltb-false}
use Rattle.rules.specs.Numbers.{at, any}
use Rattle.rules.specs.Sizes.{Grid, points, knots, sum_below, knots_length, place_of}
use Rattle.rules.specs.Refusals.{number_refused, step_refused}
use Rattle.rules.specs.Even.{first_failing}
use Rattle.base_numbers.proofs.Scan.{any_none, any_more, any_found, any_end, any_at}
use Rattle.rules.specs.declared.Axis.{Axis}
use Rattle.rules.proofs.Sums.{sum_ext}
use Rattle.grid.specs.GridOfCall.{grid, points_of, InRange}
use Rattle.grid.proofs.Products.{sum_none, sum_more, sum_within}
use Rattle.grid.proofs.Knots as of_axis
use Rattle.axis_even.proofs.First as first
use Rattle.query_answer.specs.PointsAndModes.{PointsOf}
use Rattle.query_even.specs.Qualities.{lacks, first_lack, lacking_axis, lacking_place}
use Rattle.query_even.specs.Lacking.{LackIs, LackAmong}
use Rattle.query_even.specs.declared.qualities.Quality.{Quality}
use Rattle.query_even.specs.declared.qualities.Quality.TheVariants.{Finite, Rising, Even}

-- knots that lack nothing have no place where they do
no_lack : (quality : Quality) (x : List Float) (n : ℕ) → lacks quality x n ≡ false → first_lack quality x n ≡ 0
no_lack Finite x n none =
    let test : ℕ → Bool = λ k. number_refused (at x k) in first.found_none test n 0 (λ i l h. any_at test n none i (omega arith))
no_lack Rising x n none = first.found_none (step_refused x) (n - 1) 0 (λ i l h. any_at (step_refused x) (n - 1) none i (omega arith))
no_lack Even x n none = let z : first_failing x n ≡ 0 = omega (arith, ltb-false 0 (first_failing x n) none) in z

module _ (quality : Quality) where
  module _ (g : Grid) where
    abbrev is_lacking : ℕ → Bool
    is_lacking i = lacks quality (knots g i) (points g i)

    -- if no axis lacks it, the axis and the place of the rules are 0
    pub none_lacks : 0 < g.axes → any is_lacking g.axes ≡ false → (lacking_axis quality g ≡ 0) × (lacking_place quality g ≡ 0)
    unfolding lacking_axis lacking_place
    none_lacks some none =
        let lowest : lacking_axis quality g ≡ 0 =
        first.found_none is_lacking g.axes 0 (λ i l h. any_at is_lacking g.axes none i (omega arith)) in
        let first_place : first_lack quality (knots g 0) (points g 0) ≡ 0 =
        no_lack quality (knots g 0) (points g 0) (any_at is_lacking g.axes none 0 some) in
        (lowest, ap (λ (j : ℕ). first_lack quality (knots g j) (points g j)) lowest ∙ first_place)

    -- the first i axes lack nothing, and the knots of the next begin at `begin`; of the grid what the walk needs, its sizes and its knots'
    -- length
    pub record Turn (begin i : ℕ) : Type 0 where
      pub in_range : InRange g.axes (points g)
      pub knots_exact : length g.flat_knots ≡ knots_length g
      pub begun : begin ≡ sum_below (points g) i
      pub looks : first.Turn is_lacking 0 g.axes i
      pub none : any is_lacking i ≡ false

    pub turn_first : InRange g.axes (points g) × (length g.flat_knots ≡ knots_length g) → Turn 0 0
    turn_first given = record {
      in_range = given.0;
      knots_exact = given.1;
      begun = sym (sum_none _);
      looks = first.turn_first is_lacking 0 g.axes (omega arith);
      none = any_none _;
    }

    module _ (begin i : ℕ) (turn : Turn begin i) where
      abbrev part : List Float
      part = of_axis.part g begin i turn.begun

      module _ (l : i < g.axes) where
        exact : length part ≡ points g i
        exact = of_axis.part_length g begin i turn.begun turn.knots_exact l

        part_lacks : lacks quality part (length part) ≡ is_lacking i
        part_lacks = rw (exact, of_axis.part_is g begin i turn.begun) refl

        pub turn_found :
            true ≡ lacks quality part (length part) → (place : ℕ) → place ≡ first_lack quality part (length part)
            → LackIs quality g (record { axis = i; place = place })
        unfolding lacking_axis lacking_place
        turn_found some place is =
            let here : is_lacking i ≡ true = sym (some ∙ part_lacks) in
            let lowest : i ≡ lacking_axis quality g = rw sub-zero at (first.turn_found is_lacking 0 g.axes i turn.looks l here) in
            let own : place ≡ first_lack quality (knots g i) (points g i) =
            is ∙ rw (exact, of_axis.part_is g begin i turn.begun) refl in
            record {
              some = any_found is_lacking i g.axes l here;
              axis = lowest;
              place = own ∙ ap (λ (j : ℕ). first_lack quality (knots g j) (points g j)) lowest;
            }

        pub turn_next : false ≡ lacks quality part (length part) → Turn (begin + points g i) (i + 1)
        turn_next none =
            let here : is_lacking i ≡ false = sym (none ∙ part_lacks) in
            record {
              in_range = turn.in_range;
              knots_exact = turn.knots_exact;
              begun = rw (sum_more, turn.begun) refl;
              looks = first.turn_next is_lacking 0 g.axes i turn.looks l here;
              none = any_more is_lacking i turn.none here;
            }

      pub turn_last : g.axes ≤ i → any is_lacking g.axes ≡ false
      turn_last h = any_end is_lacking i g.axes turn.none (omega (arith, turn.looks.most))

  -- ---- on any axes with these points

  module _ (axes : ℕ) (points_in : List ℕ) (x : List Float) where
    -- the loop has come to axis i, whose knots begin at `begin`
    pub record Walk (begin i : ℕ) : Type 0 where
      pub in_range : InRange axes (place_of points_in)
      pub knots_exact : length x ≡ sum_below (place_of points_in) axes
      pub begun : begin ≡ sum_below (place_of points_in) i
      pub on : (all : List Axis) → PointsOf axes points_in all → Turn (grid axes all x) begin i

    pub walk_first : InRange axes (place_of points_in) × (length points_in ≡ 4) × (length x ≡ sum_below (place_of points_in) axes)
        → Walk 0 0
    walk_first given = record {
      in_range = given.0;
      knots_exact = given.2;
      begun = sym (sum_none _);
      on = λ all are.
          turn_first (grid axes all x) (
            record {
              some_axes = given.0.some_axes;
              few_axes = given.0.few_axes;
              some_points = λ i l. rw (are i l) (given.0.some_points i l);
              few_points = λ i l. rw (are i l) (given.0.few_points i l);
            },
            given.2 ∙ sym (sum_ext (points_of all) (place_of points_in) axes are),
          );
    }

    module _ (begin i : ℕ) (walk : Walk begin i) where
      -- the knots that it lends, where there are so many
      abbrev lent : ℕ → List Float
      lent count = take (begin + count - begin) (drop begin x)

      module _ (l : i < axes) where
        pub walk_within : begin + place_of points_in i ≤ length x
        walk_within = omega (arith, walk.begun, walk.knots_exact, sum_within (place_of points_in) i axes l)

        pub walk_size : 2 ≤ length (lent (place_of points_in i))
        walk_size =
            let exact : length (lent (place_of points_in i)) ≡ place_of points_in i =
            rw add-sub_cancel_left (length-take-le (place_of points_in i) (drop begin x) (rw length-drop (omega (arith, walk_within)))) in
            omega (arith, walk.in_range.some_points i l)

        module _ {found : Bool} (looked : found ≡ lacks quality (lent (place_of points_in i)) (length (lent (place_of points_in i)))) where
          -- so of the axes that have these points
          own : (all : List Axis) → PointsOf axes points_in all
              → found ≡ lacks quality (lent (points_of all i)) (length (lent (points_of all i)))
          own all are = rw (are i l) looked

          pub walk_found :
              found ≡ true → (place : ℕ)
              → place ≡ first_lack quality (lent (place_of points_in i)) (length (lent (place_of points_in i)))
              → LackAmong quality axes points_in x (Some (record { axis = i; place = place }))
          walk_found some place is all are =
              turn_found (grid axes all x) begin i (walk.on all are) l (sym some ∙ own all are) place (rw (are i l) is)

          pub walk_next : found ≡ false → Walk (begin + place_of points_in i) (i + 1)
          walk_next none = record {
            in_range = walk.in_range;
            knots_exact = walk.knots_exact;
            begun = rw (sum_more, walk.begun) refl;
            on = λ all are. rw (are i l) at (turn_next (grid axes all x) begin i (walk.on all are) l (sym none ∙ own all are));
          }

      pub walk_last : axes ≤ i → LackAmong quality axes points_in x None
      walk_last ge all are = turn_last (grid axes all x) begin i (walk.on all are) ge
