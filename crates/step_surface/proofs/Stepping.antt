-- The turns of `steps_on_axes`, from axis to axis: the knots of each are accepted, its index is the rules' own, and the number is that of
-- the place so far.
use mathlib.Core.Path.{◌≡◌, refl, sym, ap, ◌∙◌}
use mathlib.Core.List.{List}
use Prim.Native.Nat.{ℕ, ◌+◌, ◌-◌, ◌*◌, ◌<◌, ◌≤◌}
use native.Mathlib.Nat.{add-sub_cancel_left, le_trans, le-mul_of_pos_right}
use native.Mathlib.Omega.{arith}
use lib.ListN.{length, take, drop, set, replicate, length-set, get_or-replicate}
use lib.Seq.{get_or-set_same, get_or-set_other}
use lib.Pow.{pow_pos}
use lib.Ieee.{Float}
use borrow.Author.Count.{below_more}
use Rattle.rules.specs.Numbers.{at}
use Rattle.rules.specs.Sizes.{sum_below, product_below, place_of, flat}
use Rattle.rules.specs.Step.{step_index}
use Rattle.rules.specs.StepCalls.{direction}
use Rattle.rules.specs.declared.StepDirection.{StepDirection}
use Rattle.rules.proofs.Places.{flat_ext}
use Rattle.grid.specs.GridOfCall.{SizesGiven}
use Rattle.grid.proofs.Products.{sum_none, sum_more, sum_within, sizes_fewer}
use Rattle.grid.proofs.Placing.{number_none, number_more, number_fits}
use Rattle.step_checks.specs.StepsChecked.{PointGiven, AxesGiven}
use Rattle.step_axis.specs.AmongKnots.{Stepped}
use Rattle.step_surface.specs.Indices.{OnAxes}

module _ (axes : ℕ) (n : ℕ → ℕ) (x : List Float) (directions : List StepDirection) (coordinates : List Float) where
  -- the indices of the first i axes stand, and the knots of the next begin at `begin`
  pub record Turn (indices : List ℕ) (number begin i : ℕ) : Type 0 where
    pub given : AxesGiven axes n x coordinates
    pub begun : begin ≡ sum_below n i
    pub on_axes : OnAxes n x directions coordinates i number indices

  pub turn_first : AxesGiven axes n x coordinates → Turn (replicate 4 0) 0 0 0
  turn_first given = record {
    given = given;
    begun = sym (sum_none n);
    on_axes = record {
      four = refl;
      found = λ j h. absurd (omega arith);
      inside = λ j h. absurd (omega arith);
      unused = λ j h l. get_or-replicate 4 j 0 _ l;
      numbered = number_none n (place_of (replicate 4 0));
    };
  }

  module _ (indices : List ℕ) (number begin i : ℕ) (turn : Turn indices number begin i) where
    pub end_within : i < axes → begin + n i ≤ length x
    end_within lt = omega (arith, turn.begun, turn.given.knots_exact, sum_within n i axes lt)

    abbrev part : List Float
    part = take (begin + n i - begin) (drop begin x)

    part_is : part ≡ take (n i) (drop (sum_below n i) x)
    part_is = rw (add-sub_cancel_left, turn.begun) refl

    -- no place has a number that a tensor has not
    sizes : SizesGiven axes n
    sizes = record {
      few_axes = turn.given.in_range.few_axes;
      some_points = λ j l. omega (arith, turn.given.in_range.some_points j l);
      small = le_trans (le-mul_of_pos_right (product_below n axes) (pow_pos axes)) turn.given.small;
    }

    module _ (lt : i < axes) where
      on_axis : PointGiven (n i) (take (n i) (drop (sum_below n i) x)) (at coordinates i)
      on_axis = turn.given.on_axis i lt

      exact : length part ≡ n i
      exact = rw part_is on_axis.rising.count

      pub part_given : PointGiven (length part) part (at coordinates i)
      part_given = rw (exact, part_is) on_axis

      module _ (index : ℕ) (stepped : Stepped (direction directions i) part (at coordinates i) index) where
        abbrev later : List ℕ
        later = set indices i index

        stored : place_of later i ≡ index
        stored = get_or-set_same indices i index _ (omega (arith, turn.on_axes.four, turn.given.in_range.few_axes))

        other : (j : ℕ) → (j ≡ i → ⊥) → place_of later j ≡ place_of indices j
        other j ne = get_or-set_other indices i j index _ ne

        is : index ≡ step_index (direction directions i) (take (n i) (drop (sum_below n i) x)) (n i - 1) (at coordinates i)
        is = stepped.found ∙ rw (exact, part_is) refl

        inside : (j : ℕ) → j < i + 1 → place_of later j < n j
        inside =
            below_more _ i (λ j h. rw (other j (omega arith)) (turn.on_axes.inside j h))
            (rw stored (omega (arith, stepped.among, exact)))

        -- the number so far, and with this axis
        so_far : number ≡ flat n i (place_of later)
        so_far =
            turn.on_axes.numbered
            ∙ flat_ext n i (place_of indices) (place_of later) (λ j h. sym (other j (omega arith)))

        pub number_within : number * n i + index < 4096
        number_within =
            let fewer = sizes_fewer sizes (i + 1) (omega arith) in
            rw stored at (number_fits n (place_of later) number i so_far (i + 1) fewer inside (omega arith))

        pub turn_next : Turn later (number * n i + index) (begin + n i) (i + 1)
        turn_next = record {
          given = turn.given;
          begun = rw (sum_more, turn.begun) refl;
          on_axes = record {
            four = simp length-set turn.on_axes.four;
            found = below_more _ i (λ j h. other j (omega arith) ∙ turn.on_axes.found j h) (stored ∙ is);
            inside = inside;
            unused = λ j h l. rw (other j (omega arith)) (turn.on_axes.unused j (omega arith) l);
            numbered = ap (λ (k : ℕ). number * n i + k) (sym stored) ∙ number_more n (place_of later) number i so_far;
          };
        }

    pub turn_last : i ≡ axes → OnAxes n x directions coordinates axes number indices
    turn_last e = rw e at turn.on_axes
