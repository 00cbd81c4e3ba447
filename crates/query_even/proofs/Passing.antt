-- One pass over the knots: on an axis no knot fails to rise and no interval fails while the flag is down, and where it stays down on all
-- axes, 7, 8 and 21 pass.
use native.Mathlib.Omega.{arith}
use mathlib.Core.Path.{◌≡◌, refl, sym, ◌∙◌}
use mathlib.Core.Bool.{false}
use mathlib.Core.List.{List}
use Prim.Native.Nat.{ℕ, ◌+◌, ◌-◌, ◌<◌, ◌≤◌}
use lib.ListN.{length}
use lib.Ieee.{Float}
use Rattle.rules.specs.Numbers.{any}
use Rattle.rules.specs.Sizes.{sum_below, place_of}
use Rattle.rules.specs.Refusals.{some_knots_refused}
use Rattle.rules.specs.Even.{fails}
use Rattle.rules.proofs.Sums.{sum_ext}
use Rattle.base_numbers.proofs.Scan.{any_none, any_more}
use Rattle.grid.specs.GridOfCall.{grid, points_of, InRange}
use Rattle.grid_checks.specs.Rising.{not_rising}
use Rattle.grid_checks.proofs.FiniteKnots.{grid_finite}
use Rattle.axis_even.proofs.First as first
use Rattle.query_even.specs.Lacking.{PassAmong}
use Rattle.query_even.specs.declared.qualities.Quality.TheVariants.{Rising, Even}
use Rattle.query_even.proofs.LackingAxis.{Walk, walk_first, walk_last}

-- ---- one axis

-- no knot before knot i fails to rise, and no interval before interval i fails
pub record Rises (x : List Float) (i : ℕ) : Type 0 where
  pub rise : any (not_rising x) i ≡ false
  pub even : first.Turn (fails x) 1 (length x - 1) i

pub rises_first : (x : List Float) → 2 ≤ length x → not_rising x 0 ≡ false → Rises x 1
rises_first x two up = record {
  rise = any_more (not_rising x) 0 (any_none (not_rising x)) up;
  even = first.turn_first (fails x) 1 (length x - 1) (omega arith);
}

pub rises_next : (x : List Float) (i : ℕ) → Rises x i → i < length x - 1 → not_rising x i ≡ false → fails x i ≡ false → Rises x (i + 1)
rises_next x i so_far inside up near = record {
  rise = any_more (not_rising x) i so_far.rise up;
  even = first.turn_next (fails x) 1 (length x - 1) i so_far.even inside near;
}

-- ---- all axes

module _ (axes : ℕ) (points_in : List ℕ) (x : List Float) where
  -- the axes below i lack neither, and the knots of axis i begin at `begin`
  pub record Passing (begin i : ℕ) : Type 0 where
    pub rising : Walk Rising axes points_in x begin i
    pub even : Walk Even axes points_in x begin i

  pub passing_first : InRange axes (place_of points_in) × (length points_in ≡ 4) × (length x ≡ sum_below (place_of points_in) axes)
      → Passing 0 0
  passing_first given = record { rising = walk_first Rising axes points_in x given; even = walk_first Even axes points_in x given }

  pub passing_last : (begin i : ℕ) → Passing begin i → axes ≤ i → PassAmong axes points_in x
  passing_last begin i passing ge all are =
      let range = passing.rising.in_range in
      let rise : some_knots_refused (grid axes all x) ≡ false =
      walk_last Rising axes points_in x begin i passing.rising ge all are in
      record {
        finite = grid_finite axes all x
            (record {
              some_axes = range.some_axes;
              few_axes = range.few_axes;
              some_points = λ k l. rw (are k l) (range.some_points k l);
              few_points = λ k l. rw (are k l) (range.few_points k l);
            })
            (passing.rising.knots_exact ∙ sym (sum_ext (points_of all) (place_of points_in) axes are)) refl rise;
        rise = rise;
        even = walk_last Even axes points_in x begin i passing.even ge all are;
      }
