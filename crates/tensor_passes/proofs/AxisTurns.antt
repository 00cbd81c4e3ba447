-- The turns of `solve_axes`: one axis after another, and how many lanes they solve.
use native.Mathlib.Omega.{arith}
use native.Mathlib.Nat.{le_trans, le_refl}
use mathlib.Core.Path.{◌≡◌, refl, sym, ap₂, ◌∙◌}
use mathlib.Core.List.{List}
use mathlib.Core.Bool.{Bool}
use Prim.Native.Nat.{ℕ, ◌+◌, ◌^◌, ◌<◌, ◌≤◌}
use lib.ListN.{length}
use lib.Pow.{pow_pos}
use lib.Ieee.{Float}
use Rattle.rules.specs.Sizes.{Grid, points, Place}
use Rattle.grid.proofs.Products.{sum_none, sum_more}
use Rattle.rules.proofs.Sums.{sum_bound}
use Rattle.tensor_passes.specs.Passes.{lanes_on_axis, lanes_solved_below, WorkGiven, PassGiven, AxisPassed, Refreshed}
use Rattle.grid.specs.GridOfCall.{On}
use Rattle.tensor_passes.proofs.MaskTurns.{given_again, axis_fits}
use Rattle.tensor_passes.proofs.Refresh.{no_axis, one_axis_more}

pub record Turn (g : Grid) (w₀ w : List Float) (whole : Bool) (place : Place) (lanes i : ℕ) : Type 0 where
  pub given : WorkGiven g w₀
  pub on_the_grid : On g place
  pub most : i ≤ g.axes
  pub same_length : length w ≡ length w₀
  pub done : Refreshed g w₀ w whole place i
  pub count : lanes ≡ lanes_solved_below (points g) g.axes whole i

pub turn_first : (g : Grid) (w : List Float) (whole : Bool) (place : Place) → WorkGiven g w → On g place → Turn g w w whole place 0 0
unfolding lanes_solved_below
turn_first g w whole place given on = record {
  given = given;
  on_the_grid = on;
  most = omega arith;
  same_length = refl;
  done = no_axis g whole place w;
  count = sym (sum_none (lanes_on_axis (points g) g.axes whole));
}

module _ (g : Grid) (w₀ w : List Float) (whole : Bool) (place : Place) (lanes i : ℕ) (turn : Turn g w₀ w whole place lanes i) where
  pub pass_given : i < g.axes → PassGiven g w place i 0
  pass_given lt = record {
    given = given_again w turn.same_length turn.given;
    on_the_grid = turn.on_the_grid;
    in_use = lt;
    low = pow_pos i;
  }

  module _ (w' : List Float) (solved : ℕ) (lt : i < g.axes)
      (axis : AxisPassed g w w' whole place i (2 ^ i) × (solved ≡ lanes_on_axis (points g) g.axes whole i)) where
    counted : lanes + solved ≡ lanes_solved_below (points g) g.axes whole (i + 1)
    unfolding lanes_solved_below
    counted = ap₂ ◌+◌ turn.count axis.1 ∙ sym (sum_more (lanes_on_axis (points g) g.axes whole) i)

    pub count_fits : lanes + solved ≤ 262144
    unfolding lanes_solved_below lanes_on_axis
    count_fits =
        rw counted
        (le_trans
        (sum_bound (lanes_on_axis (points g) g.axes whole) 65536 (i + 1)
        (λ k l. axis_fits g w₀ whole k (2 ^ k) turn.given (omega arith) (le_refl _)))
        (omega (arith, turn.given.in_range.few_axes)))

    pub turn_next : Turn g w₀ w' whole place (lanes + solved) (i + 1)
    turn_next = record {
      given = turn.given;
      on_the_grid = turn.on_the_grid;
      most = omega arith;
      same_length = axis.0.same_length ∙ turn.same_length;
      done = one_axis_more g whole place w₀ w w' i lt turn.done axis.0;
      count = counted;
    }

  pub turn_last : g.axes ≤ i → Refreshed g w₀ w whole place g.axes × (lanes ≡ lanes_solved_below (points g) g.axes whole g.axes)
  turn_last ge =
      let e : i ≡ g.axes = omega (arith, turn.most) in
      (rw e at turn.done, rw e at turn.count)
