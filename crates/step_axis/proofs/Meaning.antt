-- What an accepted call's index or location says of the point and the knots.
use Rattle.std.specs.Prelude.{Some, None}
use mathlib.Core.Path.{◌≡◌, refl, sym, ap, ◌∙◌}
use mathlib.Core.Bool.{Bool, true, false, not, cond, ◌&&◌}
use mathlib.Core.List.{List}
use Prim.Native.Nat.{ℕ, ◌+◌, ◌-◌, ◌<◌, ◌≤◌}
use native.Mathlib.Omega.{arith}
use lib.Dec.{T, ltb, leb}
use borrow.Author.Tests.{ltb-true, ltb-false, leb-true, leb-false, lt-ltb, le-ltb, le-leb, lt-leb, not-false}
use lib.Ieee.{Float, binary64, fits, lt, eq}
use Rattle.rules.specs.Numbers.{at}
use Rattle.rules.specs.Steps.{h}
use Rattle.rules.specs.Query.{fraction}
use Rattle.rules.specs.Step.{exact_index, location, locate_axis, lower_step, upper_step}
use Rattle.rules.specs.StepCalls.{step_refusal, step_answer, axis_refusal, axis_answer}
use Rattle.rules.specs.declared.StepDirection.TheVariants.{Lower, Upper}
use Rattle.rules.proofs.Cases.{not_both}
use Rattle.base_floats.specs.Place.{Real, AllFit}
use Rattle.axis_locate.specs.CellFound.{Rising}
use Rattle.step_checks.specs.StepChecks.{point_check}
use Rattle.step_checks.proofs.Accepted.{point_given}
use Rattle.step_axis.specs.Meaning.{not_below_all, not_above_all, Downward, Upward, BetweenKnots, Says}
use Rattle.step_axis.proofs.Answers.{step_check, axis_checked}
use Rattle.step_axis.proofs.Positions.{
  above,
  below,
  close,
  cell,
  cell_is,
  at_or_above,
  at_or_below,
  before,
  after,
  knot_is_point,
  lower_step_inside,
  lower_step_above,
  upper_step_inside,
  upper_step_below,
}

not_true : (b : Bool) → not b ≡ true → b ≡ false
not_true true e = sym e
not_true false e = refl

module _ (x : List Float) (n : ℕ) (point : Float) (R : Rising x n) (F : AllFit x) (P : Real point) (some : 2 ≤ n) where
  abbrev a : ℕ
  a = above x n point R F P some

  abbrev b : ℕ
  b = below x n point R F P some

  abbrev m : ℕ
  m = cell x n point R F P some

  near : (a ≤ b) × (b ≤ a + 1)
  near = close x n point R F P some

  -- ---- the point beside the first and the last knot

  last_at_or_above : not_above_all x n point → a ≤ n - 1
  last_at_or_above e = leb-true a (n - 1) (not-false _ (sym (after x n point R F P some (n - 1) (omega arith)) ∙ e))

  all_below : lt (at x (n - 1)) point ≡ true → n - 1 < a
  all_below e = leb-false a (n - 1) (not_true _ (sym (after x n point R F P some (n - 1) (omega arith)) ∙ e))

  first_at_or_below : not_below_all x n point → 0 < b
  first_at_or_below e = leb-false b 0 (sym (before x n point R F P some 0 (omega arith)) ∙ e)

  all_above : lt point (at x 0) ≡ true → b ≡ 0
  all_above e = let z = leb-true b 0 (sym (before x n point R F P some 0 (omega arith)) ∙ e) in omega arith

  -- ---- the steps

  pub downward : Downward x n point (lower_step x (n - 1) point)
  downward = record {
    last = λ inside j l e.
        let k = lower_step_inside x n point R F P some (last_at_or_above inside) in
        let under = ltb-true j b (sym (at_or_below x n point R F P some j l) ∙ e) in
        let c = near in let i = last_at_or_above inside in
        record {
          among = omega arith;
          at_or_below = at_or_below x n point R F P some _ (omega arith) ∙ lt-ltb _ b (omega arith);
          later = λ i h g. at_or_below x n point R F P some i g ∙ le-ltb i b (omega arith);
        };
    none = λ inside each.
        let k = lower_step_inside x n point R F P some (last_at_or_above inside) in
        let over = ltb-false 0 b (sym (at_or_below x n point R F P some 0 (omega arith)) ∙ each 0 (omega arith)) in
        omega arith;
    corner = λ beyond. lower_step_above x n point R F P some (all_below beyond);
  }

  pub upward : Upward x n point (upper_step x (n - 1) point)
  upward = record {
    first = λ inside j l e.
        let k = upper_step_inside x n point R F P some (first_at_or_below inside) in
        let over = leb-true a j (sym (at_or_above x n point R F P some j l) ∙ e) in
        record {
          among = omega arith;
          at_or_above = at_or_above x n point R F P some _ (omega arith) ∙ le-leb a _ (omega arith);
          earlier = λ i h. at_or_above x n point R F P some i (omega arith) ∙ lt-leb a i (omega arith);
        };
    none = λ inside each.
        let k = upper_step_inside x n point R F P some (first_at_or_below inside) in
        let under = leb-false a (n - 1) (sym (at_or_above x n point R F P some (n - 1) (omega arith)) ∙ each (n - 1) (omega arith)) in
        omega arith;
    corner = λ beyond. upper_step_below x n point R F P some (all_above beyond);
  }

  -- ---- the location

  knot : (k : ℕ) → k < n → a ≤ k → k < b → eq (at x k) point ≡ true
  knot k l h g = knot_is_point x n point R F P some k l ∙ (cc (lt-ltb k b g, le-leb a k h))

  -- where neither knot of the cell equals the point, it does not lie from `above` to `below` there
  off : (k : ℕ) → k < n → eq (at x k) point ≡ false → a ≤ k → k < b → ⊥
  off k l e h g = not_both (eq (at x k) point) (knot k l h g) e

  module _ (lower_off : eq (at x m) point ≡ false) (upper_off : eq (at x (m + 1)) point ≡ false) where
    no_knot : (k : ℕ) → k < n → eq (at x k) point ≡ false
    no_knot k l = knot_is_point x n point R F P some k l ∙ go (ltb k b) refl (leb a k) refl
      where
        go : (t : Bool) → ltb k b ≡ t → (u : Bool) → leb a k ≡ u → (t && u) ≡ false
        go true p true q =
            let under = ltb-true k b p in
            let over = leb-true a k q in
            let c = near in
            at_cell (leb 1 a) refl under over
          where
            at_cell : (t : Bool) → leb 1 a ≡ t → k < b → a ≤ k → true ≡ false
            at_cell true p under over =
                let some_above = leb-true 1 a p in let c = near in absurd (off (m + 1) (omega arith) upper_off (omega arith) (omega arith))
            at_cell false p under over =
                let none_above = leb-false 1 a p in let c = near in absurd (off m (omega arith) lower_off (omega arith) (omega arith))
        go true p false q = refl
        go false p u q = refl

    pub between : BetweenKnots x n point m (fraction x m point)
    unfolding fraction h
    between = record {
      cell = omega arith;
      no_knot = no_knot;
      lower_below = λ inside.
          after x n point R F P some m (omega arith)
          ∙ ap not (under (leb a m) refl (first_at_or_below inside));
      upper_above = λ inside.
          before x n point R F P some (m + 1) (omega arith)
          ∙ over (leb b (m + 1)) refl (last_at_or_above inside);
      fraction = refl;
    }
      where
        under : (t : Bool) → leb a m ≡ t → 0 < b → leb a m ≡ false
        under false p inside = p
        under true p inside = let h = leb-true a m p in absurd (off m (omega arith) lower_off h (omega arith))

        over : (t : Bool) → leb b (m + 1) ≡ t → a ≤ n - 1 → leb b (m + 1) ≡ true
        over true p inside = p
        over false p inside = let h = leb-false b (m + 1) p in absurd (off (m + 1) (omega arith) upper_off (omega arith) h)

  pub location_says : Says x n point (locate_axis x (n - 1) point)
  unfolding locate_axis location exact_index
  location_says = rw (cell_is x n point R F P some) (go (eq (at x m) point) refl (eq (at x (m + 1)) point) refl)
    where
      go : (t : Bool) → eq (at x m) point ≡ t → (u : Bool) → eq (at x (m + 1)) point ≡ u
          → Says x n point (location x m point (cond t (Some m) (cond u (Some (m + 1)) None)))
      go true p u q = record { among = omega arith; equal = p }
      go false p true q = record { among = omega arith; equal = q }
      go false p false q = between p q

-- ---- the accepted calls

module _ (n : ℕ) (x : List Float) (point : Float) (F : AllFit x) (fit : T (fits binary64 point)) where
  known : point_check n x point ≡ 0 → (Rising x n) × (Real point) × (2 ≤ n)
  known e = let given = point_given n x point e in (given.rising, record { fits = fit; finite = given.point_finite }, given.some_points)

  -- an accepted step downward means what Downward says of its index
  pub down_means : step_refusal Lower n x point ≡ 0 → Downward x n point (step_answer Lower n x point).index
  unfolding step_answer
  down_means e = let k = known (sym (step_check Lower n x point) ∙ e) in rw e (downward x n point k.0 F k.1 k.2)

  -- an accepted step upward means what Upward says of its index
  pub up_means : step_refusal Upper n x point ≡ 0 → Upward x n point (step_answer Upper n x point).index
  unfolding step_answer
  up_means e = let k = known (sym (step_check Upper n x point) ∙ e) in rw e (upward x n point k.0 F k.1 k.2)

  -- an accepted location says what stands
  pub axis_means : axis_refusal n x point ≡ 0 → Says x n point (axis_answer n x point).location
  unfolding axis_answer
  axis_means e = let k = known (axis_checked n x point e) in rw e (location_says x n point k.0 F k.1 k.2)
