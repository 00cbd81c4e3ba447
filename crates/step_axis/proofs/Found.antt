-- What each branch finds among accepted knots is what the rules say.
use Rattle.std.specs.Prelude.{Option, Some, None}
use mathlib.Core.Path.{◌≡◌, refl, sym, ap, ◌∙◌}
use mathlib.Core.Bool.{true, false, cond}
use mathlib.Core.List.{List}
use Prim.Native.Nat.{ℕ, ◌+◌, ◌-◌}
use native.Mathlib.Omega.{arith}
use lib.ListN.{length}
use lib.Ieee.{Float, eq}
use Rattle.rules.specs.Numbers.{◌⊖◌, ◌⊘◌, at}
use Rattle.rules.specs.Steps.{h}
use Rattle.rules.specs.Locate.{locate}
use Rattle.rules.specs.Query.{fraction}
use Rattle.rules.specs.Step.{exact_index, location, locate_axis, lower_step, upper_step}
use Rattle.rules.specs.declared.StepDirection.TheVariants.{Lower, Upper}
use Rattle.rules.specs.declared.AxisLocation.TheVariants.{Exact, Between}
use Rattle.axis_locate.specs.CellFound.{Located}
use Rattle.step_checks.specs.StepsChecked.{PointGiven}
use Rattle.step_axis.specs.AmongKnots.{AxisLocated, Stepped}

-- ---- which of two knots equals the point

module _ (x : List Float) (lower : ℕ) (p : Float) where
  pub exact_lower : eq (at x lower) p ≡ true → Some lower ≡ exact_index x lower p
  unfolding exact_index
  exact_lower e = rw e

  pub exact_upper : eq (at x lower) p ≡ false → eq (at x (lower + 1)) p ≡ true → Some (lower + 1) ≡ exact_index x lower p
  unfolding exact_index
  exact_upper f e = rw (f, e)

  pub exact_none : eq (at x lower) p ≡ false → eq (at x (lower + 1)) p ≡ false → None ≡ exact_index x lower p
  unfolding exact_index
  exact_none f g = rw (f, g)

-- ---- the location and the step, from the cell that the search found

module _ (x : List Float) (p : Float) (lower : ℕ) (given : PointGiven (length x) x p) (searched : Located x p lower) where
  cell : locate x (length x - 1) p ≡ lower
  cell = sym (searched.rising given.rising given.point_finite)

  located_by : locate_axis x (length x - 1) p ≡ location x lower p (exact_index x lower p)
  unfolding locate_axis
  located_by = ap (λ (l : ℕ). location x l p (exact_index x l p)) cell

  pub on_knot : {found : Option ℕ} → found ≡ exact_index x lower p → (index : ℕ) → found ≡ Some index → AxisLocated x p (Exact index)
  unfolding location
  on_knot e index is = sym (located_by ∙ ap (location x lower p) (sym e ∙ is))

  pub in_cell : {found : Option ℕ} → found ≡ exact_index x lower p → found ≡ None
      → AxisLocated x p (Between lower ((p ⊖ at x lower) ⊘ (at x (lower + 1) ⊖ at x lower)))
  unfolding location fraction h
  in_cell e is = sym (located_by ∙ ap (location x lower p) (sym e ∙ is))

  lower_by : lower_step x (length x - 1) p
      ≡ cond (eq p (at x (length x - 1))) (length x - 1) (cond (eq p (at x (lower + 1))) (lower + 1) lower)
  unfolding lower_step
  lower_by = ap (λ (l : ℕ). cond (eq p (at x (length x - 1))) (length x - 1) (cond (eq p (at x (l + 1))) (l + 1) l)) cell

  pub down_to_last : eq p (at x (length x - 1)) ≡ true → Stepped Lower x p (length x - 1)
  down_to_last e = record { found = sym (lower_by ∙ rw e refl); among = let some = given.some_points in omega arith }

  pub down_to_upper : eq p (at x (length x - 1)) ≡ false → eq p (at x (lower + 1)) ≡ true → Stepped Lower x p (lower + 1)
  down_to_upper f e = record { found = sym (lower_by ∙ rw (f, e) refl); among = searched.inside }

  pub down_to_lower : eq p (at x (length x - 1)) ≡ false → eq p (at x (lower + 1)) ≡ false → Stepped Lower x p lower
  down_to_lower f g = record { found = sym (lower_by ∙ rw (f, g) refl); among = let inside = searched.inside in omega arith }

  pub up_to_upper : eq p (at x 0) ≡ false → Stepped Upper x p (lower + 1)
  unfolding upper_step
  up_to_upper f = record { found = sym (ap (λ (l : ℕ). cond (eq p (at x 0)) 0 (l + 1)) cell ∙ rw f refl); among = searched.inside }

pub up_to_first : (x : List Float) (p : Float) → PointGiven (length x) x p → eq p (at x 0) ≡ true → Stepped Upper x p 0
unfolding upper_step
up_to_first x p given e = record { found = rw e refl; among = let some = given.some_points in omega arith }
