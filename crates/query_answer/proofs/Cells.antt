-- The cell of each way lies on its axis, and of the knots of a found cell the step is all that is looked at.
use native.Mathlib.Omega.{arith}
use mathlib.Core.Path.{◌≡◌, refl, sym, ◌∙◌}
use mathlib.Core.Bool.{Bool, true, false, true≢false, not, ◌||◌}
use mathlib.Core.List.{List}
use Prim.Native.Nat.{ℕ, ◌+◌, ◌≤◌}
use lib.ListN.{length}
use lib.Ieee.{Float, binary64, lt}
use lib.Ieee.Scale.{finite}
use borrow.Author.Tests.{not-false}
use Rattle.rules.specs.Numbers.{◌⊖◌, at}
use Rattle.rules.specs.Steps.{h}
use Rattle.rules.specs.Refusals.{step_refused, found_cell_refused}
use Rattle.rules.proofs.EvenAxes.{direct_cell_inside}
use Rattle.base_numbers.proofs.Scan.{neither}
use Rattle.base_numbers.proofs.Finite.{finite_difference}
use Rattle.rules.specs.Search.{lower_index}
use Rattle.axis_locate.specs.CellFound.{Located}
use Rattle.query_answer.specs.Ways.{direct_cell_in, cell_on, by_search, CellOn}
use Rattle.query_answer.specs.declared.ways.Way.{Way}
use Rattle.query_answer.specs.declared.ways.Way.TheVariants.{Walked, Searched, Direct, Divided}

-- ---- the cell

module _ (x : List Float) (p placed : Float) (cell : ℕ) {way : Way} where
  pub found_by_search : by_search way ≡ true → Located x p cell → CellOn way x p placed cell
  found_by_search search located = record {
    found = located.found ∙ sym (named way search);
    inside = located.inside;
    rising = λ again. located.rising;
  }
    where
      named : (w : Way) → by_search w ≡ true → cell_on w x p placed ≡ lower_index x p
      named Walked e = refl
      named Searched e = refl
      named Direct e = absurd (true≢false (sym e))
      named Divided e = absurd (true≢false (sym e))

  pub found_by_division : by_search way ≡ false → 2 ≤ length x → cell ≡ direct_cell_in x placed → CellOn way x p placed cell
  found_by_division unsearched some is = record {
    found = is ∙ sym (named way unsearched);
    inside = omega (arith, is, direct_cell_inside (at x 0) (h x 0) (length x) placed);
    rising = λ search. absurd (true≢false (sym search ∙ unsearched));
  }
    where
      named : (w : Way) → by_search w ≡ false → cell_on w x p placed ≡ direct_cell_in x placed
      named Walked e = absurd (true≢false e)
      named Searched e = absurd (true≢false e)
      named Direct e = refl
      named Divided e = refl

-- ---- the knots of a found cell

abbrev step_test : Float → Float → Bool
step_test knot next = not (lt knot next) || not (finite (next ⊖ knot))

-- a step that is not refused lies between finite knots
step_is_all : (knot next : Float) → step_test knot next ≡ (not (finite knot) || not (finite next) || step_test knot next)
step_is_all knot next = go (step_test knot next) refl
  where
    or_true : (a b : Bool) → true ≡ (a || b || true)
    or_true true b = refl
    or_true false true = refl
    or_true false false = refl

    go : (s : Bool) → step_test knot next ≡ s → s ≡ (not (finite knot) || not (finite next) || s)
    go true e = or_true (not (finite knot)) (not (finite next))
    go false e =
        let both = finite_difference binary64 next knot (not-false _ (neither (not (lt knot next)) (not (finite (next ⊖ knot))) e).1) in
        rw (both.0, both.1) refl

pub step_of_cell : (x : List Float) (l : ℕ) {r : Bool} → r ≡ step_test (at x l) (at x (l + 1)) → r ≡ found_cell_refused x l
unfolding found_cell_refused step_refused h
step_of_cell x l e = e ∙ step_is_all (at x l) (at x (l + 1))
