-- The promise of the stepped surface: 1 to 4 by sizes and lengths, with +0.0 and indices 0 beside them (`sizes_refuse`), else the answer on
-- the points, which are those of these axes.
use mathlib.Core.Path.{refl, sym, ap}
use Prim.Native.Nat.{ℕ}
use Rattle.rules.proofs.Given.{err_given, number_some}
use Rattle.step_surface.proofs.Answers.{sizes_refuse}
use borrow.Author.Rules.{rules}
use Rattle.step_surface.proofs.stepped.Goals as goal

pub returns-in_err-check_stepped_sizes : goal.returns-in_err-check_stepped_sizes
returns-in_err-check_stepped_sizes c =
    rw (err_given c.from_residual.result _ c.from_residual.ensures.1)
    (sizes_refuse _ _ _ _ _ _ c.points_of-points.result c.points_of-points.ensures
    c.in_err-check_stepped_sizes.ensures (number_some _) _ refl)

pub stepped_of_points-requires : goal.stepped_of_points-requires
stepped_of_points-requires c = record {
  four_points = search rules;
  none_refused = sym c.in_ok-check_stepped_sizes.ensures;
}

pub returns : goal.returns
returns c = c.stepped_of_points.ensures _ (λ i l. ap (λ (n : ℕ → ℕ). n i) (sym c.points_of-points.ensures))
