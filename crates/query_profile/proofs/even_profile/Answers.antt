-- 1 to 4 by the sizes and the number of knots, with no axis and no place told (`sizes_answer`); past them the profile of the four axes'
-- points, for which `profile_fits` gives what is required.
use mathlib.Core.Path.{refl, sym, ap}
use Rattle.rules.proofs.Given.{err_given, number_some}
use Prim.Native.Nat.{ℕ}
use Rattle.query_profile.proofs.Answers.{profile_fits, sizes_low, sizes_answer}
use borrow.Author.Rules.{rules}
use Rattle.query_profile.proofs.even_profile.Goals as goal

pub returns-in_err-check_profile_sizes : goal.returns-in_err-check_profile_sizes
returns-in_err-check_profile_sizes c =
    rw (err_given c.from_residual.result _ c.from_residual.ensures.1) (
      sizes_answer _ _ _ c.points_of-points.result c.points_of-points.ensures _ c.in_err-check_profile_sizes.ensures
          (number_some _) _ refl,
      sizes_low _ _ _ c.points_of-points.result c.points_of-points.ensures _ c.in_err-check_profile_sizes.ensures
          (number_some _),
    )

pub even_profile_of_points-requires : goal.even_profile_of_points-requires
even_profile_of_points-requires c =
    profile_fits c.args.axes c.points_of-points.result c.args.knots.now (search rules)
    (sym c.in_ok-check_profile_sizes.ensures)

pub returns : goal.returns
returns c = (
  c.even_profile_of_points.ensures.0 c.args.all (λ i l. ap (λ (n : ℕ → ℕ). n i) (sym c.points_of-points.ensures)),
  c.even_profile_of_points.ensures.1,
)
