-- Where the pass over the knots leaves its flag down nothing is refused (`passed_0`); else what the walks one after the other answer.
use mathlib.Core.Path.{refl}
use Rattle.query_profile.proofs.Answers.{passed_0}
use Rattle.query_profile.proofs.even_profile_of_points.Goals as goal

pub knots_may_be_refused-requires : goal.knots_may_be_refused-requires
knots_may_be_refused-requires c = let fits = c.requires in (fits.in_range, fits.four_points, fits.knots_exact)

pub returns : goal.returns
returns c = (
  λ all are.
      passed_0 _ _ _ c.requires all are
      (c.knots_may_be_refused.ensures c.if-knots_may_be_refused.false all are) _ refl,
  tt,
)
