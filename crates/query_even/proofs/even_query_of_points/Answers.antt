-- Where the pass over the knots leaves its flag down, they pass 7, 8 and 21, and the cell by division answers (`direct_answers`); else the
-- three are looked for one after the other.
use mathlib.Core.Path.{refl}
use Rattle.rules.proofs.Given.{err_given}
use Rattle.query_even.proofs.Answers.{direct_answers}
use Rattle.query_even.proofs.even_query_of_points.Goals as goal

pub knots_may_be_refused-requires : goal.knots_may_be_refused-requires
knots_may_be_refused-requires c = let fits = c.requires.search_fits in (fits.in_range, fits.four_points, fits.knots_exact)

pub returns-in_err-answer : goal.returns-in_err-answer
returns-in_err-answer c =
    λ all are.
    rw (err_given c.from_residual.result _ c.from_residual.ensures.1)
    (direct_answers _ _ _ _ _ _ c.requires all are (c.knots_may_be_refused.ensures c.if-knots_may_be_refused.false all are.points_are)
    _ _ (c.in_err-answer.ensures all are) refl)

pub returns : goal.returns
returns c =
    λ all are.
    direct_answers _ _ _ _ _ _ c.requires all are (c.knots_may_be_refused.ensures c.if-knots_may_be_refused.false all are.points_are)
    _ _ (c.in_ok-answer.ensures all are) refl
