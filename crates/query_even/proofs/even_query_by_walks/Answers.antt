-- On any axes with these points and modes the first that applies decides: 7 or 8 (`check_refuses`), 21 with the uneven axis and its
-- interval (`axis_refuses`), else the knots pass (`knots_pass`) and the cell by division answers, 18 and 10 among it (`direct_answers`).
use mathlib.Core.Path.{refl}
use Rattle.rules.proofs.Given.{err_given, number_some}
use Rattle.query_even.proofs.Answers.{check_refuses, axis_refuses, knots_pass, direct_answers}
use Rattle.query_even.proofs.even_query_by_walks.Goals as goal

pub check_knots_and_coordinates-requires : goal.check_knots_and_coordinates-requires
check_knots_and_coordinates-requires c = let fits = c.requires.search_fits in (fits.in_range, fits.four_points, fits.knots_exact)

pub returns-in_err-check_knots_and_coordinates : goal.returns-in_err-check_knots_and_coordinates
returns-in_err-check_knots_and_coordinates c =
    λ all are.
    rw (err_given c.from_residual.result _ c.from_residual.ensures.1)
    (check_refuses _ _ _ _ _ _ c.requires all are _ c.in_err-check_knots_and_coordinates.ensures (number_some _) _ _ refl refl)

pub first_lacking-requires : goal.first_lacking-requires
first_lacking-requires c = let fits = c.requires.search_fits in (fits.in_range, fits.four_points, fits.knots_exact)

pub returns-in-Some : goal.returns-in-Some
returns-in-Some c =
    λ all are.
    axis_refuses _ _ _ _ _ _ c.requires all are _ c.in_ok-check_knots_and_coordinates.ensures refl _
    (c.in-Some.ensures all are.points_are)

pub returns-in_err-answer-in-None : goal.returns-in_err-answer-in-None
returns-in_err-answer-in-None c =
    λ all are.
    rw (err_given c.from_residual-in_err-answer-in-None.result _ c.from_residual-in_err-answer-in-None.ensures.1)
    (direct_answers _ _ _ _ _ _ c.requires all are
    (knots_pass _ _ _ _ _ _ c.requires all are _ c.in_ok-check_knots_and_coordinates.ensures refl (c.in-None.ensures all are.points_are))
    _ _ (c.in_err-answer-in-None.ensures all are) refl)

pub returns-in_ok-answer-in-None : goal.returns-in_ok-answer-in-None
returns-in_ok-answer-in-None c =
    λ all are.
    direct_answers _ _ _ _ _ _ c.requires all are
    (knots_pass _ _ _ _ _ _ c.requires all are _ c.in_ok-check_knots_and_coordinates.ensures refl (c.in-None.ensures all are.points_are))
    _ _ (c.in_ok-answer-in-None.ensures all are) refl
