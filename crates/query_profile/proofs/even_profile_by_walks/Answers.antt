-- The knots decide by the first quality that an axis lacks, 7, 8 or 21, and tell where (`told_7`, `told_8`, `told_21`), or nothing is
-- refused (`told_0`). Behind the pass for 8 no axis lacks that its knots are finite and rise, whether the pass found nothing (`passed_8`)
-- or what it found lacks neither.
use mathlib.Core.List.{List}
use Rattle.std.specs.Prelude.{None}
use Rattle.rules.specs.declared.Axis.{Axis}
use Rattle.grid.specs.GridOfCall.{grid}
use Rattle.query_answer.specs.PointsAndModes.{PointsOf}
use Rattle.query_even.specs.Lacking.{FirstLack}
use Rattle.query_even.specs.declared.qualities.Quality.TheVariants.{Finite, Rising}
use Rattle.query_profile.proofs.Answers.{passed_8, told_7, told_8, told_21, told_0}
use Rattle.query_profile.proofs.even_profile_by_walks.Goals as goal
use Rattle.query_profile.proofs.even_profile_by_walks.Goals.{
  After-first_lacking-2,
  then-knots_of_points_refused+in_default+in_default-first_lacking,
  else-knots_of_points_refused,
}

pub returns-in-Some : goal.returns-in-Some
returns-in-Some c = (λ all are. told_7 _ _ _ c.requires all are _ (c.in-Some.ensures all are), tt)

pub returns-in-Some-first_lacking : goal.returns-in-Some-first_lacking
returns-in-Some-first_lacking c = (
  λ all are. told_8 _ _ _ c.requires all are (c.in_default.ensures all are) _ (c.in-Some-first_lacking.ensures all are),
  tt,
)

behind_8 : (c : After-first_lacking-2) → (all : List Axis) → PointsOf c.args.axes c.args.points.now all
    → FirstLack Finite (grid c.args.axes all c.args.knots.now) None × FirstLack Rising (grid c.args.axes all c.args.knots.now) None
behind_8 c all are = elim c.if-knots_of_points_refused.branch [
  | then-knots_of_points_refused+in_default+in_default-first_lacking w ↦
      (w.in_default.ensures all are, w.in_default-first_lacking.ensures all are)
  | else-knots_of_points_refused w ↦
      passed_8 _ _ _ c.requires all are c.knots_of_points_refused.ensures w.if-knots_of_points_refused.false
]

pub returns-in-Some-first_lacking-2 : goal.returns-in-Some-first_lacking-2
returns-in-Some-first_lacking-2 c = (
  λ all are.
      let behind = behind_8 (goal.at.returns-in-Some-first_lacking-2 c).After-first_lacking-2 all are in
      told_21 _ _ _ c.requires all are behind.0 behind.1 _ (c.in-Some-first_lacking-2.ensures all are),
  tt,
)

pub returns-in-None : goal.returns-in-None
returns-in-None c = (
  λ all are.
      let behind = behind_8 (goal.at.returns-in-None c).After-first_lacking-2 all are in
      told_0 _ _ _ c.requires all are behind.0 behind.1 (c.in-None.ensures all are),
  tt,
)
