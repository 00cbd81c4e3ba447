-- Where the host refuses nothing, points and directions are four and the surface can be stepped on (`surface_fits`), and the sample and its
-- indices are the call's for the points and directions given (`stepped_called`).
use mathlib.Core.Path.{refl}
use Rattle.std.specs.Prelude.{Ok, Err}
use Rattle.rules.specs.Answers.{stepped_told}
use Rattle.c_step.proofs.Lengths.{four_directions, surface_fits}
use Rattle.c_step.proofs.Exported.{stepped_called}
use Rattle.c_step.proofs.stepped.Goals as goal

pub directions_given-given-requires : goal.directions_given-given-requires
directions_given-given-requires c = four_directions _ c.args.points.now _ _ _ _ _ _ c.in_default.ensures refl

pub stepped_of_points-requires : goal.stepped_of_points-requires
stepped_of_points-requires c = surface_fits _ _ c.args.directions.now _ _ _ _ _ c.in_default.ensures refl

pub returns-in-Ok : goal.returns-in-Ok
returns-in-Ok c =
    stepped_called _ _ _ _ _ _ _ _ c.in_default.ensures refl _ c.directions_given-given.ensures
    (stepped_told (Ok c.in-Ok.found)) c.in-Ok.ensures c.store_query-in-Ok.ensures

pub returns-in-Err-stepped_of_points : goal.returns-in-Err-stepped_of_points
returns-in-Err-stepped_of_points c =
    rw c.number-in-Err-stepped_of_points.ensures
    (stepped_called _ _ _ _ _ _ _ _ c.in_default.ensures refl _ c.directions_given-given.ensures
    (stepped_told (Err c.in-Err-stepped_of_points.refusal)) c.in-Err-stepped_of_points.ensures
    c.store_query-in-Err-stepped_of_points.ensures)
