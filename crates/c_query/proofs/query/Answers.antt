-- Where the host refuses nothing every slice fits (`query_own_fits`), and what is answered by points and modes is the query's answer on the
-- grid in its modes (`query_called`).
use mathlib.Core.Path.{refl, sym}
use Rattle.std.specs.Prelude.{Ok, Err}
use Rattle.rules.specs.Answers.{query_told}
use Rattle.c_refusals.proofs.Lengths.{query_own_fits}
use Rattle.c_query.proofs.Given.{query_fits}
use Rattle.c_query.proofs.Exported.{query_called}
use Rattle.c_query.proofs.query.Goals as goal

pub query_of_points-requires : goal.query_of_points-requires
query_of_points-requires c =
    query_fits (query_own_fits _ _ _ _ _ _ c.args.value.now c.args.labels.now (sym c.in_default.ensures))

pub returns-in-Ok : goal.returns-in-Ok
returns-in-Ok c =
    query_called _ _ _ _ _ _ _ _ c.in_default.ensures refl (query_told (Ok c.in-Ok.found)) c.in-Ok.ensures c.store_query-in-Ok.ensures

pub returns-in-Err-query_of_points : goal.returns-in-Err-query_of_points
returns-in-Err-query_of_points c =
    rw c.number-in-Err-query_of_points.ensures
    (query_called _ _ _ _ _ _ _ _ c.in_default.ensures refl (query_told (Err c.in-Err-query_of_points.refusal)) c.in-Err-query_of_points.ensures
    c.store_query-in-Err-query_of_points.ensures)
