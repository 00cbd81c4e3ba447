-- Where the host refuses nothing, value and labels are those of the cell that the search finds (`quick_query_called`), and what that call
-- asks of points, modes and slices is left by the own refusal (`query_own_fits`).
use mathlib.Core.Path.{refl, sym}
use Rattle.std.specs.Prelude.{Ok, Err}
use Rattle.rules.specs.Answers.{query_told}
use Rattle.c_refusals.proofs.Lengths.{query_own_fits}
use Rattle.c_query.proofs.Given.{query_fits}
use Rattle.c_query.proofs.Exported.{quick_query_called}
use Rattle.c_query.proofs.quick_query.Goals as goal

pub quick_query_of_points-requires : goal.quick_query_of_points-requires
quick_query_of_points-requires c =
    query_fits (query_own_fits _ _ _ _ _ _ c.args.value.now c.args.labels.now (sym c.in_default.ensures))

pub returns-in-Ok : goal.returns-in-Ok
returns-in-Ok c =
    quick_query_called _ _ _ _ _ _ _ _ c.in_default.ensures refl (query_told (Ok c.in-Ok.found)) c.in-Ok.ensures c.store_query-in-Ok.ensures

pub returns-in-Err-quick_query_of_points : goal.returns-in-Err-quick_query_of_points
returns-in-Err-quick_query_of_points c =
    rw c.number-in-Err-quick_query_of_points.ensures
    (quick_query_called _ _ _ _ _ _ _ _ c.in_default.ensures refl (query_told (Err c.in-Err-quick_query_of_points.refusal)) c.in-Err-quick_query_of_points.ensures
    c.store_query-in-Err-quick_query_of_points.ensures)
