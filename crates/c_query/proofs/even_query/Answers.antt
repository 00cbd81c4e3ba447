-- Where the host refuses nothing, value, labels, uneven axis and interval are the answer on the grid in its modes (`even_query_called`);
-- `even_query_own_fits` gives the lengths that the call asks.
use mathlib.Core.Path.{refl, sym}
use Rattle.std.specs.Prelude.{Ok, Err}
use Rattle.rules.specs.Answers.{even_told}
use Rattle.rules.specs.declared.EvenRefusal.TheVariants.{Refused, Uneven}
use Rattle.c_refusals.proofs.Lengths.{even_query_own_fits}
use Rattle.c_query.proofs.Given.{query_fits}
use Rattle.c_query.proofs.Exported.{even_query_called}
use Rattle.c_query.proofs.even_query.Goals as goal

pub even_query_of_points-requires : goal.even_query_of_points-requires
even_query_of_points-requires c =
    query_fits
    (even_query_own_fits _ _ _ _ _ _ c.args.value.now c.args.labels.now c.args.uneven.now (sym c.in_default.ensures)).0

pub returns-in-Ok : goal.returns-in-Ok
returns-in-Ok c =
    even_query_called _ _ _ _ _ _ _ _ _ c.in_default.ensures refl (even_told (Ok c.in-Ok.found)) c.in-Ok.ensures
    c.store_even_query-in-Ok.ensures

pub returns-in-Err-Uneven : goal.returns-in-Err-Uneven
returns-in-Err-Uneven c =
    rw c.number-in-Err-Uneven.ensures
    (even_query_called _ _ _ _ _ _ _ _ _ c.in_default.ensures refl
    (even_told (Err (Uneven c.in-Err-Uneven.axis c.in-Err-Uneven.interval))) (rw c.in-Err-Uneven.field-0-is at c.in-Err-Uneven.ensures)
    c.store_even_query-in-Err-Uneven.ensures)

pub returns-in-Err-Refused : goal.returns-in-Err-Refused
returns-in-Err-Refused c =
    rw c.number-in-Err-Refused.ensures
    (even_query_called _ _ _ _ _ _ _ _ _ c.in_default.ensures refl (even_told (Err (Refused c.in-Err-Refused.refusal)))
    (rw c.in-Err-Refused.field-0-is at c.in-Err-Refused.ensures) c.store_even_query-in-Err-Refused.ensures)
