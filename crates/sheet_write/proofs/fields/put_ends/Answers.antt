-- The upper end's number goes behind the lower end's, and these are the fields of both ends (`both_put`); Periodic has none.
use mathlib.Core.Path.{ap, sym, ◌∙◌}
use Rattle.base_numbers.proofs.Scan.{neither}
use Rattle.rules.specs.Refusals.{end_refused, ends_refused}
use Rattle.sheet_write.specs.SheetOf.{end_fields, ends_fields}
use Rattle.sheet_write.proofs.Puts.{none_put, both_put, first_within, second_within}
use Rattle.sheet_write.proofs.fields.put_ends.Goals as goal

pub put_end-next-requires : goal.put_end-next-requires
put_end-next-requires c =
    let known = c.in-Endpoints in
    let fine = neither (end_refused known.lower) (end_refused known.upper) (sym (ap ends_refused known.is) ∙ c.requires.0) in
    (fine.0, first_within _ _ (end_fields known.lower) (end_fields known.upper) (rw known.is at c.requires.1))

pub put_end-requires : goal.put_end-requires
put_end-requires c =
    let known = c.in-Endpoints in
    let fine = neither (end_refused known.lower) (end_refused known.upper) (sym (ap ends_refused known.is) ∙ c.requires.0) in
    let put = c.put_end-next.ensures in (
      fine.1,
      second_within _ _ (end_fields known.lower) (end_fields known.upper) _ _ put.0 put.1 (rw known.is at c.requires.1),
    )

pub returns-in-Endpoints : goal.returns-in-Endpoints
returns-in-Endpoints c =
    let known = c.in-Endpoints in
    let first = c.put_end-next.ensures in
    let second = c.put_end.ensures in
    rw known.is
    (both_put _ _ (end_fields known.lower) (end_fields known.upper) _ _ _ _ first.0 first.1 second.0 second.1)

pub returns-in-Periodic : goal.returns-in-Periodic
returns-in-Periodic c = none_put _ _ _ (ap ends_fields c.in-Periodic.is)
