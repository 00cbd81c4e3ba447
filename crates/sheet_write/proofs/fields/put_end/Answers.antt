-- NotAKnot puts nothing (`none_put`); a derivative puts its one number in 64 bits (`one_put`), finite since it is not refused.
use mathlib.Core.Path.{◌≡◌, ap, sym, ◌∙◌}
use mathlib.Core.Logic.{⊎_elim}
use borrow.Author.Tests.{not-false}
use Rattle.rules.specs.Refusals.{end_refused}
use Rattle.rules.specs.declared.End.TheVariants.{FirstDerivative}
use Rattle.sheet_write.specs.SheetOf.{end_fields}
use Rattle.sheet_write.proofs.Puts.{none_put, one_put, one_within}
use Rattle.sheet_write.proofs.fields.put_end.Goals as goal
use Rattle.sheet_write.proofs.fields.put_end.Goals.{In-FirstDerivative}

-- either derivative has the fields of the first
fields : (c : In-FirstDerivative) → end_fields c.args.end ≡ end_fields (FirstDerivative c.in-FirstDerivative.value)
fields c = ⊎_elim (λ e. ap end_fields e) (λ e. ap end_fields e) c.in-FirstDerivative.is

-- and is refused where the first is
refused : (c : In-FirstDerivative) → end_refused c.args.end ≡ end_refused (FirstDerivative c.in-FirstDerivative.value)
refused c = ⊎_elim (λ e. ap end_refused e) (λ e. ap end_refused e) c.in-FirstDerivative.is

pub put_number-requires : goal.put_number-requires
put_number-requires c =
    let here = (goal.at.put_number-requires c).In-FirstDerivative in
    (one_within _ _ _ _ (fields here) c.requires.1, not-false _ (sym (refused here) ∙ c.requires.0))

pub returns-in-NotAKnot : goal.returns-in-NotAKnot
returns-in-NotAKnot c = none_put _ _ _ (ap end_fields c.in-NotAKnot.is)

pub returns-in-FirstDerivative : goal.returns-in-FirstDerivative
returns-in-FirstDerivative c = one_put _ _ _ _ _ (fields (goal.at.returns-in-FirstDerivative c).In-FirstDerivative) c.put_number.ensures
