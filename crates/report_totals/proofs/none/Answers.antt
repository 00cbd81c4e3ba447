-- The totals of the empty list of sheets compute to zeros throughout.
use mathlib.Core.Path.{refl}
use Rattle.rules.specs.Numbers.{filter}
use Rattle.report_totals.specs.Totals.{largest, all_entries, totals_of}
use Rattle.report_totals.proofs.none.Goals as goal

pub returns : goal.returns
unfolding totals_of filter largest all_entries
returns c = refl
