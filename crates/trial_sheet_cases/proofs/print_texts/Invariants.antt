-- Nothing is said of what is printed, only that the loop ends: the measure is what is left of the list.
use Rattle.std.proofs.Common.{length}
use Rattle.trial_sheet_cases.proofs.print_texts.Given as goal

abbrev pub decreases-loop-length : goal.decreases-loop-length
decreases-loop-length l = length l.rest
