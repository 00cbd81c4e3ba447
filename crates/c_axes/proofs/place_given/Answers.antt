-- Four entries read in turn from a slice of four are the slice (`four_read`).
use Rattle.c_axes.proofs.Slots.{four_read}
use borrow.Author.Rules.{rules}
use Rattle.c_axes.proofs.place_given.Goals as goal

pub returns : goal.returns
returns c = four_read _ 0 (search rules)
