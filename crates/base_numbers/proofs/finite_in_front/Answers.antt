-- Where no difference of four is refused, no number of the four quarters is (`quarters_finite`); else the answer is 0 numbers.
use Prim.Native.Nat.{◌/◌}
use mathlib.Core.Path.{sym, ◌∙◌}
use lib.ListN.{length}
use Rattle.base_numbers.proofs.Scan.{any_none}
use Rattle.base_numbers.proofs.Quarters.{quarters_finite}
use borrow.Author.Rules.{rules}
use Rattle.base_numbers.proofs.finite_in_front.Goals as goal

pub returns-then-any_difference_not_finite : goal.returns-then-any_difference_not_finite
returns-then-any_difference_not_finite c = (search rules, any_none _)

pub returns : goal.returns
returns c =
    let s = c.args.s.now in
    (search rules, quarters_finite s (length s / 4) (sym c.any_difference_not_finite.ensures ∙ c.if-any_difference_not_finite.false))
