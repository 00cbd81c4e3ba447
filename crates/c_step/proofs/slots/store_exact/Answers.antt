-- A slot of two holds 1 and the index where a knot was found, and 0 0 where none was; a slot of another length stays as it was.
use mathlib.Core.Path.{sym, ◌∙◌}
use Rattle.grid_checks.proofs.Rows.{exact}
use Rattle.c_step.proofs.slots.store_exact.Goals as goal

pub returns-then-length_refused : goal.returns-then-length_refused
returns-then-length_refused c = rw (sym c.length_refused.ensures ∙ c.if-length_refused.true)

pub store_two-requires : goal.store_two-requires
store_two-requires c = exact _ 2 (sym c.length_refused.ensures ∙ c.if-length_refused.false)

pub store_two-requires-in-None : goal.store_two-requires-in-None
store_two-requires-in-None c = exact _ 2 (sym c.length_refused.ensures ∙ c.if-length_refused.false)

pub returns-in-Some : goal.returns-in-Some
returns-in-Some c = rw (sym c.length_refused.ensures ∙ c.if-length_refused.false, c.in-Some.is) c.store_two.ensures

pub returns-in-None : goal.returns-in-None
returns-in-None c =
    rw (sym c.length_refused.ensures ∙ c.if-length_refused.false, c.in-None.is)
    c.store_two-in-None.ensures
