-- 4 where a slot or slice of what is found of the axes has another length, and else 0: a table of one row.
use mathlib.Core.Path.{refl}
use Rattle.grid_checks.proofs.Rows.{stop, pass}
use Rattle.c_refusals.specs.OwnRefusals.{read_edition_1_own_refusal}
use Rattle.c_refusals.proofs.own.check_read_edition_1.Goals as goal

pub returns-then-found_slots_refused : goal.returns-then-found_slots_refused
unfolding read_edition_1_own_refusal
returns-then-found_slots_refused c = stop _ c.found_slots_refused.ensures c.if-found_slots_refused.true

pub returns : goal.returns
unfolding read_edition_1_own_refusal
returns c = pass _ c.found_slots_refused.ensures c.if-found_slots_refused.false refl
