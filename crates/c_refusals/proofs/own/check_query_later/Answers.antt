-- What a query meets after its axes, with the sizes that were found: 4 for modes and slots, 4 for its slices, then 22. That the modes
-- are four, which the test of 22 asks, is left by the first of these.
use mathlib.Core.Path.{refl, sym, ◌∙◌}
use Rattle.grid_checks.proofs.Rows.{first, second, stop, pass, Past}
use Rattle.c_refusals.specs.OwnSizes.{rows_of_sizes}
use Rattle.c_refusals.proofs.Lengths.{mode_lengths}
use Rattle.c_refusals.proofs.own.check_query_later.Goals as goal
use Rattle.c_refusals.proofs.own.check_query_later.Goals.{Else-query_lengths_refused}

past_lengths : (c : Else-query_lengths_refused) → Past ((rows_of_sizes c.args.axes c.args.sizes c.args.modes.now c.args.knots.now c.args.tensor.now
    c.args.coordinates.now c.args.value.now c.args.labels.now)) 1
past_lengths c answer e =
    pass _ (second c.modes_or_slots_refused.ensures c.if-modes_or_slots_refused.false c.query_lengths_refused.ensures)
    c.if-query_lengths_refused.false e

pub returns-then-modes_or_slots_refused : goal.returns-then-modes_or_slots_refused
returns-then-modes_or_slots_refused c = stop _ (first _ c.modes_or_slots_refused.ensures c.if-modes_or_slots_refused.true) refl

pub returns-then-query_lengths_refused : goal.returns-then-query_lengths_refused
returns-then-query_lengths_refused c =
    stop _ (second c.modes_or_slots_refused.ensures c.if-modes_or_slots_refused.false c.query_lengths_refused.ensures)
    c.if-query_lengths_refused.true

pub some_modes_refused-requires : goal.some_modes_refused-requires
some_modes_refused-requires c = (
  c.requires,
  mode_lengths c.args.modes.now c.args.value.now c.args.labels.now
      (sym c.modes_or_slots_refused.ensures ∙ c.if-modes_or_slots_refused.false),
)

pub returns-then-some_modes_refused : goal.returns-then-some_modes_refused
returns-then-some_modes_refused c = past_lengths (goal.at.returns-then-some_modes_refused c).Else-query_lengths_refused _ (stop _ c.some_modes_refused.ensures c.if-some_modes_refused.true)

pub returns : goal.returns
returns c = past_lengths (goal.at.returns c).Else-query_lengths_refused _ (pass _ c.some_modes_refused.ensures c.if-some_modes_refused.false refl)
