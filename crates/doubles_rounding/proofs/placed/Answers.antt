-- A power of two above the fraction is the exponent's (`place_above`); one below it is moved down by, and what is lost there stays the last
-- place (`placed_down`).
use mathlib.Core.Path.{sym, ◌∙◌}
use native.Mathlib.Omega.{arith}
use lib.Dec.{lit<}
use lib.Ieee.{binary64}
use Rattle.doubles_rounding.proofs.Placing.{place_above, placed_down}
use Rattle.doubles_rounding.proofs.placed.Goals as goal

pub top_rounded-requires : goal.top_rounded-requires
top_rounded-requires c = (λ h. omega arith, omega arith)

pub top_rounded-requires-else-down-up : goal.top_rounded-requires-else-down-up
top_rounded-requires-else-down-up c = (λ h. omega arith, omega arith)

pub returns-then-down-up : goal.returns-then-down-up
returns-then-down-up c = (c.top_rounded.ensures.0 ∙ sym (place_above binary64 _ 1024 _ _ (lit< tt) (omega arith)), c.top_rounded.ensures.1)

pub returns-else-down-up : goal.returns-else-down-up
returns-else-down-up c = (c.top_rounded-else-down-up.ensures.0 ∙ placed_down _ _ _ _ c.moved_down.ensures (omega arith), c.top_rounded-else-down-up.ensures.1)
