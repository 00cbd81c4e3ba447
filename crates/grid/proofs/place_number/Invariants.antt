-- `number` is the flat number of the place on the axes below `j`; with one axis more it stays below 4096 (`number_fits`), so nothing
-- overflows.
use mathlib.Core.Path.{◌≡◌}
use Rattle.rules.specs.Sizes.{place_of, flat}
use Rattle.grid.specs.GridOfCall.{points_of}
use Rattle.grid.proofs.place_number.Given as goal

abbrev pub invariant-loop-j : goal.invariant-loop-j
invariant-loop-j l = l.number ≡ flat (points_of l.all) l.j (place_of l.place)
