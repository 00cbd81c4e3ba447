-- `Counted` holds of the axes below `i`: none has points that are refused, `knots` is their sum, `numbers` their product times the
-- masks of all axes, which four axes keep within 2^36. The measure is the axes left; 2 answers inside the loop, 3 or 0 behind it.
use Rattle.rules.specs.Sizes.{place_of}
use Rattle.grid_checks.proofs.Counting.{Counted}
use Rattle.grid_checks.proofs.sizes.sizes_of_points.Given as goal

abbrev pub invariant-loop-i : goal.invariant-loop-i
invariant-loop-i l = Counted l.axes (place_of l.points) l.i l.knots l.numbers
