-- With the axes below `axis` done, each number at a mask of theirs is the refreshed one, every other stands as it did, and `lanes` is
-- the count of the lanes solved, which cannot overflow (`count_fits`).
use Rattle.rules.specs.Sizes.{place_of}
use Rattle.grid.specs.GridOfCall.{grid}
use Rattle.tensor_passes.proofs.AxisTurns.{Turn}
use Rattle.tensor_passes.proofs.solve_axes.Given as goal

abbrev pub invariant-loop-axis : goal.invariant-loop-axis
invariant-loop-axis l = Turn (grid l.axes l.all l.knots) l.initial.w l.w l.whole (place_of l.place) l.lanes l.axis
