-- After `j` axes the walk has their lanes, each at its start, and goes through three of them at most, since the lanes' own never
-- varies. Then the masks come in as one axis more, so that each lane starts at the mask of its place.
use Rattle.rules.specs.Sizes.{place_of, moved}
use Rattle.grid.specs.GridOfCall.{points_of}
use Rattle.tensor_starts.specs.Starts.{varies}
use Rattle.tensor_starts.proofs.Axes.{Walked}
use Rattle.tensor_starts.proofs.walk_over.Given as goal

abbrev pub invariant-loop-j : goal.invariant-loop-j
invariant-loop-j l = Walked (points_of l.all) (varies l.whole l.target l.axis) (moved (place_of l.place) l.axis 0) l.axis l.j l.walk
