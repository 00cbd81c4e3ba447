-- The axes from `axis` on have their indices, and `rest` gives those of the others: each axis takes the remainder by its points off it.
use Rattle.grid.specs.GridOfCall.{points_of}
use Rattle.tensor_verify.proofs.Indices.{Turn}
use Rattle.tensor_verify.proofs.places.place_of_number.Given as goal

abbrev pub invariant-loop-axis : goal.invariant-loop-axis
invariant-loop-axis l = Turn (points_of l.all) l.axes l.number l.place l.rest l.axis
