-- A kind within 1 to 2 has one pattern; below that range and above it an end has none.
use native.Mathlib.Omega.{arith}
use Rattle.grid_codes.specs.Kinds.{values_of_kind}
use Rattle.grid_codes.proofs.Among.{within, below, above}
use Rattle.grid_codes.proofs.ends.values_of_kind.Goals as goal

pub returns-in-1-to-2 : goal.returns-in-1-to-2
unfolding values_of_kind
returns-in-1-to-2 c = let kind = c.args.kind in simp (within 1 2 kind (omega arith) (omega arith))

pub returns-in_default : goal.returns-in_default
unfolding values_of_kind
returns-in_default c = let kind = c.args.kind in simp (below 1 2 kind (omega arith))

pub returns-in_default-2 : goal.returns-in_default-2
unfolding values_of_kind
returns-in_default-2 c = let kind = c.args.kind in simp (above 1 2 kind (omega arith) (omega arith))
