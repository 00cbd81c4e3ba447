-- Put to any two values and slopes, these weights give the Hermite blend of the rules: both are the same operations.
use mathlib.Core.Path.{refl}
use Rattle.rules.specs.Query.{hermite}
use Rattle.query_blend.proofs.hermite_weights.Goals as goal

pub returns : goal.returns
unfolding hermite
returns c = record { blended = λ p0 m0 p1 m1. refl }
