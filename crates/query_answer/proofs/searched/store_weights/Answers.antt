-- The four weights at the places of the axis are those of its step and fraction, and those of the other axes stay: `weights_stored`.
use native.Mathlib.Omega.{arith}
use lib.ListN.{length-set}
use Rattle.rules.specs.Steps.{h}
use Rattle.rules.specs.Query.{fraction}
use Rattle.query_answer.proofs.Weighing.{weights_stored}
use Rattle.query_answer.proofs.searched.store_weights.Goals as goal

pub bounds-weights-axis-2 : goal.bounds-weights-axis-2
bounds-weights-axis-2 c = simp length-set (omega arith)

pub bounds-weights-axis-3 : goal.bounds-weights-axis-3
bounds-weights-axis-3 c = simp length-set (omega arith)

pub bounds-weights-axis-4 : goal.bounds-weights-axis-4
bounds-weights-axis-4 c = simp length-set (omega arith)

pub returns : goal.returns
unfolding h fraction
returns c = weights_stored _ _ _ (omega arith) _ _ _ c.hermite_weights-of_axis.ensures
