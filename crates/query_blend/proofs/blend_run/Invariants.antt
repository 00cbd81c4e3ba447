-- The run, four blends a turn: after k turns the numbers below 4 * k are blended and the others untouched.
use Rattle.query_blend.proofs.Running.{Turn}
use Rattle.query_blend.proofs.blend_run.Given as goal

abbrev pub invariant-loop-k : goal.invariant-loop-k
invariant-loop-k l = Turn l.initial.run l.numbers l.lower l.upper l.weights l.run l.k
