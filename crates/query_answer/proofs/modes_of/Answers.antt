-- Four numbers, each that of its axis's mode: by `modes_taken` the modes are had back from them.
use Rattle.query_answer.proofs.Modes.{modes_taken}
use Rattle.query_answer.proofs.modes_of.Goals as goal

pub returns : goal.returns
returns c =
    modes_taken _ _ _ _ _ c.mode_of.ensures c.mode_of-2.ensures c.mode_of-3.ensures
    c.mode_of-4.ensures
