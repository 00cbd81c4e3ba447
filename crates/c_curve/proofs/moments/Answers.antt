-- Where the host refuses nothing, kinds and values are two each, so that the condition can be read.
use mathlib.Core.Path.{sym}
use native.Mathlib.Omega.{arith}
use Rattle.c_refusals.proofs.Lengths.{moments_lengths}
use Rattle.c_curve.proofs.moments.Goals as goal

pub condition_given-condition-requires : goal.condition_given-condition-requires
condition_given-condition-requires c =
    let lengths = moments_lengths _ _ _ _ _ _ (sym c.in_default.ensures) in (omega arith, omega arith)
