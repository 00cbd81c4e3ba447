-- The run of four stands in the front of the cell.
use native.Mathlib.Omega.{arith}
use lib.Seq.{length-take-le}
use Rattle.query_cell.proofs.Spotting.{spots_of_two, two_small}
use Rattle.query_cell.proofs.Removing.{runs_given, one_run_given, one_run, first_removed}
use Rattle.query_cell.proofs.first_of_two.Goals as goal

pub overflow_mul-above : goal.overflow_mul-above
overflow_mul-above c = let s = two_small _ _ c.requires.0.0 in omega arith

pub overflow_mul-first : goal.overflow_mul-first
overflow_mul-first c = let s = two_small _ _ c.requires.0.0 in omega arith

pub overflow_mul-first-2 : goal.overflow_mul-first-2
overflow_mul-first-2 c = let s = two_small _ _ c.requires.0.0 in omega arith

pub overflow_add-first : goal.overflow_add-first
overflow_add-first c = let s = two_small _ _ c.requires.0.0 in omega arith

pub overflow_add-first-2 : goal.overflow_add-first-2
overflow_add-first-2 c = let s = two_small _ _ c.requires.0.0 in omega arith

pub blend_run-requires : goal.blend_run-requires
blend_run-requires c =
    rw (length-take-le 4 c.args.cell.now (omega arith))
    (one_run_given _ c.args.tensor.now
    (runs_given 2 _ _ c.args.tensor.now _ c.requires.0.0 (omega arith) c.requires.0.2 (spots_of_two _ _)))

pub returns : goal.returns
returns c =
    first_removed 2 _ _ c.args.tensor.now _ c.requires.0.0 (omega arith) c.requires.0.2 (spots_of_two _ _) _
    c.args.cell.now
    _
    (omega (arith, c.requires.1))
    (one_run _ _ _ _ (rw (length-take-le 4 c.args.cell.now (omega arith)) at c.blend_run.ensures))
