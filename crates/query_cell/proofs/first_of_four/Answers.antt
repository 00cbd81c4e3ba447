-- The runs fill the cell.
use native.Mathlib.Omega.{arith}
use lib.Seq.{length-take-le}
use Rattle.query_cell.proofs.Spotting.{spots_of_four, four_small}
use Rattle.query_cell.proofs.Removing.{runs_given, first_removed}
use Rattle.query_cell.proofs.first_of_four.Goals as goal

pub overflow_mul-last : goal.overflow_mul-last
overflow_mul-last c = let s = four_small _ _ c.requires.0.0 in omega arith

pub overflow_mul-next : goal.overflow_mul-next
overflow_mul-next c = let s = four_small _ _ c.requires.0.0 in omega arith

pub overflow_mul-above : goal.overflow_mul-above
overflow_mul-above c = let s = four_small _ _ c.requires.0.0 in omega arith

pub overflow_mul-first : goal.overflow_mul-first
overflow_mul-first c = let s = four_small _ _ c.requires.0.0 in omega arith

pub overflow_mul-first-2 : goal.overflow_mul-first-2
overflow_mul-first-2 c = let s = four_small _ _ c.requires.0.0 in omega arith

pub overflow_add-first : goal.overflow_add-first
overflow_add-first c = let s = four_small _ _ c.requires.0.0 in omega arith

pub overflow_mul-first-3 : goal.overflow_mul-first-3
overflow_mul-first-3 c =
    let s = four_small _ _ c.requires.0.0 in
    omega arith

pub overflow_add-first-2 : goal.overflow_add-first-2
overflow_add-first-2 c =
    let s = four_small _ _ c.requires.0.0 in
    omega arith

pub overflow_mul-first-4 : goal.overflow_mul-first-4
overflow_mul-first-4 c =
    let s = four_small _ _ c.requires.0.0 in
    omega arith

pub overflow_add-first-3 : goal.overflow_add-first-3
overflow_add-first-3 c =
    let s = four_small _ _ c.requires.0.0 in
    omega arith

pub remove_runs-requires : goal.remove_runs-requires
remove_runs-requires c = (
  runs_given 4 _ _ c.args.tensor.now _ c.requires.0.0 (omega arith) c.requires.0.2 (spots_of_four _ _),
  length-take-le 64 c.args.cell.now (omega arith),
)

pub returns : goal.returns
returns c =
    first_removed 4 _ _ c.args.tensor.now _ c.requires.0.0 (omega arith) c.requires.0.2 (spots_of_four _ _) _
    c.args.cell.now
    _
    (omega (arith, c.requires.1))
    c.remove_runs.ensures
