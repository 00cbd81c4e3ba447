-- The first axis is removed by the function for as many axes.
use native.Mathlib.Omega.{arith}
use Rattle.query_cell.proofs.Removing.{only_removed, one_within, four_axes}
use Rattle.query_cell.proofs.remove_first.Goals as goal

pub overflow_mul-lower : goal.overflow_mul-lower
overflow_mul-lower c =
    let w = one_within _ _ _ c.args.tensor.now c.in-1.is c.requires.0.0 c.requires.0.2 in
    omega arith

pub first_of_one-requires : goal.first_of_one-requires
first_of_one-requires c =
    let w = one_within _ _ _ c.args.tensor.now c.in-1.is c.requires.0.0 c.requires.0.2 in
    (c.requires.1, omega arith, omega arith)

pub first_of_three-requires : goal.first_of_three-requires
first_of_three-requires c = (rw c.in-3.is at c.requires.0, c.requires.1)

pub first_of_four-requires : goal.first_of_four-requires
first_of_four-requires c =
    let rest = c.in_default.in_default-own.rest in
    (rw (four_axes _ _ _ c.requires.0.0 rest.0.1 c.requires.2 rest.1) at c.requires.0, c.requires.1)

pub returns-in-1 : goal.returns-in-1
returns-in-1 c =
    rw (c.in-1.is, c.first_of_one.ensures)
    (only_removed _ c.args.tensor.now _ _ c.args.cell.now (omega (arith, c.requires.1)))

pub returns-in-3 : goal.returns-in-3
returns-in-3 c = rw c.in-3.is c.first_of_three.ensures

pub returns-in_default : goal.returns-in_default
returns-in_default c =
    let rest = c.in_default.in_default-own.rest in
    rw (four_axes _ _ _ c.requires.0.0 rest.0.1 c.requires.2 rest.1) c.first_of_four.ensures
