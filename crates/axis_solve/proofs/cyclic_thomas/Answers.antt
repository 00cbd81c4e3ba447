-- The six steps together, by `cyclic_solved`: the diagonal without corners, y, the second right side, z, the factor and the
-- difference leave the cyclic result of the rules in the row of moments.
use Rattle.axis_solve.proofs.Cyclic.{cyclic_solved}
use Rattle.axis_solve.proofs.cyclic_thomas.Goals as goal

pub returns : goal.returns
returns c =
    cyclic_solved _ _ _ _ _ _ _ _ _
    c.requires.0
    c.diag_mod.ensures
    c.thomas.ensures
    c.u_vec.ensures
    c.thomas-2.ensures
    c.factor-f.ensures
    c.subtract.ensures
