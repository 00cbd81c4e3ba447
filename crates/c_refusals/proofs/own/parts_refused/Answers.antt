-- The build's test of three lengths, told the tensor's own length, has its third test fail: those of knots and samples are left.
use mathlib.Core.Path.{refl}
use mathlib.Core.Bool.{or-false}
use borrow.Author.Tests.{eq-eqb}
use Rattle.rules.specs.Sizes.{tensor_length}
use Rattle.grid.specs.GridOfCall.{sizes_of}
use Rattle.c_refusals.proofs.own.parts_refused.Goals as goal

pub returns : goal.returns
returns c =
    let args = c.args in
    let size = tensor_length (sizes_of args.axes args.all) in
    rw (c.build_refused.ensures, c.tensor_length.ensures.0, eq-eqb size size refl) (or-false _)
