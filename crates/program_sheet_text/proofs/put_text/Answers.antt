-- Where there is no refusal the text is the tensor's, and else the line of the refusal.
use mathlib.Core.Path.{sym, ◌∙◌}
use native.Mathlib.Omega.{arith}
use Rattle.program_tensor_text.proofs.Texts.{length_most}
use Rattle.grid_codes.proofs.Classed.{built_none, unbuilt_met}
use Rattle.program_sheet_text.proofs.Told.{tensor_told, refused_told, length_refused_line}
use Rattle.program_sheet_text.proofs.put_text.Goals as goal

pub put_tensor-requires : goal.put_tensor-requires
put_tensor-requires c = omega (arith, c.requires.0, c.requires.1, length_most c.args.numbers.now c.requires.0)

pub returns-then-is_built : goal.returns-then-is_built
returns-then-is_built c =
    rw (← tensor_told c.args.refusal c.args.numbers.now (built_none _ (sym c.is_built.ensures ∙ c.if-is_built.true)))
    c.put_tensor.ensures

pub put_refused_line-requires : goal.put_refused_line-requires
put_refused_line-requires c = omega (arith, c.requires.1, length_refused_line c.args.refusal (omega arith))

pub returns : goal.returns
returns c =
    rw (← refused_told c.args.refusal c.args.numbers.now (unbuilt_met _ (sym c.is_built.ensures ∙ c.if-is_built.false)))
    c.put_refused_line.ensures
