-- All the patterns are asked for as one field: by `short_together` it ends behind the last bit just where one of them does.
use mathlib.Core.Path.{◌∙◌}
use Rattle.base_bits.proofs.Runs.{short_together}
use Rattle.base_bits.proofs.are_short.Goals as goal

pub returns : goal.returns
returns c = c.is_short.ensures ∙ short_together c.args.bytes.now c.args.at _ c.requires.0
