-- The four numbers of row `k`, at four times `k` behind the start of the block.
use native.Mathlib.Nat.{add-zero}
use Rattle.tensor_fours.proofs.get_row.Goals as goal

pub returns : goal.returns
returns c = record { is = simp add-zero }
