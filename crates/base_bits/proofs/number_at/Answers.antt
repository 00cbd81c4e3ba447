-- The float of the 64 bits that stand from bit `at` on.
use Rattle.base_bits.proofs.number_at.Goals as goal

pub returns : goal.returns
returns c = cc
