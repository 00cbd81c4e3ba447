-- What is written in the 64 bits is the pattern of a number that is finite.
use Rattle.base_bits.proofs.writing.put_number.Goals as goal

pub returns : goal.returns
returns c = cc
