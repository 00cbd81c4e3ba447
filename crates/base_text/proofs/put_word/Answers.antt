use native.Mathlib.Omega.{arith}
use Rattle.base_text.proofs.Puts.{byte_more}
use Rattle.base_text.proofs.put_word.Goals as goal

pub loop-byte-preserved : goal.loop-byte-preserved
loop-byte-preserved c = byte_more _ _ c.loop-byte.invariant (omega arith) c.put_byte-end.ensures
