-- The bytes of the word that the loop has passed stand from `at` on, and `end` is the place behind them.
use lib.ListN.{take}
use Rattle.base_text.specs.PutBytes.{Put}
use Rattle.base_text.proofs.put_word.Given as goal

abbrev pub invariant-loop-byte : goal.invariant-loop-byte
invariant-loop-byte l = Put (take l.byte-index l.word) l.fn.text l.at l.text l.end
