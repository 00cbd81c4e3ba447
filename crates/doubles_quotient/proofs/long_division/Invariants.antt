-- A digit a turn: the quotient so far times n, and what is left, are m moved up by eleven places for each (`Turn`). The guess fits
-- (`fits`), and where it leaves n or more the digit is one more (`turn_more`). At the end nothing is left (`quotient_exact`), or the odd
-- number stands for what is (`quotient_lost`).
use Rattle.doubles_quotient.proofs.Turns.{Turn}
use Rattle.doubles_quotient.proofs.long_division.Given as goal

abbrev pub invariant-loop-digit : goal.invariant-loop-digit
invariant-loop-digit l = Turn l.m l.n l.guide l._digit l.quotient l.rest
