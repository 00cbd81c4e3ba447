-- Two patterns are compared: each is the pattern of its number.
use mathlib.Core.Path.{ap₂}
use mathlib.Core.Bool.{not}
use Prim.Native.Nat.{ℕ}
use lib.Dec.{eqb}
use Rattle.tensor_verify.proofs.compared.differs.Goals as goal

pub returns : goal.returns
returns c = ap₂ (λ (a b : ℕ). not (eqb a b)) c.pattern_of.ensures c.pattern_of-2.ensures
