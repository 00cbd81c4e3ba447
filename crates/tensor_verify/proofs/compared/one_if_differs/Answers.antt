-- One where the numbers differ, and none where they do not.
use mathlib.Core.Path.{sym, ap, ◌∙◌}
use mathlib.Core.Bool.{Bool, cond}
use Prim.Native.Nat.{ℕ}
use Rattle.tensor_verify.proofs.compared.one_if_differs.Goals as goal

pub returns-then-differs : goal.returns-then-differs
returns-then-differs c = sym (ap (λ (b : Bool). cond {A = ℕ} b 1 0) (sym c.differs.ensures ∙ c.if-differs.true))

pub returns-else-differs : goal.returns-else-differs
returns-else-differs c = sym (ap (λ (b : Bool). cond {A = ℕ} b 1 0) (sym c.differs.ensures ∙ c.if-differs.false))
