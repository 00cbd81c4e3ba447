-- Each export of the tensor has one answer: whatever satisfies its record, for the same inputs, is equal in its number and in all that was
-- lent.
use mathlib.Core.Path.{◌≡◌}
use mathlib.Core.List.{List}
use Prim.Native.Nat.{ℕ}
use lib.Ieee.{Float}
use Rattle.rules.proofs.Unique.{same}
use Rattle.c_tensor.specs.TensorExports.{BuildExport, ChangeExport}

pub build_unique :
    (axes : ℕ) (points kinds : List ℕ) (values knots samples tensor_lent scratch_lent : List Float)
    (r r' : ℕ) (t t' s s' : List Float)
    → BuildExport axes points kinds values knots samples tensor_lent scratch_lent r t s
    → BuildExport axes points kinds values knots samples tensor_lent scratch_lent r' t' s'
    → (r ≡ r') × (t ≡ t') × (s ≡ s')
build_unique axes points kinds values knots samples tensor_lent scratch_lent r r' t t' s s' p q =
    (same p.answer q.answer, same p.output q.output, same p.scratch q.scratch)

pub change_unique :
    (axes : ℕ) (points kinds : List ℕ) (values knots tensor_lent scratch_lent : List Float) (place : List ℕ) (sample : Float)
    (lanes_lent : List ℕ)
    (r r' : ℕ) (t t' s s' : List Float) (l l' : List ℕ)
    → ChangeExport axes points kinds values knots tensor_lent scratch_lent place sample lanes_lent r t s l
    → ChangeExport axes points kinds values knots tensor_lent scratch_lent place sample lanes_lent r' t' s' l'
    → (r ≡ r') × (t ≡ t') × (s ≡ s') × (l ≡ l')
change_unique axes points kinds values knots tensor_lent scratch_lent place sample lanes_lent r r' t t' s s' l l' p q =
    (same p.answer q.answer, same p.output q.output, same p.scratch q.scratch, same p.slot q.slot)
