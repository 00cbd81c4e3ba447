-- The export has one answer: whatever satisfies its record, for the same inputs, is equal in its number and in all that was lent.
use mathlib.Core.Path.{◌≡◌}
use mathlib.Core.List.{List}
use Prim.Native.Nat.{ℕ}
use lib.Ieee.{Float}
use Rattle.rules.proofs.Unique.{same}
use Rattle.c_verify.specs.VerifyExports.{VerifyExport}

pub verify_unique :
    (axes : ℕ) (points kinds : List ℕ) (values knots tensor scratch_lent : List Float) (place_lent found_lent : List ℕ)
    (r r' : ℕ) (s s' : List Float) (p p' f f' : List ℕ)
    → VerifyExport axes points kinds values knots tensor scratch_lent place_lent found_lent r s p f
    → VerifyExport axes points kinds values knots tensor scratch_lent place_lent found_lent r' s' p' f'
    → (r ≡ r') × (s ≡ s') × (p ≡ p') × (f ≡ f')
verify_unique axes points kinds values knots tensor scratch_lent place_lent found_lent r r' s s' p p' f f' one other = (
  same one.answer other.answer,
  same one.scratch other.scratch,
  same one.answer_stored.place other.answer_stored.place,
  same one.answer_stored.numbers other.answer_stored.numbers,
)
