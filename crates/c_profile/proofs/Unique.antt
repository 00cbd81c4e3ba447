-- The exported profile has one answer: whatever satisfies its record, for the same inputs, is equal in its number and in its slot.
use mathlib.Core.Path.{◌≡◌}
use mathlib.Core.List.{List}
use Prim.Native.Nat.{ℕ}
use lib.Ieee.{Float}
use Rattle.rules.proofs.Unique.{same}
use Rattle.c_profile.specs.ProfileExports.{EvenProfileExport}

pub even_profile_unique :
    (axes : ℕ) (points : List ℕ) (knots : List Float) (told_lent : List ℕ) (r r' : ℕ) (t t' : List ℕ)
    → EvenProfileExport axes points knots told_lent r t
    → EvenProfileExport axes points knots told_lent r' t'
    → (r ≡ r') × (t ≡ t')
even_profile_unique axes points knots told_lent r r' t t' one other =
    (same one.answer other.answer, same one.answer_stored other.answer_stored)
