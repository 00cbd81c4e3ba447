-- There is one answer of `verify`, and one scratch afterwards.
use mathlib.Core.Path.{◌≡◌}
use mathlib.Core.List.{List}
use lib.Ieee.{Float}
use Rattle.rules.specs.Sizes.{Grid}
use Rattle.rules.proofs.Unique.{same}
use Rattle.tensor_verify.specs.Verify.{VerifyAnswer, VerifyPromise}

pub verify_unique :
    (g : Grid) (tensor scratch : List Float) (a a' : VerifyAnswer) (s s' : List Float)
    → VerifyPromise g tensor scratch a s → VerifyPromise g tensor scratch a' s' → (a ≡ a') × (s ≡ s')
verify_unique g tensor scratch a a' s s' p q = (same p.answer q.answer, same p.scratch q.scratch)
