-- Each export of steps has one answer: whatever satisfies its record, for the same inputs, is equal in its number and in all that was lent.
use mathlib.Core.Path.{◌≡◌}
use mathlib.Core.List.{List}
use Prim.Native.Nat.{ℕ}
use lib.Ieee.{Float}
use Rattle.rules.proofs.Unique.{same}
use Rattle.c_step.specs.StepExports.{ExactExport, AxisExport, StepExport, SteppedExport}

pub exact_unique :
    (n : ℕ) (knots : List Float) (lower : ℕ) (point : Float) (found_lent : List ℕ) (r r' : ℕ) (f f' : List ℕ)
    → ExactExport n knots lower point found_lent r f
    → ExactExport n knots lower point found_lent r' f'
    → (r ≡ r') × (f ≡ f')
exact_unique n knots lower point found_lent r r' f f' p q = (same p.answer q.answer, same p.slot q.slot)

pub axis_unique :
    (n : ℕ) (knots : List Float) (point : Float) (location_lent : List ℕ) (fraction_lent : List Float) (r r' : ℕ) (l l' : List ℕ)
    (f f' : List Float)
    → AxisExport n knots point location_lent fraction_lent r l f
    → AxisExport n knots point location_lent fraction_lent r' l' f'
    → (r ≡ r') × (l ≡ l') × (f ≡ f')
axis_unique n knots point location_lent fraction_lent r r' l l' f f' p q = (
  same p.answer q.answer,
  same p.answer_stored.numbers q.answer_stored.numbers,
  same p.answer_stored.fraction q.answer_stored.fraction,
)

pub step_unique :
    (n : ℕ) (knots : List Float) (number : ℕ) (point : Float) (index_lent : List ℕ) (r r' : ℕ) (i i' : List ℕ)
    → StepExport n knots number point index_lent r i
    → StepExport n knots number point index_lent r' i'
    → (r ≡ r') × (i ≡ i')
step_unique n knots number point index_lent r r' i i' p q = (same p.answer q.answer, same p.slot q.slot)

pub stepped_unique :
    (axes : ℕ) (points numbers : List ℕ) (knots samples coordinates value_lent : List Float) (indices_lent : List ℕ)
    (r r' : ℕ) (v v' : List Float) (i i' : List ℕ)
    → SteppedExport axes points numbers knots samples coordinates value_lent indices_lent r v i
    → SteppedExport axes points numbers knots samples coordinates value_lent indices_lent r' v' i'
    → (r ≡ r') × (v ≡ v') × (i ≡ i')
stepped_unique axes points numbers knots samples coordinates value_lent indices_lent r r' v v' i i' p q = (
  same p.answer q.answer,
  same p.answer_stored.slot q.answer_stored.slot,
  same p.answer_stored.slots q.answer_stored.slots,
)
