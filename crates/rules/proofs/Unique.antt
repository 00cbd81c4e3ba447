-- Each promise has one answer: whatever satisfies the record of a public call, for the same inputs, is equal in its answer and in all that
-- was lent.
use mathlib.Core.Path.{◌≡◌, sym, ◌∙◌}
use mathlib.Core.List.{List}
use Prim.Native.Nat.{ℕ}
use lib.Ieee.{Float}
use Rattle.rules.specs.Sizes.{Grid, Place}
use Rattle.rules.specs.Calls.{
  MomentsPromise,
  CurvePromise,
  SlopesPromise,
  BuildPromise,
  ChangePromise,
  QueryPromise,
  QuickQueryPromise,
}
use Rattle.rules.specs.EvenCalls.{EvenQueryPromise}
use Rattle.rules.specs.StepCalls.{ExactPromise, AxisPromise, StepPromise, SteppedPromise}
use Rattle.rules.specs.declared.Condition.{Condition}
use Rattle.rules.specs.Answers.{CurveAnswer, ChangeAnswer, QueryAnswer, EvenAnswer, ExactAnswer, AxisAnswer, StepAnswer, SteppedAnswer}
use Rattle.rules.specs.declared.StepDirection.{StepDirection}

-- two things that equal a third
pub same : {A : Type 0} {a b c : A} → a ≡ c → b ≡ c → a ≡ b
same p q = p ∙ sym q

pub moments_unique :
    (n : ℕ) (knots samples : List Float) (condition : Condition) (moments_out scratch : List Float)
    (r r' : ℕ) (m m' s s' : List Float)
    → MomentsPromise n knots samples condition moments_out scratch r m s
    → MomentsPromise n knots samples condition moments_out scratch r' m' s'
    → (r ≡ r') × (m ≡ m') × (s ≡ s')
moments_unique n knots samples condition moments_out scratch r r' m m' s s' p q =
    (same p.answer q.answer, same p.output q.output, same p.scratch q.scratch)

pub curve_unique :
    (n : ℕ) (knots samples moments_in : List Float) (point : Float) (a a' : CurveAnswer)
    → CurvePromise n knots samples moments_in point a
    → CurvePromise n knots samples moments_in point a'
    → a ≡ a'
curve_unique n knots samples moments_in point a a' p q = same p.answer q.answer

pub slopes_unique :
    (n : ℕ) (knots samples moments_in slopes_out : List Float) (r r' : ℕ) (d d' : List Float)
    → SlopesPromise n knots samples moments_in slopes_out r d
    → SlopesPromise n knots samples moments_in slopes_out r' d'
    → (r ≡ r') × (d ≡ d')
slopes_unique n knots samples moments_in slopes_out r r' d d' p q = (same p.answer q.answer, same p.output q.output)

pub build_unique :
    (g : Grid) (samples tensor_out scratch : List Float) (r r' : ℕ) (t t' s s' : List Float)
    → BuildPromise g samples tensor_out scratch r t s
    → BuildPromise g samples tensor_out scratch r' t' s'
    → (r ≡ r') × (t ≡ t') × (s ≡ s')
build_unique g samples tensor_out scratch r r' t t' s s' p q =
    (same p.answer q.answer, same p.output q.output, same p.scratch q.scratch)

pub change_unique :
    (g : Grid) (tensor_lent scratch : List Float) (changed : Place) (v : Float) (a a' : ChangeAnswer) (t t' s s' : List Float)
    → ChangePromise g tensor_lent scratch changed v a t s
    → ChangePromise g tensor_lent scratch changed v a' t' s'
    → (a ≡ a') × (t ≡ t') × (s ≡ s')
change_unique g tensor_lent scratch changed v a a' t t' s s' p q =
    (same p.answer q.answer, same p.output q.output, same p.scratch q.scratch)

pub query_unique :
    (g : Grid) (tensor_lent coordinates : List Float) (a a' : QueryAnswer)
    → QueryPromise g tensor_lent coordinates a
    → QueryPromise g tensor_lent coordinates a'
    → a ≡ a'
query_unique g tensor_lent coordinates a a' p q = same p.answer q.answer

pub quick_query_unique :
    (g : Grid) (tensor_lent coordinates : List Float) (a a' : QueryAnswer)
    → QuickQueryPromise g tensor_lent coordinates a
    → QuickQueryPromise g tensor_lent coordinates a'
    → a ≡ a'
quick_query_unique g tensor_lent coordinates a a' p q = same p.answer q.answer

pub even_query_unique :
    (g : Grid) (tensor_lent coordinates : List Float) (a a' : EvenAnswer)
    → EvenQueryPromise g tensor_lent coordinates a
    → EvenQueryPromise g tensor_lent coordinates a'
    → a ≡ a'
even_query_unique g tensor_lent coordinates a a' p q = same p.answer q.answer

pub exact_unique :
    (n : ℕ) (knots : List Float) (lower : ℕ) (point : Float) (a a' : ExactAnswer)
    → ExactPromise n knots lower point a
    → ExactPromise n knots lower point a'
    → a ≡ a'
exact_unique n knots lower point a a' p q = same p.answer q.answer

pub axis_unique :
    (n : ℕ) (knots : List Float) (point : Float) (a a' : AxisAnswer)
    → AxisPromise n knots point a
    → AxisPromise n knots point a'
    → a ≡ a'
axis_unique n knots point a a' p q = same p.answer q.answer

pub step_unique :
    (direction : StepDirection) (n : ℕ) (knots : List Float) (point : Float) (a a' : StepAnswer)
    → StepPromise direction n knots point a
    → StepPromise direction n knots point a'
    → a ≡ a'
step_unique direction n knots point a a' p q = same p.answer q.answer

pub stepped_unique :
    (g : Grid) (directions : List StepDirection) (samples coordinates : List Float) (a a' : SteppedAnswer)
    → SteppedPromise g directions samples coordinates a
    → SteppedPromise g directions samples coordinates a'
    → a ≡ a'
stepped_unique g directions samples coordinates a a' p q = same p.answer q.answer
