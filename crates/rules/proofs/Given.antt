-- The exit of a `?`: what a function gives there is the refusal that it has met, and that has a number.
use mathlib.Core.Path.{◌≡◌, refl, ap}
use Prim.Native.Nat.{◌<◌, ◌≤◌}
use native.Mathlib.Omega.{arith}
use Rattle.std.specs.Prelude.{Result, Err}
use Rattle.std.specs.Result.{IsErrAnd}
use Rattle.std.proofs.lemmas.Result.{err_from_is_err_and}
use Rattle.rules.specs.Answers.{number_of, refusal_of}
use Rattle.rules.specs.declared.Refusal.{Refusal}
use Rattle.rules.specs.declared.Refusal.TheVariants.{
  Axes,
  Points,
  Tensor,
  Length,
  Scratch,
  Place,
  Number,
  Knots,
  Fewness,
  Outcome,
  Short,
  Edition,
  Kinds,
  Tail,
  Buffer,
  Stack,
  Unused,
  Outside,
  Range,
  Position,
  Uneven,
  Mode,
  Lost,
}

pub err_given : {T E : Type 0} (given : Result T E) (met : E) → IsErrAnd given (λ refusal. refusal ≡ met) → given ≡ Err met
err_given given met h = let p = err_from_is_err_and given h in rw (p.1, p.2) refl

pub given_on : {T : Type 0} (given : Result T Refusal) (met : Refusal) → IsErrAnd given (λ refusal. refusal ≡ met)
    → refusal_of given ≡ number_of met
given_on given met h = ap refusal_of (err_given given met h)

-- no refusal has the number 0
pub number_some : (refusal : Refusal) → number_of refusal ≡ 0 → ⊥
number_some refusal e =
    let some = elim refusal as (λ r. 0 < number_of r) [
      | Axes ↦ omega arith
      | Points ↦ omega arith
      | Tensor ↦ omega arith
      | Length ↦ omega arith
      | Scratch ↦ omega arith
      | Place ↦ omega arith
      | Number ↦ omega arith
      | Knots ↦ omega arith
      | Fewness ↦ omega arith
      | Outcome ↦ omega arith
      | Short ↦ omega arith
      | Edition ↦ omega arith
      | Kinds ↦ omega arith
      | Tail ↦ omega arith
      | Buffer ↦ omega arith
      | Stack ↦ omega arith
      | Unused ↦ omega arith
      | Outside ↦ omega arith
      | Range ↦ omega arith
      | Position ↦ omega arith
      | Uneven ↦ omega arith
      | Mode ↦ omega arith
      | Lost ↦ omega arith
    ] in omega (arith, e, some)

-- and none has one above 23
pub number_most : (refusal : Refusal) → number_of refusal ≤ 23
number_most refusal =
    elim refusal as (λ r. number_of r ≤ 23) [
      | Axes ↦ omega arith
      | Points ↦ omega arith
      | Tensor ↦ omega arith
      | Length ↦ omega arith
      | Scratch ↦ omega arith
      | Place ↦ omega arith
      | Number ↦ omega arith
      | Knots ↦ omega arith
      | Fewness ↦ omega arith
      | Outcome ↦ omega arith
      | Short ↦ omega arith
      | Edition ↦ omega arith
      | Kinds ↦ omega arith
      | Tail ↦ omega arith
      | Buffer ↦ omega arith
      | Stack ↦ omega arith
      | Unused ↦ omega arith
      | Outside ↦ omega arith
      | Range ↦ omega arith
      | Position ↦ omega arith
      | Uneven ↦ omega arith
      | Mode ↦ omega arith
      | Lost ↦ omega arith
    ]
