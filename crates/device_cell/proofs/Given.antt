-- The exit of a `?`: what a function gives there is the refusal that it has met, and that has a number.
use mathlib.Core.Path.{◌≡◌, refl}
use native.Mathlib.Omega.{arith}
use Rattle.std.specs.Prelude.{Result, Err}
use Rattle.std.specs.Result.{IsErrAnd}
use Rattle.std.proofs.lemmas.Result.{err_from_is_err_and}
use Rattle.device_cell.specs.DeviceCell.{number_of}
use Rattle.device_cell.specs.declared.Refusal.{Refusal}
use Rattle.device_cell.specs.declared.Refusal.TheVariants.{Range, Position}

pub err_given : {T : Type 0} (given : Result T Refusal) (met : Refusal) → IsErrAnd given (λ refusal. refusal ≡ met) → given ≡ Err met
err_given given met h = let p = err_from_is_err_and given h in rw (p.1, p.2) refl

-- no refusal has the number 0
pub number_some : (refusal : Refusal) → number_of refusal ≡ 0 → ⊥
number_some Range e = omega arith
number_some Position e = omega arith
