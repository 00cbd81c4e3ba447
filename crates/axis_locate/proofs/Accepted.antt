-- Knots that refusals 7 and 8 let pass are rising.
use mathlib.Core.Path.{◌≡◌}
use mathlib.Core.List.{List}
use mathlib.Core.Bool.{true, false, not}
use Prim.Native.Nat.{ℕ, ◌+◌, ◌-◌}
use native.Mathlib.Omega.{arith}
use borrow.Author.Tests.{not-false}
use lib.ListN.{length}
use lib.Ieee.{Float, lt}
use lib.Ieee.Scale.{finite}
use Rattle.rules.specs.Numbers.{at}
use Rattle.rules.specs.Steps.{h}
use Rattle.rules.specs.Refusals.{number_refused, some_number_refused, step_refused, knots_refused}
use Rattle.base_numbers.proofs.Scan.{neither, any_at}
use Rattle.axis_locate.specs.CellFound.{Rising}

step_rises : (knots : List Float) (k : ℕ) → step_refused knots k ≡ false → lt (at knots k) (at knots (k + 1)) ≡ true
unfolding step_refused
step_rises knots k e =
    not-false (lt (at knots k) (at knots (k + 1))) (neither (not (lt (at knots k) (at knots (k + 1)))) (not (finite (h knots k))) e).0

pub accepted_rise : (knots : List Float) (n : ℕ) → length knots ≡ n → some_number_refused knots ≡ false → knots_refused knots n ≡ false
    → Rising knots n
accepted_rise knots n count numbers steps = record {
  count = count;
  finite = λ k l. not-false (finite (at knots k)) (any_at (λ k. number_refused (at knots k)) (length knots) numbers k (omega arith));
  rise = λ k l. step_rises knots k (any_at (step_refused knots) (n - 1) steps k (omega arith));
}
