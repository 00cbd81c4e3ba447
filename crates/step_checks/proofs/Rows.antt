-- The rows that the calls on one axis share: those that come first, and those of the numbers.
use mathlib.Core.Path.{◌≡◌, sym, ap, ◌∙◌}
use mathlib.Core.Bool.{false}
use mathlib.Core.List.{List}
use Prim.Native.Nat.{ℕ}
use lib.ListN.{length}
use lib.Ieee.{Float}
use Rattle.std.specs.Prelude.{Result}
use Rattle.std.specs.Result.{IsErrAnd}
use Rattle.rules.specs.Answers.{number_of, refusal_of}
use Rattle.rules.specs.Refusals.{points_refused}
use Rattle.rules.specs.declared.Refusal.{Refusal}
use Rattle.grid_checks.specs.Tables.{lowest}
use Rattle.grid_checks.proofs.Rows.{none_applies, rows_given, rows_pass, exact}
use Rattle.step_checks.specs.StepChecks.{axis_rows, axis_check, numbers_rows, numbers_check}

module _ (n : ℕ) (x : List Float) {number : ℕ} (e : number ≡ axis_check n (length x)) where
  pub axis_given : {Given : Type 0} (given : Result Given Refusal) (met : Refusal) → number ≡ number_of met
      → IsErrAnd given (λ refusal. refusal ≡ met) → (later : ℕ) → refusal_of given ≡ lowest (axis_rows n (length x)) later
  unfolding axis_check
  axis_given given met is_number = rows_given (axis_rows n (length x)) tt given met (sym is_number ∙ e)

  pub axis_pass : {answer : ℕ} (later : ℕ) → number ≡ 0 → answer ≡ later → answer ≡ lowest (axis_rows n (length x)) later
  unfolding axis_check
  axis_pass = rows_pass (axis_rows n (length x)) tt e

  -- where they give no number, there are 2 to 256 points and as many knots
  pub axis_fits : number ≡ 0 → (points_refused n ≡ false) × (length x ≡ n)
  unfolding axis_check
  axis_fits z =
      let none = none_applies (axis_rows n (length x)) tt (sym e ∙ z) in
      (none.0, exact (length x) n none.1.0)

  pub knots_fit : number ≡ 0 → points_refused (length x) ≡ false
  knots_fit z = ap points_refused (axis_fits z).1 ∙ (axis_fits z).0

  -- what the knots give by their own number is what they give by the points
  pub numbers_of_points : {answer : ℕ} (point : Float) → number ≡ 0 → answer ≡ numbers_check (length x) x point
      → answer ≡ lowest (numbers_rows n x point) 0
  unfolding numbers_check
  numbers_of_points point z a = a ∙ ap (λ (m : ℕ). lowest (numbers_rows m x point) 0) (axis_fits z).1
