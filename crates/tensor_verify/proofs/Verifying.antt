-- The promise of `verify`: refused before the work begins, or the fresh tensor of the samples, held against the one that was lent.
use native.Mathlib.Omega.{arith}
use mathlib.Core.Path.{◌≡◌, refl, sym, ap, ap₂, ◌∙◌, subst}
use mathlib.Core.Logic.{◌≢◌, ⊎_elim}
use mathlib.Core.Bool.{Bool, true, false, cond}
use mathlib.Core.List.{List, [], ◌∷◌}
use Prim.Native.Nat.{ℕ, zero, suc, ◌+◌, ◌-◌, ◌*◌, ◌<◌, ◌≤◌}
use lib.Dec.{eqb}
use lib.ListN.{length, take, drop, length-drop}
use lib.Arith.{digits_lt}
use lib.Seq.{length-take-le}
use lib.Pow.{pow_pos}
use lib.Ieee.{Float, nan}
use borrow.Author.Tests.{ne_eqb}
use Rattle.rules.specs.Numbers.{at, zeros, plus_zero, table}
use Rattle.rules.specs.Sizes.{Grid, points, masks, samples_length, tensor_length, Place, flat}
use Rattle.rules.specs.Refusals.{outcome_refused}
use Rattle.rules.specs.Tensor.{tensor, sample}
use Rattle.rules.specs.Calls.{scratch_after}
use Rattle.rules.proofs.Places.{flat_below}
use Rattle.rules.proofs.Tables.{at_table, length_table}
use Rattle.grid.specs.GridOfCall.{On}
use Rattle.grid_checks.specs.Check.{change_check}
use Rattle.grid_checks.specs.Checked.{ChangeGiven}
use Rattle.grid_checks.proofs.Accepted.{change_given}
use Rattle.grid_checks.proofs.ThenOutcome.{refused, outcome}
use Rattle.tensor_passes.specs.Passes.{WorkGiven, Refreshed, working}
use Rattle.tensor_passes.proofs.MaskTurns.{given_again}
use Rattle.tensor.specs.Working.{Loaded}
use Rattle.tensor.proofs.Outcome.{built, samples_stored}
use Rattle.tensor.proofs.Promises.{given_of}
use Rattle.tensor_verify.specs.Verify.{
  samples_in,
  fresh,
  VerifyAnswer,
  refused_with,
  first_stale,
  stale_numbers,
  found,
  verify_refusal,
  verify_answer,
  VerifyPromise,
}
use Rattle.tensor_verify.specs.Compared.{compared}
use Rattle.tensor_verify.proofs.Checking.{nowhere, verify_check, verify_outcome, check_is}

-- ---- the samples of a tensor

module _ (g : Grid) (t : List Float) where
  pub samples_long : length (samples_in g t) ≡ samples_length g
  unfolding samples_in
  samples_long = length_table (samples_length g) _

  pub sample_at : (f : ℕ) → f < samples_length g → at (samples_in g t) f ≡ at t (f * masks g)
  unfolding samples_in
  sample_at f l = at_table (samples_length g) (λ k. at t (k * masks g)) f nan l

-- what came out of a scratch has as many numbers as the tensor
pub part_long : (n : ℕ) (w : List Float) → 2048 + n ≤ length w → length (take (2048 + n - 2048) (drop 2048 w)) ≡ n
part_long n w room =
    let same : 2048 + n - 2048 ≡ n = omega arith in rw same (length-take-le n (drop 2048 w) (simp length-drop (omega arith)))

-- ---- the promise

module _ (g : Grid) (t scratch : List Float) where
  answer_refused : (r : ℕ) → verify_refusal g t scratch ≡ r → r ≢ 0 → refused_with r ≡ verify_answer g t scratch
  unfolding verify_answer
  answer_refused r e some = rw (e, ne_eqb r 0 some)

  pub verify_refused : (r : ℕ) → r ≡ change_check g t (length scratch) nowhere plus_zero → r ≢ 0
      → VerifyPromise g t scratch (refused_with r) scratch
  verify_refused r e some =
      let is : r ≡ verify_check g t (length scratch) = e ∙ check_is g t (length scratch) in
      let left = refused (verify_outcome g t scratch) (λ z. some (is ∙ z)) in
      record { answer = answer_refused r (left.same ∙ sym is) some; scratch = left.scratch scratch }

  module _ (passed : change_check g t (length scratch) nowhere plus_zero ≡ 0) where
    pub known : ChangeGiven g t (length scratch) nowhere plus_zero
    known = change_given g t (length scratch) nowhere plus_zero passed

    pub given_passes : WorkGiven g scratch
    given_passes = given_of known.grid_given known.solve_given

    pub some_numbers : 0 < length t
    some_numbers =
        let inside = digits_lt (flat_below (points g) g.axes nowhere known.on_the_grid) (pow_pos g.axes) in
        omega (arith, inside, known.grid_given.tensor_exact)

    module _
        (w w' later : List Float) (place : Place) (n : ℕ) (answer : VerifyAnswer)
        (begun : Loaded scratch w t 0 (at t 0)) (after : Refreshed g w w' true place g.axes)
        (n_is : n ≡ length t) (told : answer ≡ compared g.axes (points g) t (take n (drop 2048 w')))
        (cleared : later ≡ zeros (length w'))
      where
        long : length w' ≡ length scratch
        long = after.same_length ∙ begun.same_length

        copied : (e : ℕ) → e < length t → at w (2048 + e) ≡ at t e
        copied zero l = begun.new
        copied (suc e) l = begun.copied (suc e) l (λ z. omega arith)

        came_out : take n (drop 2048 w') ≡ fresh g t
        unfolding fresh
        came_out =
            ap (λ (k : ℕ). take k (drop 2048 w')) (n_is ∙ known.grid_given.tensor_exact)
            ∙ built g w w' (given_again w' long given_passes) place (samples_in g t)
            (samples_stored g w (samples_in g t) (λ f l.
            copied (f * masks g)
            (let inside : f * masks g + 0 < samples_length g * masks g = digits_lt l (pow_pos g.axes) in
            omega (arith, known.grid_given.tensor_exact))
            ∙ sym (sample_at g t f l)))
            after

        -- what is told of what came out is what the rules tell
        told_is : answer ≡ cond (outcome_refused (fresh g t)) (refused_with 10) (found g t)
        unfolding compared found first_stale stale_numbers
        told_is =
            told
            ∙ ap (compared g.axes (points g) t) came_out
            ∙ rw known.grid_given.tensor_exact refl

        pub verify_done : VerifyPromise g t scratch answer later
        unfolding verify_answer
        verify_done = record { answer = told_is ∙ is; scratch = cleared ∙ ap zeros long ∙ left }
          where
            decided : verify_refusal g t scratch ≡ cond (outcome_refused (fresh g t)) 10 0
            decided = outcome (verify_outcome g t scratch) (sym (check_is g t (length scratch)) ∙ passed)

            is : cond (outcome_refused (fresh g t)) (refused_with 10) (found g t) ≡ verify_answer g t scratch
            is = rw decided (go (outcome_refused (fresh g t)))
              where
                go : (b : Bool) → cond b (refused_with 10) (found g t) ≡ cond (eqb (cond b 10 0) 0) (found g t) (refused_with (cond b 10 0))
                go true = refl
                go false = refl

            left : zeros (length scratch) ≡ scratch_after (verify_refusal g t scratch) scratch
            left = rw decided (go (outcome_refused (fresh g t)))
              where
                go : (b : Bool) → zeros (length scratch) ≡ scratch_after (cond b 10 0) scratch
                go true = refl
                go false = refl
