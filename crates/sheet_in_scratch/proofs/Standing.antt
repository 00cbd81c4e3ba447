-- A build that leaves its tensor in the scratch: refused before the work begins, or by 10, or the tensor of the rules stands there. It is
-- held against a build that has places for as many numbers.
use mathlib.Core.Path.{◌≡◌, refl, sym, ap, ◌∙◌}
use mathlib.Core.Logic.{◌≢◌}
use mathlib.Core.Bool.{Bool, true, false}
use mathlib.Core.List.{List}
use Prim.Native.Nat.{ℕ, ◌+◌, ◌≤◌}
use native.Mathlib.Omega.{arith}
use lib.ListN.{length, take, drop, length-replicate}
use lib.Ieee.{Float}
use Rattle.rules.specs.Numbers.{at, plus_zero, zeros}
use Rattle.rules.specs.Sizes.{Grid, Place, masks}
use Rattle.rules.specs.Refusals.{outcome_refused}
use Rattle.grid_checks.specs.Check.{build_check}
use Rattle.grid_checks.specs.Checked.{BuildGiven}
use Rattle.grid_checks.proofs.Accepted.{build_given}
use Rattle.tensor_lane.specs.LaneInScratch.{Stored}
use Rattle.tensor_passes.specs.Passes.{Refreshed}
use Rattle.tensor.proofs.Building.{build_refused, build_done}
use Rattle.tensor.proofs.Finishing.{finished_10, finished_0}
use Rattle.sheet_in_scratch.specs.InScratch.{InScratch}

module _ (g : Grid) (samples : List Float) (n : ℕ) (scratch : List Float) where
  long : length (zeros n) ≡ n
  long = length-replicate n plus_zero

  -- the check of that build
  same_check : build_check g samples n (length scratch) ≡ build_check g samples (length (zeros n)) (length scratch)
  same_check = ap (λ (k : ℕ). build_check g samples k (length scratch)) (sym long)

  pub refused_before : (r : ℕ) → r ≡ build_check g samples n (length scratch) → r ≢ 0 → InScratch g samples n scratch r scratch
  refused_before r e some = record {
    answer = (build_refused g samples (zeros n) scratch r (e ∙ same_check) some).answer;
    output = λ none. absurd (some none);
  }

  module _ (passed : build_check g samples n (length scratch) ≡ 0) where
    none : build_check g samples (length (zeros n)) (length scratch) ≡ 0
    none = sym same_check ∙ passed

    pub known : BuildGiven g samples (length (zeros n)) (length scratch)
    known = build_given g samples (length (zeros n)) (length scratch) none

    pub numbers_few : n ≤ 4096
    numbers_few = omega (arith, known.grid_given.tensor_exact, known.grid_given.small, long)

    -- so many numbers have their places behind the rows
    pub numbers_room : 2048 + n ≤ length scratch
    numbers_room = omega (arith, known.grid_given.tensor_exact, known.solve_given.scratch_enough, long)

    module _ (m k : ℕ) (w w' : List Float) (place : Place) (bad : Bool) (m_is : m ≡ masks g)
        (begun : Stored scratch w (at samples) (length samples) 2048 m) (after : Refreshed g w w' true place g.axes)
        (k_is : k ≡ n) (looked : bad ≡ outcome_refused (take k (drop 2048 w'))) where
      seen : bad ≡ outcome_refused (take n (drop 2048 w'))
      seen = looked ∙ ap (λ (i : ℕ). outcome_refused (take i (drop 2048 w'))) k_is

      pub outcome_bad : bad ≡ true → InScratch g samples n scratch 10 w'
      outcome_bad e = record {
        answer =
            (build_done g samples (zeros n) scratch known 10 m w w' (zeros n) (zeros (length w')) place none m_is begun after
            (finished_10 (zeros n) w' (zeros (length w')) n bad (sym long) seen refl e)
            ).answer;
        output = λ z. absurd (omega arith);
      }

      pub outcome_good : bad ≡ false → InScratch g samples n scratch 0 w'
      outcome_good e =
          let p =
          build_done g samples (zeros n) scratch known 0 m w w' (take n (drop 2048 w')) (zeros (length w')) place none m_is begun after
          (finished_0 (zeros n) w' (zeros (length w')) n bad (sym long) seen refl (take n (drop 2048 w')) e refl) in
          record { answer = p.answer; output = λ z. rw (sym p.answer) at p.output }
