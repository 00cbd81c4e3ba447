-- The promise of `build`: refused before the work begins, or the tensor of the samples, looked at and stored.
use native.Mathlib.Omega.{arith}
use mathlib.Core.Path.{◌≡◌, refl, sym, ap, ◌∙◌, subst}
use mathlib.Core.Logic.{◌≢◌}
use mathlib.Core.Bool.{true}
use mathlib.Core.List.{List, [], ◌∷◌}
use Prim.Native.Nat.{ℕ, zero, suc, ◌+◌, ◌*◌, ◌<◌}
use lib.ListN.{length, take, drop}
use lib.Pow.{pow_pos}
use lib.Arith.{digits_lt}
use lib.Ieee.{Float}
use Rattle.rules.specs.Numbers.{at}
use Rattle.rules.specs.Sizes.{Grid, masks, samples_length, tensor_length, Place, place_of}
use Rattle.rules.specs.Tensor.{tensor}
use Rattle.rules.specs.Calls.{BuildPromise}
use Rattle.grid_checks.specs.Check.{build_check}
use Rattle.grid_checks.specs.Checked.{BuildGiven}
use Rattle.grid_checks.proofs.ThenOutcome.{refused, build_outcome}
use Rattle.tensor_lane.specs.LaneInScratch.{Lies, Stored}
use Rattle.tensor_passes.specs.Passes.{WorkGiven, Refreshed}
use Rattle.grid.specs.GridOfCall.{On}
use Rattle.tensor_passes.proofs.MaskTurns.{given_again}
use Rattle.tensor.specs.Working.{outcome_in, Finished}
use Rattle.tensor.proofs.Outcome.{built, samples_stored}
use Rattle.tensor.proofs.Promises.{given_of, answer_is, output_is, scratch_is}

-- the place that a build starts from, of which no lane of it is bound to an index
origin : (j : ℕ) → place_of (0 ∷ 0 ∷ 0 ∷ 0 ∷ []) j ≡ 0
origin zero = refl
origin (suc zero) = refl
origin (suc (suc zero)) = refl
origin (suc (suc (suc zero))) = refl
origin (suc (suc (suc (suc j)))) = refl

pub origin_on : {g : Grid} {w : List Float} → WorkGiven g w → On g (place_of (0 ∷ 0 ∷ 0 ∷ 0 ∷ []))
origin_on given j below = omega (arith, origin j, given.in_range.some_points j below)

module _ (g : Grid) (samples tensor_out scratch : List Float) where
  pub build_refused : (r : ℕ) → r ≡ build_check g samples (length tensor_out) (length scratch) → r ≢ 0
      → BuildPromise g samples tensor_out scratch r tensor_out scratch
  build_refused r e some =
      let left = refused (build_outcome g samples tensor_out scratch) (λ z. some (e ∙ z)) in
      record { answer = e ∙ sym left.same; output = left.output tensor_out (tensor g samples); scratch = left.scratch scratch }

  module _ (known : BuildGiven g samples (length tensor_out) (length scratch)) where
    pub build_given_passes : WorkGiven g scratch
    build_given_passes = given_of known.grid_given known.solve_given

    -- the samples have their places
    pub samples_lie : (m : ℕ) → m ≡ masks g → Lies scratch (length samples) 2048 m
    samples_lie m e = record {
      room = omega (arith, known.solve_given.scratch_enough);
      behind = omega arith;
      within = λ k h.
          let l : k < samples_length g = omega (arith, known.samples_exact) in
          let b : k * m + 0 < samples_length g * m = digits_lt l (rw e (pow_pos g.axes)) in
          let c : samples_length g * m ≡ tensor_length g = rw e in
          omega (arith, known.solve_given.scratch_enough);
    }

    module _
        (r m : ℕ) (w w' tensor_later scratch_later : List Float) (place : Place)
        (passed : build_check g samples (length tensor_out) (length scratch) ≡ 0)
        (m_is : m ≡ masks g)
        (begun : Stored scratch w (at samples) (length samples) 2048 m) (after : Refreshed g w w' true place g.axes)
        (finished : Finished tensor_out w' r tensor_later scratch_later)
      where
        long : length w' ≡ length scratch
        long = after.same_length ∙ begun.same_length

        came_out : outcome_in w' tensor_out ≡ tensor g samples
        came_out =
            ap (λ (n : ℕ). take n (drop 2048 w')) known.grid_given.tensor_exact
            ∙ built g w w' (given_again w' long build_given_passes) place samples
            (samples_stored g w samples
            (λ f lt.
            subst (λ (k : ℕ). at w (2048 + f * k) ≡ at samples f) m_is (begun.values f (omega (arith, known.samples_exact)))))
            after

        pub build_done : BuildPromise g samples tensor_out scratch r tensor_later scratch_later
        build_done =
            let decided = build_outcome g samples tensor_out scratch in
            record {
              answer = answer_is tensor_out (tensor g samples) scratch w' tensor_later scratch_later decided passed came_out long finished;
              output = output_is tensor_out (tensor g samples) scratch w' tensor_later scratch_later decided passed came_out long finished;
              scratch =
                  scratch_is tensor_out (tensor g samples) scratch w' tensor_later scratch_later decided passed came_out long finished;
            }
