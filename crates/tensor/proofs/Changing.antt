-- The promise of `change`: refused before the work begins, or the changed tensor, looked at and stored, with the lanes counted.
use native.Mathlib.Omega.{arith}
use native.Mathlib.Nat.{add-zero}
use mathlib.Core.Path.{◌≡◌, refl, sym, ap, ap₂, ◌∙◌, subst}
use mathlib.Core.Logic.{◌≢◌}
use mathlib.Core.Bool.{false}
use mathlib.Core.List.{List}
use Prim.Native.Nat.{ℕ, zero, suc, ◌+◌, ◌<◌, ◌*◌}
use lib.ListN.{length, take, drop}
use lib.Pow.{pow_pos}
use lib.Arith.{digits_lt}
use lib.Ieee.{Float}
use Rattle.rules.specs.Numbers.{at}
use Rattle.rules.specs.Sizes.{Grid, points, tensor_length, Place, spot, masks, flat}
use Rattle.rules.specs.Change.{changed_tensor, change_lanes}
use Rattle.rules.specs.Calls.{counted, change_answer, ChangePromise}
use Rattle.rules.specs.Answers.{ChangeAnswer}
use Rattle.rules.proofs.Places.{flat_below}
use Rattle.rules.proofs.LaneCount.{lane_count}
use Rattle.grid_checks.specs.Check.{change_check}
use Rattle.grid_checks.specs.Checked.{ChangeGiven}
use Rattle.grid_checks.proofs.ThenOutcome.{refused, change_outcome}
use Rattle.tensor_passes.specs.Passes.{lanes_solved_below, WorkGiven, Refreshed}
use Rattle.tensor_passes.proofs.Count.{change_count}
use Rattle.tensor_passes.proofs.MaskTurns.{given_again}
use Rattle.tensor.specs.Working.{Loaded, outcome_in, Finished}
use Rattle.tensor.proofs.Outcome.{changed_is, sample_stored, others_kept}
use Rattle.tensor.proofs.Promises.{given_of, answer_is, output_is, scratch_is}

abbrev answer_of : ℕ → ℕ → ChangeAnswer
answer_of r n = record { refusal = r; lanes = n }

module _ (g : Grid) (tensor_lent scratch : List Float) (changed : Place) (v : Float) where
  pub change_refused : (r : ℕ) → r ≡ change_check g tensor_lent (length scratch) changed v → r ≢ 0
      → ChangePromise g tensor_lent scratch changed v (answer_of r 0) tensor_lent scratch
  unfolding change_answer
  change_refused r e some =
      let left = refused (change_outcome g tensor_lent scratch changed v) (λ z. some (e ∙ z)) in
      record {
        answer = ap₂ answer_of (e ∙ sym left.same) (left.count (length (change_lanes g changed)));
        output = left.output tensor_lent (changed_tensor g changed v tensor_lent);
        scratch = left.scratch scratch;
      }

  module _ (known : ChangeGiven g tensor_lent (length scratch) changed v) where
    pub change_given_passes : WorkGiven g scratch
    change_given_passes = given_of known.grid_given known.solve_given

    -- where the new sample goes, as the code computes it
    pub spot_is : (number power : ℕ) → number ≡ flat (points g) g.axes changed → power ≡ masks g → number * power ≡ spot g changed 0
    spot_is number power e f = rw (e, f, add-zero)

    pub changed_inside : spot g changed 0 < length tensor_lent
    changed_inside =
        subst (λ (n : ℕ). spot g changed 0 < n) (sym known.grid_given.tensor_exact)
        (digits_lt (flat_below (points g) g.axes changed known.on_the_grid) (pow_pos g.axes))

    pub changed_small : spot g changed 0 < 4096
    changed_small = omega (arith, changed_inside, known.grid_given.tensor_exact, known.grid_given.small)

    module _
        (r at_spot lanes : ℕ) (w w' tensor_later scratch_later : List Float)
        (passed : change_check g tensor_lent (length scratch) changed v ≡ 0)
        (spot_is : at_spot ≡ spot g changed 0)
        (begun : Loaded scratch w tensor_lent at_spot v)
        (after : Refreshed g w w' false changed g.axes × (lanes ≡ lanes_solved_below (points g) g.axes false g.axes))
        (finished : Finished tensor_lent w' r tensor_later scratch_later)
      where
        long : length w' ≡ length scratch
        long = after.0.same_length ∙ begun.same_length

        new : at w (2048 + spot g changed 0) ≡ v
        new = subst (λ (e : ℕ). at w (2048 + e) ≡ v) spot_is begun.new

        copied : (e : ℕ) → e < tensor_length g → e ≢ spot g changed 0 → at w (2048 + e) ≡ at tensor_lent e
        copied e lt other = begun.copied e (omega (arith, known.grid_given.tensor_exact)) (λ same. other (same ∙ spot_is))

        came_out : outcome_in w' tensor_lent ≡ changed_tensor g changed v tensor_lent
        came_out =
            ap (λ (n : ℕ). take n (drop 2048 w')) known.grid_given.tensor_exact
            ∙ changed_is g w w' (given_again w' long change_given_passes) changed v tensor_lent
            (sample_stored g w tensor_lent changed v known.on_the_grid new copied)
            (others_kept g w tensor_lent changed v known.on_the_grid new copied)
            after.0

        count_is : lanes ≡ length (change_lanes g changed)
        count_is = after.1 ∙ change_count (points g) g.axes g.axes (omega arith) ∙ sym (lane_count g changed known.on_the_grid)

        change_worked : (n : ℕ) → n ≡ counted r (length (change_lanes g changed))
            → ChangePromise g tensor_lent scratch changed v (answer_of r n) tensor_later scratch_later
        unfolding change_answer
        change_worked n n_is =
            let decided = change_outcome g tensor_lent scratch changed v in
            let new_tensor = changed_tensor g changed v tensor_lent in
            let is = answer_is tensor_lent new_tensor scratch w' tensor_later scratch_later decided passed came_out long finished in
            record {
              answer = ap₂ answer_of is (n_is ∙ ap (λ (k : ℕ). counted k (length (change_lanes g changed))) is);
              output = output_is tensor_lent new_tensor scratch w' tensor_later scratch_later decided passed came_out long finished;
              scratch = scratch_is tensor_lent new_tensor scratch w' tensor_later scratch_later decided passed came_out long finished;
            }

        pub change_stopped : r ≢ 0 → ChangePromise g tensor_lent scratch changed v (answer_of r 0) tensor_later scratch_later
        change_stopped some = change_worked 0 (go r some)
          where
            go : (k : ℕ) → k ≢ 0 → 0 ≡ counted k (length (change_lanes g changed))
            go zero h = absurd (h refl)
            go (suc k) h = refl

        pub change_done : r ≡ 0 → ChangePromise g tensor_lent scratch changed v (answer_of 0 lanes) tensor_later scratch_later
        change_done e =
            subst (λ (k : ℕ). ChangePromise g tensor_lent scratch changed v (answer_of k lanes) tensor_later scratch_later) e
            (change_worked lanes (rw e count_is))
