-- A lane gathered, its moments computed, its slopes stored: the lane is solved.
use native.Mathlib.Omega.{arith}
use mathlib.Core.Path.{◌≡◌, refl, ap₂, ◌∙◌}
use mathlib.Core.List.{List}
use Prim.Native.Nat.{ℕ, ◌+◌, ◌-◌, ◌*◌, ◌<◌}
use lib.ListN.{length, take, drop}
use lib.Ieee.{Float}
use Rattle.rules.specs.Numbers.{at, table}
use Rattle.rules.specs.Moments.{moments}
use Rattle.rules.specs.Curve.{knot_slope, lane_slope}
use Rattle.rules.specs.declared.Condition.{Condition}
use Rattle.axis_moments.specs.SolvedMoments.{MomentsSolved}
use Rattle.tensor_lane.specs.LaneInScratch.{Lies, Gathered, slope_of_rows, Stored, LaneGiven, LaneSolved}
use Rattle.tensor_lane.proofs.Parts.{part_is_table}

-- a lane lies as well in a list of the same length
pub still_lies : {w : List Float} (w' : List Float) {n from step : ℕ} → length w' ≡ length w → Lies w n from step → Lies w' n from step
still_lies w' long lies = record {
  room = omega (arith, lies.room);
  behind = lies.behind;
  within = λ k h. omega (arith, lies.within k h);
}

module _
    (w₀ w₁ w₂ w₃ x : List Float) (condition : Condition) (from to step : ℕ)
    (given : LaneGiven w₀ x condition from to step)
    (gathered : Gathered w₀ w₁ (length x) from step)
    (computed : MomentsSolved w₁ w₂ x condition)
    (stored : Stored w₂ w₃ (slope_of_rows w₂ x) (length x) to step)
  where
    abbrev samples : List Float
    samples = table (length x) (λ j. at w₀ (from + j * step))

    samples_in : (w : List Float) → length w ≡ length w₀ → ((k : ℕ) → k < length x → at w k ≡ at w₁ k) → take (length x) w ≡ samples
    samples_in w e same =
        part_is_table w 0 (length x) (omega (arith, given.numbers.room, given.few_points)) (λ j. at w₀ (from + j * step))
        (λ k h. let z : 0 + k ≡ k = omega arith in rw z (same k h ∙ gathered.samples k h))

    moments_in : take (length x) (drop 1792 w₂) ≡ moments x (length x - 1) condition samples
    unfolding moments
    moments_in =
        part_is_table w₂ 1792 (length x)
        (omega (arith, computed.same_length, gathered.same_length, given.numbers.room, given.few_points)) _ computed.result
        ∙ let e : length x - 1 + 1 ≡ length x = omega (arith, given.some_points) in
        rw (e, samples_in w₁ gathered.same_length (λ k h. refl))

    pub lane_solved : LaneSolved w₀ w₃ x condition from to step
    unfolding lane_slope
    lane_solved = record {
      same_length = stored.same_length ∙ computed.same_length ∙ gathered.same_length;
      slopes = λ k h.
          stored.values k h
          ∙ ap₂ (λ (y m : List Float). knot_slope x (length x - 1) y m k)
          (samples_in w₂ (computed.same_length ∙ gathered.same_length)
          (λ j l. computed.kept j (λ k b. omega (arith, given.few_points))))
          moments_in;
      kept = λ j h o. stored.kept j o ∙ computed.kept j (λ k b. omega arith) ∙ gathered.kept j (omega arith);
    }
