-- What is told of numbers held against others: of those of a tensor against what came out of a build, and of any two slices.
use Rattle.std.specs.Prelude.{◌≡◌, Bool, false, List, ℕ, ◌/◌, ◌%◌, ◌^◌, length, Float}
use Rattle.std.proofs.Math.Bool.{cond}
use Rattle.std.proofs.Math.Dec.{eqb}
use Rattle.rules.specs.Numbers.{at, table}
use Rattle.rules.specs.Sizes.{most_axes, unflat}
use Rattle.rules.specs.Refusals.{some_number_refused, outcome_refused}
use Rattle.rules.specs.Even.{first_that}
use Rattle.tensor_verify.specs.Verify.{other_bits, count_that, VerifyAnswer, refused_with}

-- two slices of the same length, all finite
pub record Comparable (ours others : List Float) : Type 0 where
  pub same_length : length others ≡ length ours
  pub ours_finite : some_number_refused ours ≡ false
  pub others_finite : some_number_refused others ≡ false

-- whether their numbers differ at a place
abbrev pub differs_at : List Float → List Float → ℕ → Bool
differs_at ours others e = other_bits (at ours e) (at others e)

module _ (axes : ℕ) (n : ℕ → ℕ) (tensor fresh : List Float) where
  abbrev pub first : ℕ
  first = first_that (differs_at tensor fresh) (length tensor) 0

  abbrev pub count : ℕ
  count = count_that (differs_at tensor fresh) (length tensor)

  -- what is told of a tensor and the one that came out: 10, or what differs
  unfoldable pub compared : VerifyAnswer
  unfolding first_that count_that unflat
  compared =
      cond (outcome_refused fresh) (refused_with 10)
      (record {
        refusal = 0;
        whole = eqb count 0;
        place = table most_axes (unflat n axes (first / 2 ^ axes));
        mask = first % 2 ^ axes;
        differing = count;
      })
