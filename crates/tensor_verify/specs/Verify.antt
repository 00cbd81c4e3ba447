-- The chapter Verify of docs/RULES.md: the public call `verify`, which holds a tensor against the build of its own samples.
use Rattle.std.specs.Prelude.{◌≡◌, Bool, true, false, not, ◌||◌, List, ℕ, zero, suc, ◌+◌, ◌*◌, length, replicate, Float, Result, Ok, Err}
use Rattle.std.proofs.Math.Bool.{cond}
use Rattle.std.proofs.Math.Dec.{eqb}
use Rattle.std.specs.Float.{binary64}
use Rattle.std.specs.Float.Ieee.{to_bits}
use Rattle.rules.specs.Numbers.{at, table}
use Rattle.rules.specs.Sizes.{most_axes, Grid, masks, knots_length, samples_length, tensor_length, scratch_length}
use Rattle.rules.specs.Refusals.{
  axes_refused,
  some_points_refused,
  tensor_refused,
  length_refused,
  scratch_refused,
  some_number_refused,
  some_ends_refused,
  some_knots_refused,
  some_fewness_refused,
  outcome_refused,
}
use Rattle.rules.specs.Even.{first_that}
use Rattle.rules.specs.Tensor.{tensor, place_at, mask_at}
use Rattle.rules.specs.Calls.{scratch_after}
use Rattle.rules.specs.Answers.{number_of}
use Rattle.rules.specs.declared.Refusal.{Refusal}
use Rattle.tensor_verify.specs.declared.Verdict.{Verdict}
use Rattle.tensor_verify.specs.declared.Verdict.TheVariants.{Whole, Differs}

-- the samples of a tensor: its numbers at mask 0, in the order of their places
unfoldable pub samples_in : Grid → List Float → List Float
samples_in g t = table (samples_length g) (λ f. at t (f * masks g))

-- the tensor that a build of them gives
unfoldable pub fresh : Grid → List Float → List Float
unfolding tensor samples_in
fresh g t = tensor g (samples_in g t)

-- whether two numbers have other bits: −0.0 has other bits than +0.0
abbrev pub other_bits : Float → Float → Bool
other_bits x y = not (eqb (to_bits binary64 x) (to_bits binary64 y))

-- of how many of the numbers below n a test holds
unfoldable pub count_that : (ℕ → Bool) → ℕ → ℕ
count_that test zero = 0
count_that test (suc n) = count_that test n + cond (test n) 1 0

-- the answer in numbers: the refusal, whether the tensor is whole, place and mask of the first number that differs, how many differ
pub record VerifyAnswer : Type 0 where
  pub refusal : ℕ
  pub whole : Bool
  pub place : List ℕ
  pub mask : ℕ
  pub differing : ℕ

-- the answer of a refusal: its number, and nothing told
abbrev pub refused_with : ℕ → VerifyAnswer
refused_with refusal = record { refusal = refusal; whole = false; place = replicate most_axes 0; mask = 0; differing = 0 }

-- the answer of what the call gives
abbrev pub verify_told : Result Verdict Refusal → VerifyAnswer
verify_told (Ok Whole) = record { refusal = 0; whole = true; place = replicate most_axes 0; mask = 0; differing = 0 }
verify_told (Ok (Differs place mask differing)) = record {
  refusal = 0;
  whole = false;
  place = place;
  mask = mask;
  differing = differing;
}
verify_told (Err refusal) = refused_with (number_of refusal)

module _ (g : Grid) (t : List Float) where
  -- whether number e of the tensor differs from the fresh one
  abbrev pub stale : ℕ → Bool
  stale e = other_bits (at t e) (at (fresh g t) e)

  -- the first that does, and 0 where none does
  unfoldable pub first_stale : ℕ
  unfolding fresh first_that
  first_stale = first_that stale (tensor_length g) 0

  -- how many do
  unfoldable pub stale_numbers : ℕ
  unfolding fresh count_that
  stale_numbers = count_that stale (tensor_length g)

  -- what is told of a tensor that is not refused
  unfoldable pub found : VerifyAnswer
  unfolding first_stale stale_numbers
  found = record {
    refusal = 0;
    whole = eqb stale_numbers 0;
    place = table most_axes (place_at g first_stale);
    mask = mask_at g first_stale;
    differing = stale_numbers;
  }

  module _ (scratch_lent : List Float) where
    -- its refusal, the first of 1 2 3 4 5 7 8 9 10 that applies
    unfoldable pub verify_refusal : ℕ
    unfolding fresh
    verify_refusal =
        cond (axes_refused g) 1
        (cond (some_points_refused g) 2
        (cond (tensor_refused g) 3
        (cond (length_refused (length g.flat_knots) (knots_length g) || length_refused (length t) (tensor_length g)) 4
        (cond (scratch_refused (length scratch_lent) (scratch_length g)) 5
        (cond (some_number_refused g.flat_knots || some_ends_refused g || some_number_refused t) 7
        (cond (some_knots_refused g) 8
        (cond (some_fewness_refused g) 9
        (cond (outcome_refused (fresh g t)) 10 0))))))))

    -- its answer: the refusal, or what is told
    unfoldable pub verify_answer : VerifyAnswer
    unfolding verify_refusal found
    verify_answer = cond (eqb verify_refusal 0) found (refused_with verify_refusal)

    -- what it promises: the answer, the scratch
    pub record VerifyPromise (given : VerifyAnswer) (scratch_later : List Float) : Type 0 where
      pub answer : given ≡ verify_answer
      pub scratch : scratch_later ≡ scratch_after verify_refusal scratch_lent
