-- A build that is lent the first places of a buffer: what stands in the whole buffer after it, and its promise.
use mathlib.Core.Path.{◌≡◌, refl}
use mathlib.Core.List.{List, ◌++◌}
use Prim.Native.Nat.{ℕ, zero, suc, ◌-◌}
use native.Mathlib.Omega.{arith}
use lib.ListN.{length, take, drop, take-append-drop}
use lib.Ieee.{Float}
use Rattle.rules.proofs.Tables.{length_table}
use Rattle.rules.specs.Sizes.{Grid, knots_length, samples_length, tensor_length}
use Rattle.rules.specs.Tensor.{tensor}
use Rattle.rules.specs.Calls.{stored, BuildPromise}
use Rattle.rules.specs.declared.Axis.{Axis}
use Rattle.grid.specs.GridOfCall.{grid, sizes_of}
use Rattle.sheet_read.specs.Read.{over}
use Rattle.rules.proofs.Refused.{none_counted}
use Rattle.sheet_build.specs.SheetTensor.{unread_answer, read_answer, answer_of, grid_in, samples_in, parts_refusal, PartsPromise, SheetAnswer}

-- a refusal before the build is answered as such
pub unread_is : (reading refusal edition : ℕ) (g : Grid) → (reading ≡ 0 → ⊥) → unread_answer refusal ≡ answer_of reading refusal edition g
unread_is zero refusal edition g met = absurd (met refl)
unread_is (suc reading) refusal edition g met = refl

-- and the answer has its number
pub answered_refusal : (reading refusal edition : ℕ) (g : Grid) → (answer_of reading refusal edition g).refusal ≡ refusal
answered_refusal zero refusal edition g = refl
answered_refusal (suc reading) refusal edition g = refl

pub length_tensor : (g : Grid) (samples : List Float) → length (tensor g samples) ≡ tensor_length g
unfolding tensor
length_tensor g samples = length_table (tensor_length g) _

-- the first n places stored or as they were, and the others as they were
front_later : (refusal n : ℕ) (lent new : List Float) → length new ≡ n
    → stored refusal (take n lent) new ++ drop n lent ≡ stored refusal lent (over new lent)
front_later zero n lent new e = rw e
front_later (suc refusal) n lent new e = take-append-drop n lent

module _
    (edition axes : ℕ) (all : List Axis) (knots samples lent scratch : List Float) (knots_end samples_end n : ℕ)
    (k : knots_end ≡ knots_length (sizes_of axes all)) (s : samples_end ≡ samples_length (sizes_of axes all))
    (t : n ≡ tensor_length (sizes_of axes all))
    (r : ℕ) (new scratch_later : List Float)
    (built : BuildPromise (grid axes all (take (knots_end - 0) knots)) (take (samples_end - 0) samples) (take (n - 0) lent) scratch r new
    scratch_later)
  where
    abbrev g : Grid
    g = grid_in axes all knots

    abbrev y : List Float
    y = samples_in axes all samples

    of_parts : BuildPromise g y (take (tensor_length g) lent) scratch r new scratch_later
    of_parts =
        let a : knots_end - 0 ≡ knots_length (sizes_of axes all) = omega arith in
        let b : samples_end - 0 ≡ samples_length (sizes_of axes all) = omega arith in
        let c : n - 0 ≡ tensor_length (sizes_of axes all) = omega arith in
        rw (a, b, c) at built

    parts_answered : (given : SheetAnswer) → given ≡ read_answer r edition g
        → PartsPromise g y lent scratch edition given (new ++ drop (n - 0) lent) scratch_later
    parts_answered given e = record {
      answer = rw of_parts.answer at e;
      output =
          let c : n - 0 ≡ tensor_length g = omega arith in
          rw (of_parts.output, c) (front_later (parts_refusal g y lent scratch) (tensor_length g) lent (tensor g y) (length_tensor g y));
      scratch = of_parts.scratch;
    }

    pub parts_refused : (r ≡ 0 → ⊥)
        → PartsPromise g y lent scratch edition (record { refusal = r; edition = edition; axes = axes; all = all; length = 0 })
        (new ++ drop (n - 0) lent) scratch_later
    parts_refused met = parts_answered _ (rw (none_counted r (tensor_length g) met))

    pub parts_built : r ≡ 0
        → PartsPromise g y lent scratch edition (record { refusal = r; edition = edition; axes = axes; all = all; length = n })
        (new ++ drop (n - 0) lent) scratch_later
    parts_built none = parts_answered _ (rw (none, t))
