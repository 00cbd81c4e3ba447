-- The numbers that a sheet and its build refuse by are few: none is above 22.
use mathlib.Core.Path.{◌≡◌, refl, ap}
use mathlib.Core.Bool.{Bool, true, false, cond, ◌||◌}
use mathlib.Core.List.{List}
use Prim.Native.Nat.{ℕ, zero, suc, ◌<◌, ◌≤◌}
use native.Mathlib.Omega.{arith}
use lib.Dec.{ltb}
use lib.ListN.{length}
use lib.Ieee.{Float}
use borrow.Author.Tests.{ltb-true, ltb-false, ne_eqb}
use Rattle.rules.specs.Sizes.{Grid, knots_length, samples_length, tensor_length, scratch_length}
use Rattle.rules.specs.Refusals.{
  axes_refused,
  some_points_refused,
  tensor_refused,
  length_refused,
  scratch_refused,
  some_number_refused,
  some_ends_refused,
  some_knots_refused,
  some_fewness_refused,
  outcome_refused,
}
use Rattle.rules.specs.Tensor.{tensor}
use Rattle.rules.specs.Calls.{or_else, build_refusal}
use Rattle.grid_codes.specs.Classes.{of_writing, class}
use Rattle.grid_codes.specs.declared.classes.Class.TheVariants.{Reading, Writing, Unknown}
use Rattle.grid_codes.proofs.Among.{above}
use Rattle.grid_codes.proofs.Apart.{place}
use Rattle.grid_codes.proofs.Classed.{Of}
use Rattle.sheet_read.specs.Faults.{sheet_refusal}
use Rattle.sheet_read.proofs.Numbers.{sheet_of_reading}
use Rattle.sheet_build.specs.SheetTensor.{building_refusal, own_refusal}

-- a number of the class Reading is at most 22
reading_most : (refusal : ℕ) (more : Bool) → ltb 22 refusal ≡ more → class refusal ≡ Reading → refusal ≤ 22
unfolding class
reading_most refusal false e c = ltb-false 22 refusal e
reading_most refusal true e c =
    let large : 22 < refusal = ltb-true 22 refusal e in
    absurd
    (not_reading (of_writing refusal)
    (rw (
      ne_eqb refusal 0 (λ z. omega (arith, large, z)),
      above 1 4 refusal (omega arith) (omega (arith, large)),
      above 11 14 refusal (omega arith) (omega (arith, large)),
      ne_eqb refusal 22 (λ z. omega (arith, large, z)),
      above 5 10 refusal (omega arith) (omega (arith, large)),
    ) at c))
  where
    not_reading : (writing : Bool) → cond writing Writing Unknown ≡ Reading → ⊥
    not_reading true e = let places = ap place e in omega arith
    not_reading false e = let places = ap place e in omega arith

few_numbers : (refusal : ℕ) → Of Reading refusal → refusal ≤ 22
few_numbers zero of = omega arith
few_numbers (suc refusal) of = reading_most (suc refusal) (ltb 22 (suc refusal)) refl (of (λ e. omega arith))

-- the numbers of a build
pub at_most : (test : Bool) {number later : ℕ} → number ≤ 22 → later ≤ 22 → cond test number later ≤ 22
at_most true n l = n
at_most false n l = l

few_of_build : (g : Grid) (samples lent scratch : List Float) → build_refusal g samples lent scratch ≤ 22
unfolding build_refusal
few_of_build g samples lent scratch =
    at_most (axes_refused g) (omega arith)
    (at_most (some_points_refused g) (omega arith)
    (at_most (tensor_refused g) (omega arith)
    (at_most
    (length_refused (length g.flat_knots) (knots_length g) || length_refused (length samples) (samples_length g)
    || length_refused (length lent) (tensor_length g))
    (omega arith)
    (at_most (scratch_refused (length scratch) (scratch_length g)) (omega arith)
    (at_most (some_number_refused g.flat_knots || some_ends_refused g || some_number_refused samples) (omega arith)
    (at_most (some_knots_refused g) (omega arith)
    (at_most (some_fewness_refused g) (omega arith)
    (at_most (outcome_refused (tensor g samples)) (omega arith) (omega arith)))))))))

pub sheet_few : (bytes : List ℕ) → sheet_refusal bytes ≤ 22
sheet_few bytes = few_numbers _ (sheet_of_reading bytes)

pub build_few : (bytes : List ℕ) → building_refusal bytes ≤ 22
unfolding building_refusal
build_few bytes = few_of_build _ _ _ _

pub or_else_few : (first : ℕ) {later : ℕ} → first ≤ 22 → later ≤ 22 → or_else first later ≤ 22
or_else_few zero f l = l
or_else_few (suc first) f l = f

pub own_few : (bytes : List ℕ) → own_refusal bytes ≤ 22
unfolding own_refusal
own_few bytes = or_else_few (sheet_refusal bytes) (sheet_few bytes) (build_few bytes)
