-- Parts that have a sheet are those that a build with a tensor and scratch of the right lengths does not refuse before it works; and none
-- of their numbers is the nan.
use mathlib.Core.Path.{◌≡◌, refl, ◌∙◌}
use mathlib.Core.Bool.{false, or-false}
use mathlib.Core.List.{List}
use Prim.Native.Nat.{ℕ, ◌<◌}
use native.Mathlib.Nat.{le_refl}
use borrow.Author.Tests.{eq-eqb, le-ltb, not-false}
use lib.ListN.{length}
use lib.Ieee.{Float}
use Rattle.base_numbers.proofs.Finite.{finite_not_nan}
use Rattle.base_numbers.proofs.Scan.{neither, any_at}
use Rattle.rules.specs.Numbers.{at}
use Rattle.rules.specs.Sizes.{Grid, condition, tensor_length, scratch_length}
use Rattle.rules.specs.Refusals.{number_refused, some_number_refused, end_refused, ends_refused}
use Rattle.rules.specs.declared.End.{End}
use Rattle.rules.specs.declared.End.TheVariants.{NotAKnot, FirstDerivative, SecondDerivative}
use Rattle.rules.specs.declared.Condition.{Condition}
use Rattle.rules.specs.declared.Condition.TheVariants.{Endpoints, Periodic}
use Rattle.grid_checks.specs.Check.{build_check}
use Rattle.grid_checks.specs.Checked.{BuildGiven}
use Rattle.grid_checks.proofs.Accepted.{build_given}
use Rattle.base_bits.proofs.Numbers.{NoNan, each_at}
use Rattle.sheet_write.specs.Write.{no_sheet_refusal}
use Rattle.sheet_write.proofs.Ends.{EndNoNan, EndsNoNan}

-- the tests of the parts are the build's
pub as_the_build : (g : Grid) (samples : List Float)
    → build_check g samples (tensor_length g) (scratch_length g) ≡ no_sheet_refusal g samples
unfolding build_check no_sheet_refusal
as_the_build g samples =
    rw (eq-eqb (tensor_length g) (tensor_length g) refl, or-false, le-ltb (scratch_length g) (scratch_length g) (le_refl _))

-- what is known of parts that have a sheet
abbrev pub Known : Grid → List Float → Type 0
Known g samples = BuildGiven g samples (tensor_length g) (scratch_length g)

pub known : (g : Grid) (samples : List Float) → no_sheet_refusal g samples ≡ 0 → Known g samples
known g samples e = build_given g samples (tensor_length g) (scratch_length g) (as_the_build g samples ∙ e)

-- ---- no nan

pub no_nan : (xs : List Float) → some_number_refused xs ≡ false → NoNan xs
no_nan xs e = each_at _ xs (λ k l. finite_not_nan (at xs k) (not-false _ (any_at (λ j. number_refused (at xs j)) (length xs) e k l)))

end_no_nan : (e : End) → end_refused e ≡ false → EndNoNan e
end_no_nan NotAKnot fine = tt
end_no_nan (FirstDerivative value) fine = finite_not_nan value (not-false _ fine)
end_no_nan (SecondDerivative value) fine = finite_not_nan value (not-false _ fine)

pub ends_no_nan : (c : Condition) → ends_refused c ≡ false → EndsNoNan c
ends_no_nan (Endpoints lower upper) fine =
    let both = neither (end_refused lower) (end_refused upper) fine in
    (end_no_nan lower both.0, end_no_nan upper both.1)
ends_no_nan Periodic fine = tt

-- parts that have a sheet have no nan: not among the knots, not among the samples, and not at an end
pub record WithoutNan (g : Grid) (samples : List Float) : Type 0 where
  pub knots_fine : NoNan g.flat_knots
  pub samples_fine : NoNan samples
  pub ends_fine : (i : ℕ) → i < g.axes → EndsNoNan (condition g i)

pub without_nan : (g : Grid) (samples : List Float) → no_sheet_refusal g samples ≡ 0 → WithoutNan g samples
without_nan g samples e =
    let k = known g samples e in
    record {
      knots_fine = no_nan g.flat_knots k.grid_given.knots_finite;
      samples_fine = no_nan samples k.samples_finite;
      ends_fine = λ i l. ends_no_nan (condition g i) (k.solve_given.ends_finite i l);
    }
