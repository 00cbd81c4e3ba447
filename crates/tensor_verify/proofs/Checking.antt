-- What is looked at before a tensor is verified: the rows of a change that changes nothing, without that of its place and its sample.
use mathlib.Core.Path.{◌≡◌, refl, ap, ◌∙◌}
use mathlib.Core.Bool.{Bool, true, false, cond, ◌||◌}
use mathlib.Core.List.{List, [], ◌∷◌, ◌++◌}
use Prim.Native.Nat.{ℕ, zero, suc, ◌<◌}
use native.Mathlib.Omega.{arith}
use lib.Dec.{leb}
use lib.ListN.{length}
use lib.Ieee as Ieee
use lib.Ieee.{Float}
use borrow.Author.Tests.{ltb-false, lt-leb}
use Rattle.rules.specs.Numbers.{plus_zero, any}
use Rattle.rules.specs.Sizes.{Grid, points, knots_length, tensor_length, scratch_length, Place, place_of}
use Rattle.rules.specs.Refusals.{
  points_refused,
  length_refused,
  scratch_refused,
  place_refused,
  number_refused,
  some_number_refused,
  some_ends_refused,
  some_knots_refused,
  some_fewness_refused,
  some_points_refused,
  axes_refused,
  tensor_refused,
  outcome_refused,
}
use Rattle.rules.proofs.Cases.{passed}
use Rattle.base_numbers.proofs.Scan.{neither, any_at, any_never}
use Rattle.grid_checks.specs.Tables.{Refusal, row, lowest}
use Rattle.grid_checks.specs.Check.{sizes_rows, change_rows, change_check}
use Rattle.grid_checks.proofs.ThenOutcome.{ThenOutcome, then_outcome}
use Rattle.tensor_verify.specs.Verify.{fresh, verify_refusal}

-- the place and the sample of a change that changes nothing
abbrev pub nowhere : Place
nowhere = place_of (0 ∷ 0 ∷ 0 ∷ 0 ∷ [])

at_0 : (j : ℕ) → nowhere j ≡ 0
at_0 zero = refl
at_0 (suc zero) = refl
at_0 (suc (suc zero)) = refl
at_0 (suc (suc (suc zero))) = refl
at_0 (suc (suc (suc (suc j)))) = refl

-- two tables that begin alike
same_behind : (front rows others : List Refusal) → (lowest front 0 ≡ 0 → lowest rows 0 ≡ lowest others 0)
    → lowest (front ++ rows) 0 ≡ lowest (front ++ others) 0
same_behind [] rows others same = same refl
same_behind (first ∷ front) rows others same = go first.applies refl (same_behind front rows others)
  where
    go : (b : Bool) → first.applies ≡ b
        → ((lowest front 0 ≡ 0 → lowest rows 0 ≡ lowest others 0) → lowest (front ++ rows) 0 ≡ lowest (front ++ others) 0)
        → cond b first.number (lowest (front ++ rows) 0) ≡ cond b first.number (lowest (front ++ others) 0)
    go true e later = refl
    go false e later = later (λ none. same (ap (λ (b : Bool). cond b first.number (lowest front 0)) e ∙ none))

third_false : (a b c d : Bool) → c ≡ false → (a || b || c || d) ≡ (a || b || d)
third_false true b c d e = refl
third_false false true c d e = refl
third_false false false c d e = rw e

zero_finite : number_refused plus_zero ≡ false
unfolding Ieee.of_bits
zero_finite = refl

module _ (g : Grid) (t : List Float) where
  abbrev pub verify_rows : ℕ → List Refusal
  verify_rows scratch_given =
      sizes_rows g ++ (
      row 4 (length_refused (length g.flat_knots) (knots_length g) || length_refused (length t) (tensor_length g))
      ∷ row 5 (scratch_refused scratch_given (scratch_length g))
      ∷ row 7 (some_number_refused g.flat_knots || some_ends_refused g || some_number_refused t)
      ∷ row 8 (some_knots_refused g)
      ∷ row 9 (some_fewness_refused g)
      ∷ []
      )

  unfoldable pub verify_check : ℕ → ℕ
  verify_check scratch_given = lowest (verify_rows scratch_given) 0

  -- the check's number, and 10 for what a build would refuse
  pub verify_outcome : (scratch_lent : List Float)
      → ThenOutcome (verify_check (length scratch_lent)) (outcome_refused (fresh g t)) (verify_refusal g t scratch_lent)
  unfolding verify_check verify_refusal
  verify_outcome scratch_lent = then_outcome (verify_rows (length scratch_lent)) (outcome_refused (fresh g t)) tt tt

  on_the_grid : some_points_refused g ≡ false → place_refused g nowhere ≡ false
  on_the_grid fine =
      any_never (λ i. leb (points g i) (nowhere i)) g.axes (λ i l.
      let enough = ltb-false (points g i) 2 (neither _ _ (any_at (λ j. points_refused (points g j)) g.axes fine i l)).0 in
      lt-leb (points g i) (nowhere i) (omega (arith, at_0 i)))

  abbrev first_rows : ℕ → List Refusal
  first_rows scratch_given =
      row 1 (axes_refused g)
      ∷ row 2 (some_points_refused g)
      ∷ row 3 (tensor_refused g)
      ∷ row 4 (length_refused (length g.flat_knots) (knots_length g) || length_refused (length t) (tensor_length g))
      ∷ row 5 (scratch_refused scratch_given (scratch_length g))
      ∷ []

  abbrev last_rows : List Refusal
  last_rows = row 8 (some_knots_refused g) ∷ row 9 (some_fewness_refused g) ∷ []

  -- past the lengths the place is on the grid, and the sample is finite
  past_lengths : some_points_refused g ≡ false
      → lowest
      (row 6 (place_refused g nowhere)
      ∷ row 7 (some_number_refused g.flat_knots || some_ends_refused g || number_refused plus_zero || some_number_refused t)
      ∷ last_rows) 0
      ≡ lowest (row 7 (some_number_refused g.flat_knots || some_ends_refused g || some_number_refused t) ∷ last_rows) 0
  past_lengths fine =
      rw (on_the_grid fine)
      (ap (λ (test : Bool). cond test 7 (lowest last_rows 0))
      (third_false (some_number_refused g.flat_knots) (some_ends_refused g) (number_refused plus_zero) (some_number_refused t)
      zero_finite))

  -- it is the check of a change of nothing
  pub check_is : (scratch_given : ℕ) → change_check g t scratch_given nowhere plus_zero ≡ verify_check scratch_given
  unfolding verify_check change_check
  check_is scratch_given =
      same_behind (first_rows scratch_given)
      (row 6 (place_refused g nowhere)
      ∷ row 7 (some_number_refused g.flat_knots || some_ends_refused g || number_refused plus_zero || some_number_refused t)
      ∷ last_rows)
      (row 7 (some_number_refused g.flat_knots || some_ends_refused g || some_number_refused t) ∷ last_rows)
      (λ none.
      let axes = passed (axes_refused g) 0 _ none in
      let sizes = passed (some_points_refused g) 1 _ axes.1 in
      past_lengths sizes.0)
