-- The rows that every call with axes meets first, asked by a function of their own: they answer, or those below do, and then the points are
-- four and in range, are those of the axes made of them, and their sizes are those found.
use mathlib.Core.Path.{◌≡◌, refl, sym, ap, ap₂, ◌∙◌}
use mathlib.Core.Bool.{Bool, true, false, cond, ◌||◌}
use mathlib.Core.List.{List, [], ◌∷◌}
use Prim.Native.Nat.{ℕ, zero, suc, ◌*◌, ◌^◌, ◌<◌, ◌≤◌}
use native.Mathlib.Omega.{arith}
use lib.Dec.{ltb}
use lib.ListN.{length, get_or}
use lib.Ieee.{Float}
use borrow.Author.Tests.{lt-ltb}
use Rattle.std.specs.Prelude.{Result, Err}
use Rattle.std.specs.Result.{IsErrAnd}
use Rattle.std.proofs.lemmas.Result.{IfOk-weaker}
use Rattle.rules.specs.Answers.{number_of, refusal_of}
use Rattle.rules.specs.Ends.{not_a_knot}
use Rattle.rules.specs.Sizes.{most_axes, unused_axis, place_of, sum_below, product_below, knots_length, samples_length}
use Rattle.rules.specs.Numbers.{any}
use Rattle.rules.specs.Refusals.{points_refused, length_refused}
use Rattle.rules.specs.declared.Refusal.{Refusal}
use Rattle.rules.specs.declared.Refusal.TheVariants.{Axes, Length}
use Rattle.rules.specs.declared.Mode.TheVariants.{Extend}
use Rattle.rules.proofs.Refused.{any_ext}
use Rattle.rules.proofs.Sums.{sum_ext, product_ext}
use Rattle.grid.specs.GridOfCall.{points_of, InRange}
use Rattle.grid_checks.specs.Check.{points_check}
use Rattle.grid_checks.specs.SizesFound.{SizesFound, SizesOf}
use Rattle.grid_checks.specs.Tables.{row, lowest}
use Rattle.grid_checks.specs.declared.sizes.Sizes.{Sizes}
use Rattle.grid_checks.proofs.Rows.{stop, pass, none_applies, rows_given, rows_pass, axes_few, in_range, exact}
use Rattle.c_axes.specs.Axes.{axis_without_ends, axes_without_ends}
use Rattle.c_refusals.specs.OwnRefusals.{sizes_given, axes_rows, axes_own_refusal, query_later_rows}
use Rattle.c_refusals.specs.OwnSizes.{SizesGiven, OwnSizes, rows_of_sizes}

module _ (axes : ℕ) (points : List ℕ) {number : ℕ} (e : number ≡ axes_own_refusal axes points) where
  pub axes_given : {Given : Type 0} (given : Result Given Refusal) (met : Refusal) → number ≡ number_of met
      → IsErrAnd given (λ refusal. refusal ≡ met) → (later : ℕ) → refusal_of given ≡ lowest (axes_rows axes points) later
  unfolding axes_own_refusal
  axes_given given met is_number = rows_given (axes_rows axes points) tt given met (sym is_number ∙ e)

  pub axes_pass : {answer : ℕ} (later : ℕ) → number ≡ 0 → answer ≡ later → answer ≡ lowest (axes_rows axes points) later
  unfolding axes_own_refusal
  axes_pass = rows_pass (axes_rows axes points) tt e

  pub points_four : number ≡ 0 → length points ≡ 4
  unfolding axes_own_refusal
  points_four z = exact (length points) 4 (none_applies (axes_rows axes points) tt (sym e ∙ z)).1.0

  pub points_in_range : number ≡ 0 → InRange axes (points_of (axes_without_ends axes points))
  unfolding axes_own_refusal
  points_in_range z =
      let none = none_applies (axes_rows axes points) tt (sym e ∙ z) in
      let few = axes_few {axes = axes} none.0 in
      in_range few.0 few.1 none.1.1.0

-- ---- the points given are those of the axes in use

module _ (axes : ℕ) (points : List ℕ) where
  -- an entry in use has its points
  in_use : (i : ℕ) → i < axes
      → (cond (ltb i axes) (record { points = get_or points i 0; condition = not_a_knot; mode = Extend }) unused_axis).points ≡ get_or points i 0
  in_use i l = rw (lt-ltb i axes l)

  pub given_below : axes ≤ 4 → (i : ℕ) → i < axes → points_of (axes_without_ends axes points) i ≡ place_of points i
  unfolding axes_without_ends axis_without_ends
  given_below few zero l = in_use 0 l
  given_below few (suc zero) l = in_use 1 l
  given_below few (suc (suc zero)) l = in_use 2 l
  given_below few (suc (suc (suc zero))) l = in_use 3 l
  given_below few (suc (suc (suc (suc i)))) l = absurd (omega arith)

  module _ (few : axes ≤ 4) where
    pub refused_given : any (λ i. points_refused (points_of (axes_without_ends axes points) i)) axes
        ≡ any (λ i. points_refused (place_of points i)) axes
    refused_given = any_ext _ _ axes (λ i l. ap points_refused (given_below few i l))

    pub sum_given : knots_length (sizes_given axes points) ≡ sum_below (place_of points) axes
    sum_given = sum_ext _ _ axes (given_below few)

    pub product_given : samples_length (sizes_given axes points) ≡ product_below (place_of points) axes
    product_given = product_ext _ _ axes (given_below few)

  -- what is found where the number of axes is refused
  pub refused_axes : (ltb axes 1 || ltb most_axes axes) ≡ true → OwnSizes axes points (Err Axes)
  unfolding axes_own_refusal
  refused_axes bad = record { refusal = stop _ refl bad; sizes = tt }

  module _ (some : (ltb axes 1 || ltb most_axes axes) ≡ false) where
    -- and where the points are not four
    pub refused_points : length_refused (length points) most_axes ≡ true
        → OwnSizes axes points (Err Length)
    unfolding axes_own_refusal
    refused_points bad = record { refusal = pass _ refl some (stop _ refl bad); sizes = tt }

    -- where they are, the sizes found of them are those of the axes
    pub sizes_of_four : {r : Result Sizes Refusal} → length_refused (length points) most_axes ≡ false → SizesFound axes (place_of points) r
        → OwnSizes axes points r
    unfolding points_check axes_own_refusal
    sizes_of_four four found =
        let few = (axes_few {axes = axes} some).1 in
        record {
          refusal =
              pass _ refl some
              (pass _ refl four
              (found.refusal
              ∙ sym
              (ap₂ (λ (refused : Bool) (product : ℕ). lowest (row 2 refused ∷ row 3 (ltb 4096 (product * 2 ^ axes)) ∷ []) 0)
              (refused_given few) (product_given few))));
          sizes =
              IfOk-weaker _ (SizesOf axes (place_of points)) (SizesGiven axes points)
              (λ sizes of. record {
                knots = of.knots ∙ sym (sum_given few);
                numbers = of.numbers ∙ sym (ap (λ (product : ℕ). product * 2 ^ axes) (product_given few));
              })
              found.sizes;
        }

  -- a query's rows by the sizes that were found are its rows by the points
  pub later_of_sizes :
      {r : Sizes} → SizesGiven axes points r
      → (modes : List ℕ) (knots tensor coordinates value : List Float) (labels : List ℕ) {number : ℕ}
      → number ≡ lowest (rows_of_sizes axes r modes knots tensor coordinates value labels) 0
      → number ≡ lowest (query_later_rows axes points modes knots tensor coordinates value labels) 0
  later_of_sizes found modes knots tensor coordinates value labels e = rw (← found.knots, ← found.numbers) e
