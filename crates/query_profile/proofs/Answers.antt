-- What the profile answers: sizes and lengths decide, and then the knots, by the first quality that an axis lacks.
use mathlib.Core.Path.{◌≡◌, refl, sym, ap, ap₂, ◌∙◌}
use mathlib.Core.Logic.{◌≢◌}
use mathlib.Core.Bool.{Bool, true, false, cond, ◌||◌}
use mathlib.Core.List.{List}
use Prim.Native.Nat.{ℕ, ◌*◌, ◌^◌, ◌<◌, ◌≤◌}
use native.Mathlib.Omega.{arith}
use lib.Dec.{ltb}
use lib.ListN.{length}
use lib.Ieee.{Float}
use borrow.Author.Tests.{ltb-false, le-ltb, ne_eqb}
use Rattle.rules.specs.Numbers.{any}
use Rattle.rules.specs.Sizes.{most_axes, most_in_a_tensor, Grid, points, knots, sum_below, product_below, tensor_length, place_of}
use Rattle.rules.specs.Refusals.{
  axes_refused,
  points_refused,
  some_points_refused,
  tensor_refused,
  length_refused,
  some_number_refused,
  some_knots_refused,
}
use Rattle.rules.specs.Even.{some_uneven_refused}
use Rattle.rules.specs.declared.Axis.{Axis}
use Rattle.rules.proofs.Refused.{or_else_met, any_ext}
use Rattle.rules.proofs.Sums.{sum_ext, product_ext}
use Rattle.base_numbers.proofs.Scan.{any_at, any_never}
use Rattle.grid.specs.GridOfCall.{grid, points_of}
use Rattle.grid.proofs.Knots.{knots_of_axis}
use Rattle.std.specs.Prelude.{None}
use Rattle.grid_checks.specs.Check.{knots_of_points_refused}
use Rattle.grid_checks.proofs.FiniteKnots.{axes_finite, points_finite}
use Rattle.grid_checks.proofs.Rows.{rows_then, none_applies, axes_few, in_range, exact as exact_length, length_fits}
use Rattle.query_answer.specs.PointsAndModes.{PointsOf}
use Rattle.query_answer.proofs.Accepted.{axis_numbers}
use Rattle.query_even.specs.Qualities.{lacks, lacking_axis, lacking_place}
use Rattle.query_even.specs.Lacking.{LackIs, FirstLack, KnotsPass}
use Rattle.query_even.specs.declared.qualities.Quality.{Quality}
use Rattle.query_even.specs.declared.qualities.Quality.TheVariants.{Finite, Rising, Even}
use Rattle.query_even.specs.declared.qualities.Lack.{Lack}
use Rattle.query_profile.specs.ProfileCalls.{
  EvenProfile,
  profile_of,
  told_of_lack,
  even_profile_refusal,
  even_profile_answer,
  EvenProfilePromise,
}
use Rattle.query_profile.specs.Profiled.{profile_sizes_rows, profile_sizes_check, ProfileFits}

-- ---- where sizes and lengths are not refused

pub profile_fits : (axes : ℕ) (points_in : List ℕ) (x : List Float) → length points_in ≡ 4
    → profile_sizes_check axes (place_of points_in) (length x) ≡ 0 → ProfileFits axes points_in x
unfolding profile_sizes_check
profile_fits axes points_in x four none =
    let n = place_of points_in in
    let rows = none_applies (profile_sizes_rows axes n (length x)) tt none in
    let few = axes_few {axes = axes} rows.0 in
    record {
      four_points = four;
      in_range = in_range few.0 few.1 rows.1.0;
      small = ltb-false most_in_a_tensor _ rows.1.1.0;
      knots_exact = exact_length (length x) (sum_below n axes) rows.1.1.1.0;
    }

-- ---- they are refused

-- of a number below 7 nothing is told
untold : (number : ℕ) → number < 7 → (of : Quality → ℕ) → told_of_lack number of ≡ 0
untold number low of =
    rw (ne_eqb number 7 (λ z. omega arith), ne_eqb number 8 (λ z. omega arith), ne_eqb number 21 (λ z. omega arith)) refl

-- sizes and lengths have no other
among_sizes : (a b c d : Bool) → cond a 1 (cond b 2 (cond c 3 (cond d 4 0))) ≤ 4
among_sizes true b c d = omega arith
among_sizes false true c d = omega arith
among_sizes false false true d = omega arith
among_sizes false false false true = omega arith
among_sizes false false false false = omega arith

module _ (g : Grid) where
  pub nothing_told : (number : ℕ) → even_profile_refusal g ≡ number → number < 7 → (r : EvenProfile) → r ≡ profile_of number 0 0
      → EvenProfilePromise g r
  unfolding even_profile_answer
  nothing_told number met low r is = record {
    answer = is
        ∙ ap₂ (profile_of number) (sym (untold number low (λ quality. lacking_axis quality g)))
        (sym (untold number low (λ quality. lacking_place quality g)))
        ∙ rw met refl;
  }

module _ (axes : ℕ) (all : List Axis) (x : List Float) (points_in : List ℕ) (same : place_of points_in ≡ points_of all)
    (number : ℕ) (is : number ≡ profile_sizes_check axes (place_of points_in) (length x)) (some : number ≢ 0) where
  abbrev given : Grid
  given = grid axes all x

  sizes_met : even_profile_refusal given ≡ number
  unfolding even_profile_refusal profile_sizes_check
  sizes_met =
      let met : profile_sizes_check axes (points_of all) (length x) ≡ number =
      sym (is ∙ ap (λ (n : ℕ → ℕ). profile_sizes_check axes n (length x)) same) in
      rows_then (profile_sizes_rows axes (points_of all) (length x)) _ tt ∙ rw met (or_else_met number _ some)

  pub sizes_low : number ≤ 4
  unfolding profile_sizes_check
  sizes_low =
      let n = place_of points_in in
      rw is
      (among_sizes (ltb axes 1 || ltb most_axes axes) (any (λ i. points_refused (n i)) axes)
      (ltb most_in_a_tensor (product_below n axes * 2 ^ axes)) (length_refused (length x) (sum_below n axes)))

  pub sizes_answer : (r : EvenProfile) → r ≡ profile_of number 0 0 → EvenProfilePromise given r
  sizes_answer = nothing_told given number sizes_met (omega (arith, sizes_low))

-- ---- they are not

module _ (axes : ℕ) (points_in : List ℕ) (x : List Float) (fits : ProfileFits axes points_in x) (all : List Axis)
    (are : PointsOf axes points_in all) where
  abbrev g : Grid
  g = grid axes all x

  axes_fine : axes_refused g ≡ false
  axes_fine = rw (le-ltb axes 1 fits.in_range.some_axes, le-ltb 4 axes fits.in_range.few_axes) refl

  points_fine : some_points_refused g ≡ false
  points_fine = any_never (λ i. points_refused (points g i)) axes λ i l.
      rw (
        are i l,
        le-ltb (place_of points_in i) 2 (fits.in_range.some_points i l),
        le-ltb 256 (place_of points_in i) (fits.in_range.few_points i l),
      )
      refl

  size_fine : tensor_refused g ≡ false
  size_fine =
      le-ltb most_in_a_tensor (tensor_length g) (rw (product_ext (points g) (place_of points_in) axes are) fits.small)

  exact : length x ≡ sum_below (points g) axes
  exact = fits.knots_exact ∙ sym (sum_ext (points g) (place_of points_in) axes are)

  length_fine : length_refused (length x) (sum_below (points g) axes) ≡ false
  length_fine = length_fits _ _ exact

  -- what is looked at after 1 to 4 decides
  from_7 : even_profile_refusal g ≡ cond (some_number_refused x) 7 (cond (some_knots_refused g) 8 (cond (some_uneven_refused g) 21 0))
  unfolding even_profile_refusal
  from_7 = rw (axes_fine, points_fine, size_fine, length_fine) refl

  -- an axis has a knot that is infinite or NaN where one of all knots is
  same_numbers : any (λ i. lacks Finite (knots g i) (points g i)) axes ≡ some_number_refused x
  same_numbers = go (some_number_refused x) refl (any (λ i. lacks Finite (knots g i) (points g i)) axes) refl
    where
      go : (all_knots : Bool) → some_number_refused x ≡ all_knots
          → (on_axes : Bool) → any (λ i. lacks Finite (knots g i) (points g i)) axes ≡ on_axes → on_axes ≡ all_knots
      go true e true f = refl
      go false e false f = refl
      go true e false f =
          sym (axes_finite axes (points g) x exact (λ i l. any_at (λ j. lacks Finite (knots g j) (points g j)) axes f i l)) ∙ e
      go false e true f =
          sym f ∙ any_never (λ i. lacks Finite (knots g i) (points g i)) axes
          (λ i l. rw (knots_of_axis g exact i l) at (axis_numbers g exact e i l))

  same_knots : knots_of_points_refused axes (place_of points_in) x ≡ some_knots_refused g
  same_knots = any_ext _ _ axes λ i l.
      rw (are i l, sum_ext (points g) (place_of points_in) i (λ k h. are k (omega arith))) refl

  -- where the pass for 8 finds nothing, none lacks that its knots are finite and rise
  pub passed_8 : {refused : Bool} → refused ≡ knots_of_points_refused axes (place_of points_in) x → refused ≡ false
      → FirstLack Finite g None × FirstLack Rising g None
  passed_8 walked e =
      (same_numbers ∙ points_finite axes (place_of points_in) x fits.in_range fits.knots_exact walked e, sym same_knots ∙ sym walked ∙ e)

  -- where the knots pass, none does
  pub passed_0 : KnotsPass g → (r : EvenProfile) → r ≡ profile_of 0 0 0 → EvenProfilePromise g r
  passed_0 pass = nothing_told g 0 (from_7 ∙ rw (pass.finite, pass.rise, pass.even) refl) (omega arith)

  -- the number asks for the quality that an axis lacks
  told : (number : ℕ) (quality : Quality) → ((of : Quality → ℕ) → told_of_lack number of ≡ of quality) → even_profile_refusal g ≡ number
      → (lack : Lack) → LackIs quality g lack → EvenProfilePromise g (profile_of number lack.axis lack.place)
  unfolding even_profile_answer
  told number quality asks met lack tells = record {
    answer = ap₂ (profile_of number) (tells.axis ∙ sym (asks (λ other. lacking_axis other g)))
        (tells.place ∙ sym (asks (λ other. lacking_place other g)))
        ∙ rw met refl;
  }

  pub told_7 : (lack : Lack) → LackIs Finite g lack → EvenProfilePromise g (profile_of 7 lack.axis lack.place)
  told_7 lack tells = told 7 Finite (λ of. refl) (from_7 ∙ rw (← same_numbers, tells.some) refl) lack tells

  module _ (finite : FirstLack Finite g None) where
    from_8 : even_profile_refusal g ≡ cond (some_knots_refused g) 8 (cond (some_uneven_refused g) 21 0)
    from_8 = from_7 ∙ rw (← same_numbers, finite) refl

    pub told_8 : (lack : Lack) → LackIs Rising g lack → EvenProfilePromise g (profile_of 8 lack.axis lack.place)
    told_8 lack tells = told 8 Rising (λ of. refl) (from_8 ∙ rw tells.some refl) lack tells

    module _ (rise : FirstLack Rising g None) where
      from_21 : even_profile_refusal g ≡ cond (some_uneven_refused g) 21 0
      from_21 = from_8 ∙ rw rise refl

      pub told_21 : (lack : Lack) → LackIs Even g lack → EvenProfilePromise g (profile_of 21 lack.axis lack.place)
      told_21 lack tells = told 21 Even (λ of. refl) (from_21 ∙ rw tells.some refl) lack tells

      pub told_0 : FirstLack Even g None → EvenProfilePromise g (profile_of 0 0 0)
      told_0 even = nothing_told g 0 (from_21 ∙ rw even refl) (omega arith) _ refl
