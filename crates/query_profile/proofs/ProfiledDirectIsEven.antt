-- Where the profile refuses nothing, the direct query's whole answer is that of the query of even axes, for every tensor, every coordinates
-- and all modes; and where that query is refused neither its axes nor its knots, the profile refuses nothing.
use mathlib.Core.Path.{◌≡◌, refl, sym, ap, ◌∙◌}
use mathlib.Core.Bool.{Bool, true, false, cond, ◌||◌}
use mathlib.Core.List.{List}
use Prim.Native.Nat.{ℕ}
use lib.Dec.{eqb}
use lib.ListN.{length}
use lib.Ieee.{Float}
use Rattle.rules.specs.Sizes.{Grid, knots_length, tensor_length}
use Rattle.rules.specs.Refusals.{axes_refused, some_points_refused, tensor_refused, length_refused, some_number_refused, some_knots_refused}
use Rattle.rules.specs.Outside.{with_axes, ButForModes}
use Rattle.rules.specs.Even.{some_uneven_refused}
use Rattle.rules.specs.Calls.{query_lengths_refused}
use Rattle.rules.specs.EvenCalls.{nothing_told, even_query_refusal, even_query_answer}
use Rattle.rules.specs.declared.Axis.{Axis}
use Rattle.rules.proofs.Cases.{not_both}
use Rattle.rules.proofs.WithoutModes.{
  points_refused_same,
  knots_length_same,
  tensor_length_same,
  knots_refused_same,
  uneven_refused_same,
}
use Rattle.base_numbers.proofs.Scan.{neither}
use Rattle.query_even.specs.Lacking.{KnotsPass}
use Rattle.query_direct.specs.DirectCalls.{direct_query_answer}
use Rattle.query_direct.proofs.DirectIsEven.{direct_is_even}
use Rattle.query_profile.specs.ProfileCalls.{even_profile_refusal}

-- ---- numbers that are met one after the other

-- the refusals that do not ask for a test's number
module _ (among : ℕ → Bool) {refusal : ℕ} (is_among : among refusal ≡ true) where
  passed : (test : Bool) (number : ℕ) {later : ℕ} → among number ≡ false → cond test number later ≡ refusal
      → (test ≡ false) × (later ≡ refusal)
  passed true number other met = not_both (among number) (ap among met ∙ is_among) other
  passed false number other met = (refl, met)

-- no refusal
abbrev none : ℕ → Bool
none refusal = eqb refusal 0

-- no refusal, or one that has passed axes and knots: 18 and 10
abbrev pub past_knots : ℕ → Bool
past_knots refusal = eqb refusal 0 || eqb refusal 18 || eqb refusal 10

-- ---- what a profile shows of the knots

module _ (g : Grid) where
  pub profiled : even_profile_refusal g ≡ 0 → KnotsPass g
  unfolding even_profile_refusal
  profiled met =
      let at_1 = passed none refl (axes_refused g) 1 refl met in
      let at_2 = passed none refl (some_points_refused g) 2 refl at_1.1 in
      let at_3 = passed none refl (tensor_refused g) 3 refl at_2.1 in
      let at_4 = passed none refl (length_refused (length g.flat_knots) (knots_length g)) 4 refl at_3.1 in
      let at_7 = passed none refl (some_number_refused g.flat_knots) 7 refl at_4.1 in
      let at_8 = passed none refl (some_knots_refused g) 8 refl at_7.1 in
      let at_21 = passed none refl (some_uneven_refused g) 21 refl at_8.1 in
      record { finite = at_7.0; rise = at_8.0; even = at_21.0 }

-- ---- in any modes

module _ (g : Grid) where
  module _ (all : List Axis) (same : ButForModes g all) where
    pub profile_without_modes : even_profile_refusal g ≡ even_profile_refusal (with_axes g all)
    unfolding even_profile_refusal
    profile_without_modes =
        rw (
          points_refused_same g all same,
          tensor_length_same g all same,
          knots_length_same g all same,
          knots_refused_same g all same,
          uneven_refused_same g all same,
        )
        refl

    pub profiled_direct_is_even :
        even_profile_refusal g ≡ 0 → (tensor coordinates : List Float)
        → even_query_answer (with_axes g all) tensor coordinates ≡ nothing_told (direct_query_answer (with_axes g all) tensor coordinates)
    profiled_direct_is_even met tensor coordinates =
        let pass = profiled (with_axes g all) (sym profile_without_modes ∙ met) in
        direct_is_even (with_axes g all) tensor coordinates pass.finite pass.rise pass.even

  -- ---- the other way

  module _ (tensor coordinates : List Float) (later : past_knots (even_query_refusal g tensor coordinates) ≡ true) where
    pub even_is_profiled : even_profile_refusal g ≡ 0
    unfolding even_query_refusal even_profile_refusal
    even_is_profiled =
        let at_1 = passed past_knots later (axes_refused g) 1 refl refl in
        let at_2 = passed past_knots later (some_points_refused g) 2 refl at_1.1 in
        let at_3 = passed past_knots later (tensor_refused g) 3 refl at_2.1 in
        let at_4 = passed past_knots later (query_lengths_refused g tensor coordinates) 4 refl at_3.1 in
        let at_7 = passed past_knots later (some_number_refused g.flat_knots || some_number_refused coordinates) 7 refl at_4.1 in
        let at_8 = passed past_knots later (some_knots_refused g) 8 refl at_7.1 in
        let at_21 = passed past_knots later (some_uneven_refused g) 21 refl at_8.1 in
        let lengths =
        neither (length_refused (length g.flat_knots) (knots_length g) || length_refused (length tensor) (tensor_length g))
        (length_refused (length coordinates) g.axes) at_4.0 in
        let long =
        (neither (length_refused (length g.flat_knots) (knots_length g)) (length_refused (length tensor) (tensor_length g))
        lengths.0).0 in
        let numbers = (neither (some_number_refused g.flat_knots) (some_number_refused coordinates) at_7.0).0 in
        rw (at_1.0, at_2.0, at_3.0, long, numbers, at_8.0, at_21.0) refl
