-- The exported profile refuses as the host's own refusal says, or answers as the call promises for what was given; and what the call asks
-- of points and knots is left by that refusal.
use mathlib.Core.Path.{◌≡◌, refl, sym, ap, ◌∙◌}
use mathlib.Core.List.{List}
use Prim.Native.Nat.{ℕ, ◌≤◌}
use lib.ListN.{length}
use lib.Ieee.{Float}
use borrow.Author.Tests.{ltb-false, ne_eqb}
use Rattle.rules.specs.Sizes.{place_of, knots_length, tensor_length}
use Rattle.grid_checks.proofs.Rows.{none_applies, axes_few, in_range, exact, exact_2}
use Rattle.query_profile.specs.ProfileCalls.{even_profile_answer}
use Rattle.query_profile.specs.Profiled.{ProfileFits, ProfileAmong}
use Rattle.query_profile.specs.ProfileCalls.{EvenProfile}
use Rattle.c_axes.specs.Axes.{axes_without_ends, grid_without_ends}
use Rattle.c_refusals.specs.OwnRefusals.{sizes_given}
use Rattle.c_refusals.proofs.Rows.{given_below, refused_given, sum_given, product_given}
use Rattle.c_profile.specs.ProfileExports.{
  in_slot_of_two,
  even_profile_own_rows,
  even_profile_own_refusal,
  profile_told,
  EvenProfileExport,
}

module _ (axes : ℕ) (points : List ℕ) (knots : List Float) (told_lent : List ℕ) where
  pub own_fits : even_profile_own_refusal axes points knots told_lent ≡ 0 → ProfileFits axes points knots
  unfolding even_profile_own_refusal
  own_fits none =
      let rows = none_applies (even_profile_own_rows axes points knots told_lent) tt none in
      let few = axes_few {axes = axes} rows.0 in
      let g = sizes_given axes points in
      let lengths = exact_2 (length told_lent) 2 (length knots) (knots_length g) rows.1.1.1.1.0 in
      record {
        four_points = exact (length points) 4 rows.1.0;
        in_range = in_range few.0 few.1 (sym (refused_given axes points few.1) ∙ rows.1.1.0);
        small = rw (product_given axes points few.1) at (ltb-false 4096 (tensor_length g) rows.1.1.1.0);
        knots_exact = lengths.1 ∙ sum_given axes points few.1;
      }

  module _ {r : ℕ} (e : r ≡ even_profile_own_refusal axes points knots told_lent) where
    abbrev told : EvenProfile
    told = profile_told axes points knots told_lent

    pub profile_refused :
        (r ≡ 0 → ⊥) → {later : List ℕ} → later ≡ in_slot_of_two told_lent 0 0 → EvenProfileExport axes points knots told_lent r later
    profile_refused some stored =
        let is_told : record { refusal = r; axis = 0; place = 0 } ≡ told = rw (sym e, ne_eqb r 0 some) in
        record {
          answer = ap (λ (a : EvenProfile). a.refusal) is_told;
          answer_stored = stored ∙ ap (λ (a : EvenProfile). in_slot_of_two told_lent a.axis a.place) is_told;
        }

    pub profile_called :
        r ≡ 0 → (a : EvenProfile) → ProfileAmong axes points knots a → {later : List ℕ}
        → later ≡ in_slot_of_two told_lent a.axis a.place → EvenProfileExport axes points knots told_lent a.refusal later
    profile_called none a among stored =
        let few : axes ≤ 4 = (own_fits (sym e ∙ none)).in_range.few_axes in
        let is_told : a ≡ told =
        (among (axes_without_ends axes points) (given_below axes points few)).answer
        ∙ (let z : even_profile_answer (grid_without_ends axes points knots) ≡ told = rw (sym e ∙ none) in z) in
        record {
          answer = ap (λ (b : EvenProfile). b.refusal) is_told;
          answer_stored = stored ∙ ap (λ (b : EvenProfile). in_slot_of_two told_lent b.axis b.place) is_told;
        }
