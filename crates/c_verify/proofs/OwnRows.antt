-- The own refusals of a call that looks at a tensor: where its slots have their lengths, they are those of a change with a slot of one.
use mathlib.Core.Path.{◌≡◌, refl, ◌∙◌}
use mathlib.Core.Bool.{Bool, true, false, ◌||◌}
use mathlib.Core.List.{List, [], ◌∷◌}
use Prim.Native.Nat.{ℕ}
use lib.ListN.{length}
use lib.Ieee.{Float}
use Rattle.rules.specs.Sizes.{knots_length, tensor_length}
use Rattle.rules.specs.Refusals.{length_refused}
use Rattle.rules.proofs.Cases.{neither_of}
use Rattle.base_numbers.proofs.Scan.{neither}
use Rattle.grid_checks.proofs.Rows.{stop, none_applies, length_fits}
use Rattle.c_refusals.specs.OwnRefusals.{sizes_given, axes_own_refusal, eight_ends_refused, change_own_refusal}
use Rattle.c_refusals.proofs.Rows.{axes_pass}
use Rattle.c_refusals.proofs.Lengths.{change_lengths}
use Rattle.c_tensor.proofs.Accepted.{Fine}
use Rattle.c_verify.specs.VerifyExports.{verify_slots_refused, verify_own_rows, verify_own_refusal}
use Rattle.c_verify.proofs.FoundSlots.{found_lengths}

-- the second of three tests applies
second_of_three : (a b c : Bool) → b ≡ true → (a || b || c) ≡ true
second_of_three true b c e = refl
second_of_three false b c e = rw e

module _ (axes : ℕ) (points kinds : List ℕ) (values knots tensor : List Float) (place found : List ℕ) where
  abbrev own : ℕ
  own = verify_own_refusal axes points kinds values knots tensor place found

  -- the axes pass and the slots do not: 4
  pub slots_met : axes_own_refusal axes points ≡ 0 → verify_slots_refused place found ≡ true → 4 ≡ own
  unfolding verify_own_refusal
  slots_met none other =
      let g = sizes_given axes points in
      axes_pass axes points refl _ none
      (stop _ refl
      (second_of_three (eight_ends_refused kinds values) (verify_slots_refused place found)
      (length_refused (length knots) (knots_length g) || length_refused (length tensor) (tensor_length g)) other))

  pub own_of_change : (slot : List ℕ) → length slot ≡ 1 → verify_slots_refused place found ≡ false
      → change_own_refusal axes points kinds values knots tensor place slot ≡ own
  unfolding change_own_refusal verify_own_refusal
  own_of_change slot one fit =
      rw (fit, neither_of (length_fits (length place) 4 (found_lengths place found fit).0) (length_fits (length slot) 1 one))

  -- no row applies: its slots fit, and the ends are those of kinds that stand
  pub own_slots : own ≡ 0 → verify_slots_refused place found ≡ false
  unfolding verify_own_refusal
  own_slots none =
      let rows = none_applies (verify_own_rows axes points kinds values knots tensor place found) tt none in
      let g = sizes_given axes points in
      let given =
      (neither (eight_ends_refused kinds values || verify_slots_refused place found)
      (length_refused (length knots) (knots_length g) || length_refused (length tensor) (tensor_length g)) rows.1.1.1.1.0).0 in
      (neither (eight_ends_refused kinds values) (verify_slots_refused place found) given).1

  pub own_fine : own ≡ 0 → Fine axes points kinds values
  unfolding verify_own_refusal
  own_fine none =
      let rows = none_applies (verify_own_rows axes points kinds values knots tensor place found) tt none in
      let as_change = own_of_change (0 ∷ []) refl (own_slots none) ∙ none in
      let lengths = change_lengths axes points kinds values knots tensor place (0 ∷ []) as_change in
      record {
        points_four = lengths.1;
        kinds_eight = lengths.2;
        values_eight = lengths.3;
        kinds_stand = rows.1.1.1.1.1.0;
      }
