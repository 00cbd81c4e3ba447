-- The two slots of what was found: both are written, or none is.
use mathlib.Core.Path.{◌≡◌, refl}
use mathlib.Core.Bool.{true, false, cond}
use mathlib.Core.List.{List}
use Prim.Native.Nat.{ℕ}
use lib.ListN.{length, set}
use Rattle.grid_checks.proofs.Rows.{exact_2}
use Rattle.tensor_verify.specs.Verify.{VerifyAnswer}
use Rattle.c_axes.proofs.Slots.{three_stored}
use Rattle.c_verify.specs.VerifyExports.{verify_slots_refused, FoundStored}

module _ (place_lent found_lent : List ℕ) where
  pub found_lengths : verify_slots_refused place_lent found_lent ≡ false → (length place_lent ≡ 4) × (length found_lent ≡ 3)
  found_lengths fit = exact_2 (length place_lent) 4 (length found_lent) 3 fit

  module _ (told : VerifyAnswer) where
    pub other_slots : verify_slots_refused place_lent found_lent ≡ true → FoundStored place_lent found_lent told place_lent found_lent
    other_slots other = record { place = rw other refl; numbers = rw other refl }

    pub both_stored :
        verify_slots_refused place_lent found_lent ≡ false → {p : List ℕ} → p ≡ told.place → (whole : ℕ) → whole ≡ cond told.whole 1 0
        → FoundStored place_lent found_lent told p (set (set (set found_lent 0 whole) 1 told.mask) 2 told.differing)
    both_stored fit placed whole is = record {
      place = rw fit placed;
      numbers = rw (fit, is) (three_stored found_lent _ _ _ (found_lengths fit).1);
    }
