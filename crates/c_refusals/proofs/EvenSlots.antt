-- The three slots of a query of even axes: all of them are written, or none is.
use mathlib.Core.Path.{◌≡◌, refl}
use mathlib.Core.Bool.{true, false}
use mathlib.Core.List.{List}
use Prim.Native.Nat.{ℕ}
use lib.ListN.{length, set}
use lib.Ieee.{Float}
use borrow.Author.Tests.{eq-eqb, ne_eqb}
use Rattle.c_axes.proofs.Slots.{two_stored}
use Rattle.c_refusals.specs.OwnRefusals.{query_slots_refused}
use Rattle.c_refusals.specs.Slots.{QueryStored, EvenStored}

module _ (value_lent : List Float) (labels_lent uneven_lent : List ℕ) (value : Float) (labels : List ℕ) (axis interval : ℕ) where
  pub other_query_slots : query_slots_refused value_lent labels_lent ≡ true
      → EvenStored value_lent labels_lent uneven_lent value labels axis interval value_lent labels_lent uneven_lent
  other_query_slots other = record { slot = rw other refl; slots = rw other refl; told = rw other refl }

  module _ (fit : query_slots_refused value_lent labels_lent ≡ false) where
    pub other_third_slot : (length uneven_lent ≡ 2 → ⊥)
        → EvenStored value_lent labels_lent uneven_lent value labels axis interval value_lent labels_lent uneven_lent
    other_third_slot other =
        let ne = ne_eqb (length uneven_lent) 2 other in
        record { slot = rw (fit, ne) refl; slots = rw (fit, ne) refl; told = rw (fit, ne) refl }

    pub all_stored :
        length uneven_lent ≡ 2 → {v : List Float} {l : List ℕ} → QueryStored value_lent labels_lent value labels v l
        → EvenStored value_lent labels_lent uneven_lent value labels axis interval v l (set (set uneven_lent 0 axis) 1 interval)
    all_stored two stored =
        let eq = eq-eqb (length uneven_lent) 2 two in
        record {
          slot = rw (fit, eq) (rw fit at stored.slot);
          slots = rw (fit, eq) (rw fit at stored.slots);
          told = rw (fit, eq) (two_stored uneven_lent axis interval two);
        }
