-- What an edition that is not refused says: it is one of the two, and there is room for each mode in its field; and that the writer refuses
-- no sheet's own edition.
use mathlib.Core.Path.{◌≡◌, refl}
use mathlib.Core.Bool.{Bool, true, false, ◌&&◌}
use mathlib.Core.List.{List}
use mathlib.Core.Logic.{⊎_elim, ◌⊎◌, inl, inr}
use Prim.Native.Nat.{ℕ, zero, suc, ◌^◌, ◌<◌}
use native.Mathlib.Omega.{arith}
use borrow.Author.Tests.{eqb-true, not-false}
use lib.Dec.{eqb, lit<}
use lib.ListN.{get_or}
use Rattle.base_numbers.proofs.Scan.{any_at, any_never}
use Rattle.rules.specs.Outside.{mode_number}
use Rattle.rules.specs.Sizes.{unused_axis, Grid}
use Rattle.rules.specs.declared.Mode.{Mode}
use Rattle.rules.specs.declared.Mode.TheVariants.{Extend, Hold, Refuse}
use Rattle.rules.proofs.Cases.{not_both, passed}
use Rattle.grid_codes.specs.Editions.{unknown_edition, mode_width, mode_refused}
use Rattle.grid_codes.proofs.Among.{above}
use Rattle.sheet_read.specs.Fields.{edition as edition_said, axes, axis_at, axis_begin, entries, sheet_grid}
use Rattle.sheet_read.specs.Faults.{sheet_refusal}
use Rattle.sheet_read.proofs.Sheets.{accepted, entry_at}
use Rattle.sheet_read.proofs.Edition1.{extends}
use Rattle.sheet_write.specs.Write.{some_mode_refused, edition_refusal}

which : (edition : ℕ) → unknown_edition edition ≡ false → (edition ≡ 1) ⊎ (edition ≡ 2)
unfolding unknown_edition
which zero known = not_both true refl known
which (suc zero) known = inl refl
which (suc (suc zero)) known = inr refl
which (suc (suc (suc n))) known = not_both true refl (rw (above 1 2 (suc (suc (suc n))) (omega arith) (omega arith)) at known)

-- its number has a place in 4 bits
pub edition_fits : (edition : ℕ) → unknown_edition edition ≡ false → edition < 16
edition_fits edition known = ⊎_elim (λ (e : edition ≡ 1). omega (arith, e)) (λ (e : edition ≡ 2). omega (arith, e)) (which edition known)

mode_most : (mode : Mode) → mode_number mode < 4
mode_most Extend = lit< tt
mode_most Hold = lit< tt
mode_most Refuse = lit< tt

first_fits : (mode : Mode) → mode_refused 1 mode ≡ false → mode_number mode < 2 ^ mode_width 1
unfolding mode_refused mode_width
first_fits mode fine = let none = eqb-true (mode_number mode) 0 (not-false _ fine) in omega (arith, none)

second_fits : (mode : Mode) → mode_number mode < 2 ^ mode_width 2
unfolding mode_width
second_fits mode = mode_most mode

pub mode_fits : (edition : ℕ) (mode : Mode) → unknown_edition edition ≡ false → mode_refused edition mode ≡ false
    → mode_number mode < 2 ^ mode_width edition
mode_fits edition mode known fine =
    ⊎_elim (λ (e : edition ≡ 1). rw e (first_fits mode (rw e at fine))) (λ (e : edition ≡ 2). rw e (second_fits mode)) (which edition known)

-- the modes of the axes in use
pub record Taken (edition : ℕ) (g : Grid) : Type 0 where
  pub known : unknown_edition edition ≡ false
  pub modes : (i : ℕ) → i < g.axes → mode_refused edition (get_or g.entries i unused_axis).mode ≡ false

pub taken : (edition : ℕ) (g : Grid) → edition_refusal edition g ≡ 0 → Taken edition g
unfolding edition_refusal
taken edition g none =
    let first = passed (unknown_edition edition) 11 _ none in
    let second = passed (some_mode_refused edition g) 22 0 first.1 in
    record {
      known = first.0;
      modes = any_at (λ i. mode_refused edition (get_or g.entries i unused_axis).mode) g.axes second.0;
    }

-- ---- a sheet's own edition

other_first : (edition : ℕ) (mode : Mode) → eqb edition 1 ≡ false → mode_refused edition mode ≡ false
unfolding mode_refused
other_first edition mode other = rw other

extend_taken : (edition : ℕ) (mode : Mode) → mode ≡ Extend → mode_refused edition mode ≡ false
unfolding mode_refused
extend_taken edition mode e = rw e (none (eqb edition 1))
  where
    none : (b : Bool) → b && false ≡ false
    none true = refl
    none false = refl

own_mode : (bytes : List ℕ) (at : ℕ) → mode_refused (edition_said bytes) (axis_at bytes at).mode ≡ false
own_mode bytes at = go (eqb (edition_said bytes) 1) refl
  where
    go : (b : Bool) → eqb (edition_said bytes) 1 ≡ b → mode_refused (edition_said bytes) (axis_at bytes at).mode ≡ false
    go true e = extend_taken (edition_said bytes) (axis_at bytes at).mode (extends bytes (eqb-true (edition_said bytes) 1 e) at)
    go false e = other_first (edition_said bytes) (axis_at bytes at).mode e

pub own_edition : (bytes : List ℕ) → sheet_refusal bytes ≡ 0 → edition_refusal (edition_said bytes) (sheet_grid bytes) ≡ 0
unfolding edition_refusal sheet_grid
own_edition bytes none =
    let ok = accepted bytes none in
    rw (
      ok.known,
      any_never (λ i. mode_refused (edition_said bytes) (get_or (entries bytes (axes bytes)) i unused_axis).mode) (axes bytes) (λ i l.
          rw (entry_at bytes (axes bytes) i ok.said.few l) (own_mode bytes (axis_begin bytes i))),
    )
