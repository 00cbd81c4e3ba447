-- Each export of sheets has one answer: whatever satisfies its record, for the same inputs, is equal in its number and in all that was
-- lent.
use mathlib.Core.Path.{◌≡◌}
use mathlib.Core.List.{List}
use Prim.Native.Nat.{ℕ}
use lib.Ieee.{Float}
use Rattle.rules.specs.declared.Axis.{Axis}
use Rattle.rules.proofs.Unique.{same}
use Rattle.c_sheet.specs.SheetExports.{FoundStored, EditionStored, ReadExport, ReadEdition1Export, SheetTensorExport, WriteExport}

same_found :
    (own axes : ℕ) (all : List Axis) (axes_lent points_lent kinds_lent : List ℕ) (values_lent : List Float) (a a' p p' n n' : List ℕ)
    (v v' : List Float)
    → FoundStored own axes all axes_lent points_lent kinds_lent values_lent a p n v
    → FoundStored own axes all axes_lent points_lent kinds_lent values_lent a' p' n' v'
    → (a ≡ a') × (p ≡ p') × (n ≡ n') × (v ≡ v')
same_found own axes all axes_lent points_lent kinds_lent values_lent a a' p p' n n' v v' one other = (
  same one.slot other.slot,
  same one.points other.points,
  same one.kinds other.kinds,
  same one.values other.values,
)

same_told :
    (own edition : ℕ) (all : List Axis) (modes_lent edition_lent m m' e e' : List ℕ)
    → EditionStored own edition all modes_lent edition_lent m e
    → EditionStored own edition all modes_lent edition_lent m' e'
    → (m ≡ m') × (e ≡ e')
same_told own edition all modes_lent edition_lent m m' e e' one other = (same one.modes other.modes, same one.slot other.slot)

pub read_unique :
    (bytes : List ℕ) (knots_lent samples_lent : List Float) (axes_lent points_lent kinds_lent : List ℕ) (values_lent : List Float)
    (modes_lent edition_lent : List ℕ)
    (r r' : ℕ) (k k' s s' : List Float) (a a' p p' n n' : List ℕ) (v v' : List Float) (m m' e e' : List ℕ)
    → ReadExport bytes knots_lent samples_lent axes_lent points_lent kinds_lent values_lent modes_lent edition_lent r k s a p n v m e
    → ReadExport bytes knots_lent samples_lent axes_lent points_lent kinds_lent values_lent modes_lent edition_lent r' k' s' a' p' n' v' m'
    e'
    → (r ≡ r') × (k ≡ k') × (s ≡ s') × ((a ≡ a') × (p ≡ p') × (n ≡ n') × (v ≡ v')) × ((m ≡ m') × (e ≡ e'))
read_unique bytes knots_lent samples_lent axes_lent points_lent kinds_lent values_lent modes_lent edition_lent r r' k k' s s' a a' p p' n n'
    v v' m m' e e' one other = (
      same one.answer other.answer,
      same one.knots other.knots,
      same one.samples other.samples,
      same_found _ _ _ _ _ _ _ _ _ _ _ _ _ _ _ one.found other.found,
      same_told _ _ _ _ _ _ _ _ _ one.told other.told,
    )

pub read_edition_1_unique :
    (bytes : List ℕ) (knots_lent samples_lent : List Float) (axes_lent points_lent kinds_lent : List ℕ) (values_lent : List Float)
    (r r' : ℕ) (k k' s s' : List Float) (a a' p p' n n' : List ℕ) (v v' : List Float)
    → ReadEdition1Export bytes knots_lent samples_lent axes_lent points_lent kinds_lent values_lent r k s a p n v
    → ReadEdition1Export bytes knots_lent samples_lent axes_lent points_lent kinds_lent values_lent r' k' s' a' p' n' v'
    → (r ≡ r') × (k ≡ k') × (s ≡ s') × ((a ≡ a') × (p ≡ p') × (n ≡ n') × (v ≡ v'))
read_edition_1_unique bytes knots_lent samples_lent axes_lent points_lent kinds_lent values_lent r r' k k' s s' a a' p p' n n' v v' one
    other = (
      same one.answer other.answer,
      same one.knots other.knots,
      same one.samples other.samples,
      same_found _ _ _ _ _ _ _ _ _ _ _ _ _ _ _ one.found other.found,
    )

pub sheet_tensor_unique :
    (bytes : List ℕ) (knots_lent samples_lent : List Float) (axes_lent points_lent kinds_lent : List ℕ) (values_lent : List Float)
    (modes_lent edition_lent : List ℕ) (tensor_lent scratch_lent : List Float) (length_lent : List ℕ)
    (r r' : ℕ) (k k' s s' : List Float) (a a' p p' n n' : List ℕ) (v v' : List Float) (m m' e e' : List ℕ) (t t' w w' : List Float)
    (l l' : List ℕ)
    → SheetTensorExport bytes knots_lent samples_lent axes_lent points_lent kinds_lent values_lent modes_lent edition_lent tensor_lent
    scratch_lent length_lent r k s a p n v m e t w l
    → SheetTensorExport bytes knots_lent samples_lent axes_lent points_lent kinds_lent values_lent modes_lent edition_lent tensor_lent
    scratch_lent length_lent r' k' s' a' p' n' v' m' e' t' w' l'
    → (r ≡ r') × (k ≡ k') × (s ≡ s') × ((a ≡ a') × (p ≡ p') × (n ≡ n') × (v ≡ v')) × ((m ≡ m') × (e ≡ e')) × (t ≡ t') × (w ≡ w') × (l ≡ l')
sheet_tensor_unique bytes knots_lent samples_lent axes_lent points_lent kinds_lent values_lent modes_lent edition_lent tensor_lent
    scratch_lent length_lent r r' k k' s s' a a' p p' n n' v v' m m' e e' t t' w w' l l' one other = (
      same one.answer other.answer,
      same one.knots other.knots,
      same one.samples other.samples,
      same_found _ _ _ _ _ _ _ _ _ _ _ _ _ _ _ one.found other.found,
      same_told _ _ _ _ _ _ _ _ _ one.told other.told,
      same one.output other.output,
      same one.scratch other.scratch,
      same one.slot other.slot,
    )

pub write_unique :
    (axes : ℕ) (points kinds : List ℕ) (values : List Float) (modes : List ℕ) (knots samples : List Float) (edition : ℕ)
    (bytes_lent length_lent : List ℕ)
    (r r' : ℕ) (b b' l l' : List ℕ)
    → WriteExport axes points kinds values modes knots samples edition bytes_lent length_lent r b l
    → WriteExport axes points kinds values modes knots samples edition bytes_lent length_lent r' b' l'
    → (r ≡ r') × (b ≡ b') × (l ≡ l')
write_unique axes points kinds values modes knots samples edition bytes_lent length_lent r r' b b' l l' p q =
    (same p.answer q.answer, same p.output q.output, same p.slot q.slot)
