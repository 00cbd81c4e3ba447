-- Where the fields of a grid's axes stand in bytes, the reader finds these axes and their knots, with no fault; and the fields of all axes
-- that it finds stand.
use mathlib.Core.Path.{◌≡◌, refl, sym, ap, ap₂, subst, ◌∙◌}
use mathlib.Core.Bool.{Bool, true, false, cond}
use mathlib.Core.Logic.{⊎_elim}
use mathlib.Core.List.{List, [], ◌++◌, append-nil, append_assoc}
use Prim.Native.Nat.{ℕ, zero, suc, ◌+◌, ◌*◌, ◌<◌, ◌≤◌}
use native.Mathlib.Nat.{le_of_suc-le-suc, eq-or-lt_of_le, le_refl}
use native.Mathlib.Omega.{arith}
use borrow.Author.Tests.{ltb-true}
use lib.Dec.{ltb}
use lib.ListN.{length, take, drop}
use lib.Seq.{take-add, take_at, drop_at}
use lib.Ieee.{Float}
use Rattle.rules.specs.Sizes.{most_axes, unused_axis, Grid, points, sum_below, knots}
use Rattle.rules.specs.declared.Axis.{Axis}
use Rattle.rules.proofs.Tables.{table_ext}
use Rattle.grid.proofs.Knots.{knots_of_axis}
use Rattle.base_bits.specs.Written.{bits_in}
use Rattle.base_bits.proofs.Rows.{Stand, stand_first, stand_second, stand_append}
use Rattle.base_bits.proofs.Numbers.{NoNan, each_take, each_drop}
use Rattle.grid_codes.specs.Kinds.{periodic_at_one_end}
use Rattle.grid_codes.specs.Modes.{unknown_mode}
use Rattle.sheet_read.specs.Fields.{
  axes,
  mode_bits,
  points_at,
  lower_kind,
  upper_kind,
  mode_said,
  axis_at,
  knots_at,
  axis_end,
  axis_begin,
  entries,
  knots_below,
  sheet_grid,
}
use Rattle.sheet_read.specs.Faults.{axis_fault, axes_fault}
use Rattle.sheet_read.proofs.Walks.{begin_next, each_faultless, faultless_axis}
use Rattle.sheet_read.proofs.Stores.{knots_below_next, length_knots_at}
use Rattle.sheet_read.proofs.Sheets.{Accepted, entry_at}
use Rattle.sheet_read.proofs.Parts.{knots_sum}
use Rattle.sheet_read.proofs.Extents.{begin_first}
use Rattle.sheet_write.specs.SheetOf.{axis_fields, axes_fields}
use Rattle.sheet_write.specs.RoundTrip.{PartsHeld, entry, in_use}
use Rattle.sheet_write.proofs.Ends.{EndsNoNan}
use Rattle.sheet_write.proofs.Lengths.{axes_next, axes_none}
use Rattle.sheet_write.proofs.Reading.{AxisRead, axis_found, found_faultless, end_back, axis_stands}
use Rattle.sheet_write.proofs.Parts.{Known, WithoutNan}

-- ---- the fields of the first axes

module _ (width : ℕ) (g : Grid) where
  pub axes_append : (i : ℕ) → axes_fields width g (suc i) ≡ axes_fields width g i ++ axis_fields width (entry g i) (knots g i)
  unfolding axes_fields
  axes_append i = refl

  pub first_bits : (i n : ℕ) → i ≤ n → bits_in (axes_fields width g i) ≤ bits_in (axes_fields width g n)
  first_bits i zero l = let e : i ≡ 0 = omega arith in rw e (le_refl _)
  first_bits i (suc n) l =
      ⊎_elim (λ (e : i ≡ suc n). rw e (le_refl _))
      (λ (m : i < suc n). let before = first_bits i n (le_of_suc-le-suc m) in let next = axes_next width g n in omega arith)
      (eq-or-lt_of_le l)

  first_stand : (bytes : List ℕ) (i n : ℕ) → i ≤ n → Stand bytes 7 (axes_fields width g n) → Stand bytes 7 (axes_fields width g i)
  first_stand bytes i zero l s = let e : 0 ≡ i = omega arith in rw e at s
  first_stand bytes i (suc n) l s =
      ⊎_elim (λ (e : i ≡ suc n). rw e s)
      (λ (m : i < suc n).
      first_stand bytes i n (le_of_suc-le-suc m)
      (stand_first bytes 7 (axes_fields width g n) (axis_fields width (entry g n) (knots g n)) (subst (Stand bytes 7) (axes_append n) s)))
      (eq-or-lt_of_le l)

-- ---- from fields to the axes

knots_first : (bytes : List ℕ) → knots_below bytes 0 ≡ []
unfolding knots_below
knots_first bytes = refl

fault_next : (bytes : List ℕ) (i : ℕ) → axes_fault bytes i ≡ 0 → axis_fault bytes (axis_begin bytes i) ≡ 0 → axes_fault bytes (suc i) ≡ 0
unfolding axes_fault
fault_next bytes i before here = rw (before, here)

fault_first : (bytes : List ℕ) → axes_fault bytes 0 ≡ 0
unfolding axes_fault
fault_first bytes = refl

module _ (g : Grid) (samples : List Float) (k : Known g samples) (held : PartsHeld g samples) (bytes : List ℕ)
    (s : Stand bytes 7 (axes_fields (mode_bits bytes) g g.axes)) where
  abbrev width : ℕ
  width = mode_bits bytes

  abbrev begin : ℕ → ℕ
  begin i = 7 + bits_in (axes_fields width g i)

  here_stands : (i : ℕ) → i < g.axes → Stand bytes (begin i) (axis_fields width (entry g i) (knots g i))
  here_stands i l =
      stand_second bytes 7 (axes_fields width g i) (axis_fields width (entry g i) (knots g i))
      (subst (Stand bytes 7) (axes_append width g i) (first_stand width g bytes (suc i) g.axes l s))

  found_at : (i : ℕ) → i < g.axes → AxisRead bytes (begin i) (entry g i) (knots g i)
  found_at i l =
      axis_found bytes (begin i) (entry g i) (knots g i)
      (let two = k.grid_given.in_range.some_points i l in omega arith)
      (knots_of_axis g k.grid_given.knots_exact i l)
      (held.ends_held i l)
      (each_take _ (points g i) (drop (sum_below (points g) i) g.flat_knots)
      (each_drop _ (sum_below (points g) i) g.flat_knots held.knots_held))
      (here_stands i l)

  pub begin_is : (i : ℕ) → i ≤ g.axes → axis_begin bytes i ≡ begin i
  begin_is zero l = begin_first bytes ∙ (let e = axes_none width g in omega arith)
  begin_is (suc i) l =
      begin_next bytes i ∙ rw (begin_is i (omega arith)) ((found_at i l).end ∙ (let e = axes_next width g i in omega arith))

  found : (i : ℕ) → i < g.axes → AxisRead bytes (axis_begin bytes i) (entry g i) (knots g i)
  found i l = rw (begin_is i (omega arith)) (found_at i l)

  pub no_fault : begin g.axes ≤ 8 * length bytes → (i : ℕ) → i ≤ g.axes → axes_fault bytes i ≡ 0
  no_fault room zero l = fault_first bytes
  no_fault room (suc i) l =
      let range = k.grid_given.in_range in
      let next = axes_next width g i in
      let most = first_bits width g (suc i) g.axes l in
      let here = begin_is i (omega arith) in
      fault_next bytes i (no_fault room i (omega arith))
      (found_faultless bytes (axis_begin bytes i) (entry g i) (knots g i) (found i l) (range.some_points i l) (range.few_points i l)
      (knots_of_axis g k.grid_given.knots_exact i l) (omega arith))

  pub entries_found : entries bytes g.axes ≡ in_use g
  unfolding entries
  entries_found = table_ext most_axes _ _ (λ i l. same i (ltb i g.axes) refl)
    where
      same : (i : ℕ) (b : Bool) → ltb i g.axes ≡ b
          → cond b (axis_at bytes (axis_begin bytes i)) unused_axis ≡ cond b (entry g i) unused_axis
      same i true e = (found i (ltb-true i g.axes e)).axis_same
      same i false e = refl

  pub knots_found : (i : ℕ) → i ≤ g.axes → knots_below bytes i ≡ take (sum_below (points g) i) g.flat_knots
  unfolding sum_below
  knots_found zero l = knots_first bytes
  knots_found (suc i) l =
      knots_below_next bytes i
      ∙ rw (knots_found i (omega arith), (found i l).knots_same) (sym (take-add (sum_below (points g) i) (points g i) g.flat_knots))

-- ---- from the axes to fields

module _ (bytes : List ℕ) where
  -- the knots of the first axes are the first of all
  prefix : (i n : ℕ) → i ≤ n → (rest : List Float) × (knots_below bytes n ≡ knots_below bytes i ++ rest)
  prefix i zero l = ([], (let e : i ≡ 0 = omega arith in rw e (sym (append-nil (knots_below bytes 0)))))
  prefix i (suc n) l =
      ⊎_elim (λ (e : i ≡ suc n). ([], rw e (sym (append-nil (knots_below bytes (suc n))))))
      (λ (m : i < suc n).
      let before = prefix i n (le_of_suc-le-suc m) in
      let new = knots_at bytes (axis_begin bytes n) in (
        before.0 ++ new,
        knots_below_next bytes n ∙ ap (λ (x : List Float). x ++ new) before.1
            ∙ append_assoc (knots_below bytes i) before.0 new,
      ))
      (eq-or-lt_of_le l)

  cut : (i n a p : ℕ) → i < n → length (knots_below bytes i) ≡ a → length (knots_at bytes (axis_begin bytes i)) ≡ p
      → take p (drop a (knots_below bytes n)) ≡ knots_at bytes (axis_begin bytes i)
  cut i n a p l e f =
      let all = prefix (suc i) n l in
      let first = knots_below bytes i in
      let here = knots_at bytes (axis_begin bytes i) in
      let is : knots_below bytes n ≡ first ++ (here ++ all.0) =
      all.1 ∙ rw (knots_below_next bytes i) (append_assoc first here all.0) in
      rw (is, drop_at first (here ++ all.0) a e) (take_at here all.0 p f)

module _ (bytes : List ℕ) (ok : Accepted bytes) (samples : List Float) (fine : WithoutNan (sheet_grid bytes) samples) where
  abbrev n : ℕ
  n = axes bytes

  abbrev g : Grid
  g = sheet_grid bytes

  entry_is : (i : ℕ) → i < n → entry g i ≡ axis_at bytes (axis_begin bytes i)
  unfolding sheet_grid
  entry_is i l = entry_at bytes n i ok.said.few l

  points_is : (i : ℕ) → i < n → points g i ≡ points_at bytes (axis_begin bytes i)
  unfolding axis_at
  points_is i l = ap (λ (a : Axis). a.points) (entry_is i l)

  sum_is : (i : ℕ) → i ≤ n → length (knots_below bytes i) ≡ sum_below (points g) i
  unfolding sheet_grid
  sum_is = knots_sum bytes ok

  knots_is : (i : ℕ) → i < n → knots g i ≡ knots_at bytes (axis_begin bytes i)
  unfolding sheet_grid
  knots_is i l =
      cut bytes i n (sum_below (points g) i) (points g i) l (sum_is i (omega arith))
      (length_knots_at bytes (axis_begin bytes i) ∙ sym (points_is i l))

  in_axes : (i : ℕ) → i < n → i < g.axes
  unfolding sheet_grid
  in_axes i l = l

  fine_ends : (i : ℕ) → i < n → EndsNoNan (axis_at bytes (axis_begin bytes i)).condition
  fine_ends i l = subst (λ (a : Axis). EndsNoNan a.condition) (entry_is i l) (fine.ends_fine i (in_axes i l))

  fine_knots : (i : ℕ) → i < n → NoNan (knots_at bytes (axis_begin bytes i))
  fine_knots i l =
      rw (← knots_is i l)
      (each_take _ (points g i) (drop (sum_below (points g) i) g.flat_knots)
      (each_drop _ (sum_below (points g) i) g.flat_knots fine.knots_fine))

  kinds : (i : ℕ) → i < n → periodic_at_one_end (lower_kind bytes (axis_begin bytes i)) (upper_kind bytes (axis_begin bytes i)) ≡ false
  kinds i l = (faultless_axis bytes (axis_begin bytes i) (each_faultless bytes n i ok.faultless l)).2

  mode : (i : ℕ) → i < n → unknown_mode (mode_said bytes (axis_begin bytes i)) ≡ false
  mode i l = (faultless_axis bytes (axis_begin bytes i) (each_faultless bytes n i ok.faultless l)).3

  fields_are : (i : ℕ) → i < n
      → axis_fields (mode_bits bytes) (entry g i) (knots g i)
      ≡ axis_fields (mode_bits bytes) (axis_at bytes (axis_begin bytes i)) (knots_at bytes (axis_begin bytes i))
  fields_are i l = ap₂ (axis_fields (mode_bits bytes)) (entry_is i l) (knots_is i l)

  pub end_is : (i : ℕ) → i ≤ n → 7 + bits_in (axes_fields (mode_bits bytes) g i) ≡ axis_begin bytes i
  end_is zero l = (let e = axes_none (mode_bits bytes) g in omega arith) ∙ sym (begin_first bytes)
  end_is (suc i) l =
      let before = end_is i (omega arith) in
      let next = axes_next (mode_bits bytes) g i in
      let bits = ap bits_in (fields_are i l) in
      let here = end_back bytes (axis_begin bytes i) (kinds i l) (mode i l) in
      (let e : 7 + bits_in (axes_fields (mode_bits bytes) g (suc i)) ≡ axis_end bytes (axis_begin bytes i) = omega arith in e)
      ∙ sym (begin_next bytes i)

  none_stand : Stand bytes 7 (axes_fields (mode_bits bytes) g 0)
  unfolding Stand axes_fields
  none_stand = tt

  pub axes_stand : (i : ℕ) → i ≤ n → Stand bytes 7 (axes_fields (mode_bits bytes) g i)
  axes_stand zero l = none_stand
  axes_stand (suc i) l =
      rw (axes_append (mode_bits bytes) g i)
      (stand_append bytes 7 (axes_fields (mode_bits bytes) g i) (axis_fields (mode_bits bytes) (entry g i) (knots g i))
      (axes_stand i (omega arith))
      (rw (end_is i (omega arith), fields_are i l)
      (axis_stands bytes (axis_begin bytes i) (kinds i l) (mode i l) (fine_ends i l) (fine_knots i l))))
