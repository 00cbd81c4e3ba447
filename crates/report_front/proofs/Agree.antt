-- Bytes that agree on their first bits show the same fields there, the same axes, and the same faults of axes.
use mathlib.Core.Path.{◌≡◌, refl, sym, ap, ◌∙◌}
use mathlib.Core.Bool.{Bool, true, false, cond}
use mathlib.Core.List.{List, ◌++◌}
use Prim.Native.Nat.{ℕ, zero, suc, ◌+◌, ◌-◌, ◌*◌, ◌/◌, ◌<◌, ◌≤◌}
use native.Mathlib.Omega.{arith}
use borrow.Author.Tests.{ltb-true, le-ltb}
use lib.Dec.{ltb}
use lib.ListN.{length, take, length-append, length-take, get_or-append}
use lib.Seq.{get_or-take}
use lib.Ieee.{binary64, of_bits}
use Rattle.rules.specs.Numbers.{any}
use Rattle.rules.specs.Sizes.{unused_axis}
use Rattle.rules.proofs.Tables.{table_ext}
use Rattle.base_bits.specs.Bits.{bit, field, short, number, numbers, numbers_short}
use Rattle.grid_codes.specs.Kinds.{values_of_kind}
use Rattle.grid_codes.specs.Editions.{mode_width}
use Rattle.sheet_read.specs.Fields.{
  axes,
  mode_bits,
  points_at,
  lower_kind,
  upper_kind,
  mode_said,
  values_at,
  values_begin,
  axis_at,
  knots_begin,
  knots_at,
  axis_end,
  axis_begin,
  entries,
  knots_below,
  sheet_grid,
  samples_begin,
}
use Rattle.sheet_read.specs.Faults.{axis_fault, axes_fault}
use Rattle.sheet_read.proofs.Extents.{extent}
use Rattle.sheet_read.proofs.Walks.{begin_next}

pub record Agree (n : ℕ) (a b : List ℕ) : Type 0 where
  pub room : n ≤ 8 * length a
  pub other_room : n ≤ 8 * length b
  pub bits : (i : ℕ) → i < n → bit a i ≡ bit b i

-- bytes with more behind them, and bytes that are cut
pub agree_append : (n : ℕ) (bytes more : List ℕ) → n ≤ 8 * length bytes → Agree n (bytes ++ more) bytes
unfolding bit
agree_append n bytes more h = record {
  room = let long = length-append bytes more in omega arith;
  other_room = h;
  bits = λ i l. rw (get_or-append bytes more 0 (i / 8) (omega arith));
}

pub agree_take : (n k : ℕ) (bytes : List ℕ) → n ≤ 8 * k → k ≤ length bytes → Agree n bytes (take k bytes)
unfolding bit
agree_take n k bytes h l = record {
  room = omega arith;
  other_room = let e = length-take k bytes in omega arith;
  bits = λ i m. sym (rw (get_or-take k bytes (i / 8) 0 (omega arith)));
}

-- ---- where axes begin

begin_later : (bytes : List ℕ) (i : ℕ) → axis_begin bytes i + 12 ≤ axis_begin bytes (suc i)
begin_later bytes i = let e = begin_next bytes i in let x = extent bytes (axis_begin bytes i) in omega arith

begin_rises : (bytes : List ℕ) (i k : ℕ) → axis_begin bytes i ≤ axis_begin bytes (i + k)
begin_rises bytes i zero = let e : i ≡ i + 0 = omega arith in let f = ap (axis_begin bytes) e in omega arith
begin_rises bytes i (suc k) =
    let before = begin_rises bytes i k in
    let later = begin_later bytes (i + k) in
    let e : suc (i + k) ≡ i + suc k = omega arith in
    let f = ap (axis_begin bytes) e in omega arith

pub begin_least : (bytes : List ℕ) (i m : ℕ) → i ≤ m → axis_begin bytes i ≤ axis_begin bytes m
begin_least bytes i m h =
    let e : i + (m - i) ≡ m = omega arith in
    let f = ap (axis_begin bytes) e in
    let r = begin_rises bytes i (m - i) in omega arith

module _ (n : ℕ) (a b : List ℕ) (s : Agree n a b) where
  -- ---- fields

  pub field_same : (at k : ℕ) → at + k ≤ n → field a at k ≡ field b at k
  unfolding field
  field_same at zero h = refl
  field_same at (suc k) h = rw (field_same at k (omega arith), s.bits (at + k) (omega arith))

  pub short_same : (at k : ℕ) → at + k ≤ n → short a at k ≡ short b at k
  short_same at k h =
      le-ltb (8 * length a) (at + k) (omega (arith, s.room)) ∙ sym (le-ltb (8 * length b) (at + k) (omega (arith, s.other_room)))

  pub numbers_short_same : (at m : ℕ) → at + 64 * m ≤ n → numbers_short a at m ≡ numbers_short b at m
  unfolding any
  numbers_short_same at zero h = refl
  numbers_short_same at (suc m) h = rw (numbers_short_same at m (omega arith), short_same (at + 64 * m) 64 (omega arith))

  number_same : (at : ℕ) → at + 64 ≤ n → number a at ≡ number b at
  number_same at h = ap (of_bits binary64) (field_same at 64 h)

  numbers_same : (at m : ℕ) → at + 64 * m ≤ n → numbers a at m ≡ numbers b at m
  numbers_same at m h = table_ext m _ _ (λ k l. number_same (at + 64 * k) (omega arith))

  mode_bits_same : 4 ≤ n → mode_bits a ≡ mode_bits b
  mode_bits_same h = ap mode_width (field_same 0 4 (omega arith))

  -- ---- an axis

  module _ (at : ℕ) (h : axis_end a at ≤ n) where
    reach : values_begin a at + 64 * values_at a at + 64 * points_at a at ≤ n
    reach = let x = extent a at in omega arith

    width_same : mode_bits a ≡ mode_bits b
    width_same = mode_bits_same (omega (arith, reach))

    points_same : points_at a at ≡ points_at b at
    unfolding points_at
    points_same = rw (field_same at 8 (omega (arith, reach)))

    lower_same : lower_kind a at ≡ lower_kind b at
    lower_same = field_same (at + 8) 2 (omega (arith, reach))

    upper_same : upper_kind a at ≡ upper_kind b at
    upper_same = field_same (at + 10) 2 (omega (arith, reach))

    mode_same : mode_said a at ≡ mode_said b at
    mode_same = field_same (at + 12) (mode_bits a) (omega (arith, reach)) ∙ ap (field b (at + 12)) width_same

    values_same : values_at a at ≡ values_at b at
    unfolding values_at
    values_same = rw (lower_same, upper_same)

    knots_begin_same : knots_begin a at ≡ knots_begin b at
    unfolding knots_begin
    knots_begin_same = rw (values_same, width_same)

    axis_end_same : axis_end a at ≡ axis_end b at
    unfolding axis_end
    axis_end_same = rw (knots_begin_same, points_same)

    axis_same : axis_at a at ≡ axis_at b at
    unfolding axis_at
    axis_same =
        let x = extent a at in
        let first = number_same (values_begin a at) (omega (arith, reach)) in
        let second = number_same (values_begin a at + 64 * values_of_kind (lower_kind a at)) (omega (arith, reach)) in
        rw (points_same, first, second, mode_same, lower_same, upper_same, width_same)

    knots_same : knots_at a at ≡ knots_at b at
    unfolding knots_at
    knots_same =
        let x = extent a at in
        numbers_same (knots_begin a at) (points_at a at) (omega arith) ∙ rw (knots_begin_same, points_same)

    axis_fault_same : axis_fault a at ≡ axis_fault b at
    unfolding axis_fault
    axis_fault_same =
        let Numbers_of = numbers_short_same (values_begin a at) (values_at a at + points_at a at) (omega (arith, reach)) in
        rw (
          short_same at 8 (omega (arith, reach)),
          short_same (at + 8) 2 (omega (arith, reach)),
          short_same (at + 10) 2 (omega (arith, reach)),
          short_same (at + 12) (mode_bits a) (omega (arith, reach)),
          Numbers_of,
          points_same,
          mode_same,
          values_same,
          lower_same,
          upper_same,
          width_same,
        )

  -- ---- the axes

  pub begin_same : (i : ℕ) → axis_begin a i ≤ n → axis_begin a i ≡ axis_begin b i
  unfolding axis_begin
  begin_same zero h = refl
  begin_same (suc i) h =
      let later = begin_later a i in
      axis_end_same (axis_begin a i) h ∙ rw (begin_same i (omega arith))

  pub axes_fault_same : (i : ℕ) → axis_begin a i ≤ n → axes_fault a i ≡ axes_fault b i
  unfolding axes_fault
  axes_fault_same zero h = refl
  axes_fault_same (suc i) h =
      let later = begin_later a i in
      let e = begin_next a i in
      rw (axes_fault_same i (omega arith), axis_fault_same (axis_begin a i) (omega arith), begin_same i (omega arith))

  entry_same : (m i : ℕ) → axis_begin a m ≤ n → (test : Bool) → ltb i m ≡ test
      → cond test (axis_at a (axis_begin a i)) unused_axis ≡ cond test (axis_at b (axis_begin b i)) unused_axis
  entry_same m i h true e =
      let l = ltb-true i m e in
      let later = begin_least a (suc i) m l in
      let step = begin_later a i in
      let next = begin_next a i in
      axis_same (axis_begin a i) (omega arith) ∙ rw (begin_same i (omega arith))
  entry_same m i h false e = refl

  entries_same : (m : ℕ) → axis_begin a m ≤ n → entries a m ≡ entries b m
  unfolding entries
  entries_same m h = table_ext 4 _ _ (λ i l. entry_same m i h (ltb i m) refl)

  knots_below_same : (i : ℕ) → axis_begin a i ≤ n → knots_below a i ≡ knots_below b i
  unfolding knots_below
  knots_below_same zero h = refl
  knots_below_same (suc i) h =
      let later = begin_later a i in
      let e = begin_next a i in
      rw (knots_below_same i (omega arith), knots_same (axis_begin a i) (omega arith), begin_same i (omega arith))

  -- ---- the sheet

  pub axes_same : 7 ≤ n → axes a ≡ axes b
  axes_same h = field_same 4 3 (omega arith)

  pub grid_same : 7 ≤ n → samples_begin a ≤ n → sheet_grid a ≡ sheet_grid b
  unfolding sheet_grid
  grid_same seven h = rw (entries_same (axes a) h, knots_below_same (axes a) h, axes_same seven)
