-- Where the fields of an axis stand in bytes, the reader finds that axis and its knots; and where it finds an axis, the fields of what it
-- found stand.
use mathlib.Core.Path.{◌≡◌, sym, ◌∙◌}
use mathlib.Core.Bool.{false}
use mathlib.Core.List.{List, ◌++◌}
use Prim.Native.Nat.{ℕ, ◌+◌, ◌-◌, ◌*◌, ◌≤◌}
use native.Mathlib.Omega.{arith}
use borrow.Author.Tests.{le-ltb}
use lib.ListN.{length}
use lib.Ieee.{Float}
use Rattle.rules.specs.Refusals.{points_refused}
use Rattle.rules.specs.Outside.{mode_number}
use Rattle.rules.specs.declared.Axis.{Axis}
use Rattle.grid_codes.specs.Kinds.{periodic_at_one_end, lower_kind_of, upper_kind_of}
use Rattle.grid_codes.specs.Modes.{unknown_mode}
use Rattle.grid_codes.proofs.Told.{mode_again, mode_known, number_again}
use Rattle.base_bits.specs.Bits.{field, numbers_short}
use Rattle.base_bits.specs.Written.{bits_in, number_fields}
use Rattle.base_bits.proofs.Runs.{field_below, short_together}
use Rattle.base_bits.proofs.Rows.{Stand, stand_first, stand_second, stand_append}
use Rattle.base_bits.proofs.Numbers.{Held, numbers_read, NoNan, numbers_stand}
use Rattle.sheet_read.specs.Fields.{
  mode_bits,
  points_at,
  lower_kind,
  upper_kind,
  mode_said,
  values_at,
  values_begin,
  axis_at,
  knots_begin,
  knots_at,
  axis_end,
}
use Rattle.sheet_read.specs.Faults.{axis_fault}
use Rattle.sheet_read.proofs.Stores.{length_knots_at}
use Rattle.sheet_write.specs.SheetOf.{ends_fields, axis_fields}
use Rattle.sheet_write.specs.PartsWithRoom.{values}
use Rattle.sheet_write.specs.RoundTrip.{EndsHeld}
use Rattle.sheet_write.proofs.Ends.{ends_bits, condition_read, kinds_agree, EndsNoNan, KindsBack, kinds_back}
use Rattle.sheet_write.proofs.Lengths.{axis_bits}

-- ---- from fields to the axis

-- the fields one by one
record Fields (bytes : List ℕ) (at width : ℕ) (axis : Axis) (x : List Float) : Type 0 where
  points : field bytes at 8 ≡ axis.points - 1
  lower : lower_kind bytes at ≡ lower_kind_of axis.condition
  upper : upper_kind bytes at ≡ upper_kind_of axis.condition
  mode : field bytes (at + 12) width ≡ mode_number axis.mode
  rest : Stand bytes (at + 12 + width) (ends_fields axis.condition ++ number_fields x)

fields : (bytes : List ℕ) (at width : ℕ) (axis : Axis) (x : List Float) → Stand bytes at (axis_fields width axis x)
    → Fields bytes at width axis x
unfolding Stand axis_fields
fields bytes at width axis x s =
    let ten : at + 8 + 2 ≡ at + 10 = omega arith in
    let twelve : at + 8 + 2 + 2 ≡ at + 12 = omega arith in
    record {
      points = s.0;
      lower = s.1.0;
      upper = rw ten at s.1.1.0;
      mode = rw twelve at s.1.1.1.0;
      rest = rw twelve at s.1.1.1.1;
    }

-- what the reader finds
pub record AxisRead (bytes : List ℕ) (at : ℕ) (axis : Axis) (x : List Float) : Type 0 where
  pub points : points_at bytes at ≡ axis.points
  pub lower : lower_kind bytes at ≡ lower_kind_of axis.condition
  pub upper : upper_kind bytes at ≡ upper_kind_of axis.condition
  pub mode_same : mode_said bytes at ≡ mode_number axis.mode
  pub values_same : values_at bytes at ≡ values axis.condition
  pub axis_same : axis_at bytes at ≡ axis
  pub knots_same : knots_at bytes at ≡ x
  pub end : axis_end bytes at ≡ at + bits_in (axis_fields (mode_bits bytes) axis x)

module _ (bytes : List ℕ) (at : ℕ) (axis : Axis) (x : List Float) (some : 1 ≤ axis.points) (exact : length x ≡ axis.points)
    (ends_held : EndsHeld axis.condition) (held : Held x) (f : Fields bytes at (mode_bits bytes) axis x) where
  points_read : points_at bytes at ≡ axis.points
  unfolding points_at
  points_read = rw f.points (omega arith)

  values_read : values_at bytes at ≡ values axis.condition
  unfolding values_at
  values_read = rw (f.lower, f.upper)

  axis_read : axis_at bytes at ≡ axis
  unfolding axis_at
  axis_read =
      rw (
        points_read,
        f.lower,
        f.upper,
        f.mode,
        mode_again axis.mode,
        condition_read bytes (values_begin bytes at) axis.condition ends_held
            (stand_first bytes (values_begin bytes at) (ends_fields axis.condition) (number_fields x) f.rest),
      )

  begin_read : knots_begin bytes at ≡ values_begin bytes at + bits_in (ends_fields axis.condition)
  unfolding knots_begin
  begin_read = rw (values_read, ends_bits axis.condition)

  knots_read : knots_at bytes at ≡ x
  unfolding knots_at
  knots_read =
      rw (begin_read, points_read, ← exact)
      (numbers_read bytes (values_begin bytes at + bits_in (ends_fields axis.condition)) x held
      (stand_second bytes (values_begin bytes at) (ends_fields axis.condition) (number_fields x) f.rest))

  end_read : axis_end bytes at ≡ at + bits_in (axis_fields (mode_bits bytes) axis x)
  unfolding axis_end
  end_read =
      let a = begin_read in
      let b = points_read in
      let c = ends_bits axis.condition in
      let d = axis_bits (mode_bits bytes) axis x in omega arith

  all_read : AxisRead bytes at axis x
  all_read = record {
    points = points_read;
    lower = f.lower;
    upper = f.upper;
    mode_same = f.mode;
    values_same = values_read;
    axis_same = axis_read;
    knots_same = knots_read;
    end = end_read;
  }

pub axis_found :
    (bytes : List ℕ) (at : ℕ) (axis : Axis) (x : List Float) → 1 ≤ axis.points → length x ≡ axis.points → EndsHeld axis.condition
    → Held x
    → Stand bytes at (axis_fields (mode_bits bytes) axis x)
    → AxisRead bytes at axis x
axis_found bytes at axis x some exact ends_held held s =
    all_read bytes at axis x some exact ends_held held (fields bytes at (mode_bits bytes) axis x s)

-- and it has no fault, where all of it is there
pub found_faultless :
    (bytes : List ℕ) (at : ℕ) (axis : Axis) (x : List Float) → AxisRead bytes at axis x → 2 ≤ axis.points → axis.points ≤ 256
    → length x ≡ axis.points
    → at + bits_in (axis_fields (mode_bits bytes) axis x) ≤ 8 * length bytes
    → axis_fault bytes at ≡ 0
unfolding axis_fault
found_faultless bytes at axis x r two most exact room =
    let n = values_at bytes at + points_at bytes at in
    let a = axis_bits (mode_bits bytes) axis x in
    let small : points_refused (points_at bytes at) ≡ false = rw (r.points, le-ltb axis.points 2 two, le-ltb 256 axis.points most) in
    let kinds : periodic_at_one_end (lower_kind bytes at) (upper_kind bytes at) ≡ false =
    rw (r.lower, r.upper) (kinds_agree axis.condition) in
    let mode : unknown_mode (mode_said bytes at) ≡ false = rw r.mode_same (mode_known axis.mode) in
    let long : numbers_short bytes (values_begin bytes at) n ≡ false =
    sym (short_together bytes (values_begin bytes at) n (omega (arith, r.points)))
    ∙ le-ltb (8 * length bytes) (values_begin bytes at + 64 * n) (omega (arith, r.points, r.values_same)) in
    rw (
      le-ltb (8 * length bytes) (at + 8) (omega arith),
      small,
      le-ltb (8 * length bytes) (at + 8 + 2) (omega arith),
      le-ltb (8 * length bytes) (at + 10 + 2) (omega arith),
      kinds,
      le-ltb (8 * length bytes) (at + 12 + mode_bits bytes) (omega arith),
      mode,
      long,
    )

-- ---- from the axis to fields

module _ (bytes : List ℕ) (at : ℕ) (kinds : periodic_at_one_end (lower_kind bytes at) (upper_kind bytes at) ≡ false)
    (mode : unknown_mode (mode_said bytes at) ≡ false) where
  back : KindsBack bytes (values_begin bytes at) (lower_kind bytes at) (upper_kind bytes at)
  back =
      kinds_back bytes (values_begin bytes at) (lower_kind bytes at) (upper_kind bytes at) (field_below bytes (at + 8) 2)
      (field_below bytes (at + 10) 2) kinds

  lower_back : lower_kind_of (axis_at bytes at).condition ≡ lower_kind bytes at
  unfolding axis_at
  lower_back = back.lower_same

  upper_back : upper_kind_of (axis_at bytes at).condition ≡ upper_kind bytes at
  unfolding axis_at
  upper_back = back.upper_same

  mode_back : mode_said bytes at ≡ mode_number (axis_at bytes at).mode
  unfolding axis_at
  mode_back = sym (number_again (mode_said bytes at) mode)

  points_back : field bytes at 8 ≡ (axis_at bytes at).points - 1
  unfolding axis_at points_at
  points_back = omega arith

  begin_back : knots_begin bytes at ≡ values_begin bytes at + bits_in (ends_fields (axis_at bytes at).condition)
  unfolding knots_begin values_at
  begin_back = rw (ends_bits (axis_at bytes at).condition, lower_back, upper_back)

  -- the axis ends where its fields do
  pub end_back : axis_end bytes at ≡ at + bits_in (axis_fields (mode_bits bytes) (axis_at bytes at) (knots_at bytes at))
  unfolding axis_end
  end_back =
      let a = begin_back in
      let b = length_knots_at bytes at in
      let c = ends_bits (axis_at bytes at).condition in
      let d = axis_bits (mode_bits bytes) (axis_at bytes at) (knots_at bytes at) in omega arith

  module _ (fine_ends : EndsNoNan (axis_at bytes at).condition) (fine : NoNan (knots_at bytes at)) where
    ends_stand : Stand bytes (values_begin bytes at) (ends_fields (axis_at bytes at).condition)
    unfolding axis_at
    ends_stand = back.stands fine_ends

    knots_stand : Stand bytes (values_begin bytes at + bits_in (ends_fields (axis_at bytes at).condition))
        (number_fields (knots_at bytes at))
    unfolding knots_at
    knots_stand = rw (← begin_back) (numbers_stand bytes (knots_begin bytes at) (points_at bytes at) fine)

    pub axis_stands : Stand bytes at (axis_fields (mode_bits bytes) (axis_at bytes at) (knots_at bytes at))
    unfolding Stand axis_fields
    axis_stands =
        let ten : at + 8 + 2 ≡ at + 10 = omega arith in
        let twelve : at + 8 + 2 + 2 ≡ at + 12 = omega arith in
        let rest =
        stand_append bytes (values_begin bytes at) (ends_fields (axis_at bytes at).condition) (number_fields (knots_at bytes at))
        ends_stand knots_stand in
        (points_back, (sym lower_back, (rw ten (sym upper_back), (rw twelve mode_back, rw twelve rest))))
