-- How far the fields of an axis reach, and that the axes of any sheet are small.
use mathlib.Core.Path.{◌≡◌, refl}
use mathlib.Core.Bool.{Bool, true, false, cond}
use mathlib.Core.List.{List}
use lib.Dec.{eqb}
use Prim.Native.Nat.{ℕ, zero, suc, ◌+◌, ◌*◌, ◌≤◌}
use native.Mathlib.Omega.{arith}
use Rattle.grid_codes.specs.Ranges.{among}
use Rattle.grid_codes.specs.Kinds.{values_of_kind}
use Rattle.grid_codes.specs.Editions.{mode_width}
use Rattle.sheet_read.specs.Fields.{
  mode_bits,
  points_at,
  lower_kind,
  upper_kind,
  values_at,
  values_begin,
  knots_begin,
  axis_end,
  axis_begin,
}
use Rattle.base_bits.proofs.Runs.{field_below}

one_or_none : (test : Bool) → cond test 1 0 ≤ 1
one_or_none true = omega arith
one_or_none false = omega arith

pub value_most : (kind : ℕ) → values_of_kind kind ≤ 1
unfolding values_of_kind
value_most kind = one_or_none (among 1 2 kind)

two_or_none : (test : Bool) → cond test 2 0 ≤ 2
two_or_none true = omega arith
two_or_none false = omega arith

pub width_most : (edition : ℕ) → mode_width edition ≤ 2
unfolding mode_width
width_most edition = two_or_none (eqb edition 2)

-- the numbers of the axis at bit `at`: its points, its patterns, and where they end. The upper end's pattern is among those of both ends.
pub record Extent (bytes : List ℕ) (at : ℕ) : Type 0 where
  pub mode_most : mode_bits bytes ≤ 2
  pub points_least : 1 ≤ points_at bytes at
  pub points_most : points_at bytes at ≤ 256
  pub lower_values : values_of_kind (lower_kind bytes at) ≤ values_at bytes at
  pub values_most : values_at bytes at ≤ 2
  pub begin : knots_begin bytes at ≡ values_begin bytes at + 64 * values_at bytes at
  pub end : axis_end bytes at ≡ knots_begin bytes at + 64 * points_at bytes at

pub extent : (bytes : List ℕ) (at : ℕ) → Extent bytes at
unfolding points_at values_at knots_begin axis_end
extent bytes at = record {
  mode_most = width_most _;
  points_least = omega arith;
  points_most = omega (arith, field_below bytes at 8);
  lower_values = omega arith;
  values_most = omega (arith, value_most (lower_kind bytes at), value_most (upper_kind bytes at));
  begin = refl;
  end = refl;
}

pub begin_most : (bytes : List ℕ) (i : ℕ) → axis_begin bytes i ≤ 7 + 16526 * i
unfolding axis_begin
begin_most bytes zero = omega arith
begin_most bytes (suc i) =
    let before = begin_most bytes i in
    let here = extent bytes (axis_begin bytes i) in omega arith

-- the first axis begins behind the edition and the number of axes
pub begin_first : (bytes : List ℕ) → axis_begin bytes 0 ≡ 7
unfolding axis_begin
begin_first bytes = refl
