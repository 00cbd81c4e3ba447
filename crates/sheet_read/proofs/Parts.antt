-- The parts of a sheet that is not refused are what a build asks for: it refuses none of their sizes and lengths, and they have places in
-- the buffers.
use mathlib.Core.Path.{◌≡◌, refl}
use mathlib.Core.Bool.{false}
use mathlib.Core.List.{List}
use Prim.Native.Nat.{ℕ, zero, suc, ◌*◌, ◌<◌, ◌≤◌}
use native.Mathlib.Omega.{arith}
use borrow.Author.Tests.{le-ltb}
use lib.ListN.{length, take, drop, get_or, length-append}
use lib.Seq.{take_at}
use lib.Ieee.{Float}
use Rattle.rules.proofs.Tables.{length_table}
use Rattle.rules.specs.Sizes.{unused_axis, sum_below, knots_length, samples_length}
use Rattle.rules.specs.Refusals.{axes_refused, points_refused, some_points_refused, tensor_refused}
use Rattle.rules.specs.declared.Axis.{Axis}
use Rattle.base_numbers.proofs.Scan.{any_never}
use Rattle.sheet_read.specs.Fields.{edition, axes, points_at, axis_begin, entries, knots_below, sheet_grid, sheet_samples}
use Rattle.sheet_read.specs.Faults.{sheet_refusal}
use Rattle.sheet_read.specs.Read.{over}
use Rattle.sheet_read.specs.FoundSoFar.{PartsRoom}
use Rattle.sheet_read.proofs.Extents.{extent}
use Rattle.sheet_read.proofs.Walks.{each_faultless, faultless_axis}
use Rattle.sheet_read.proofs.Stores.{knots_below_next, length_knots_at}
use Rattle.sheet_read.proofs.Sheets.{Accepted, accepted, axes_allowed, size, samples_most}

-- the new elements are the first of a buffer
pub take_over : {A : Type 0} (new old : List A) (n : ℕ) → length new ≡ n → take n (over new old) ≡ new
take_over new old n e = take_at new (drop (length new) old) n e

knots_none : (bytes : List ℕ) → length (knots_below bytes 0) ≡ 0
unfolding knots_below
knots_none bytes = refl

module _ (bytes : List ℕ) (ok : Accepted bytes) where
  abbrev n : ℕ
  n = axes bytes

  abbrev sizes : ℕ → ℕ
  sizes i = (get_or (entries bytes n) i unused_axis).points

  size_is : (i : ℕ) → i < n → sizes i ≡ points_at bytes (axis_begin bytes i)
  size_is = size bytes n (entries bytes n) ok.said.few refl

  enough_points : (i : ℕ) → i < n → points_refused (sizes i) ≡ false
  enough_points i l =
      rw (size_is i l) (faultless_axis bytes (axis_begin bytes i) (each_faultless bytes n i ok.faultless l)).0

  pub knots_sum : (i : ℕ) → i ≤ n → length (knots_below bytes i) ≡ sum_below sizes i
  unfolding sum_below
  knots_sum zero l = knots_none bytes
  knots_sum (suc i) l =
      rw (
        knots_below_next bytes i,
        length-append,
        length_knots_at bytes (axis_begin bytes i),
        knots_sum i (omega arith),
        size_is i (omega arith),
      )

  sum_most : (i : ℕ) → i ≤ n → sum_below sizes i ≤ 256 * i
  unfolding sum_below
  sum_most zero l = omega arith
  sum_most (suc i) l =
      let reach = extent bytes (axis_begin bytes i) in omega (arith, sum_most i (omega arith), size_is i (omega arith))

-- what a build looks at before the numbers themselves
pub record Parts (bytes : List ℕ) : Type 0 where
  pub axes : axes_refused (sheet_grid bytes) ≡ false
  pub points : some_points_refused (sheet_grid bytes) ≡ false
  pub tensor : tensor_refused (sheet_grid bytes) ≡ false
  pub knots : length (sheet_grid bytes).flat_knots ≡ knots_length (sheet_grid bytes)
  pub knots_most : knots_length (sheet_grid bytes) ≤ 1024
  pub samples : length (sheet_samples bytes) ≡ samples_length (sheet_grid bytes)
  pub samples_most : samples_length (sheet_grid bytes) ≤ 1024

pub parts : (bytes : List ℕ) → sheet_refusal bytes ≡ 0 → Parts bytes
unfolding sheet_grid
parts bytes e =
    let ok = accepted bytes e in
    record {
      axes = axes_allowed bytes ok.said.least ok.said.few;
      points = any_never _ (axes bytes) (enough_points bytes ok);
      tensor = le-ltb 4096 _ ok.small;
      knots = knots_sum bytes ok (axes bytes) (omega arith);
      knots_most = omega (arith, sum_most bytes ok (axes bytes) (omega arith), ok.said.few);
      samples = length_table _ _;
      samples_most = samples_most bytes ok;
    }

-- so they have places in buffers of 1,024
pub parts_room :
    (bytes : List ℕ) (said n : ℕ) (all : List Axis) (knots samples : List Float)
    → sheet_refusal bytes ≡ 0
    → said ≡ edition bytes
    → n ≡ axes bytes
    → all ≡ entries bytes (axes bytes)
    → 1024 ≤ length knots
    → 1024 ≤ length samples
    → PartsRoom bytes said n all knots samples
unfolding sheet_grid
parts_room bytes said n all knots samples none e f g k s =
    let known = parts bytes none in
    record {
      faultless = none;
      edition_said = e;
      axes_said = f;
      found = g;
      knots_room = omega (arith, known.knots, known.knots_most);
      samples_room = omega (arith, known.samples_most);
    }
