-- The refusal of a sheet, test by test, what holds of a sheet that is not refused, and how many samples it has.
use mathlib.Core.Path.{◌≡◌, refl, ◌∙◌}
use mathlib.Core.Bool.{true, false, cond}
use mathlib.Core.List.{List}
use Prim.Native.Nat.{ℕ, zero, suc, ◌+◌, ◌*◌, ◌^◌, ◌<◌, ◌≤◌}
use native.Mathlib.Omega.{arith}
use borrow.Author.Tests.{lt-ltb, le-ltb, ltb-false}
use lib.Dec.{ltb}
use lib.ListN.{length, get_or}
use Rattle.base_numbers.proofs.Scan.{neither}
use Rattle.rules.proofs.Tables.{at_table}
use Rattle.rules.proofs.Refused.{or_else_passed}
use Rattle.rules.specs.Sizes.{unused_axis, product_below, samples_length}
use Rattle.rules.specs.Refusals.{axes_refused, tensor_refused}
use Rattle.rules.specs.Calls.{or_else}
use Rattle.rules.specs.declared.Axis.{Axis}
use Rattle.grid.specs.GridOfCall.{points_of, InRange}
use Rattle.base_bits.specs.Bits.{short, numbers_short}
use Rattle.grid_codes.specs.Editions.{unknown_edition}
use Rattle.rules.proofs.Cases.{passed}
use Rattle.sheet_read.specs.Fields.{edition, axes, points_at, axis_at, axis_begin, entries, sheet_grid, samples_begin, samples_end}
use Rattle.sheet_read.specs.Faults.{axes_fault, tail_refused, samples_fault, sheet_refusal}
use Rattle.sheet_read.specs.FoundSoFar.{Axes, Ended, NoFault}
use Rattle.base_bits.proofs.Runs.{short_together}
use Rattle.sheet_read.proofs.Extents.{extent}
use Rattle.sheet_read.proofs.Walks.{each_faultless, faultless_axis}
use Rattle.sheet_read.proofs.Samples.{count_is, samples_least}

-- ---- edition and axes

module _ (bytes : List ℕ) where
  abbrev bits : ℕ
  bits = 8 * length bytes

  pub no_edition : bits < 0 + 4 → sheet_refusal bytes ≡ 11
  unfolding sheet_refusal
  no_edition gone = rw (lt-ltb bits (0 + 4) gone)

  module _ (room : 0 + 4 ≤ bits) where
    pub other_edition : unknown_edition (edition bytes) ≡ true → sheet_refusal bytes ≡ 12
    unfolding sheet_refusal
    other_edition other = rw (le-ltb bits (0 + 4) room, other)

    module _ (known : unknown_edition (edition bytes) ≡ false) where
      pub no_axes : bits < 4 + 3 → sheet_refusal bytes ≡ 11
      unfolding sheet_refusal
      no_axes gone = rw (le-ltb bits (0 + 4) room, known, lt-ltb bits (4 + 3) gone)

      pub some_axes : 4 + 3 ≤ bits
          → sheet_refusal bytes ≡ cond (axes_refused (sheet_grid bytes)) 1 (or_else (axes_fault bytes (axes bytes)) (samples_fault bytes))
      unfolding sheet_refusal
      some_axes more = rw (le-ltb bits (0 + 4) room, known, le-ltb bits (4 + 3) more)

  pub axes_few : axes bytes < 1 → axes_refused (sheet_grid bytes) ≡ true
  unfolding sheet_grid
  axes_few few = rw (lt-ltb (axes bytes) 1 few)

  pub axes_many : 4 < axes bytes → axes_refused (sheet_grid bytes) ≡ true
  unfolding sheet_grid
  axes_many many = rw (le-ltb (axes bytes) 1 (omega arith), lt-ltb 4 (axes bytes) many)

  pub axes_allowed : 1 ≤ axes bytes → axes bytes ≤ 4 → axes_refused (sheet_grid bytes) ≡ false
  unfolding sheet_grid
  axes_allowed least most = rw (le-ltb (axes bytes) 1 least, le-ltb 4 (axes bytes) most)

-- ---- the samples

pub entry_at : (bytes : List ℕ) (n i : ℕ) → n ≤ 4 → i < n → get_or (entries bytes n) i unused_axis ≡ axis_at bytes (axis_begin bytes i)
unfolding entries
entry_at bytes n i few l =
    at_table 4 (λ k. cond (ltb k n) (axis_at bytes (axis_begin bytes k)) unused_axis) i unused_axis (omega arith) ∙ rw (lt-ltb i n l)

module _ (bytes : List ℕ) (n : ℕ) (all : List Axis) (few : n ≤ 4) (e : all ≡ entries bytes n) where
  pub size : (i : ℕ) → i < n → (get_or all i unused_axis).points ≡ points_at bytes (axis_begin bytes i)
  unfolding axis_at
  size i l = rw (e, entry_at bytes n i few l)

  pub in_range : 1 ≤ n → axes_fault bytes n ≡ 0 → InRange n (points_of all)
  in_range some faultless = record {
    some_axes = some;
    few_axes = few;
    some_points = λ i l.
        let here = faultless_axis bytes (axis_begin bytes i) (each_faultless bytes n i faultless l) in
        let points = points_at bytes (axis_begin bytes i) in
        let enough = ltb-false points 2 (neither (ltb points 2) (ltb 256 points) here.0).0 in
        omega (arith, size i l);
    few_points = λ i l. let reach = extent bytes (axis_begin bytes i) in omega (arith, size i l);
  }

-- ---- a sheet that is not refused

pub record Accepted (bytes : List ℕ) : Type 0 where
  pub known : unknown_edition (edition bytes) ≡ false
  pub said : Axes bytes (axes bytes)
  pub faultless : axes_fault bytes (axes bytes) ≡ 0
  pub small : samples_length (sheet_grid bytes) * 2 ^ axes bytes ≤ 4096
  pub long : numbers_short bytes (samples_begin bytes) (samples_length (sheet_grid bytes)) ≡ false
  pub no_more : tail_refused bytes (samples_end bytes) ≡ false

axes_passed : (bytes : List ℕ) → axes_refused (sheet_grid bytes) ≡ false → Axes bytes (axes bytes)
unfolding sheet_grid
axes_passed bytes e =
    let both = neither (ltb (axes bytes) 1) (ltb 4 (axes bytes)) e in
    record { least = ltb-false (axes bytes) 1 both.0; few = ltb-false 4 (axes bytes) both.1; said = refl }

tensor_passed : (bytes : List ℕ) → tensor_refused (sheet_grid bytes) ≡ false → samples_length (sheet_grid bytes) * 2 ^ axes bytes ≤ 4096
unfolding sheet_grid
tensor_passed bytes e = ltb-false 4096 (samples_length (sheet_grid bytes) * 2 ^ axes bytes) e

pub accepted : (bytes : List ℕ) → sheet_refusal bytes ≡ 0 → Accepted bytes
unfolding sheet_refusal samples_fault
accepted bytes e =
    let a = passed (short bytes 0 4) 10 _ e in
    let b = passed (unknown_edition (edition bytes)) 11 _ a.1 in
    let c = passed (short bytes 4 3) 10 _ b.1 in
    let d = passed (axes_refused (sheet_grid bytes)) 0 _ c.1 in
    let f = or_else_passed (axes_fault bytes (axes bytes)) _ d.1 in
    let g = passed (tensor_refused (sheet_grid bytes)) 2 _ f.1 in
    let h = passed (numbers_short bytes (samples_begin bytes) (samples_length (sheet_grid bytes))) 10 _ g.1 in
    let i = passed (tail_refused bytes (samples_end bytes)) 13 0 h.1 in
    record {
      known = b.0;
      said = axes_passed bytes d.0;
      faultless = f.0;
      small = tensor_passed bytes g.0;
      long = h.0;
      no_more = i.0;
    }

-- one axis has at most 256 samples, more axes have a quarter of the tensor's length at most
few_samples : (sizes : ℕ → ℕ) (n : ℕ) → 1 ≤ n → n ≤ 4 → ((i : ℕ) → i < n → sizes i ≤ 256) → product_below sizes n * 2 ^ n ≤ 4096
    → product_below sizes n ≤ 1024
unfolding product_below
few_samples sizes zero least few most small = absurd (omega arith)
few_samples sizes (suc zero) least few most small = omega (arith, most 0 (omega arith))
few_samples sizes (suc (suc zero)) least few most small = omega arith
few_samples sizes (suc (suc (suc zero))) least few most small = omega arith
few_samples sizes (suc (suc (suc (suc zero)))) least few most small = omega arith
few_samples sizes (suc (suc (suc (suc (suc n))))) least few most small = absurd (omega arith)

module _ (bytes : List ℕ) (a : Accepted bytes) where
  pub no_fault : NoFault bytes (axes bytes)
  no_fault = record { few = a.said.few; faultless = a.faultless }

  pub all_ended : (at n : ℕ) (all : List Axis) → n ≡ axes bytes → all ≡ entries bytes (axes bytes) → at ≡ samples_begin bytes
      → Ended bytes at n all
  all_ended at n all said found end =
      let here : all ≡ entries bytes n = found ∙ rw said in
      record {
        range = in_range bytes n all (omega (arith, a.said.few)) here (omega (arith, a.said.least)) (rw said a.faultless);
        said = said;
        end = end ∙ rw said;
        found = here;
      }

  itself : Ended bytes (samples_begin bytes) (axes bytes) (entries bytes (axes bytes))
  itself = all_ended (samples_begin bytes) (axes bytes) (entries bytes (axes bytes)) refl refl refl

  -- the samples of a sheet that is not refused have places in the buffer, and bits in the sheet
  pub samples_most : samples_length (sheet_grid bytes) ≤ 1024
  unfolding sheet_grid
  samples_most =
      few_samples (points_of (entries bytes (axes bytes))) (axes bytes) a.said.least a.said.few itself.range.few_points
      a.small

  pub samples_room : samples_end bytes ≤ 8 * length bytes
  samples_room =
      let some = samples_least bytes (samples_begin bytes) (axes bytes) (entries bytes (axes bytes)) itself in
      let same = count_is bytes (samples_begin bytes) (axes bytes) (entries bytes (axes bytes)) itself in
      ltb-false _ _ (short_together bytes (samples_begin bytes) (samples_length (sheet_grid bytes)) (omega arith) ∙ a.long)
