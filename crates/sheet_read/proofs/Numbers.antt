-- What holds of each number that the reader refuses by holds of every fault of a sheet. So every fault is of the class Reading.
use mathlib.Core.Path.{refl}
use mathlib.Core.List.{List}
use Prim.Native.Nat.{ℕ, zero, suc, ◌+◌}
use Rattle.rules.specs.Sizes.{samples_length}
use Rattle.rules.specs.Refusals.{axes_refused, points_refused, tensor_refused}
use Rattle.base_bits.specs.Bits.{short, numbers_short}
use Rattle.grid_codes.specs.Kinds.{periodic_at_one_end}
use Rattle.grid_codes.specs.Modes.{unknown_mode}
use Rattle.grid_codes.specs.Editions.{unknown_edition}
use Rattle.grid_codes.specs.Classes.{class}
use Rattle.grid_codes.specs.declared.classes.Class.TheVariants.{Reading}
use Rattle.grid_codes.proofs.Tested.{tested, one_or_other}
use Rattle.grid_codes.proofs.Classed.{Of, no_fault}
use Rattle.sheet_read.specs.Fields.{
  edition,
  axes,
  mode_bits,
  points_at,
  lower_kind,
  upper_kind,
  mode_said,
  values_at,
  values_begin,
  axis_begin,
  sheet_grid,
  samples_begin,
  samples_end,
}
use Rattle.sheet_read.specs.Faults.{axis_fault, axes_fault, tail_refused, samples_fault, sheet_refusal}

-- it holds of 0 and of the numbers that are met before the tail
pub record Holds (P : ℕ → Type 0) : Type 0 where
  pub none : P 0
  pub one : P 1
  pub two : P 2
  pub three : P 3
  pub eleven : P 11
  pub twelve : P 12
  pub thirteen : P 13
  pub twenty_two : P 22

module _ (P : ℕ → Type 0) (h : Holds P) where
  pub axis_number : (bytes : List ℕ) (at : ℕ) → P (axis_fault bytes at)
  unfolding axis_fault
  axis_number bytes at =
      tested P (short bytes at 8) h.eleven
      (tested P (points_refused (points_at bytes at)) h.two
      (tested P (short bytes (at + 8) 2) h.eleven
      (tested P (short bytes (at + 10) 2) h.eleven
      (tested P (periodic_at_one_end (lower_kind bytes at) (upper_kind bytes at)) h.thirteen
      (tested P (short bytes (at + 12) (mode_bits bytes)) h.eleven
      (tested P (unknown_mode (mode_said bytes at)) h.twenty_two
      (tested P (numbers_short bytes (values_begin bytes at) (values_at bytes at + points_at bytes at)) h.eleven h.none)))))))

  pub axes_number : (bytes : List ℕ) (i : ℕ) → P (axes_fault bytes i)
  unfolding axes_fault
  axes_number bytes zero = h.none
  axes_number bytes (suc i) = one_or_other P (axes_fault bytes i) (axes_number bytes i) (axis_number bytes (axis_begin bytes i))

  -- and of 14, which the tail alone gives
  module _ (fourteen : P 14) where
    pub samples_number : (bytes : List ℕ) → P (samples_fault bytes)
    unfolding samples_fault
    samples_number bytes =
        tested P (tensor_refused (sheet_grid bytes)) h.three
        (tested P (numbers_short bytes (samples_begin bytes) (samples_length (sheet_grid bytes))) h.eleven
        (tested P (tail_refused bytes (samples_end bytes)) fourteen h.none))

    pub sheet_number : (bytes : List ℕ) → P (sheet_refusal bytes)
    unfolding sheet_refusal
    sheet_number bytes =
        tested P (short bytes 0 4) h.eleven
        (tested P (unknown_edition (edition bytes)) h.twelve
        (tested P (short bytes 4 3) h.eleven
        (tested P (axes_refused (sheet_grid bytes)) h.one
        (one_or_other P (axes_fault bytes (axes bytes)) (axes_number bytes (axes bytes)) (samples_number bytes)))))

-- ---- the class

reading : Holds (Of Reading)
unfolding class
reading = record {
  none = no_fault;
  one = λ met. refl;
  two = λ met. refl;
  three = λ met. refl;
  eleven = λ met. refl;
  twelve = λ met. refl;
  thirteen = λ met. refl;
  twenty_two = λ met. refl;
}

reading_14 : Of Reading 14
unfolding class
reading_14 met = refl

module _ (bytes : List ℕ) where
  pub axis_of_reading : (at : ℕ) → Of Reading (axis_fault bytes at)
  axis_of_reading at = axis_number (Of Reading) reading bytes at

  pub axes_of_reading : (i : ℕ) → Of Reading (axes_fault bytes i)
  axes_of_reading i = axes_number (Of Reading) reading bytes i

  pub samples_of_reading : Of Reading (samples_fault bytes)
  samples_of_reading = samples_number (Of Reading) reading reading_14 bytes

  pub sheet_of_reading : Of Reading (sheet_refusal bytes)
  sheet_of_reading = sheet_number (Of Reading) reading reading_14 bytes
