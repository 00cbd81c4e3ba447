-- The chapter Faults of docs/RULES.md: for every list of bytes the first fault that is met on the way through its fields, 0 for none.
use Rattle.std.specs.Prelude.{Bool, not, cond, ◌||◌, List, ℕ, zero, suc, ◌+◌, ◌-◌, ◌*◌, leb, eqb, length}
use Rattle.rules.specs.Numbers.{any}
use Rattle.rules.specs.Sizes.{samples_length}
use Rattle.rules.specs.Refusals.{axes_refused, points_refused, tensor_refused}
use Rattle.rules.specs.Calls.{or_else}
use Rattle.base_bits.specs.Bits.{bit, short, numbers_short}
use Rattle.grid_codes.specs.Kinds.{periodic_at_one_end}
use Rattle.grid_codes.specs.Modes.{unknown_mode}
use Rattle.grid_codes.specs.Editions.{unknown_edition}
use Rattle.sheet_read.specs.Fields.{
  edition,
  axes,
  mode_bits,
  points_at,
  lower_kind,
  upper_kind,
  mode_said,
  values_at,
  values_begin,
  axis_begin,
  sheet_grid,
  samples_begin,
  samples_end,
}

-- the fault of the axis that begins at bit `at`: its points are judged at their field, its kinds once both are read, and its mode at its
-- field; of the numbers of its ends and its knots one may be short
unfoldable pub axis_fault : List ℕ → ℕ → ℕ
axis_fault bytes at =
    cond (short bytes at 8) 11
    (cond (points_refused (points_at bytes at)) 2
    (cond (short bytes (at + 8) 2) 11
    (cond (short bytes (at + 10) 2) 11
    (cond (periodic_at_one_end (lower_kind bytes at) (upper_kind bytes at)) 13
    (cond (short bytes (at + 12) (mode_bits bytes)) 11
    (cond (unknown_mode (mode_said bytes at)) 22
    (cond (numbers_short bytes (values_begin bytes at) (values_at bytes at + points_at bytes at)) 11 0)))))))

-- the first fault of the first i axes
unfoldable pub axes_fault : List ℕ → ℕ → ℕ
axes_fault bytes zero = 0
axes_fault bytes (suc i) = or_else (axes_fault bytes i) (axis_fault bytes (axis_begin bytes i))

-- 14: bit `at` and what follows it are 8 bits or more, or one of them is set
unfoldable pub tail_refused : List ℕ → ℕ → Bool
tail_refused bytes at =
    leb 8 (8 * length bytes - at) || any (λ k. not (eqb (bit bytes (at + k)) 0)) (8 * length bytes - at)

-- what is met after the last axis: the tensor's length, the samples, and what follows them
unfoldable pub samples_fault : List ℕ → ℕ
samples_fault bytes =
    cond (tensor_refused (sheet_grid bytes)) 3
    (cond (numbers_short bytes (samples_begin bytes) (samples_length (sheet_grid bytes))) 11
    (cond (tail_refused bytes (samples_end bytes)) 14 0))

-- the fault of a sheet: at the edition, at the number of axes, at an axis, or after the last
unfoldable pub sheet_refusal : List ℕ → ℕ
sheet_refusal bytes =
    cond (short bytes 0 4) 11
    (cond (unknown_edition (edition bytes)) 12
    (cond (short bytes 4 3) 11
    (cond (axes_refused (sheet_grid bytes)) 1
    (or_else (axes_fault bytes (axes bytes)) (samples_fault bytes)))))

-- the fault of a sheet for the reader of edition 1: any other edition is refused by 12, and after that nothing is looked at
unfoldable pub edition_1_refusal : List ℕ → ℕ
unfolding sheet_refusal
edition_1_refusal bytes = cond (short bytes 0 4) 11 (cond (not (eqb (edition bytes) 1)) 12 (sheet_refusal bytes))
