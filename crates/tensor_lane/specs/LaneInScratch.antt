-- The working tensor stands in the scratch behind its rows; a lane of it is a start and a step. The lane's numbers are gathered in the row
-- of samples, and its moments computed in theirs.
use Rattle.std.specs.Prelude.{◌≡◌, ◌≢◌, List, ℕ, ◌+◌, ◌-◌, ◌*◌, ◌<◌, ◌≤◌, length, take, drop, Float}
use Rattle.rules.specs.Numbers.{at, table}
use Rattle.rules.specs.Ends.{fewest_points}
use Rattle.rules.specs.Sizes.{scratch_of_rows}
use Rattle.rules.specs.Curve.{knot_slope, lane_slope}
use Rattle.rules.specs.declared.Condition.{Condition}
use Rattle.grid_scratch.specs.Layout.{row_length, sub_row, moments_row, tensor_begin}

-- n numbers behind the rows, number k at from + k * step
pub record Lies (w : List Float) (n from step : ℕ) : Type 0 where
  pub room : scratch_of_rows ≤ length w
  pub behind : tensor_begin ≤ from
  pub within : (k : ℕ) → k < n → from + k * step < length w

-- the lane's first n numbers in the row of samples
pub record Gathered (w w' : List Float) (n from step : ℕ) : Type 0 where
  pub same_length : length w' ≡ length w
  pub samples : (k : ℕ) → k < n → at w' k ≡ at w (from + k * step)
  pub kept : (j : ℕ) → sub_row ≤ j → at w' j ≡ at w j

-- the knot slope at k, from the samples and the moments in their rows
abbrev pub slope_of_rows : List Float → List Float → ℕ → Float
slope_of_rows w x k = knot_slope x (length x - 1) (take (length x) w) (take (length x) (drop moments_row w)) k

-- the first n of some numbers stored step apart
pub record Stored (w w' : List Float) (numbers : ℕ → Float) (n to step : ℕ) : Type 0 where
  pub same_length : length w' ≡ length w
  pub values : (k : ℕ) → k < n → at w' (to + k * step) ≡ numbers k
  pub kept : (j : ℕ) → ((k : ℕ) → k < n → j ≢ to + k * step) → at w' j ≡ at w j

-- a lane to be solved, of numbers at `from` and slopes at `to`
pub record LaneGiven (w x : List Float) (condition : Condition) (from to step : ℕ) : Type 0 where
  pub some_points : 2 ≤ length x
  pub few_points : length x ≤ row_length
  pub enough_points : fewest_points condition ≤ length x
  pub apart : 1 ≤ step
  pub numbers : Lies w (length x) from step
  pub slopes : Lies w (length x) to step

-- a lane solved: the knot slopes of its numbers stand in the other lane; the rows may have changed
pub record LaneSolved (w w' x : List Float) (condition : Condition) (from to step : ℕ) : Type 0 where
  pub same_length : length w' ≡ length w
  pub slopes : (k : ℕ) → k < length x
      → at w' (to + k * step) ≡ lane_slope x (length x - 1) condition (table (length x) (λ j. at w (from + j * step))) k
  pub kept : (j : ℕ) → tensor_begin ≤ j → ((k : ℕ) → k < length x → j ≢ to + k * step) → at w' j ≡ at w j
