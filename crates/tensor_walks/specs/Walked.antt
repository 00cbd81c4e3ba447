-- The lanes of a walk over the working tensor, solved: the numbers of lane t stand at its start and `step` apart from there, its slopes go
-- `to` further on.
use Rattle.std.specs.Prelude.{◌≡◌, ◌≢◌, List, ℕ, ◌+◌, ◌-◌, ◌*◌, ◌<◌, ◌≤◌, length, Float}
use Rattle.rules.specs.Numbers.{at, table}
use Rattle.rules.specs.Curve.{lane_slope}
use Rattle.rules.specs.declared.Condition.{Condition}
use Rattle.grid_scratch.specs.Layout.{tensor_begin}
use Rattle.tensor_lane.specs.LaneInScratch.{LaneGiven}
use Rattle.tensor_starts.specs.Walks.{lane_start, Small}
use Rattle.tensor_starts.specs.declared.Walk.{Walk}

-- where number k of lane t stands, and where its slope there goes
abbrev pub number_place : Walk → ℕ → ℕ → ℕ → ℕ
number_place walk step t k = tensor_begin + lane_start walk t + k * step

abbrev pub slope_place : Walk → ℕ → ℕ → ℕ → ℕ → ℕ
slope_place walk to step t k = tensor_begin + lane_start walk t + to + k * step

-- lanes that can be solved: no place takes two slopes, and none that takes a slope has a lane's number
pub record WalkGiven (w x : List Float) (condition : Condition) (walk : Walk) (to step : ℕ) : Type 0 where
  pub some_inner : 0 < walk.inner
  pub some_middle : 0 < walk.middle
  pub small : Small walk
  pub few : walk.lanes ≤ 4096
  pub inside : (t : ℕ) → t < walk.lanes → lane_start walk t + to < 4096
  pub lane : (w' : List Float) → length w' ≡ length w → (t : ℕ) → t < walk.lanes
      → LaneGiven w' x condition (tensor_begin + lane_start walk t) (tensor_begin + lane_start walk t + to) step
  pub own : (t u k i : ℕ) → t < walk.lanes → u < walk.lanes → k < length x → i < length x
      → slope_place walk to step t k ≡ slope_place walk to step u i → (t ≡ u) × (k ≡ i)
  pub apart : (t u k i : ℕ) → t < walk.lanes → u < walk.lanes → k < length x → i < length x
      → number_place walk step t k ≢ slope_place walk to step u i

-- the lanes numbered from `from` to stop - 1 solved
pub record SomeSolved (w w' x : List Float) (condition : Condition) (walk : Walk) (to step from stop : ℕ) : Type 0 where
  pub same_length : length w' ≡ length w
  pub slopes : (t : ℕ) → from ≤ t → t < stop → (k : ℕ) → k < length x
      → at w' (slope_place walk to step t k)
      ≡ lane_slope x (length x - 1) condition (table (length x) (λ j. at w (number_place walk step t j))) k
  pub kept : (j : ℕ) → tensor_begin ≤ j → ((t : ℕ) → from ≤ t → t < stop → (k : ℕ) → k < length x → j ≢ slope_place walk to step t k)
      → at w' j ≡ at w j

-- all lanes of a walk solved, and the count is of the lanes solved
pub record WalkSolved (w w' x : List Float) (condition : Condition) (walk : Walk) (to step count : ℕ) : Type 0 where
  pub solved : SomeSolved w w' x condition walk to step 0 count
  pub all : count ≡ walk.lanes
