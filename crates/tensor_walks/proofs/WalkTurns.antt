-- The turns of `solve_singly`: one lane after another.
use native.Mathlib.Omega.{arith}
use mathlib.Core.Path.{◌≡◌}
use mathlib.Core.List.{List}
use Prim.Native.Nat.{ℕ, ◌+◌, ◌<◌, ◌≤◌}
use lib.Ieee.{Float}
use Rattle.rules.specs.declared.Condition.{Condition}
use Rattle.tensor_lane.specs.LaneInScratch.{LaneGiven, LaneSolved}
use Rattle.tensor_starts.specs.Walks.{lane_start, Stands, Small}
use Rattle.tensor_starts.specs.declared.Walk.{Walk}
use Rattle.tensor_starts.specs.declared.Cursor.{Cursor}
use Rattle.tensor_starts.proofs.Cursors.{stands_at}
use Rattle.tensor_walks.specs.Walked.{WalkGiven, SomeSolved, WalkSolved}
use Rattle.tensor_walks.proofs.Solved.{none_solved, solved_further}

pub record Turn (w₀ w x : List Float) (condition : Condition) (walk : Walk) (to step : ℕ) (c : Cursor) : Type 0 where
  pub given : WalkGiven w₀ x condition walk to step
  pub stands : Stands c walk
  pub most : c.lane ≤ walk.lanes
  pub done : SomeSolved w₀ w x condition walk to step 0 c.lane

module _ (w₀ x : List Float) (condition : Condition) (walk : Walk) (to step : ℕ) where
  pub turn_first : (c : Cursor) → WalkGiven w₀ x condition walk to step → (c.lane ≡ 0) × Stands c walk
      → Turn w₀ w₀ x condition walk to step c
  turn_first c given begun = record {
    given = given;
    stands = begun.1;
    most = omega (arith, begun.0);
    done = none_solved w₀ x condition walk to step c.lane begun.0;
  }

  module _ (w : List Float) (c : Cursor) (turn : Turn w₀ w x condition walk to step c) where
    given : WalkGiven w₀ x condition walk to step
    given = turn.given

    at_start : c.at ≡ lane_start walk c.lane
    at_start = stands_at c walk turn.stands

    pub inside : c.lane < walk.lanes → c.at + to < 4096
    inside less = omega (arith, given.inside c.lane less, at_start)

    pub lane_given : c.lane < walk.lanes → LaneGiven w x condition (2048 + c.at) (2048 + c.at + to) step
    lane_given less = rw at_start (given.lane w turn.done.same_length c.lane less)

    pub next_given : c.lane < walk.lanes → Stands c walk × Small walk × (c.lane ≤ 4096) × (c.at ≤ 4096)
    next_given less = (turn.stands, given.small, omega (arith, given.few), omega (arith, inside less))

    module _ (w' : List Float) (less : c.lane < walk.lanes)
        (lane : LaneSolved w w' x condition (2048 + c.at) (2048 + c.at + to) step) where
      here : LaneSolved w w' x condition (2048 + lane_start walk c.lane) (2048 + lane_start walk c.lane + to) step
      here = rw at_start at lane

      -- the lane as one of the walk's
      one_solved : SomeSolved w w' x condition walk to step c.lane (c.lane + 1)
      one_solved = record {
        same_length = here.same_length;
        slopes = λ t ge under. let is : t ≡ c.lane = omega arith in rw is here.slopes;
        kept = λ j behind none. here.kept j behind (none c.lane (omega arith) (omega arith));
      }

      pub turn_next : (r : Cursor) → (r.lane ≡ c.lane + 1) × Stands r walk → Turn w₀ w' x condition walk to step r
      turn_next r moved = record {
        given = given;
        stands = moved.1;
        most = omega (arith, moved.0);
        done =
            rw moved.0
            (solved_further w₀ w w' x condition walk to step c.lane (c.lane + 1) given turn.done one_solved
            (omega arith) (omega arith));
      }

    pub turn_last : walk.lanes ≤ c.lane → WalkSolved w₀ w x condition walk to step c.lane
    turn_last ge = record { solved = turn.done; all = omega (arith, turn.most) }
