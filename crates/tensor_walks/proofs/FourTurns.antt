-- The turns of `solve_by_four`: a step of the walk, what four lanes are given and leave, as lanes of the walk, and one four after another.
use native.Mathlib.Omega.{arith}
use mathlib.Core.Path.{◌≡◌, refl, ap, sym, ◌∙◌}
use mathlib.Core.Logic.{⊎_elim}
use mathlib.Core.List.{List, [], ◌∷◌}
use Prim.Native.Nat.{ℕ, ◌+◌, ◌-◌, ◌*◌, ◌<◌, ◌≤◌}
use lib.ListN.{length, get_or}
use lib.Ieee.{Float}
use Rattle.rules.specs.Numbers.{at, table}
use Rattle.rules.specs.Curve.{lane_slope}
use Rattle.rules.specs.declared.Condition.{Condition}
use Rattle.tensor_starts.specs.Walks.{lane_start, Stands, Small}
use Rattle.tensor_starts.specs.declared.Walk.{Walk}
use Rattle.tensor_starts.specs.declared.Cursor.{Cursor}
use Rattle.tensor_starts.proofs.Cursors.{stands_at}
use Rattle.tensor_fours.specs.Fours.{Four, place}
use Rattle.tensor_fours.proofs.Fours.{lane, each, below_or_not}
use Rattle.tensor_plan.specs.Plans.{PlanGiven}
use Rattle.tensor_plan.specs.declared.AxisPlan.{AxisPlan}
use Rattle.tensor_plan.proofs.Plans.{still_stands}
use Rattle.tensor_four_lanes.specs.Sweeps.{Lanes, Laid}
use Rattle.tensor_four_lanes.specs.Groups.{four_slope, FourGiven}
use Rattle.tensor_four_lanes.proofs.Held.{lanes_held}
use Rattle.tensor_walks.specs.Walked.{slope_place, WalkGiven, SomeSolved, WalkSolved}
use Rattle.tensor_walks.specs.ByFour.{AxisStands, PlanKept, Walking, Onward, FourSolved}
use Rattle.tensor_walks.proofs.Solved.{none_solved, solved_further}

-- p are the places where the lanes with the numbers ts start
pub record Starts (p ts : List ℕ) (walk : Walk) : Type 0 where
  pub of_each : Four (λ l. (get_or ts l 0 < walk.lanes) × (place p l ≡ 2048 + lane_start walk (get_or ts l 0)))

-- ---- a step of the walk

-- at a lane
pub at_lane : (c : Cursor) (walk : Walk) → Stands c walk → c.lane < walk.lanes → Walking c walk
at_lane c walk stands less = record {
  number = c.lane;
  below = less;
  at_is = stands_at c walk stands;
  most = omega arith;
  not_far = omega arith;
  standing = λ before. (stands, refl);
}

module _ (c : Cursor) (walk : Walk) (walking : Walking c walk) where
  -- on to the next lane
  pub on_to_next : c.lane + 1 < walk.lanes → (r : Cursor) → (r.lane ≡ c.lane + 1) × Stands r walk → Onward c r walk
  on_to_next less r moved = record {
    walking = at_lane r walk moved.1 (omega (arith, moved.0));
    not_before = omega (arith, moved.0);
    not_far = omega (arith, moved.0);
    counted = λ before. moved.0;
  }

  -- the last is counted, and its place kept
  pub behind_last : c.lane + 1 ≡ walk.lanes → (r : Cursor) → r.lane ≡ c.lane + 1 → r.at ≡ c.at → Onward c r walk
  behind_last last r moved same = record {
    walking = record {
      number = walking.number;
      below = walking.below;
      at_is = same ∙ walking.at_is;
      most = omega arith;
      not_far = omega (arith, (walking.standing (omega arith)).1);
      standing = λ before. absurd (omega arith);
    };
    not_before = omega arith;
    not_far = omega arith;
    counted = λ before. moved;
  }

  -- the lane where c is has been passed
  pub passed : (r : Cursor) → Onward c r walk → walking.number < r.lane
  passed r on =
      ⊎_elim
      (λ before. omega (arith, (walking.standing before).1, on.counted before))
      (λ behind. omega (arith, walking.below, on.not_before))
      (below_or_not c.lane walk.lanes)

-- what a step asks for
pub onward_given :
    (w x : List Float) (condition : Condition) (walk : Walk) (to step : ℕ) → WalkGiven w x condition walk to step
    → (c : Cursor) → Walking c walk → Walking c walk × Small walk × (walk.lanes ≤ 4096) × (c.at ≤ 4096)
onward_given w x condition walk to step given c walking =
    (walking, given.small, given.few, omega (arith, given.inside walking.number walking.below, walking.at_is))

-- ---- four lanes

module _ (w x : List Float) (condition : Condition) (plan : AxisPlan) (walk : Walk) (to step : ℕ)
    (given : WalkGiven w x condition walk to step) where
  module _ (p ts : List ℕ) (starts : Starts p ts walk) where
    number_of : (l : ℕ) → l < 4 → get_or ts l 0 < walk.lanes
    number_of l lt = (lane starts.of_each l lt).0

    start_of : (l : ℕ) → l < 4 → place p l ≡ 2048 + lane_start walk (get_or ts l 0)
    start_of l lt = (lane starts.of_each l lt).1

    lies : (o : ℕ) → ((l : ℕ) → l < 4 → (k : ℕ) → k < length x → 2048 + lane_start walk (get_or ts l 0) + o + k * step < length w)
        → PlanGiven w x condition → Lanes w (length x - 1) p o step
    lies o inside axis = record {
      rows = record { room = axis.room; few = omega (arith, axis.few) };
      behind = each (λ l lt. omega (arith, start_of l lt));
      within = each (λ l lt k most.
          let some : 2 ≤ length x = (given.lane w refl (get_or ts l 0) (number_of l lt)).some_points in
          omega (arith, start_of l lt, inside l lt k (omega arith)));
    }

    pub group_given : AxisStands w x condition plan → FourGiven w x condition plan p to step
    group_given planned = record {
      axis = planned.axis;
      stands = planned.stands;
      numbers =
          lies 0 (λ l lt k less. omega (arith, (given.lane w refl (get_or ts l 0) (number_of l lt)).numbers.within k less)) planned.axis;
      slopes = lies to (λ l lt k less. (given.lane w refl (get_or ts l 0) (number_of l lt)).slopes.within k less) planned.axis;
    }

    module _ (w' : List Float) (laid : Laid w w' p to step (length x) (four_slope w x condition p step)) where
      slope_there : (l k : ℕ) → l < 4 → place p l + (to + k * step) ≡ slope_place walk to step (get_or ts l 0) k
      slope_there l k lt = omega (arith, start_of l lt)

      apart : (l m k i : ℕ) → l < 4 → m < 4 → k < length x → i < length x → place p l + (to + k * step) ≡ place p m + (to + i * step)
          → (place p l ≡ place p m) × (k ≡ i)
      apart l m k i lt lt' below below' e =
          let same = given.own (get_or ts l 0) (get_or ts m 0) k i (number_of l lt) (number_of m lt') below below'
          (sym (slope_there l k lt) ∙ e ∙ slope_there m i lt') in
          (start_of l lt ∙ ap (λ (t : ℕ). 2048 + lane_start walk t) same.0 ∙ sym (start_of m lt'), same.1)

      pub group_solved : (from stop : ℕ) → stop ≤ from + 4 → stop ≤ walk.lanes
          → ((l : ℕ) → l < 4 → from + l < walk.lanes → get_or ts l 0 ≡ from + l)
          → ((l : ℕ) → l < 4 → (from ≤ get_or ts l 0) × (get_or ts l 0 < stop))
          → SomeSolved w w' x condition walk to step from stop
      group_solved from stop few most numbered among = record {
        same_length = laid.same_length;
        slopes = λ t ge under k h.
            let lt : t - from < 4 = omega arith in
            let e : get_or ts (t - from) 0 ≡ t = numbered (t - from) lt (omega arith) ∙ (let f : from + (t - from) ≡ t = omega arith in f) in
            let f : place p (t - from) ≡ 2048 + lane_start walk t = start_of (t - from) lt ∙ ap (λ (u : ℕ). 2048 + lane_start walk u) e in
            ap (at w') (let g : slope_place walk to step t k ≡ place p (t - from) + (to + k * step) = omega (arith, f) in g)
            ∙ lanes_held w w' x condition p to step laid apart (t - from) lt k h
            ∙ ap (λ (q : ℕ). lane_slope x (length x - 1) condition (table (length x) (λ j. at w (q + j * step))) k) f;
        kept = λ j behind none. laid.kept j behind
            (λ l lt k h e. none (get_or ts l 0) (among l lt).0 (among l lt).1 k h (e ∙ slope_there l k lt));
      }

abbrev four : ℕ → ℕ → ℕ → ℕ → List ℕ
four a b c d = a ∷ b ∷ c ∷ d ∷ []

-- the lanes from c on, with the last again for those that are missing
module _
    (walk : Walk) (c c₁ c₂ c₃ : Cursor) (stands : Stands c walk) (less : c.lane < walk.lanes)
    (on₁ : Onward c c₁ walk) (on₂ : Onward c₁ c₂ walk) (on₃ : Onward c₂ c₃ walk)
  where
    pub starts :
        Starts (four (2048 + c.at) (2048 + c₁.at) (2048 + c₂.at) (2048 + c₃.at))
        (four c.lane on₁.walking.number on₂.walking.number on₃.walking.number) walk
    starts = record {
      of_each = record {
        of_0 = (less, ap (λ (q : ℕ). 2048 + q) (stands_at c walk stands));
        of_1 = (on₁.walking.below, ap (λ (q : ℕ). 2048 + q) on₁.walking.at_is);
        of_2 = (on₂.walking.below, ap (λ (q : ℕ). 2048 + q) on₂.walking.at_is);
        of_3 = (on₃.walking.below, ap (λ (q : ℕ). 2048 + q) on₃.walking.at_is);
      };
    }

    numbered :
        (l : ℕ) → l < 4 → c.lane + l < walk.lanes
        → get_or (four c.lane on₁.walking.number on₂.walking.number on₃.walking.number) l 0 ≡ c.lane + l
    numbered =
        let first = on₁.counted less in
        lane (record {
          of_0 = λ h. omega arith;
          of_1 = λ h. omega (arith, (on₁.walking.standing (omega arith)).1);
          of_2 = λ h. let second = on₂.counted (omega arith) in omega (arith, (on₂.walking.standing (omega arith)).1);
          of_3 = λ h.
              let second = on₂.counted (omega arith) in
              let third = on₃.counted (omega arith) in
              omega (arith, (on₃.walking.standing (omega arith)).1);
        })

    -- and the walk behind them
    module _ (r : Cursor) (on₄ : Onward c₃ r walk) where
      among :
          (l : ℕ) → l < 4
          → (c.lane ≤ get_or (four c.lane on₁.walking.number on₂.walking.number on₃.walking.number) l 0)
          × (get_or (four c.lane on₁.walking.number on₂.walking.number on₃.walking.number) l 0 < r.lane)
      among =
          let first = on₁.counted less in
          let second = passed c₁ walk on₁.walking c₂ on₂ in
          let third = passed c₂ walk on₂.walking c₃ on₃ in
          let fourth = passed c₃ walk on₃.walking r on₄ in
          lane (record {
            of_0 = (omega arith, omega (arith, on₂.not_before, on₃.not_before, on₄.not_before));
            of_1 = (omega (arith, on₁.walking.not_far), omega (arith, on₃.not_before, on₄.not_before));
            of_2 = (omega (arith, on₂.walking.not_far, on₂.not_before), omega (arith, on₄.not_before));
            of_3 = (omega (arith, on₃.walking.not_far, on₂.not_before, on₃.not_before), omega arith);
          })

      pub four_solved :
          (w w' x : List Float) (condition : Condition) (plan : AxisPlan) (to step : ℕ) → WalkGiven w x condition walk to step
          → Laid w w' (four (2048 + c.at) (2048 + c₁.at) (2048 + c₂.at) (2048 + c₃.at)) to step (length x)
          (four_slope w x condition (four (2048 + c.at) (2048 + c₁.at) (2048 + c₂.at) (2048 + c₃.at)) step)
          → FourSolved w w' x condition walk to step c r
      four_solved w w' x condition plan to step given laid = record {
        solved =
            group_solved w x condition plan walk to step given _ _ starts w' laid c.lane r.lane
            (omega (arith, on₁.not_far, on₂.not_far, on₃.not_far, on₄.not_far)) on₄.walking.most numbered among;
        plan = λ j below. laid.rows j (omega arith);
        some = (among 0 (omega arith)).1;
        most = on₄.walking.most;
        stands = λ before. (on₄.walking.standing before).0;
      }

-- ---- the turns

pub record Turn (w₀ w x : List Float) (condition : Condition) (plan : AxisPlan) (walk : Walk) (to step : ℕ) (c : Cursor) : Type 0 where
  pub given : WalkGiven w₀ x condition walk to step
  pub planned : AxisStands w₀ x condition plan
  pub done : SomeSolved w₀ w x condition walk to step 0 c.lane
  pub kept : PlanKept w₀ w
  pub most : c.lane ≤ walk.lanes
  pub stands : c.lane < walk.lanes → Stands c walk

module _ (w₀ x : List Float) (condition : Condition) (plan : AxisPlan) (walk : Walk) (to step : ℕ) where
  pub turn_first :
      (c : Cursor) → WalkGiven w₀ x condition walk to step → AxisStands w₀ x condition plan → (c.lane ≡ 0) × Stands c walk
      → Turn w₀ w₀ x condition plan walk to step c
  turn_first c given planned begun = record {
    given = given;
    planned = planned;
    done = none_solved w₀ x condition walk to step c.lane begun.0;
    kept = λ j below. refl;
    most = omega (arith, begun.0);
    stands = λ less. begun.1;
  }

  module _ (w : List Float) (c : Cursor) (turn : Turn w₀ w x condition plan walk to step c) where
    old : WalkGiven w₀ x condition walk to step
    old = turn.given

    pub still_given : WalkGiven w x condition walk to step
    still_given = record {
      some_inner = old.some_inner;
      some_middle = old.some_middle;
      small = old.small;
      few = old.few;
      inside = old.inside;
      lane = λ w' long t less. old.lane w' (long ∙ turn.done.same_length) t less;
      own = old.own;
      apart = old.apart;
    }

    pub still_planned : AxisStands w x condition plan
    still_planned =
        let axis = turn.planned.axis in
        record {
          axis = record { room = omega (arith, axis.room, turn.done.same_length); few = axis.few; enough = axis.enough };
          stands = still_stands w₀ w x condition plan axis turn.kept turn.planned.stands;
        }

    pub turn_next :
        (w' : List Float) (r : Cursor) → FourSolved w w' x condition walk to step c r → Turn w₀ w' x condition plan walk to step r
    turn_next w' r next = record {
      given = old;
      planned = turn.planned;
      done =
          solved_further w₀ w w' x condition walk to step c.lane r.lane old turn.done next.solved
          (omega (arith, next.some)) next.most;
      kept = λ j below. next.plan j below ∙ turn.kept j below;
      most = next.most;
      stands = next.stands;
    }

    pub turn_last : walk.lanes ≤ c.lane → WalkSolved w₀ w x condition walk to step c.lane × PlanKept w₀ w
    turn_last ge = (record { solved = turn.done; all = omega (arith, turn.most) }, turn.kept)
