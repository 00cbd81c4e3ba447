-- Four lanes of a planned axis: what their moments are computed from, and what stands once they are.
use Rattle.std.specs.Prelude.{◌≡◌, List, ℕ, ◌+◌, ◌-◌, ◌*◌, ◌<◌, ◌≤◌, length, Float}
use Rattle.rules.specs.Numbers.{at, table, ◌⊕◌, ◌⊖◌, ◌⊗◌, ◌⊘◌, six}
use Rattle.rules.specs.Ends.{dropped}
use Rattle.rules.specs.Sizes.{scratch_of_rows}
use Rattle.rules.specs.Steps.{s}
use Rattle.rules.specs.Moments.{inner, moment}
use Rattle.rules.specs.Curve.{lane_slope}
use Rattle.rules.specs.declared.End.{End}
use Rattle.rules.specs.declared.End.TheVariants.{NotAKnot, FirstDerivative, SecondDerivative}
use Rattle.rules.specs.declared.Condition.{Condition}
use Rattle.grid_scratch.specs.Layout.{plan_row_length, second_row, four_slopes, four_moments, four_blocks, row, Outside}
use Rattle.tensor_fours.specs.Fours.{in_row, place}
use Rattle.tensor_plan.specs.PlanOfEnds.{EndsGiven, EndsPlanned}
use Rattle.tensor_plan.specs.Cycle.{CyclePlanned}
use Rattle.tensor_plan.specs.Plans.{PlanGiven, PlanStands}
use Rattle.tensor_plan.specs.declared.EndsPlan.{EndsPlan}
use Rattle.tensor_plan.specs.declared.AxisPlan.{AxisPlan}
use Rattle.tensor_four_lanes.specs.Sweeps.{Lanes}

-- ---- any condition

-- lane a's numbers
abbrev pub samples : List Float → List Float → List ℕ → ℕ → ℕ → List Float
samples w x p step a = table (length x) (λ j. at w (place p a + j * step))

-- below knot `stop` lane a's row of slopes has those of y
abbrev pub SlopesOf : List Float → List Float → List Float → ℕ → ℕ → Type 0
SlopesOf w x y stop a = (k : ℕ) → k < stop → in_row w four_slopes k a ≡ s x y k

-- all slopes and moments of the four lanes stand in their blocks
pub record MomentsSolved (w w' x : List Float) (condition : Condition) (p : List ℕ) (step : ℕ) : Type 0 where
  pub same_length : length w' ≡ length w
  pub slopes : (a : ℕ) → a < 4 → SlopesOf w' x (samples w x p step a) (length x - 1) a
  pub result : (a : ℕ) → a < 4 → (k : ℕ) → k < length x
      → in_row w' four_moments k a ≡ moment x (samples w x p step a) (length x - 1) condition k
  pub kept : (j : ℕ) → Outside four_slopes (four_blocks 2) j → at w' j ≡ at w j

-- what lane a's number at knot k becomes
abbrev pub four_slope : List Float → List Float → Condition → List ℕ → ℕ → ℕ → ℕ → Float
four_slope w x condition p step k a = lane_slope x (length x - 1) condition (samples w x p step a) k

-- the plan stands, numbers lie at the places, and there is room for their slopes `to` behind them
pub record FourGiven (w x : List Float) (condition : Condition) (plan : AxisPlan) (p : List ℕ) (to step : ℕ) : Type 0 where
  pub axis : PlanGiven w x condition
  pub stands : PlanStands w x condition plan
  pub numbers : Lanes w (length x - 1) p 0 step
  pub slopes : Lanes w (length x - 1) p to step

-- ---- two ends

-- the right side of an end's row, from steps and slopes as they stand in the scratch
unfoldable pub lower_right : List Float → End → ℕ → Float
lower_right w NotAKnot a = at w 1 ⊗ (six ⊗ (in_row w four_slopes 1 a ⊖ in_row w four_slopes 0 a))
lower_right w (FirstDerivative v) a = six ⊗ (in_row w four_slopes 0 a ⊖ v)
lower_right w (SecondDerivative v) a = v

unfoldable pub upper_right : List Float → ℕ → End → ℕ → Float
upper_right w n NotAKnot a = at w (n - 2) ⊗ (six ⊗ (in_row w four_slopes (n - 1) a ⊖ in_row w four_slopes (n - 2) a))
upper_right w n (FirstDerivative v) a = six ⊗ (v ⊖ in_row w four_slopes (n - 1) a)
upper_right w n (SecondDerivative v) a = v

-- the outermost moment by its neighbours where its end dropped it, else as it stands
unfoldable pub lower_moment : List Float → End → ℕ → Float
lower_moment w NotAKnot a = ((at w 0 ⊕ at w 1) ⊗ in_row w four_moments 1 a ⊖ at w 0 ⊗ in_row w four_moments 2 a) ⊘ at w 1
lower_moment w (FirstDerivative v) a = in_row w four_moments 0 a
lower_moment w (SecondDerivative v) a = in_row w four_moments 0 a

unfoldable pub upper_moment : List Float → ℕ → End → ℕ → Float
upper_moment w n NotAKnot a =
    ((at w (n - 2) ⊕ at w (n - 1)) ⊗ in_row w four_moments (n - 1) a ⊖ at w (n - 1) ⊗ in_row w four_moments (n - 2) a) ⊘ at w (n - 2)
upper_moment w n (FirstDerivative v) a = in_row w four_moments n a
upper_moment w n (SecondDerivative v) a = in_row w four_moments n a

-- the plan stands, and numbers lie at the places
pub record EndsGroup (w x : List Float) (lower upper : End) (plan : EndsPlan) (p : List ℕ) (step : ℕ) : Type 0 where
  pub axis : EndsGiven w x lower upper
  pub planned : EndsPlanned w x lower upper plan
  pub numbers : Lanes w (length x - 1) p 0 step

-- all slopes, and the moments that the rows give, from the first knot that is not dropped on
pub record InnerSolved (w w' x : List Float) (lower upper : End) (p : List ℕ) (step : ℕ) : Type 0 where
  pub same_length : length w' ≡ length w
  pub slopes : (a : ℕ) → a < 4 → SlopesOf w' x (samples w x p step a) (length x - 1) a
  pub result : (a : ℕ) → a < 4 → (j : ℕ) → j ≤ length x - 1 - dropped lower - dropped upper
      → in_row w' four_moments (dropped lower + j) a ≡ inner x (samples w x p step a) (length x - 1) lower upper j
  pub kept : (j : ℕ) → Outside four_slopes (four_blocks 2) j → at w' j ≡ at w j

-- and there is room for the slopes `to` behind the numbers
pub record EndsFour (w x : List Float) (lower upper : End) (plan : EndsPlan) (p : List ℕ) (to step : ℕ) : Type 0 where
  pub rows : EndsGroup w x lower upper plan p step
  pub slopes : Lanes w (length x - 1) p to step

-- ---- periodic

-- the plan stands, and numbers lie at the places
pub record CycleGroup (w x : List Float) (ratio rest : Float) (p : List ℕ) (step : ℕ) : Type 0 where
  pub room : scratch_of_rows ≤ length w
  pub few : length x ≤ plan_row_length
  pub enough : 3 ≤ length x
  pub planned : CyclePlanned w x ratio rest
  pub numbers : Lanes w (length x - 1) p 0 step

-- the first n rows less each lane's factor times z
pub record Subtracted (w w' : List Float) (n : ℕ) (factor : List Float) : Type 0 where
  pub same_length : length w' ≡ length w
  pub result : (l : ℕ) → l < 4 → (k : ℕ) → k < n → in_row w' four_moments k l ≡ in_row w four_moments k l ⊖ at factor l ⊗ row w second_row k
  pub later : (l : ℕ) → l < 4 → (k : ℕ) → n ≤ k → in_row w' four_moments k l ≡ in_row w four_moments k l
  pub kept : (j : ℕ) → Outside four_moments (four_blocks 1) j → at w' j ≡ at w j
