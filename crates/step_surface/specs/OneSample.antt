-- The chapter OneSample of docs/RULES.md: what a change of one sample can change in the answers of a stepped surface.
use Rattle.std.specs.Prelude.{◌≡◌, false, List, ℕ, ◌<◌, length, Float}
use Rattle.rules.specs.Numbers.{at}
use Rattle.rules.specs.Sizes.{Grid, points, samples_length, Place, flat}
use Rattle.rules.specs.Refusals.{some_number_refused}
use Rattle.rules.specs.Step.{stepped_place}
use Rattle.rules.specs.StepCalls.{direction, stepped_answer}
use Rattle.rules.specs.declared.StepDirection.{StepDirection}
use Rattle.grid.specs.GridOfCall.{On}

-- two lists of finite samples, one for each place, that agree but at the changed place
pub record AllButOne (g : Grid) (changed : Place) (samples others : List Float) : Type 0 where
  pub on_grid : On g changed
  pub exact : length samples ≡ samples_length g
  pub others_exact : length others ≡ samples_length g
  pub finite : some_number_refused samples ≡ false
  pub others_finite : some_number_refused others ≡ false
  pub agree : (f : ℕ) → f < samples_length g → (f ≡ flat (points g) g.axes changed → ⊥) → at samples f ≡ at others f

-- at the same coordinates refusal and indices are the same, and so is the whole answer, unless the coordinates step to the changed place
pub record OneSample (g : Grid) (directions : List StepDirection) (coordinates : List Float) (changed : Place)
    (samples others : List Float) : Type 0 where
  pub refusal : (stepped_answer g directions samples coordinates).refusal ≡ (stepped_answer g directions others coordinates).refusal
  pub indices : (stepped_answer g directions samples coordinates).indices ≡ (stepped_answer g directions others coordinates).indices
  pub elsewhere :
      (((i : ℕ) → i < g.axes → stepped_place g (direction directions) (at coordinates) i ≡ changed i) → ⊥)
      → stepped_answer g directions samples coordinates ≡ stepped_answer g directions others coordinates
