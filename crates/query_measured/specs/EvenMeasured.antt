-- What was measured is read by the query of even axes too: what is asked of a grid beside a surface's, and what is then answered.
use Rattle.std.specs.Prelude.{◌≡◌, true, false, List, ℕ, ◌+◌, ◌-◌, ◌<◌, ◌≤◌, get_or, Float}
use Rattle.std.specs.Float.Ieee.{eq}
use Rattle.std.specs.Float.Ieee.Scale.{finite}
use Rattle.rules.specs.Numbers.{◌⊖◌, at}
use Rattle.rules.specs.Sizes.{Grid, points, knots, Place, spot}
use Rattle.rules.specs.Even.{some_uneven_refused}
use Rattle.rules.specs.EvenCalls.{EvenQueryPromise}
use Rattle.rules.specs.Answers.{EvenAnswer}
use Rattle.query_measured.specs.Measured.{Surface, AtPlace}

-- every axis is even, and its last knot less its first is finite
pub record EvenGrid (g : Grid) : Type 0 where
  pub even : some_uneven_refused g ≡ false
  pub wide : (i : ℕ) → i < g.axes → finite (at (knots g i) (points g i - 1) ⊖ at (knots g i) 0) ≡ true

-- the answer that reads a number at a place: no refusal, the number, −0.0 and +0.0 alike, as label a cell that the knot is an end of,
-- and nothing told of an axis
pub record EvenReads (g : Grid) (place : Place) (number : Float) (given : EvenAnswer) : Type 0 where
  pub accepted : given.refusal ≡ 0
  pub value : eq given.value number ≡ true
  pub label_from : (i : ℕ) → i < g.axes → get_or given.labels i 0 ≤ place i
  pub label_to : (i : ℕ) → i < g.axes → place i ≤ get_or given.labels i 0 + 1
  pub label_cell : (i : ℕ) → i < g.axes → get_or given.labels i 0 + 1 < points g i
  pub axis : given.axis ≡ 0
  pub interval : given.interval ≡ 0

-- in whatever modes the axes are it reads the tensor's number at mask 0 of the place
abbrev pub EvenMeasuredIsRead : Type 0
EvenMeasuredIsRead =
    (g : Grid) (tensor coordinates : List Float) (place : Place) (given : EvenAnswer)
    → Surface g tensor → EvenGrid g → AtPlace g place coordinates
    → EvenQueryPromise g tensor coordinates given → EvenReads g place (at tensor (spot g place 0)) given
