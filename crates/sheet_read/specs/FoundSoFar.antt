-- What the functions that are no public calls require and ensure: that the bits they read are there, that places are small numbers, and
-- what was found so far.
use Rattle.std.specs.Prelude.{◌≡◌, List, ℕ, ◌*◌, ◌≤◌, length, Float, Result}
use Rattle.std.specs.Result.{IfOk}
use Rattle.rules.specs.Sizes.{most_axes, samples_length}
use Rattle.rules.specs.Answers.{refusal_of}
use Rattle.rules.specs.declared.Axis.{Axis}
use Rattle.rules.specs.declared.Refusal.{Refusal}
use Rattle.grid.specs.GridOfCall.{points_of, InRange}
use Rattle.sheet_read.specs.Fields.{edition, axes, axis_end, axis_begin, entries, knots_below, sheet_grid}
use Rattle.sheet_read.specs.Faults.{axes_fault, sheet_refusal}
use Rattle.sheet_read.specs.declared.axes.Walk.{Walk}

-- all of the axis that begins at bit `at`
pub record Whole (bytes : List ℕ) (at : ℕ) : Type 0 where
  pub room : axis_end bytes at ≤ 8 * length bytes
  pub small : at ≤ 131072

-- what a walk over n axes finds where none has a fault: the axes, and the bit after the last
pub record AxesFound (bytes : List ℕ) (n : ℕ) (walk : Walk) : Type 0 where
  pub all : walk.all ≡ entries bytes n
  pub end : walk.at ≡ axis_begin bytes n

-- the first fault, or else these
pub record Walked (bytes : List ℕ) (n : ℕ) (r : Result Walk Refusal) : Type 0 where
  pub fault : refusal_of r ≡ axes_fault bytes n
  pub found : IfOk r (AxesFound bytes n)

-- axes that were walked over without a fault
pub record NoFault (bytes : List ℕ) (n : ℕ) : Type 0 where
  pub few : n ≤ most_axes
  pub faultless : axes_fault bytes n ≡ 0

-- as many axes as the sheet says, and not too many
pub record Axes (bytes : List ℕ) (n : ℕ) : Type 0 where
  pub least : 1 ≤ n
  pub few : n ≤ most_axes
  pub said : n ≡ axes bytes

-- all axes were passed: n of them, up to bit `at`
pub record Ended (bytes : List ℕ) (at n : ℕ) (all : List Axis) : Type 0 where
  pub range : InRange n (points_of all)
  pub said : n ≡ axes bytes
  pub end : at ≡ axis_begin bytes n
  pub found : all ≡ entries bytes n

-- a sheet without a fault, what it says, and places for its numbers
pub record PartsRoom (bytes : List ℕ) (said_edition n : ℕ) (all : List Axis) (knots samples : List Float) : Type 0 where
  pub faultless : sheet_refusal bytes ≡ 0
  pub edition_said : said_edition ≡ edition bytes
  pub axes_said : n ≡ axes bytes
  pub found : all ≡ entries bytes (axes bytes)
  pub knots_room : length (knots_below bytes (axes bytes)) ≤ length knots
  pub samples_room : samples_length (sheet_grid bytes) ≤ length samples
