-- What the functions that are no public calls require, a sheet without a fault whose tensor is short enough, and what they give.
use Rattle.std.specs.Prelude.{◌≡◌, List, ℕ, ◌≤◌, Float, Result}
use Rattle.std.specs.Result.{IfOk}
use Rattle.rules.specs.Sizes.{tensor_length}
use Rattle.rules.specs.Answers.{refusal_of}
use Rattle.rules.specs.Calls.{or_else}
use Rattle.rules.specs.declared.Axis.{Axis}
use Rattle.rules.specs.declared.Refusal.{Refusal}
use Rattle.sheet_read.specs.Fields.{edition, axes, entries, sheet_grid}
use Rattle.sheet_read.specs.Faults.{sheet_refusal}
use Rattle.sheet_build.specs.SheetTensor.{building_refusal}
use Rattle.sheet_surface.specs.SheetSurface.{asked, surface_refusal}

-- a sheet that the reader accepts, and what it says
pub record ReadSheet (bytes : List ℕ) (said n : ℕ) (all : List Axis) : Type 0 where
  pub faultless : sheet_refusal bytes ≡ 0
  pub edition_said : said ≡ edition bytes
  pub axes_said : n ≡ axes bytes
  pub found : all ≡ entries bytes (axes bytes)

-- such a sheet whose tensor has at most so many numbers
pub record SmallSheet (most : ℕ) (bytes : List ℕ) (said n : ℕ) (all : List Axis) : Type 0 where
  pub read : ReadSheet bytes said n all
  pub small : tensor_length (sheet_grid bytes) ≤ most

-- this refusal, or else this value
pub record Gives (refusal : ℕ) (value : Float) (r : Result Float Refusal) : Type 0 where
  pub refused : refusal_of r ≡ refusal
  pub value_is : IfOk r (λ given. given ≡ value)

-- what the build of a sheet gives and then the query of its tensor
abbrev pub BuiltAndAsked : List ℕ → List ℕ → Result Float Refusal → Type 0
BuiltAndAsked bytes patterns = Gives (or_else (building_refusal bytes) (asked bytes patterns).refusal) (asked bytes patterns).value

-- what the call gives before it is told as a pattern
abbrev pub Surfaced : List ℕ → List ℕ → Result Float Refusal → Type 0
Surfaced bytes patterns = Gives (surface_refusal bytes patterns) (asked bytes patterns).value
