-- The chapter Exactly of docs/RULES.md: what a call is given, by its exact values, and a cell that holds a point.
use Rattle.std.specs.Prelude.{ℕ, ◌+◌, List, map, Float}
use Rattle.rules.specs.Numbers.{at}
use Rattle.rules.specs.Sizes as Sizes
use Rattle.rules.specs.declared.End as Declared
use Rattle.rules.specs.declared.End.TheVariants as End
use Rattle.rules.specs.declared.Condition as DeclaredCondition
use Rattle.rules.specs.declared.Condition.TheVariants as Condition
use Rattle.exact_rationals.specs.Rationals.{ℚ, Least, minus, rationals}
use Rattle.exact_rationals.specs.Values.{value}
use Rattle.exact_spline.specs.Ends as Exact
use Rattle.exact_spline.specs.Sizes.{Grid}

-- a list of floats as a function of the index, by exact values; and as a list of these
abbrev pub exact : List Float → ℕ → ℚ
exact l k = value (at l k)

abbrev pub values : List Float → List ℚ
values l = map value l

-- an end and a condition with the exact values of their numbers
abbrev pub exact_end : Declared.End → Exact.End ℚ
exact_end End.NotAKnot = Exact.NotAKnot
exact_end (End.FirstDerivative v) = Exact.FirstDerivative (value v)
exact_end (End.SecondDerivative v) = Exact.SecondDerivative (value v)

abbrev pub exact_condition : DeclaredCondition.Condition → Exact.Condition ℚ
exact_condition (Condition.Endpoints lower upper) = Exact.Endpoints (exact_end lower) (exact_end upper)
exact_condition Condition.Periodic = Exact.Periodic

-- a grid with the exact values of its knots and ends
abbrev pub exact_grid : Sizes.Grid → Grid rationals
exact_grid g =
    record {
      axes = g.axes;
      points = Sizes.points g;
      knots = λ i. exact (Sizes.knots g i);
      condition = λ i. exact_condition (Sizes.condition g i);
    }

-- the point lies between the knots of cell l, ends included
pub record HoldsPoint (x : ℕ → ℚ) (l : ℕ) (point : ℚ) : Type 0 where
  pub from_lower : Least (minus point (x l))
  pub to_upper : Least (minus (x (l + 1)) point)
