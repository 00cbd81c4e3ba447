-- The chapter Floats of docs/RULES.md: the arithmetic of the rules, and their ends, conditions and grids read as those over any arithmetic.
use Rattle.std.specs.Prelude.{Float}
use Rattle.std.specs.Float.{nan}
use Rattle.std.specs.Float.Ieee.{neg}
use Rattle.exact_arithmetic.specs.Arithmetic.{Arithmetic}
use Rattle.rules.specs.Numbers.{◌⊕◌, ◌⊖◌, ◌⊗◌, ◌⊘◌, plus_zero, one, two, three, six, at}
use Rattle.rules.specs.declared.End.{End}
use Rattle.rules.specs.declared.End.TheVariants.{NotAKnot, FirstDerivative, SecondDerivative}
use Rattle.rules.specs.declared.Condition.{Condition}
use Rattle.rules.specs.declared.Condition.TheVariants.{Endpoints, Periodic}
use Rattle.rules.specs.Sizes as Sizes
use Rattle.exact_spline.specs.Ends as Exact
use Rattle.exact_spline.specs.Sizes as ExactSizes

-- binary64, each operation rounded once; a list gives NaN past its end
abbrev pub floats : Arithmetic
floats =
    record {
      Number = Float;
      absent = nan;
      nought = plus_zero;
      one = one;
      two = two;
      three = three;
      six = six;
      plus = ◌⊕◌;
      minus = ◌⊖◌;
      times = ◌⊗◌;
      over = ◌⊘◌;
      negative = neg;
    }

-- an end and a condition of the rules, as those over any arithmetic
abbrev pub end : End → Exact.End Float
end NotAKnot = Exact.NotAKnot
end (FirstDerivative v) = Exact.FirstDerivative v
end (SecondDerivative v) = Exact.SecondDerivative v

abbrev pub condition : Condition → Exact.Condition Float
condition (Endpoints lower upper) = Exact.Endpoints (end lower) (end upper)
condition Periodic = Exact.Periodic

-- a grid of the rules, as one over any arithmetic
abbrev pub grid : Sizes.Grid → ExactSizes.Grid floats
grid g =
    record {
      axes = g.axes;
      points = Sizes.points g;
      knots = λ i. at (Sizes.knots g i);
      condition = λ i. condition (Sizes.condition g i);
    }
