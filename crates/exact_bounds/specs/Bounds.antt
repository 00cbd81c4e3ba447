-- The chapter Bounds of docs/RULES.md: an arithmetic whose numbers are floats, each with a bound of how far it lies from the number that
-- exact arithmetic has in its place; and what the rules give in it.
use Rattle.std.specs.Prelude.{true, cond, List, map, ℕ, T, Float}
use Rattle.std.specs.Float.{nan, binary64}
use Rattle.std.specs.Float.Ieee.{neg, fits}
use Rattle.std.specs.Float.Ieee.Scale.{finite}
use Rattle.rules.specs.Numbers as Rules
use Rattle.rules.specs.Sizes as Sizes
use Rattle.rules.specs.Tensor as RulesTensor
use Rattle.rules.specs.declared.End as Declared
use Rattle.rules.specs.declared.End.TheVariants as End
use Rattle.rules.specs.declared.Condition as DeclaredCondition
use Rattle.rules.specs.declared.Condition.TheVariants as Condition
use Rattle.exact_arithmetic.specs.Arithmetic.{Arithmetic}
use Rattle.exact_rationals.specs.Rationals.{ℚ, number, minus, over, rationals, Positive, decide_positive}
use Rattle.exact_spline.specs.Ends as Exact
use Rattle.exact_spline.specs.Sizes.{Grid}
use Rattle.exact_spline.specs.Moments.{moment}
use Rattle.exact_spline.specs.Curve.{curve_in_cell, lane_slope}
use Rattle.exact_spline.specs.Tensor.{entry}
use Rattle.exact_spline.specs.Query.{value_from}
use Rattle.exact_rounding.specs.Near.{size, share, tiny}

-- ---- how far off a result may be, over any arithmetic, by the sizes x, y of the floats it comes from and their errors e, d

module _ (A : Arithmetic) where
  infixl 60 ◌⊕◌
  infixl 60 ◌⊖◌
  infixl 70 ◌⊗◌
  infixl 70 ◌⊘◌
  open A use {Number, plus as ◌⊕◌, minus as ◌⊖◌, times as ◌⊗◌, over as ◌⊘◌}

  -- a sum or a difference of size r: a part of r beside what is off already
  abbrev pub sum_off : (part r e d : Number) → Number
  sum_off part r e d = e ⊕ d ⊕ part ⊗ r

  -- a product
  abbrev pub product_off : (u v x e y d : Number) → Number
  product_off u v x e y d = e ⊗ y ⊕ x ⊗ d ⊕ e ⊗ d ⊕ (u ⊗ (x ⊗ y) ⊕ v)

  -- a quotient of size q, whose divisor is surely not nought: d is below y
  abbrev pub quotient_off : (u v x e y d q : Number) → Number
  quotient_off u v x e y d q = (u ⊗ x ⊕ v ⊗ y ⊕ q ⊗ d ⊕ e) ⊘ (y ⊖ d)

-- ---- floats with bounds

-- nothing known, or to within e
pub data Bound : Type 0 where
  unknown : Bound
  within : ℚ → Bound

-- a float, and how far it is off at most
pub record Bounded : Type 0 where
  pub float : Float
  pub bound : Bound

-- the share u and the tiny number v of one rounding, and the part of its result that a sum may be off, u / (1 - u)
abbrev pub u : ℚ
u = share binary64

abbrev pub v : ℚ
v = tiny binary64

abbrev pub part : ℚ
part = over u (minus (number 1) u)

-- to within e where the float is finite
abbrev pub where_finite : Float → ℚ → Bound
where_finite x e = cond (finite x) (within e) unknown

-- the bound of what comes from two numbers, where both have one
abbrev pub from_both : Bound → Bound → (ℚ → ℚ → Bound) → Bound
from_both unknown c f = unknown
from_both (within e) unknown f = unknown
from_both (within e) (within d) f = f e d

-- a bound that stands where a number is positive
abbrev pub where_positive : (x : ℚ) → Dec (Positive x) → Bound → Bound
where_positive x (yes h) b = b
where_positive x (no h) b = unknown

-- a float that is given, and so is exact where it is finite
abbrev pub given : Float → Bounded
given x = record { float = x; bound = where_finite x (number 0) }

-- the rules' own sum, difference, product and quotient, each with its bound
abbrev pub bounded_sum : Bounded → Bounded → Bounded
bounded_sum a b =
    let r : Float = Rules.◌⊕◌ a.float b.float in
    record { float = r; bound = from_both a.bound b.bound (λ e d. where_finite r (sum_off rationals part (size r) e d)) }

abbrev pub bounded_difference : Bounded → Bounded → Bounded
bounded_difference a b =
    let r : Float = Rules.◌⊖◌ a.float b.float in
    record { float = r; bound = from_both a.bound b.bound (λ e d. where_finite r (sum_off rationals part (size r) e d)) }

abbrev pub bounded_product : Bounded → Bounded → Bounded
bounded_product a b =
    let r : Float = Rules.◌⊗◌ a.float b.float in
    record {
      float = r;
      bound = from_both a.bound b.bound
          (λ e d. where_finite r (product_off rationals u v (size a.float) e (size b.float) d));
    }

abbrev pub bounded_quotient : Bounded → Bounded → Bounded
bounded_quotient a b =
    let r : Float = Rules.◌⊘◌ a.float b.float in
    record {
      float = r;
      bound = from_both a.bound b.bound
          (λ e d. where_positive (minus (size b.float) d) (decide_positive (minus (size b.float) d))
          (where_finite r (quotient_off rationals u v (size a.float) e (size b.float) d (size r))));
    }

-- the arithmetic; past its end a list has NaN, of which nothing is known
abbrev pub bounded : Arithmetic
bounded =
    record {
      Number = Bounded;
      absent = given nan;
      nought = given Rules.plus_zero;
      one = given Rules.one;
      two = given Rules.two;
      three = given Rules.three;
      six = given Rules.six;
      plus = bounded_sum;
      minus = bounded_difference;
      times = bounded_product;
      over = bounded_quotient;
      negative = λ a. record { float = neg a.float; bound = a.bound };
    }

-- ---- what a call is given, and what the rules make of it there

-- an end, a condition and a grid, their numbers exact
abbrev pub given_end : Declared.End → Exact.End Bounded
given_end End.NotAKnot = Exact.NotAKnot
given_end (End.FirstDerivative x) = Exact.FirstDerivative (given x)
given_end (End.SecondDerivative x) = Exact.SecondDerivative (given x)

abbrev pub given_condition : DeclaredCondition.Condition → Exact.Condition Bounded
given_condition (Condition.Endpoints lower upper) = Exact.Endpoints (given_end lower) (given_end upper)
given_condition Condition.Periodic = Exact.Periodic

abbrev pub given_grid : Sizes.Grid → Grid bounded
given_grid g =
    record {
      axes = g.axes;
      points = Sizes.points g;
      knots = λ i k. given (Rules.at (Sizes.knots g i) k);
      condition = λ i. given_condition (Sizes.condition g i);
    }

-- the bound of moment k of the spline through samples y at n + 1 knots x
abbrev pub moment_bound : (x y : List Float) (n : ℕ) → DeclaredCondition.Condition → ℕ → Bound
moment_bound x y n c k = (moment bounded (λ i. given (Rules.at x i)) (λ i. given (Rules.at y i)) n (given_condition c) k).bound

-- the bound of its slope at knot i
abbrev pub slope_bound : (x y : List Float) (n : ℕ) → DeclaredCondition.Condition → ℕ → Bound
slope_bound x y n c i = (lane_slope bounded (λ k. given (Rules.at x k)) n (given_condition c) (map given y) i).bound

-- the bound of its value at a point, in cell i
abbrev pub curve_bound : (x y : List Float) (n : ℕ) → DeclaredCondition.Condition → ℕ → Float → Bound
curve_bound x y n c i point =
    (curve_in_cell bounded (λ k. given (Rules.at x k)) (λ k. given (Rules.at y k))
    (moment bounded (λ k. given (Rules.at x k)) (λ k. given (Rules.at y k)) n (given_condition c)) i (given point)).bound

-- the bound of the tensor's number at a place and a mask
abbrev pub entry_bound : Sizes.Grid → List Float → ℕ → Sizes.Place → Bound
entry_bound g samples mask p =
    (entry bounded (given_grid g) (λ q. given (RulesTensor.sample g samples q)) g.axes mask p).bound

-- the bound of the value at a point in a cell, from the samples by way of their tensor
abbrev pub surface_bound : Sizes.Grid → List Float → Sizes.Place → (ℕ → Float) → Bound
surface_bound g samples cells point =
    (value_from bounded (given_grid g) (λ p. given (RulesTensor.sample g samples p)) cells (λ i. given (point i))).bound

-- binary64 holds the number of an end, as it does all that a call is given; and those of a condition
abbrev pub EndFits : Declared.End → Type 0
EndFits End.NotAKnot = T true
EndFits (End.FirstDerivative x) = T (fits binary64 x)
EndFits (End.SecondDerivative x) = T (fits binary64 x)

abbrev pub ConditionFits : DeclaredCondition.Condition → Type 0
ConditionFits (Condition.Endpoints lower upper) = EndFits lower × EndFits upper
ConditionFits Condition.Periodic = T true
