-- What a query answers by the way of its cell, from 7 on.
use Rattle.std.specs.Prelude.{◌≡◌, Bool, true, cond, List, ℕ, ◌<◌, replicate, Float, Result, Ok, Err}
use Rattle.std.specs.Float.Ieee.Scale.{finite}
use Rattle.rules.specs.Numbers.{plus_zero, at, any}
use Rattle.rules.specs.Sizes.{most_axes, Grid, points, knots}
use Rattle.rules.specs.Refusals.{some_number_refused, answer_refused}
use Rattle.rules.specs.Outside.{placed_on, some_outside_refused}
use Rattle.rules.specs.Query.{value_in, cell_of}
use Rattle.rules.specs.Calls.{labels_of, answer_of}
use Rattle.rules.specs.declared.Refusal.{Refusal}
use Rattle.rules.specs.Answers.{number_of, QueryAnswer}
use Rattle.axis_locate.specs.CellFound.{Rising}
use Rattle.query_answer.specs.PointsAndModes.{OfAnyAxes}
use Rattle.query_answer.specs.Ways.{by_search}
use Rattle.query_answer.specs.CellsFound.{cells_by, knots_refuse}
use Rattle.query_answer.specs.declared.searched.Refusals.{Refusals}
use Rattle.query_answer.specs.declared.ways.Way.{Way}
use Rattle.query_answer.specs.declared.ways.Way.TheVariants.{Walked, Searched, Direct, Divided}

-- the answer of a refusal: its number, and nothing but zeros beside it
abbrev pub refused_with : ℕ → QueryAnswer
refused_with refusal = record { refusal = refusal; value = plus_zero; labels = replicate most_axes 0 }

-- the answer of a value and the cell that it was worked out in
abbrev pub answer_in : Float → List ℕ → QueryAnswer
answer_in value lower = answer_of (cond (answer_refused value) 10 0) value lower

-- an answer whose labels stand in a slice, after a refusal too
abbrev pub with_labels : Result Float Refusal → List ℕ → QueryAnswer
with_labels (Ok value) labels = record { refusal = 0; value = value; labels = labels }
with_labels (Err refusal) labels = record { refusal = number_of refusal; value = plus_zero; labels = labels }

-- the refusal where knots are refused: of a walk it may be 7
abbrev pub knots_refusal : Way → List Float → ℕ
knots_refusal Walked x = cond (some_number_refused x) 7 8
knots_refusal Searched x = 8
knots_refusal Direct x = 8
knots_refusal Divided x = 8

-- the refusal by what was found on the axes: the first of 7, 8 and 18, or 0
abbrev pub refusal_found : Way → List Float → Refusals → ℕ
refusal_found way x r = cond r.coordinates 7 (cond r.knots (knots_refusal way x) (cond r.outside 18 0))

module _ (way : Way) (g : Grid) (tensor coordinates : List Float) where
  -- 8: so for an axis in use
  abbrev pub some_knots_refuse : Bool
  some_knots_refuse = any (knots_refuse way g coordinates) g.axes

  -- the value in the cells so found, at the point that the modes make of the given one
  abbrev pub value_by : Float
  value_by = value_in g tensor (cells_by way g coordinates) (placed_on g (at coordinates))

  -- the refusal, the first of 7 8 18 10 that applies
  abbrev pub refusal_by : ℕ
  refusal_by =
      cond (some_number_refused coordinates) 7
      (cond some_knots_refuse (knots_refusal way g.flat_knots)
      (cond (some_outside_refused g (at coordinates)) 18
      (cond (answer_refused value_by) 10 0)))

  -- the answer, and that on rising knots the cells of a search are those of the rules
  pub record AnswerBy (r : QueryAnswer) : Type 0 where
    pub answer : r ≡ answer_of refusal_by value_by (labels_of g (cells_by way g coordinates))
    pub rising : by_search way ≡ true → (j : ℕ) → j < g.axes → Rising (knots g j) (points g j) → finite (at coordinates j) ≡ true
        → cells_by way g coordinates j ≡ cell_of g (at coordinates) j

-- so of any axes that have these points and modes
abbrev pub AnswerAmong : Way → ℕ → List ℕ → List ℕ → List Float → List Float → List Float → QueryAnswer → Type 0
AnswerAmong way axes points modes x tensor coordinates r =
    OfAnyAxes axes points modes x (λ g. AnswerBy way g tensor coordinates r)
