-- The cell of a point on one axis by each way, and what is refused by 8 there.
use Rattle.std.specs.Prelude.{◌≡◌, Bool, true, false, List, ℕ, ◌+◌, ◌-◌, ◌<◌, length, Float}
use Rattle.std.specs.Float.Ieee.Scale.{finite}
use Rattle.rules.specs.Numbers.{at}
use Rattle.rules.specs.Steps.{h}
use Rattle.rules.specs.Refusals.{knots_refused, found_cell_refused}
use Rattle.rules.specs.Locate.{locate}
use Rattle.rules.specs.Search.{lower_index}
use Rattle.rules.specs.Even.{direct_cell}
use Rattle.axis_locate.specs.CellFound.{Rising}
use Rattle.query_answer.specs.declared.ways.Way.{Way}
use Rattle.query_answer.specs.declared.ways.Way.TheVariants.{Walked, Searched, Direct, Divided}

-- the cell by one division, of the knots of an axis
abbrev pub direct_cell_in : List Float → Float → ℕ
direct_cell_in x p = direct_cell (at x 0) (h x 0) (length x) p

-- the cell of a point that its mode has placed elsewhere
abbrev pub cell_on : Way → List Float → Float → Float → ℕ
cell_on Walked x p placed = lower_index x p
cell_on Searched x p placed = lower_index x p
cell_on Direct x p placed = direct_cell_in x placed
cell_on Divided x p placed = direct_cell_in x placed

-- whether a way is by the search
abbrev pub by_search : Way → Bool
by_search Walked = true
by_search Searched = true
by_search Direct = false
by_search Divided = false

-- the cell of a point: on rising knots the search finds that of the rules
pub record CellOn (way : Way) (knots : List Float) (point placed : Float) (cell : ℕ) : Type 0 where
  pub found : cell ≡ cell_on way knots point placed
  pub inside : cell + 1 < length knots
  pub rising : by_search way ≡ true → {n : ℕ} → Rising knots n → finite point ≡ true → cell ≡ locate knots (n - 1) point

-- 8 of the knots of an axis, where l is the cell
abbrev pub knots_refused_by : Way → List Float → ℕ → Bool
knots_refused_by Walked x l = knots_refused x (length x)
knots_refused_by Searched x l = found_cell_refused x l
knots_refused_by Direct x l = false
knots_refused_by Divided x l = found_cell_refused x l
