-- From an answer to a promise: axes that have the points and modes which were taken out of them, what is left where sizes and lengths are
-- not refused, and that these refuse nothing then.
use native.Mathlib.Omega.{arith}
use mathlib.Core.Path.{◌≡◌, refl, sym, ap, ◌∙◌}
use mathlib.Core.Logic.{◌≢◌}
use mathlib.Core.Bool.{Bool, false, cond, not}
use mathlib.Core.List.{List}
use Prim.Native.Nat.{ℕ, zero, suc, ◌*◌, ◌^◌, ◌≤◌}
use lib.ListN.{length}
use lib.Ieee.{Float}
use borrow.Author.Tests.{ltb-false, le-ltb, eq-eqb}
use Rattle.rules.specs.Numbers.{at}
use Rattle.rules.specs.Sizes.{most_in_a_tensor, Grid, points, sum_below, product_below, tensor_length, place_of}
use Rattle.rules.specs.Refusals.{points_refused, axes_refused, some_points_refused, tensor_refused, length_refused}
use Rattle.rules.specs.Outside.{some_outside_refused}
use Rattle.rules.specs.Calls.{or_else, query_lengths_refused, refusal_in_order, answer_of}
use Rattle.rules.specs.declared.Axis.{Axis}
use Rattle.rules.proofs.Refused.{or_else_met}
use Rattle.rules.proofs.Sums.{sum_ext, product_ext}
use Rattle.base_numbers.proofs.Scan.{any_never}
use Rattle.grid.specs.GridOfCall.{grid, points_of}
use Rattle.grid_checks.specs.Check.{query_sizes_rows, query_sizes_check}
use Rattle.grid_checks.proofs.Rows.{rows_then, none_applies, axes_few, in_range, exact_3}
use Rattle.query_answer.specs.PointsAndModes.{AxesOf, ModesOf, QueryFits}

-- ---- points and modes that were taken out of axes

pub axes_of : (axes : ℕ) (all : List Axis) (points modes : List ℕ) → axes ≤ 4 → place_of points ≡ points_of all → ModesOf all modes
    → AxesOf axes points modes all
axes_of axes all points modes few same are = record {
  points_are = λ i l. ap (λ (n : ℕ → ℕ). n i) (sym same);
  modes_are = λ i l. are.number i (omega arith);
}

-- ---- where sizes and lengths are not refused

module _ (axes : ℕ) (points_in modes_in : List ℕ) (x tensor coordinates : List Float) (four_points : length points_in ≡ 4)
    (four_modes : length modes_in ≡ 4) where
  pub query_fits : query_sizes_check axes (place_of points_in) (length x) (length tensor) (length coordinates) ≡ 0
      → QueryFits axes points_in modes_in x tensor coordinates
  unfolding query_sizes_check
  query_fits none =
      let n = place_of points_in in
      let rows = none_applies (query_sizes_rows axes n (length x) (length tensor) (length coordinates)) tt none in
      let few = axes_few {axes = axes} rows.0 in
      let lengths =
      exact_3 (length x) (sum_below n axes) (length tensor) (product_below n axes * 2 ^ axes) (length coordinates) axes
      rows.1.1.1.0 in
      record {
        search_fits = record {
          four_points = four_points;
          four_modes = four_modes;
          in_range = in_range few.0 few.1 rows.1.0;
          knots_exact = lengths.0;
          coordinates_exact = lengths.2;
        };
        small = ltb-false most_in_a_tensor (product_below n axes * 2 ^ axes) rows.1.1.0;
        tensor_exact = lengths.1;
      }

-- ---- they refuse nothing then

module _ (axes : ℕ) (points_in modes_in : List ℕ) (x tensor coordinates : List Float)
    (fits : QueryFits axes points_in modes_in x tensor coordinates) (all : List Axis) (are : AxesOf axes points_in modes_in all) where
  abbrev g : Grid
  g = grid axes all x

  axes_fine : axes_refused g ≡ false
  axes_fine = rw (le-ltb axes 1 fits.search_fits.in_range.some_axes, le-ltb 4 axes fits.search_fits.in_range.few_axes) refl

  points_fine : some_points_refused g ≡ false
  points_fine = any_never (λ i. points_refused (points g i)) axes λ i l.
      let same = are.points_are i l in
      rw (
        same,
        le-ltb (place_of points_in i) 2 (fits.search_fits.in_range.some_points i l),
        le-ltb 256 (place_of points_in i) (fits.search_fits.in_range.few_points i l),
      )
      refl

  products : product_below (points g) axes ≡ product_below (place_of points_in) axes
  products = product_ext (points g) (place_of points_in) axes are.points_are

  pub small : tensor_length g ≤ most_in_a_tensor
  small = rw products fits.small

  pub knots_exact : length x ≡ sum_below (points g) axes
  knots_exact = fits.search_fits.knots_exact ∙ sym (sum_ext (points g) (place_of points_in) axes are.points_are)

  pub tensor_exact : length tensor ≡ tensor_length g
  tensor_exact = rw products fits.tensor_exact

  size_fine : tensor_refused g ≡ false
  size_fine = le-ltb most_in_a_tensor (tensor_length g) small

  fine_length : {given exact : ℕ} → given ≡ exact → length_refused given exact ≡ false
  fine_length {given} {exact} e = ap not (eq-eqb given exact e)

  lengths_fine : query_lengths_refused g tensor coordinates ≡ false
  lengths_fine = rw (fine_length knots_exact, fine_length tensor_exact, fine_length fits.search_fits.coordinates_exact) refl

  -- what is looked at after 1 to 4 decides
  pub past_4 :
      (later : ℕ)
      → cond (axes_refused g) 1
      (cond (some_points_refused g) 2 (cond (tensor_refused g) 3 (cond (query_lengths_refused g tensor coordinates) 4 later)))
      ≡ later
  past_4 later = rw (axes_fine, points_fine, size_fine, lengths_fine) refl

  -- so a query's refusal begins with 7
  pub from_7 :
      (numbers cells value : Bool)
      → refusal_in_order g tensor coordinates numbers cells value
      ≡ cond numbers 7 (cond cells 8 (cond (some_outside_refused g (at coordinates)) 18 (cond value 10 0)))
  from_7 numbers cells value = past_4 _

-- ---- they do refuse

module _ (axes : ℕ) (all : List Axis) (x tensor coordinates : List Float) where
  abbrev given : Grid
  given = grid axes all x

  -- 1 to 4, and what comes after them
  abbrev sizes_then : ℕ → ℕ
  sizes_then later =
      cond (axes_refused given) 1
      (cond (some_points_refused given) 2 (cond (tensor_refused given) 3 (cond (query_lengths_refused given tensor coordinates) 4 later)))

  sizes_first : (later : ℕ)
      → sizes_then later ≡ or_else (query_sizes_check axes (points_of all) (length x) (length tensor) (length coordinates)) later
  unfolding query_sizes_check
  sizes_first later = rows_then (query_sizes_rows axes (points_of all) (length x) (length tensor) (length coordinates)) later tt

  -- where sizes or lengths are refused it is by that number, whatever comes after them
  pub sizes_refuse :
      (points_in : List ℕ) → place_of points_in ≡ points_of all → (number : ℕ)
      → number ≡ query_sizes_check axes (place_of points_in) (length x) (length tensor) (length coordinates) → number ≢ 0
      → (later : ℕ) → sizes_then later ≡ number
  sizes_refuse points_in same number is some later =
      let met : query_sizes_check axes (points_of all) (length x) (length tensor) (length coordinates) ≡ number =
      sym (is ∙ ap (λ (n : ℕ → ℕ). query_sizes_check axes n (length x) (length tensor) (length coordinates)) same) in
      sizes_first later ∙ rw met (or_else_met number later some)

-- after a refusal an answer says nothing else
pub same_refused : (refusal : ℕ) → refusal ≢ 0 → (v v' : Float) (l l' : List ℕ) → answer_of refusal v l ≡ answer_of refusal v' l'
same_refused zero some v v' l l' = absurd (some refl)
same_refused (suc refusal) some v v' l l' = refl
