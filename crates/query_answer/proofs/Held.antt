-- What hold comes to in every query: the axes with extend for hold, asked at the coordinates with each outside replaced by the nearest end
-- knot, give the same whole answer wherever they evaluate the same cells.
use native.Mathlib.Omega.{arith}
use mathlib.Core.Path.{◌≡◌, refl, sym, ap, ◌∙◌}
use mathlib.Core.Bool.{Bool, true, false, not, cond, ◌||◌}
use mathlib.Core.List.{List, [], ◌∷◌}
use Prim.Native.Nat.{ℕ, zero, suc, ◌-◌, ◌<◌}
use lib.ListN.{length, get_or}
use lib.Ieee.{Float, nan}
use lib.Ieee.Scale.{finite}
use borrow.Author.Tests.{not-false}
use Rattle.rules.specs.Numbers.{at, any}
use Rattle.rules.specs.Sizes.{unused_axis, Grid, points, knots, knots_length, tensor_length, Place}
use Rattle.rules.specs.Refusals.{
  axes_refused,
  some_points_refused,
  tensor_refused,
  number_refused,
  some_number_refused,
  some_knots_refused,
  answer_refused,
}
use Rattle.rules.specs.Outside.{
  mode_at,
  side,
  nearest,
  placed,
  placed_on,
  outside_refused,
  some_outside_refused,
  released,
  let_go,
  replaced,
  with_axes,
  ButForModes,
}
use Rattle.rules.specs.Query.{value_in}
use Rattle.rules.specs.Calls.{labels_of, query_lengths_refused}
use Rattle.rules.specs.declared.Axis.{Axis}
use Rattle.rules.specs.declared.Mode.{Mode}
use Rattle.rules.specs.declared.Mode.TheVariants.{Extend, Hold, Refuse}
use Rattle.rules.specs.declared.Side.{Side}
use Rattle.rules.specs.declared.Side.TheVariants.{Below, Inside, Above}
use Rattle.rules.proofs.Tables.{length_table, at_table}
use Rattle.rules.proofs.Places.{One}
use Rattle.rules.proofs.Cells.{value_in_ext, value_at_ext, labels_ext}
use Rattle.rules.proofs.Refused.{any_ext}
use Rattle.rules.proofs.WithoutModes.{
  knots_same,
  points_refused_same,
  knots_length_same,
  tensor_length_same,
  knots_refused_same,
  value_without_modes,
}
use Rattle.rules.proofs.Modes.{in_order}
use Rattle.base_numbers.proofs.Scan.{any_at, any_never}
use Rattle.grid.specs.GridOfCall.{InRange}
use Rattle.grid.proofs.Knots.{knots_of_axis}
use Rattle.grid_checks.proofs.Rows.{axes_few, in_range, exact_3}
use Rattle.query_answer.proofs.Accepted.{axis_numbers}

-- ---- one axis

-- each axis of the list keeps all but its mode, which gives way to its own
let_go_at :
    (all : List Axis) (i : ℕ)
    → ((get_or (let_go all) i unused_axis).points ≡ (get_or all i unused_axis).points)
    × ((get_or (let_go all) i unused_axis).condition ≡ (get_or all i unused_axis).condition)
    × ((get_or (let_go all) i unused_axis).mode ≡ released (get_or all i unused_axis).mode)
let_go_at [] i = (refl, refl, refl)
let_go_at (axis ∷ rest) zero = (refl, refl, refl)
let_go_at (axis ∷ rest) (suc i) = let_go_at rest i

module _ (knots : List Float) (point : Float) where
  -- extend and refuse leave a point where it is
  stays : (mode : Mode) (other : Float) → placed (released mode) knots other ≡ other
  stays Extend other = refl
  stays Hold other = refl
  stays Refuse other = refl

  -- 18 is as it was: only refuse has it, which replaces nothing
  refused_as_before :
      (mode : Mode)
      → outside_refused mode (side knots point) ≡ outside_refused (released mode) (side knots (placed mode knots point))
  refused_as_before Extend = refl
  refused_as_before Hold = refl
  refused_as_before Refuse = refl

  -- what holds of the end knots and of the point holds of what stands for it
  module _ (P : Float → Type 0) (first : P (at knots 0)) (last : P (at knots (length knots - 1))) (here : P point) where
    nearest_has : (s : Side) → P (nearest s knots point)
    nearest_has Below = first
    nearest_has Inside = here
    nearest_has Above = last

    pub placed_has : (mode : Mode) → P (placed mode knots point)
    placed_has Extend = here
    placed_has Hold = nearest_has (side knots point)
    placed_has Refuse = here

-- ---- the axes let go, and the coordinates that are asked of them

module _ (g : Grid) where
  abbrev pub let_go_grid : Grid
  let_go_grid = with_axes g (let_go g.entries)

  pub but_for_modes : ButForModes g (let_go g.entries)
  but_for_modes = record {
    same_points = λ i. sym (let_go_at g.entries i).0;
    same_condition = λ i. sym (let_go_at g.entries i).1;
  }

  mode_there : (i : ℕ) → mode_at let_go_grid i ≡ released (mode_at g i)
  mode_there i = (let_go_at g.entries i).2

  knots_there : (i : ℕ) → knots g i ≡ knots let_go_grid i
  knots_there = knots_same g (let_go g.entries) but_for_modes

module _ (g : Grid) (coordinates : List Float) where
  pub as_many : length (replaced g coordinates) ≡ length coordinates
  as_many = length_table (length coordinates) (placed_on g (at coordinates))

  module _ (i : ℕ) (l : i < length coordinates) where
    pub replaced_at : at (replaced g coordinates) i ≡ placed_on g (at coordinates) i
    replaced_at = at_table (length coordinates) (placed_on g (at coordinates)) i nan l

    -- the value is worked out at the same point, and 18 is as it was
    pub same_point : placed_on g (at coordinates) i ≡ placed_on (let_go_grid g) (at (replaced g coordinates)) i
    same_point = rw (mode_there g i, replaced_at) (sym (stays (knots (let_go_grid g) i) (at coordinates i) (mode_at g i) _))

    same_outside :
        outside_refused (mode_at g i) (side (knots g i) (at coordinates i))
        ≡ outside_refused (mode_at (let_go_grid g) i) (side (knots (let_go_grid g) i) (at (replaced g coordinates) i))
    same_outside = rw (← knots_there g i, mode_there g i, replaced_at) (refused_as_before (knots g i) (at coordinates i) (mode_at g i))

-- ---- what the tests leave

-- what 1 2 3 4, and 7 for knots, leave of a grid and its coordinates
pub record Stands (g : Grid) (coordinates : List Float) : Type 0 where
  pub range : InRange g.axes (points g)
  pub knots_exact : length g.flat_knots ≡ knots_length g
  pub count : length coordinates ≡ g.axes
  pub numbers : some_number_refused g.flat_knots ≡ false

pub stands_then :
    (g : Grid) (tensor coordinates : List Float) → axes_refused g ≡ false → some_points_refused g ≡ false
    → query_lengths_refused g tensor coordinates ≡ false → some_number_refused g.flat_knots ≡ false → Stands g coordinates
stands_then g tensor coordinates few fine long numbers =
    let some = axes_few {axes = g.axes} few in
    let lengths =
    exact_3 (length g.flat_knots) (knots_length g) (length tensor) (tensor_length g) (length coordinates) g.axes long in
    record { range = in_range some.0 some.1 fine; knots_exact = lengths.0; count = lengths.2; numbers = numbers }

module _ (g : Grid) (coordinates : List Float) (finite_point : some_number_refused coordinates ≡ false)
    (stands : Stands g coordinates) where
  module _ (i : ℕ) (l : i < g.axes) where
    pub point_finite : finite (at coordinates i) ≡ true
    point_finite =
        not-false _ (any_at (λ j. number_refused (at coordinates j)) (length coordinates) finite_point i (omega (arith, stands.count)))

    knot_finite : (k : ℕ) → k < length (knots g i) → finite (at (knots g i) k) ≡ true
    knot_finite k h =
        not-false _
        (any_at (λ j. number_refused (at (knots g i) j)) (length (knots g i))
        (axis_numbers g stands.knots_exact stands.numbers i l) k h)

    number_there : number_refused (at (replaced g coordinates) i) ≡ false
    number_there =
        let some = stands.range.some_points i l in
        let count = knots_of_axis g stands.knots_exact i l in
        rw (replaced_at g coordinates i (omega (arith, stands.count)))
        (ap not (placed_has (knots g i) (at coordinates i) (λ (v : Float). finite v ≡ true)
        (knot_finite 0 (omega (arith, some, count)))
        (knot_finite (length (knots g i) - 1) (omega (arith, some, count)))
        point_finite (mode_at g i)))

  none_infinite : any (λ i. number_refused (at (replaced g coordinates) i)) (length coordinates) ≡ false
  none_infinite =
      any_never (λ i. number_refused (at (replaced g coordinates) i)) (length coordinates)
      (λ i l. number_there i (omega (arith, stands.count)))

  same_18 : some_outside_refused g (at coordinates) ≡ some_outside_refused (let_go_grid g) (at (replaced g coordinates))
  same_18 =
      any_ext (λ i. outside_refused (mode_at g i) (side (knots g i) (at coordinates i)))
      (λ i. outside_refused (mode_at (let_go_grid g) i) (side (knots (let_go_grid g) i) (at (replaced g coordinates) i))) g.axes
      (λ i l. same_outside g coordinates i (omega (arith, stands.count)))

-- ---- the whole answer, of which a refusal leaves nothing but its number

module _ {A : Type 0} (answer : ℕ → Float → List ℕ → A)
    (refused_alike : (n : ℕ) (v v' : Float) (l l' : List ℕ) → answer (suc n) v l ≡ answer (suc n) v' l') where
  past :
      (test : Bool) (n : ℕ) {later later' : ℕ} {v v' : Float} {l l' : List ℕ}
      → (test ≡ false → answer later v l ≡ answer later' v' l')
      → answer (cond test (suc n) later) v l ≡ answer (cond test (suc n) later') v' l'
  past true n rest = refused_alike n _ _ _ _
  past false n rest = rest refl

  module _ (g : Grid) (tensor coordinates : List Float) (finite_point : some_number_refused coordinates ≡ false) (uneven : Bool)
      (cells cells_there : Place) (agree : Stands g coordinates → some_knots_refused g ≡ false → One g.axes cells cells_there) where
    abbrev value : Float
    value = value_in g tensor cells (placed_on g (at coordinates))

    abbrev value_there : Float
    value_there = value_in (let_go_grid g) tensor cells_there (placed_on (let_go_grid g) (at (replaced g coordinates)))

    module _ (stands : Stands g coordinates) (rise : some_knots_refused g ≡ false) where
      same_value : value ≡ value_there
      same_value =
          value_in_ext g tensor cells cells_there _ (agree stands rise)
          ∙ value_at_ext g tensor cells_there _ _ (λ i l. same_point g coordinates i (omega (arith, stands.count)))
          ∙ value_without_modes g (let_go g.entries) (but_for_modes g) tensor cells_there _

      same_labels : labels_of g cells ≡ labels_of (let_go_grid g) cells_there
      same_labels = labels_ext g cells cells_there (agree stands rise)

    -- what is looked for from 21 on, here and there
    abbrev later : ℕ
    later = cond uneven 21 (cond (some_outside_refused g (at coordinates)) 18 (cond (answer_refused value) 10 0))

    abbrev later_there : ℕ
    later_there =
        cond uneven 21
        (cond (some_outside_refused (let_go_grid g) (at (replaced g coordinates))) 18 (cond (answer_refused value_there) 10 0))

    from_21 :
        Stands g coordinates → some_knots_refused g ≡ false
        → answer later value (labels_of g cells) ≡ answer later_there value_there (labels_of (let_go_grid g) cells_there)
    from_21 stands rise =
        rw (same_18 g coordinates finite_point stands, same_value stands rise, same_labels stands rise) refl

    from_7 :
        (infinite : Bool) → (infinite ≡ false → Stands g coordinates)
        → answer (cond (infinite || some_number_refused coordinates) 7 (cond (some_knots_refused g) 8 later)) value (labels_of g cells)
        ≡ answer
        (cond (infinite || any (λ i. number_refused (at (replaced g coordinates) i)) (length coordinates)) 7
        (cond (some_knots_refused g) 8 later_there))
        value_there (labels_of (let_go_grid g) cells_there)
    from_7 true stands = refused_alike 6 _ _ _ _
    from_7 false stands =
        rw (finite_point, none_infinite g coordinates finite_point (stands refl))
        (past (some_knots_refused g) 7 (from_21 (stands refl)))

    pub held_as_extended :
        answer
        (in_order g tensor coordinates (some_number_refused g.flat_knots || some_number_refused coordinates)
        (some_knots_refused g) uneven (answer_refused value))
        value (labels_of g cells)
        ≡ answer
        (in_order (let_go_grid g) tensor (replaced g coordinates)
        (some_number_refused g.flat_knots || some_number_refused (replaced g coordinates))
        (some_knots_refused (let_go_grid g)) uneven (answer_refused value_there))
        value_there (labels_of (let_go_grid g) cells_there)
    held_as_extended =
        rw (
          as_many g coordinates,
          ← points_refused_same g (let_go g.entries) (but_for_modes g),
          ← tensor_length_same g (let_go g.entries) (but_for_modes g),
          ← knots_length_same g (let_go g.entries) (but_for_modes g),
          ← knots_refused_same g (let_go g.entries) (but_for_modes g),
        )
        (past (axes_refused g) 0 λ few.
        past (some_points_refused g) 1 λ fine.
        past (tensor_refused g) 2 λ small.
        past (query_lengths_refused g tensor coordinates) 3 λ long.
        from_7 (some_number_refused g.flat_knots) (stands_then g tensor coordinates few fine long))
