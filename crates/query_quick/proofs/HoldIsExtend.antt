-- Hold is extend at the nearest end knot: at finite coordinates the whole answer of the query with hold on some axes, labels too, is the
-- one with extend there and the coordinates outside replaced. So for the quick query, on knots that the query accepts.
use native.Mathlib.Omega.{arith}
use mathlib.Core.Path.{◌≡◌, refl, sym, ap, ◌∙◌}
use mathlib.Core.Bool.{false}
use mathlib.Core.List.{List}
use Prim.Native.Nat.{◌-◌}
use lib.Dec.{T}
use lib.ListN.{length}
use lib.Ieee.{Float, binary64, fits}
use Rattle.rules.specs.Numbers.{at}
use Rattle.rules.specs.Sizes.{Grid, points, knots, Place}
use Rattle.rules.specs.Refusals.{some_number_refused, knots_refused, some_knots_refused}
use Rattle.rules.specs.Locate.{locate}
use Rattle.rules.specs.Outside.{mode_at, placed, placed_on, let_go, replaced}
use Rattle.rules.specs.Query.{cell_of, query_in_modes}
use Rattle.rules.specs.Calls.{answer_of, labels, query_refusal, query_answer, quick_query_answer}
use Rattle.rules.specs.declared.Mode.{Mode}
use Rattle.rules.specs.declared.Mode.TheVariants.{Extend, Hold, Refuse}
use Rattle.rules.proofs.Places.{One}
use Rattle.rules.proofs.WithoutModes.{knots_refused_same, cell_without_modes}
use Rattle.base_numbers.proofs.Scan.{any_at}
use Rattle.base_floats.specs.Place.{AllFit}
use Rattle.axis_locate.proofs.Among.{cell_of_nearest}
use Rattle.query_answer.proofs.Accepted.{rising_on_axis}
use Rattle.query_answer.proofs.Held.{placed_has, let_go_grid, but_for_modes, replaced_at, Stands, point_finite, held_as_extended}
use Rattle.query_quick.proofs.QuickIsFull.{axis_fits, table_fits, quick_is_full}

-- the coordinates replaced are such as an f64 holds
replaced_fit : (g : Grid) (coordinates : List Float) → AllFit g.flat_knots → AllFit coordinates → AllFit (replaced g coordinates)
replaced_fit g coordinates knots_fit coordinates_fit =
    table_fits (length coordinates) (placed_on g (at coordinates))
    (λ i. placed_has (knots g i) (at coordinates i) (λ (v : Float). T (fits binary64 v))
    (axis_fits g knots_fit i 0) (axis_fits g knots_fit i (length (knots g i) - 1)) (coordinates_fit i) (mode_at g i))

module _ (g : Grid) (tensor coordinates : List Float) (knots_fit : AllFit g.flat_knots) (coordinates_fit : AllFit coordinates)
    (finite_point : some_number_refused coordinates ≡ false) where
  -- a held point lies in the cell of the nearest end knot, on knots that rise
  same_cell :
      Stands g coordinates → some_knots_refused g ≡ false
      → One g.axes (cell_of g (at coordinates)) (cell_of (let_go_grid g) (at (replaced g coordinates)))
  unfolding cell_of
  same_cell stands rise i l =
      sym (rw (replaced_at g coordinates i (omega (arith, stands.count))) (go (mode_at g i)))
      ∙ ap (λ (cells : Place). cells i) (cell_without_modes g (let_go g.entries) (but_for_modes g) (at (replaced g coordinates)))
    where
      go : (mode : Mode)
          → locate (knots g i) (points g i - 1) (placed mode (knots g i) (at coordinates i))
          ≡ locate (knots g i) (points g i - 1) (at coordinates i)
      go Extend = refl
      go Hold =
          cell_of_nearest (knots g i) (points g i)
          (rising_on_axis g stands.knots_exact stands.numbers i l
          (any_at (λ j. knots_refused (knots g j) (points g j)) g.axes rise i l))
          (axis_fits g knots_fit i) (stands.range.some_points i l) (at coordinates i)
          (record { fits = coordinates_fit i; finite = point_finite g coordinates finite_point stands i l })
      go Refuse = refl

  pub hold_is_extend_at_the_nearest : query_answer g tensor coordinates ≡ query_answer (let_go_grid g) tensor (replaced g coordinates)
  unfolding query_answer query_refusal query_in_modes labels
  hold_is_extend_at_the_nearest =
      held_as_extended answer_of (λ n v v' l l'. refl) g tensor coordinates finite_point false
      (cell_of g (at coordinates)) (cell_of (let_go_grid g) (at (replaced g coordinates))) same_cell

  pub quick_hold_is_extend_at_the_nearest :
      some_number_refused g.flat_knots ≡ false → some_knots_refused g ≡ false
      → quick_query_answer g tensor coordinates ≡ quick_query_answer (let_go_grid g) tensor (replaced g coordinates)
  quick_hold_is_extend_at_the_nearest numbers rise =
      quick_is_full g tensor coordinates knots_fit coordinates_fit numbers rise
      ∙ hold_is_extend_at_the_nearest
      ∙ sym (quick_is_full (let_go_grid g) tensor (replaced g coordinates) knots_fit
      (replaced_fit g coordinates knots_fit coordinates_fit) numbers
      (sym (knots_refused_same g (let_go g.entries) (but_for_modes g)) ∙ rise))
