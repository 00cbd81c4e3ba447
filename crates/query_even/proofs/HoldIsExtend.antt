-- Hold is extend at the nearest end knot: at finite coordinates the whole answer of the query of even axes with hold on some axes, labels,
-- axis and interval too, is the one with extend there and the coordinates outside replaced. The knots may be any.
use native.Mathlib.Omega.{arith}
use mathlib.Core.Path.{◌≡◌, refl, ap, ◌∙◌}
use mathlib.Core.Bool.{false}
use mathlib.Core.List.{List}
use lib.Ieee.{Float}
use Rattle.rules.specs.Numbers.{at}
use Rattle.rules.specs.Sizes.{Grid, points, knots, Place}
use Rattle.rules.specs.Steps.{h}
use Rattle.rules.specs.Refusals.{some_number_refused}
use Rattle.rules.specs.Outside.{placed_on, let_go, replaced}
use Rattle.rules.specs.Even.{some_uneven_refused, uneven_axis, uneven_interval, direct_cell, direct_cell_of}
use Rattle.rules.specs.Query.{even_cell_of, even_query}
use Rattle.rules.specs.EvenCalls.{even_answer_of, even_query_refusal, even_labels, even_query_answer}
use Rattle.rules.proofs.Places.{One}
use Rattle.rules.proofs.WithoutModes.{uneven_refused_same, uneven_axis_same, uneven_interval_same, direct_cell_without_modes}
use Rattle.query_answer.proofs.Held.{let_go_grid, but_for_modes, same_point, Stands, held_as_extended}

module _ (g : Grid) (tensor coordinates : List Float) (finite_point : some_number_refused coordinates ≡ false) where
  -- hold has moved the point before its cell is found
  same_cell :
      Stands g coordinates → One g.axes (even_cell_of g (at coordinates)) (even_cell_of (let_go_grid g) (at (replaced g coordinates)))
  unfolding even_cell_of direct_cell_of
  same_cell stands i l =
      ap (direct_cell (at (knots g i) 0) (h (knots g i) 0) (points g i)) (same_point g coordinates i (omega (arith, stands.count)))
      ∙ ap (λ (cells : Place). cells i)
      (direct_cell_without_modes g (let_go g.entries) (but_for_modes g) (placed_on (let_go_grid g) (at (replaced g coordinates))))

  pub even_hold_is_extend_at_the_nearest :
      even_query_answer g tensor coordinates ≡ even_query_answer (let_go_grid g) tensor (replaced g coordinates)
  unfolding even_query_answer even_query_refusal even_query even_labels
  even_hold_is_extend_at_the_nearest =
      rw (
        ← uneven_interval_same g (let_go g.entries) (but_for_modes g),
        ← uneven_axis_same g (let_go g.entries) (but_for_modes g),
        ← uneven_refused_same g (let_go g.entries) (but_for_modes g),
      )
      (held_as_extended (λ refusal value labels. even_answer_of refusal value labels (uneven_axis g) (uneven_interval g))
      (λ n v v' l l'. refl) g tensor coordinates finite_point (some_uneven_refused g)
      (even_cell_of g (at coordinates)) (even_cell_of (let_go_grid g) (at (replaced g coordinates)))
      (λ stands rise. same_cell stands))
