-- What was measured is read by the query of even axes, from its promise: the direct cell of a knot ends or begins there.
use native.Mathlib.Omega.{arith}
use mathlib.Core.Path.{◌≡◌, refl, ◌∙◌}
use mathlib.Core.List.{List}
use mathlib.Core.Bool.{cond}
use Prim.Native.Nat.{ℕ, ◌+◌, ◌<◌}
use lib.Dec.{ltb}
use lib.ListN.{length, get_or}
use lib.Ieee.{Float}
use borrow.Author.Tests.{lt-ltb}
use Rattle.rules.specs.Numbers.{at}
use Rattle.rules.specs.Sizes.{most_axes, Grid, points, knots, knots_length, tensor_length, Place, spot}
use Rattle.rules.specs.Steps.{h}
use Rattle.rules.specs.Outside.{placed_on}
use Rattle.rules.specs.Even.{direct_cell_of, uneven_refused}
use Rattle.rules.specs.Query.{value_in, even_cell_of, even_query}
use Rattle.rules.specs.EvenCalls.{even_query_refusal, even_labels, even_query_answer}
use Rattle.rules.specs.Answers.{EvenAnswer}
use Rattle.rules.proofs.Cells.{value_at_ext}
use Rattle.rules.proofs.EvenAxes.{direct_cell_inside}
use Rattle.rules.proofs.Modes.{AtEase, none_outside, within}
use Rattle.rules.proofs.Tables.{at_table}
use Rattle.base_numbers.proofs.Scan.{any_at}
use Rattle.base_floats.specs.Place.{Real}
use Rattle.base_floats.specs.Zeros.{Equal}
use Rattle.base_floats.proofs.Equals.{equal_finite, equal_eq}
use Rattle.axis_even.proofs.Cells.{HasEnd}
use Rattle.axis_even.proofs.DirectCells.{EvenAxis, direct_cell_at_knot}
use Rattle.grid_checks.proofs.Rows.{length_fits}
use Rattle.query_measured.specs.Measured.{Surface, AtPlace}
use Rattle.query_measured.specs.EvenMeasured.{EvenGrid, EvenReads, EvenMeasuredIsRead}
use Rattle.query_measured.proofs.Knots.{real}
use Rattle.query_measured.proofs.Surfaces.{range, axis_knots}
use Rattle.query_measured.proofs.InCells.{Beside, equal_in_cells, place_real}
use Rattle.query_measured.proofs.Measured.{coordinate_real, coordinates_finite, inside}

module _
    (g : Grid) (tensor coordinates : List Float) (place : Place) (S : Surface g tensor) (E : EvenGrid g) (A : AtPlace g place coordinates)
  where
    -- no mode moves or refuses a coordinate
    ease : AtEase g tensor coordinates
    ease = within g tensor coordinates (inside g tensor coordinates place S A)

    -- ---- the cells: each has the knot for an end

    even_axis : (i : ℕ) → i < g.axes → EvenAxis (knots g i) (points g i)
    even_axis i l =
        let K = axis_knots g tensor S i l in
        record {
          some = K.some;
          few = (range g tensor S).few_points i l;
          real = real (knots g i) (points g i) K;
          rise = K.rising.rise;
          steps = K.steps;
          even = any_at (λ j. uneven_refused (knots g j) (points g j)) g.axes E.even i l;
          wide = E.wide i l;
        }

    cell_at : (i : ℕ) → i < g.axes → HasEnd (even_cell_of g (at coordinates) i) (place i)
    unfolding even_cell_of direct_cell_of
    cell_at i l =
        rw (ease.stays i l)
        (direct_cell_at_knot (knots g i) (points g i) (even_axis i l) (at coordinates i)
        (coordinate_real g tensor coordinates place S A i l) (place i) (A.on_grid i l) (A.equal i l))

    cell_inside : (i : ℕ) → i < g.axes → even_cell_of g (at coordinates) i + 1 < points g i
    unfolding even_cell_of direct_cell_of
    cell_inside i l =
        let K = axis_knots g tensor S i l in
        omega (arith, direct_cell_inside (at (knots g i) 0) (h (knots g i) 0) (points g i) (placed_on g (at coordinates) i), K.some)

    -- ---- the value

    beside : Beside g (even_cell_of g (at coordinates)) place (at coordinates)
    beside = record {
      upper = cell_inside;
      from = λ i l. (cell_at i l).from;
      to = λ i l. (cell_at i l).to;
      real = coordinate_real g tensor coordinates place S A;
      meets = A.equal;
    }

    value_is : even_query g tensor (at coordinates) ≡ value_in g tensor (even_cell_of g (at coordinates)) (at coordinates)
    unfolding even_query
    value_is = value_at_ext g tensor (even_cell_of g (at coordinates)) (placed_on g (at coordinates)) (at coordinates) ease.stays

    equal : Equal (even_query g tensor (at coordinates)) (at tensor (spot g place 0))
    equal = rw value_is (equal_in_cells g tensor S (even_cell_of g (at coordinates)) place (at coordinates) beside)

    sample_real : Real (at tensor (spot g place 0))
    sample_real = place_real g tensor S (even_cell_of g (at coordinates)) place (at coordinates) beside

    -- ---- the answer

    not_refused : even_query_refusal g tensor coordinates ≡ 0
    unfolding even_query_refusal
    not_refused =
        rw (
          S.axes_fine,
          S.points_fine,
          S.tensor_fine,
          length_fits (length g.flat_knots) (knots_length g) S.knots_exact,
          length_fits (length tensor) (tensor_length g) S.tensor_exact,
          length_fits (length coordinates) g.axes A.exact,
          S.knots_finite,
          coordinates_finite g tensor coordinates place S A,
          S.knots_rise,
          E.even,
          none_outside g tensor coordinates ease,
          equal_finite (even_query g tensor (at coordinates)) (at tensor (spot g place 0)) equal sample_real.finite,
        ) refl

    label_is : (i : ℕ) → i < g.axes → get_or (even_labels g tensor coordinates) i 0 ≡ even_cell_of g (at coordinates) i
    unfolding even_labels
    label_is i l =
        at_table most_axes (λ j. cond (ltb j g.axes) (even_cell_of g (at coordinates) j) 0) i 0
        (omega (arith, (range g tensor S).few_axes))
        ∙ rw (lt-ltb i g.axes l) refl

    abbrev accepted_answer : EvenAnswer
    accepted_answer = record {
      refusal = 0;
      value = even_query g tensor (at coordinates);
      labels = even_labels g tensor coordinates;
      axis = 0;
      interval = 0;
    }

    answer_is : even_query_answer g tensor coordinates ≡ accepted_answer
    unfolding even_query_answer
    answer_is = rw not_refused refl

    reads : (given : EvenAnswer) → given ≡ even_query_answer g tensor coordinates → EvenReads g place (at tensor (spot g place 0)) given
    reads given is =
        rw (is, answer_is)
        (record {
          accepted = refl;
          value = equal_eq (even_query g tensor (at coordinates)) (at tensor (spot g place 0)) equal sample_real.finite;
          label_from = λ i l. rw (label_is i l) (cell_at i l).from;
          label_to = λ i l. rw (label_is i l) (cell_at i l).to;
          label_cell = λ i l. rw (label_is i l) (cell_inside i l);
          axis = refl;
          interval = refl;
        })

pub even_measured_is_read : EvenMeasuredIsRead
even_measured_is_read g tensor coordinates place given S E A promise = reads g tensor coordinates place S E A given promise.answer
