-- What was measured is read: the theorem for both queries, from their promises.
use native.Mathlib.Omega.{arith}
use mathlib.Core.Path.{◌≡◌, refl, ap, ◌∙◌}
use mathlib.Core.List.{List}
use mathlib.Core.Bool.{true, false, not, cond}
use Prim.Native.Nat.{ℕ, ◌-◌, ◌<◌}
use lib.Dec.{ltb}
use lib.ListN.{length, get_or}
use lib.Ieee.{Float}
use lib.Ieee.Scale.{finite}
use borrow.Author.Tests.{lt-ltb}
use Rattle.rules.specs.Numbers.{at}
use Rattle.rules.specs.Sizes.{most_axes, Grid, points, knots, knots_length, tensor_length, Place, spot}
use Rattle.rules.specs.Refusals.{number_refused, some_number_refused}
use Rattle.rules.specs.Outside.{side}
use Rattle.rules.specs.Query.{cell_of, query}
use Rattle.rules.specs.Calls.{labels, query_answer, QueryPromise, QuickQueryPromise}
use Rattle.rules.specs.Extended.{extended_query_refusal, extended_query_answer}
use Rattle.rules.specs.Answers.{QueryAnswer}
use Rattle.rules.specs.declared.Side.TheVariants.{Inside}
use Rattle.rules.proofs.Modes.{as_extended, within}
use Rattle.rules.proofs.Tables.{at_table}
use Rattle.base_numbers.proofs.Scan.{any_never}
use Rattle.base_floats.specs.Place.{Real}
use Rattle.base_floats.specs.Zeros.{Equal}
use Rattle.base_floats.proofs.Equals.{equal_finite, equal_eq, eq_finite}
use Rattle.grid_checks.proofs.Rows.{length_fits}
use Rattle.query_quick.proofs.QuickIsFull.{quick_is_full}
use Rattle.query_measured.specs.Measured.{Surface, AtPlace, Reads, MeasuredIsRead}
use Rattle.query_measured.proofs.Knots.{cell_at_knot, inside_at_knot}
use Rattle.query_measured.proofs.Surfaces.{range, axis_knots}
use Rattle.query_measured.proofs.InCells.{Beside, equal_in_cells, place_real}

module _ (g : Grid) (tensor coordinates : List Float) (place : Place) (S : Surface g tensor) (A : AtPlace g place coordinates) where
  -- ---- the coordinates: finite, inside, in the cells below their knots

  coordinate_finite : (i : ℕ) → i < g.axes → finite (at coordinates i) ≡ true
  coordinate_finite i l =
      eq_finite (at coordinates i) (at (knots g i) (place i)) (A.equal i l)
      ((axis_knots g tensor S i l).rising.finite (place i) (A.on_grid i l))

  pub coordinate_real : (i : ℕ) → i < g.axes → Real (at coordinates i)
  coordinate_real i l = record { fits = A.fit i; finite = coordinate_finite i l }

  pub coordinates_finite : some_number_refused coordinates ≡ false
  coordinates_finite =
      any_never (λ k. number_refused (at coordinates k)) (length coordinates)
      (λ k l. ap not (coordinate_finite k (omega (arith, A.exact))))

  pub inside : (i : ℕ) → i < g.axes → side (knots g i) (at coordinates i) ≡ Inside
  inside i l =
      inside_at_knot (knots g i) (points g i) (axis_knots g tensor S i l) (at coordinates i) (coordinate_real i l) (place i)
      (A.on_grid i l) (A.equal i l)

  cell_below : (i : ℕ) → i < g.axes → cell_of g (at coordinates) i ≡ place i - 1
  unfolding cell_of
  cell_below i l =
      cell_at_knot (knots g i) (points g i) (axis_knots g tensor S i l) (at coordinates i) (coordinate_real i l) (place i) (A.on_grid i l)
      (A.equal i l)

  -- ---- the value

  beside : Beside g (cell_of g (at coordinates)) place (at coordinates)
  beside = record {
    upper = λ i l. omega (arith, cell_below i l, A.on_grid i l, (range g tensor S).some_points i l);
    from = λ i l. omega (arith, cell_below i l);
    to = λ i l. omega (arith, cell_below i l);
    real = coordinate_real;
    meets = A.equal;
  }

  equal : Equal (query g tensor (at coordinates)) (at tensor (spot g place 0))
  unfolding query
  equal = equal_in_cells g tensor S (cell_of g (at coordinates)) place (at coordinates) beside

  sample_real : Real (at tensor (spot g place 0))
  sample_real = place_real g tensor S (cell_of g (at coordinates)) place (at coordinates) beside

  -- ---- the answer

  not_refused : extended_query_refusal g tensor coordinates ≡ 0
  unfolding extended_query_refusal
  not_refused =
      rw (
        S.axes_fine,
        S.points_fine,
        S.tensor_fine,
        length_fits (length g.flat_knots) (knots_length g) S.knots_exact,
        length_fits (length tensor) (tensor_length g) S.tensor_exact,
        length_fits (length coordinates) g.axes A.exact,
        S.knots_finite,
        coordinates_finite,
        S.knots_rise,
        equal_finite (query g tensor (at coordinates)) (at tensor (spot g place 0)) equal sample_real.finite,
      ) refl

  label_is : (i : ℕ) → i < g.axes → get_or (labels g coordinates) i 0 ≡ place i - 1
  unfolding labels
  label_is i l =
      at_table most_axes (λ j. cond (ltb j g.axes) (cell_of g (at coordinates) j) 0) i 0 (omega (arith, (range g tensor S).few_axes))
      ∙ rw (lt-ltb i g.axes l) (cell_below i l)

  -- where every coordinate lies inside, no mode is looked at
  answer_is : query_answer g tensor coordinates
      ≡ record { refusal = 0; value = query g tensor (at coordinates); labels = labels g coordinates }
  unfolding extended_query_answer
  answer_is = as_extended g tensor coordinates (within g tensor coordinates inside) ∙ rw not_refused refl

  reads : (given : QueryAnswer) → given ≡ query_answer g tensor coordinates → Reads g place (at tensor (spot g place 0)) given
  reads given is =
      rw (is, answer_is)
      (record {
        accepted = refl;
        value = equal_eq (query g tensor (at coordinates)) (at tensor (spot g place 0)) equal sample_real.finite;
        label = label_is;
      })

-- ---- the theorem

pub measured_is_read : MeasuredIsRead QueryPromise
measured_is_read g tensor coordinates place given S A promise = reads g tensor coordinates place S A given promise.answer

pub quick_measured_is_read : MeasuredIsRead QuickQueryPromise
quick_measured_is_read g tensor coordinates place given S A promise =
    reads g tensor coordinates place S A given
    (promise.answer ∙ quick_is_full g tensor coordinates S.knots_fit A.fit S.knots_finite S.knots_rise)
