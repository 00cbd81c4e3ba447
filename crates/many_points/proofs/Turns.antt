-- The turns of a loop that answers point after point, on plain lists: the points before the one that it has come to have their answers in
-- their places, and the coordinates of that one begin at `begin`.
use native.Mathlib.Omega.{arith}
use mathlib.Core.Path.{◌≡◌, refl, sym, subst, ◌∙◌}
use mathlib.Core.List.{List}
use Prim.Native.Nat.{ℕ, suc, ◌+◌, ◌-◌, ◌*◌, ◌<◌, ◌≤◌}
use native.Mathlib.Nat.{add-sub_cancel_left, mul-le-mul_left, mul-suc, mul-zero}
use native.Mathlib.Numerals.{add-one}
use lib.ListN.{length, take, drop, length-set}
use lib.Seq.{get_or-set_same, get_or-set_other}
use lib.Ieee.{Float, nan}
use borrow.Author.Count.{below_more}
use Rattle.rules.specs.Answers.{QueryAnswer}
use Rattle.many_points.specs.ManyPoints.{point_of}
use Rattle.many_points.specs.PointByPoint.{PointsFit, AnswerPut, StandsAt, FirstStand}
use Rattle.many_points.proofs.Labels.{labels_below, as_many_labels, labels_there}

-- by what a point's coordinates must be, and what an answer at them is
module _ (Fits : List Float → Type 0) (Is : List Float → QueryAnswer → Type 0) (axes : ℕ) (coordinates : List Float) (count : ℕ) where
  -- the loop has come to point j
  pub record Turn (values : List Float) (labels refusals : List ℕ) (begin j : ℕ) : Type 0 where
    pub fit : (k : ℕ) → k < count → Fits (point_of axes coordinates k)
    pub exact : length coordinates ≡ axes * count
    pub begun : begin ≡ axes * j
    pub most : j ≤ count
    pub stand : FirstStand Is axes coordinates count j values labels refusals

  pub turn_first :
      (values : List Float) (labels refusals : List ℕ) → length refusals ≡ count
      → PointsFit Fits axes coordinates values labels count → Turn values labels refusals 0 0
  turn_first values labels refusals as_many given = record {
    fit = given.fits;
    exact = given.coordinates_exact;
    begun = omega (arith, mul-zero axes);
    most = omega arith;
    stand = record {
      values_count = given.values_exact;
      labels_count = given.labels_exact;
      refusals_count = as_many;
      each = λ j l. absurd (omega arith);
    };
  }

  module _ (values : List Float) (labels refusals : List ℕ) (begin j : ℕ) (turn : Turn values labels refusals begin j)
      (lt : j < count) where
    pub end_within : begin + axes ≤ length coordinates
    end_within = omega (arith, turn.begun, turn.exact, mul-le-mul_left {m = suc j} {n = count} axes (omega arith), mul-suc axes j)

    -- the coordinates that are lent
    part_is : take (begin + axes - begin) (drop begin coordinates) ≡ point_of axes coordinates j
    part_is = rw (add-sub_cancel_left, turn.begun) refl

    pub part_fits : Fits (take (begin + axes - begin) (drop begin coordinates))
    part_fits = subst Fits (sym part_is) (turn.fit j lt)

    pub room : (j < length refusals) × (length values ≡ length refusals) × (length labels ≡ 4 * length refusals)
    room =
        let stand = turn.stand in (
          omega (arith, stand.refusals_count),
          omega (arith, stand.values_count, stand.refusals_count),
          omega (arith, stand.labels_count, stand.refusals_count),
        )

    pub fewer_left : count - (j + 1) < count - j
    fewer_left = omega arith

    -- what is lent of the coordinates
    abbrev pub lent : List Float
    lent = take (begin + axes - begin) (drop begin coordinates)

    module _ (given : QueryAnswer) (its : Is lent given)
        (values_later : List Float) (labels_later refusals_later : List ℕ)
        (put : AnswerPut values labels refusals j given values_later labels_later refusals_later) where
      here : StandsAt Is axes coordinates values_later labels_later refusals_later j
      here = record {
        given = given;
        is = subst (λ (p : List Float). Is p given) part_is its;
        value = rw put.value (get_or-set_same values j given.value nan (omega (arith, turn.stand.values_count)));
        its_labels = λ i few.
            rw put.its_labels (labels_there labels (4 * j) given.labels (omega (arith, turn.stand.labels_count)) i few);
        refusal = rw put.refusal (get_or-set_same refusals j given.refusal 0 (omega (arith, turn.stand.refusals_count)));
      }

      before : (k : ℕ) → k < j → StandsAt Is axes coordinates values_later labels_later refusals_later k
      before k below =
          let old = turn.stand.each k below in
          record {
            given = old.given;
            is = old.is;
            value = rw put.value (get_or-set_other values j k given.value nan (λ e. omega arith) ∙ old.value);
            its_labels = λ i few.
                rw put.its_labels (labels_below labels (4 * j) given.labels (4 * k + i) (omega arith) ∙ old.its_labels i few);
            refusal = rw put.refusal (get_or-set_other refusals j k given.refusal 0 (λ e. omega arith) ∙ old.refusal);
          }

      pub turn_next : Turn values_later labels_later refusals_later (begin + axes) (j + 1)
      turn_next = record {
        fit = turn.fit;
        exact = turn.exact;
        begun = rw (add-one, turn.begun) (omega (arith, mul-suc axes j));
        most = omega arith;
        stand = record {
          values_count = rw put.value (simp length-set turn.stand.values_count);
          labels_count = rw put.its_labels (as_many_labels labels (4 * j) given.labels ∙ turn.stand.labels_count);
          refusals_count = rw put.refusal (simp length-set turn.stand.refusals_count);
          each = below_more _ j before here;
        };
      }

  pub turn_last :
      (values : List Float) (labels refusals : List ℕ) (begin j : ℕ) → Turn values labels refusals begin j → count ≤ j
      → FirstStand Is axes coordinates count count values labels refusals
  turn_last values labels refusals begin j turn all =
      subst (λ (k : ℕ). FirstStand Is axes coordinates count k values labels refusals)
      (let e : j ≡ count = omega (arith, turn.most) in e) turn.stand
