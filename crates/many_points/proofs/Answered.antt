-- Where the answers stand in the places of all points, and each is that of a call for one point, the call for many gives them.
use native.Mathlib.Omega.{arith}
use mathlib.Core.Path.{◌≡◌, sym, ap, ◌∙◌}
use mathlib.Core.Logic.{◌≢◌}
use mathlib.Core.List.{List}
use Prim.Native.Nat.{ℕ, ◌+◌, ◌*◌, ◌/◌, ◌%◌, ◌<◌}
use lib.ListN.{length}
use lib.Ieee.{Float, nan}
use Rattle.rules.specs.Sizes.{place_of}
use Rattle.rules.specs.Answers.{QueryAnswer}
use Rattle.rules.proofs.Refused.{unchanged}
use Rattle.rules.proofs.Tables.{table_is}
use Rattle.many_points.specs.ManyPoints.{point_of, values_of, labels_among, refusals_of, EachAnswered}
use Rattle.many_points.specs.PointByPoint.{FirstStand}

-- ---- nothing is written

pub none_written :
    (own : ℕ) (answers : ℕ → QueryAnswer) (values : List Float) (labels refusals : List ℕ) {r : ℕ} → r ≡ own → r ≢ 0
    → EachAnswered own answers values labels refusals r values labels refusals
none_written own answers values labels refusals e some =
    let met : own ≢ 0 = λ z. some (e ∙ z) in
    record {
      answer = e;
      values = unchanged own values _ met;
      labels = unchanged own labels _ met;
      refusals = unchanged own refusals _ met;
    }

-- ---- every answer is

module _ (Is : List Float → QueryAnswer → Type 0) (axes : ℕ) (coordinates : List Float) (answers : ℕ → QueryAnswer) (count : ℕ)
    (are : (j : ℕ) → j < count → (r : QueryAnswer) → Is (point_of axes coordinates j) r → r ≡ answers j)
    (values : List Float) (labels refusals : List ℕ) (stand : FirstStand Is axes coordinates count count values labels refusals) where
  given_is : (j : ℕ) (l : j < count) → (stand.each j l).given ≡ answers j
  given_is j l = are j l (stand.each j l).given (stand.each j l).is

  values_are : values ≡ values_of count answers
  values_are =
      table_is nan values count _ stand.values_count
      (λ j l. (stand.each j l).value ∙ ap (λ (a : QueryAnswer). a.value) (given_is j l))

  refusals_are : refusals ≡ refusals_of count answers
  refusals_are =
      table_is 0 refusals count _ stand.refusals_count
      (λ j l. (stand.each j l).refusal ∙ ap (λ (a : QueryAnswer). a.refusal) (given_is j l))

  labels_are : labels ≡ labels_among count answers
  labels_are =
      table_is 0 labels (4 * count) _ stand.labels_count λ e l.
      let below : e / 4 < count = omega arith in
      ap (place_of labels) (let split : e ≡ 4 * (e / 4) + e % 4 = omega arith in split)
      ∙ (stand.each (e / 4) below).its_labels (e % 4) (omega arith)
      ∙ ap (λ (a : QueryAnswer). place_of a.labels (e % 4)) (given_is (e / 4) below)

  pub all_written :
      (own : ℕ) → own ≡ 0 → (values_lent : List Float) (labels_lent refusals_lent : List ℕ) → length refusals_lent ≡ count
      → EachAnswered own answers values_lent labels_lent refusals_lent 0 values labels refusals
  all_written own none values_lent labels_lent refusals_lent as_many = record {
    answer = sym none;
    values = rw (none, as_many) values_are;
    labels = rw (none, as_many) labels_are;
    refusals = rw (none, as_many) refusals_are;
  }
