-- The chapter Calls of docs/RULES.md: for each public call its refusal, its answer, and what stands afterwards in all that it was lent.
use Rattle.std.specs.Prelude.{◌≡◌, Bool, ◌||◌, List, ℕ, zero, suc, ◌-◌, ltb, eqb, length, Float}
use Rattle.std.proofs.Math.Bool.{cond}
use Rattle.rules.specs.Numbers.{plus_zero, at, zeros, table}
use Rattle.rules.specs.Sizes.{most_axes, scratch_of_rows, Grid, knots_length, samples_length, tensor_length, scratch_length, Place}
use Rattle.rules.specs.Refusals.{
  axes_refused,
  points_refused,
  some_points_refused,
  tensor_refused,
  length_refused,
  scratch_refused,
  place_refused,
  number_refused,
  some_number_refused,
  ends_refused,
  some_ends_refused,
  knots_refused,
  some_knots_refused,
  some_found_cell_refused,
  fewness_refused,
  some_fewness_refused,
  outcome_refused,
  answer_refused,
}
use Rattle.rules.specs.Moments.{moments}
use Rattle.rules.specs.Curve.{curve, knot_slopes}
use Rattle.rules.specs.Tensor.{tensor}
use Rattle.rules.specs.Change.{changed_tensor, change_lanes}
use Rattle.rules.specs.Outside.{some_outside_refused}
use Rattle.rules.specs.Query.{cell_of, quick_cell_of, query_in_modes, quick_query_in_modes}
use Rattle.rules.specs.declared.Condition.{Condition}
use Rattle.rules.specs.Answers.{CurveAnswer, ChangeAnswer, QueryAnswer}

-- a refusal, or what comes later where it is 0
abbrev pub or_else : ℕ → ℕ → ℕ
or_else zero later = later
or_else (suc refusal) later = suc refusal

-- an output afterwards: the new numbers, or after a refusal the old
abbrev pub stored : {A : Type 0} → ℕ → List A → List A → List A
stored zero old new = new
stored (suc refusal) old new = old

-- scratch afterwards: all +0.0 where work was done in it, so after 0 and 10, and else as it was
abbrev pub scratch_after : ℕ → List Float → List Float
scratch_after refusal scratch = cond (eqb refusal 0 || eqb refusal 10) (zeros (length scratch)) scratch

-- a value in an answer: +0.0 after a refusal
abbrev pub answered : ℕ → Float → Float
answered zero value = value
answered (suc refusal) value = plus_zero

-- a count in an answer: 0 after a refusal
abbrev pub counted : ℕ → ℕ → ℕ
counted zero count = count
counted (suc refusal) count = 0

-- labels in an answer: each 0 after a refusal
abbrev pub labelled : ℕ → List ℕ → List ℕ
labelled zero labels = labels
labelled (suc refusal) labels = table most_axes (λ i. 0)

-- ---- the curve's moments

module _ (n : ℕ) (knots samples : List Float) (condition : Condition) (moments_out scratch_lent : List Float) where
  -- its refusal, the first of 2 4 5 7 8 9 10 that applies
  unfoldable pub moments_refusal : ℕ
  unfolding moments
  moments_refusal =
      cond (points_refused n) 2
      (cond (length_refused (length knots) n || length_refused (length samples) n || length_refused (length moments_out) n) 4
      (cond (scratch_refused (length scratch_lent) scratch_of_rows) 5
      (cond (some_number_refused knots || ends_refused condition || some_number_refused samples) 7
      (cond (knots_refused knots n) 8
      (cond (fewness_refused condition n) 9
      (cond (outcome_refused (moments knots (n - 1) condition samples)) 10 0))))))

  -- what it promises: the refusal, the moments, the scratch
  pub record MomentsPromise (refusal : ℕ) (moments_later scratch_later : List Float) : Type 0 where
    pub answer : refusal ≡ moments_refusal
    pub output : moments_later ≡ stored moments_refusal moments_out (moments knots (n - 1) condition samples)
    pub scratch : scratch_later ≡ scratch_after moments_refusal scratch_lent

-- ---- the curve's value

module _ (n : ℕ) (knots samples moments_in : List Float) (point : Float) where
  -- its refusal, the first of 2 4 7 8 10 that applies
  unfoldable pub curve_refusal : ℕ
  unfolding curve
  curve_refusal =
      cond (points_refused n) 2
      (cond (length_refused (length knots) n || length_refused (length samples) n || length_refused (length moments_in) n) 4
      (cond (some_number_refused knots || some_number_refused samples || number_refused point) 7
      (cond (knots_refused knots n) 8
      (cond (answer_refused (curve knots (n - 1) samples moments_in point)) 10 0))))

  -- its answer: the refusal, and the value at the point
  unfoldable pub curve_answer : CurveAnswer
  unfolding curve_refusal
  curve_answer = record {
    refusal = curve_refusal;
    value = answered curve_refusal (curve knots (n - 1) samples moments_in point);
  }

  -- what it promises: the answer
  pub record CurvePromise (given : CurveAnswer) : Type 0 where
    pub answer : given ≡ curve_answer

-- ---- the knot slopes

module _ (n : ℕ) (knots samples moments_in slopes_out : List Float) where
  -- its refusal, the first of 2 4 7 8 10 that applies
  unfoldable pub slopes_refusal : ℕ
  unfolding knot_slopes
  slopes_refusal =
      cond (points_refused n) 2
      (cond
      (length_refused (length knots) n || length_refused (length samples) n || length_refused (length moments_in) n
      || length_refused (length slopes_out) n)
      4
      (cond (some_number_refused knots || some_number_refused samples) 7
      (cond (knots_refused knots n) 8
      (cond (outcome_refused (knot_slopes knots (n - 1) samples moments_in)) 10 0))))

  -- what it promises: the refusal, the slopes
  pub record SlopesPromise (refusal : ℕ) (slopes_later : List Float) : Type 0 where
    pub answer : refusal ≡ slopes_refusal
    pub output : slopes_later ≡ stored slopes_refusal slopes_out (knot_slopes knots (n - 1) samples moments_in)

-- ---- the build

module _ (g : Grid) (samples tensor_out scratch_lent : List Float) where
  -- its refusal, the first of 1 2 3 4 5 7 8 9 10 that applies
  unfoldable pub build_refusal : ℕ
  unfolding tensor
  build_refusal =
      cond (axes_refused g) 1
      (cond (some_points_refused g) 2
      (cond (tensor_refused g) 3
      (cond
      (length_refused (length g.flat_knots) (knots_length g) || length_refused (length samples) (samples_length g)
      || length_refused (length tensor_out) (tensor_length g))
      4
      (cond (scratch_refused (length scratch_lent) (scratch_length g)) 5
      (cond (some_number_refused g.flat_knots || some_ends_refused g || some_number_refused samples) 7
      (cond (some_knots_refused g) 8
      (cond (some_fewness_refused g) 9
      (cond (outcome_refused (tensor g samples)) 10 0))))))))

  -- what it promises: the refusal, the tensor, the scratch
  pub record BuildPromise (refusal : ℕ) (tensor_later scratch_later : List Float) : Type 0 where
    pub answer : refusal ≡ build_refusal
    pub output : tensor_later ≡ stored build_refusal tensor_out (tensor g samples)
    pub scratch : scratch_later ≡ scratch_after build_refusal scratch_lent

-- ---- the change

module _ (g : Grid) (tensor_lent scratch_lent : List Float) (changed : Place) (v : Float) where
  -- its refusal, the first of 1 2 3 4 5 6 7 8 9 10 that applies
  unfoldable pub change_refusal : ℕ
  unfolding changed_tensor
  change_refusal =
      cond (axes_refused g) 1
      (cond (some_points_refused g) 2
      (cond (tensor_refused g) 3
      (cond (length_refused (length g.flat_knots) (knots_length g) || length_refused (length tensor_lent) (tensor_length g)) 4
      (cond (scratch_refused (length scratch_lent) (scratch_length g)) 5
      (cond (place_refused g changed) 6
      (cond (some_number_refused g.flat_knots || some_ends_refused g || number_refused v || some_number_refused tensor_lent) 7
      (cond (some_knots_refused g) 8
      (cond (some_fewness_refused g) 9
      (cond (outcome_refused (changed_tensor g changed v tensor_lent)) 10 0)))))))))

  -- its answer: the refusal, and how many lanes were solved
  unfoldable pub change_answer : ChangeAnswer
  unfolding change_refusal change_lanes
  change_answer = record { refusal = change_refusal; lanes = counted change_refusal (length (change_lanes g changed)) }

  -- what it promises: the answer, the tensor, the scratch
  pub record ChangePromise (given : ChangeAnswer) (tensor_later scratch_later : List Float) : Type 0 where
    pub answer : given ≡ change_answer
    pub output : tensor_later ≡ stored change_refusal tensor_lent (changed_tensor g changed v tensor_lent)
    pub scratch : scratch_later ≡ scratch_after change_refusal scratch_lent

-- ---- the queries

-- the labels of the four axes: the cell that is evaluated, and 0 for those not in use
abbrev pub labels_of : Grid → Place → List ℕ
labels_of g cells = table most_axes (λ i. cond (ltb i g.axes) (cells i) 0)

-- what a query answers of its refusal, value and labels
abbrev pub answer_of : ℕ → Float → List ℕ → QueryAnswer
answer_of refusal value labels = record {
  refusal = refusal;
  value = answered refusal value;
  labels = labelled refusal labels;
}

-- 4 of every query
abbrev pub query_lengths_refused : Grid → List Float → List Float → Bool
query_lengths_refused g tensor_lent coordinates =
    length_refused (length g.flat_knots) (knots_length g) || length_refused (length tensor_lent) (tensor_length g)
    || length_refused (length coordinates) g.axes

-- the labels of the query, and those of the quick query: the cells of the coordinates as they are given, in every mode
unfoldable pub labels : Grid → List Float → List ℕ
unfolding cell_of
labels g coordinates = labels_of g (cell_of g (at coordinates))

unfoldable pub quick_labels : Grid → List Float → List ℕ
unfolding quick_cell_of
quick_labels g coordinates = labels_of g (quick_cell_of g (at coordinates))

module _ (g : Grid) (tensor_lent coordinates : List Float) where
  -- the refusal of both queries, the first of 1 2 3 4 7 8 18 10 that applies; of 7, 8 and 10 each has its own tests
  abbrev pub refusal_in_order : Bool → Bool → Bool → ℕ
  refusal_in_order numbers_refused cells_refused value_refused =
      cond (axes_refused g) 1
      (cond (some_points_refused g) 2
      (cond (tensor_refused g) 3
      (cond (query_lengths_refused g tensor_lent coordinates) 4
      (cond numbers_refused 7
      (cond cells_refused 8
      (cond (some_outside_refused g (at coordinates)) 18
      (cond value_refused 10 0)))))))

  -- the query's refusal
  unfoldable pub query_refusal : ℕ
  unfolding query_in_modes
  query_refusal =
      refusal_in_order (some_number_refused g.flat_knots || some_number_refused coordinates)
      (some_knots_refused g)
      (answer_refused (query_in_modes g tensor_lent (at coordinates)))

  -- its answer: the refusal, the value at the coordinates, and the labels
  unfoldable pub query_answer : QueryAnswer
  unfolding query_refusal labels
  query_answer = answer_of query_refusal (query_in_modes g tensor_lent (at coordinates)) (labels g coordinates)

  -- what it promises: the answer
  pub record QueryPromise (given : QueryAnswer) : Type 0 where
    pub answer : given ≡ query_answer

  -- the quick query's refusal: 7 of the coordinates and 8 of the found cells alone
  unfoldable pub quick_query_refusal : ℕ
  unfolding quick_cell_of quick_query_in_modes
  quick_query_refusal =
      refusal_in_order (some_number_refused coordinates)
      (some_found_cell_refused g (quick_cell_of g (at coordinates)))
      (answer_refused (quick_query_in_modes g tensor_lent (at coordinates)))

  -- its answer: the refusal, the value at the coordinates, and the labels
  unfoldable pub quick_query_answer : QueryAnswer
  unfolding quick_query_refusal quick_labels
  quick_query_answer = answer_of quick_query_refusal (quick_query_in_modes g tensor_lent (at coordinates)) (quick_labels g coordinates)

  -- what it promises: the answer
  pub record QuickQueryPromise (given : QueryAnswer) : Type 0 where
    pub answer : given ≡ quick_query_answer
