-- What the call answers, for each way that it ends.
use mathlib.Core.Path.{◌≡◌, refl, sym, ap, ◌∙◌}
use mathlib.Core.Bool.{Bool, true, false, cond, ◌||◌}
use mathlib.Core.List.{List}
use Prim.Native.Nat.{ℕ, zero, suc, ◌-◌, ◌<◌, ◌≤◌}
use native.Mathlib.Nat.{sub-zero}
use native.Mathlib.Omega.{arith}
use borrow.Author.Tests.{not-false, lt-ltb, le-ltb}
use lib.ListN.{length, take, drop}
use Rattle.std.specs.Prelude.{Result, Ok, Err}
use lib.Ieee.{Float}
use lib.Ieee.Scale.{finite}
use Rattle.rules.specs.Numbers.{at, table}
use Rattle.rules.specs.Sizes.{Grid, tensor_length}
use Rattle.rules.specs.Refusals.{axes_refused, some_points_refused, tensor_refused, some_number_refused, some_knots_refused, answer_refused}
use Rattle.rules.specs.Outside.{some_outside_refused}
use Rattle.rules.specs.Query.{query_in_modes}
use Rattle.rules.specs.Calls.{or_else, query_lengths_refused, query_refusal, query_answer, QueryPromise}
use Rattle.rules.specs.declared.Axis.{Axis}
use Rattle.rules.specs.Answers.{number_of, QueryAnswer, query_told}
use Rattle.rules.specs.declared.Refusal.{Refusal}
use Rattle.rules.specs.declared.Refusal.TheVariants.{Stack, Unused}
use Rattle.rules.specs.declared.ValueInCell.{ValueInCell}
use Rattle.rules.proofs.Given.{number_some}
use Rattle.rules.proofs.Refused.{or_else_met}
use Rattle.grid.specs.GridOfCall.{grid, sizes_of}
use Rattle.sheet_patterns.specs.Patterns.{coordinates, unused_refused, answer_pattern, pattern_told}
use Rattle.sheet_patterns.proofs.Refusals.{refused_with, accepted_with}
use Rattle.sheet_read.specs.Fields.{edition, axes, entries, sheet_grid}
use Rattle.sheet_read.specs.Faults.{sheet_refusal}
use Rattle.sheet_read.specs.Read.{ReadAnswer, answer_of}
use Rattle.sheet_read.specs.FoundSoFar.{PartsRoom}
use Rattle.sheet_read.proofs.Promises.{answer_refusal}
use Rattle.sheet_build.specs.SheetTensor.{building_refusal}
use Rattle.sheet_build.proofs.Few.{at_most}
use Rattle.rules.proofs.Cases.{passed}
use Rattle.sheet_surface.specs.SheetSurface.{built, asked, surface_refusal, surface, SurfacePromise}
use Rattle.sheet_surface.specs.OnTheStack.{ReadSheet, SmallSheet, BuiltAndAsked, Surfaced}
use Rattle.sheet_surface.proofs.Small.{axes_are, grid_is, tensor_is, range}

-- ---- the query

-- the numbers that it refuses by are few, and what it answers else is finite
module _ (g : Grid) (tensor_lent coordinates_lent : List Float) where
  query_few : query_refusal g tensor_lent coordinates_lent ≤ 22
  unfolding query_refusal
  query_few =
      at_most (axes_refused g) (omega arith)
      (at_most (some_points_refused g) (omega arith)
      (at_most (tensor_refused g) (omega arith)
      (at_most (query_lengths_refused g tensor_lent coordinates_lent) (omega arith)
      (at_most (some_number_refused g.flat_knots || some_number_refused coordinates_lent) (omega arith)
      (at_most (some_knots_refused g) (omega arith)
      (at_most (some_outside_refused g (at coordinates_lent)) (omega arith)
      (at_most (answer_refused (query_in_modes g tensor_lent (at coordinates_lent))) (omega arith) (omega arith))))))))

  pub value_finite : query_refusal g tensor_lent coordinates_lent ≡ 0 → finite (query_in_modes g tensor_lent (at coordinates_lent)) ≡ true
  unfolding query_refusal
  value_finite none =
      let a = passed (axes_refused g) 0 _ none in
      let b = passed (some_points_refused g) 1 _ a.1 in
      let c = passed (tensor_refused g) 2 _ b.1 in
      let d = passed (query_lengths_refused g tensor_lent coordinates_lent) 3 _ c.1 in
      let e = passed (some_number_refused g.flat_knots || some_number_refused coordinates_lent) 6 _ d.1 in
      let f = passed (some_knots_refused g) 7 _ e.1 in
      let o = passed (some_outside_refused g (at coordinates_lent)) 17 _ f.1 in
      let v = passed (answer_refused (query_in_modes g tensor_lent (at coordinates_lent))) 9 0 o.1 in
      not-false _ v.0

-- a sheet that has places for its parts was read
pub read_of : {bytes : List ℕ} {said n : ℕ} {all : List Axis} {knots samples : List Float} → PartsRoom bytes said n all knots samples
    → ReadSheet bytes said n all
read_of s = record { faultless = s.faultless; edition_said = s.edition_said; axes_said = s.axes_said; found = s.found }

pub four_long : (patterns : List ℕ) (four : List Float) → four ≡ coordinates 4 patterns → length four ≡ 4
four_long patterns four e = ap length e

taken : {A : Type 0} (f : ℕ → A) (n : ℕ) → n ≤ 4 → take n (table 4 f) ≡ table n f
taken f zero few = refl
taken f (suc zero) few = refl
taken f (suc (suc zero)) few = refl
taken f (suc (suc (suc zero))) few = refl
taken f (suc (suc (suc (suc zero)))) few = refl
taken f (suc (suc (suc (suc (suc n))))) few = absurd (omega arith)

module _ (bytes patterns : List ℕ) where
  pub asked_few : (asked bytes patterns).refusal ≤ 22
  unfolding asked query_answer
  asked_few = query_few (sheet_grid bytes) (built bytes) (coordinates (sheet_grid bytes).axes patterns)

  pub asked_finite : (asked bytes patterns).refusal ≡ 0 → finite (asked bytes patterns).value ≡ true
  unfolding asked query_answer
  asked_finite none = rw none (value_finite (sheet_grid bytes) (built bytes) (coordinates (sheet_grid bytes).axes patterns) none)

  -- the refusal of the build, and then the query's
  abbrev both : ℕ
  both = or_else (building_refusal bytes) (asked bytes patterns).refusal

  -- the build refuses
  pub build_refused : (refusal : Refusal) → number_of refusal ≡ building_refusal bytes → BuiltAndAsked bytes patterns (Err refusal)
  build_refused refusal e =
      record { refused = rw (← e) (sym (or_else_met (number_of refusal) _ (number_some refusal))); value_is = tt }

  -- it does not: what the query gives
  module _ (none : 0 ≡ building_refusal bytes) where
    pub query_refused : (refusal : Refusal) → query_told (Err refusal) ≡ asked bytes patterns → BuiltAndAsked bytes patterns (Err refusal)
    query_refused refusal is = record { refused = rw (← none) (ap (λ (a : QueryAnswer). a.refusal) is); value_is = tt }

    pub query_answered : (found : ValueInCell) → query_told (Ok found) ≡ asked bytes patterns → BuiltAndAsked bytes patterns (Ok found.value)
    query_answered found is = record {
      refused = rw (← none) (ap (λ (a : QueryAnswer). a.refusal) is);
      value_is = ap (λ (a : QueryAnswer). a.value) is;
    }

  module _ (said n : ℕ) (all : List Axis) (s : ReadSheet bytes said n all) where
    pub query_asked :
        (knots scratch four : List Float) (end : ℕ) (a : QueryAnswer) → knots ≡ (sheet_grid bytes).flat_knots
        → end ≡ tensor_length (sheet_grid bytes)
        → take (tensor_length (sheet_grid bytes)) (drop 2048 scratch) ≡ built bytes
        → four ≡ coordinates 4 patterns → QueryPromise (grid n all knots) (take end (drop 2048 scratch)) (take (n - 0) four) a
        → a ≡ asked bytes patterns
    unfolding asked
    query_asked knots scratch four end a knots_are end_is stands four_are q =
        let c : take (n - 0) four ≡ coordinates (sheet_grid bytes).axes patterns
        = rw (sub-zero n, four_are, taken _ n (range bytes said n all s).few_axes, axes_are bytes said n all s) in
        rw (knots_are, grid_is bytes said n all s, end_is, stands, c) at q.answer

-- ---- the call

module _ (bytes : List ℕ) (a : ReadAnswer)
    (read : a ≡ answer_of (sheet_refusal bytes) (edition bytes) (axes bytes) (entries bytes (axes bytes))) where
  fault_is : a.refusal ≡ sheet_refusal bytes
  fault_is = ap (λ (r : ReadAnswer). r.refusal) read ∙ answer_refusal _ _ _ _

  module _ (none : a.refusal ≡ 0) where
    accepted : sheet_refusal bytes ≡ 0
    accepted = sym fault_is ∙ none

    pub sheet_read : ReadSheet bytes a.edition a.axes a.all
    sheet_read =
        let is = rw accepted at read in
        record {
          faultless = accepted;
          edition_said = ap (λ (r : ReadAnswer). r.edition) is;
          axes_said = ap (λ (r : ReadAnswer). r.axes) is;
          found = ap (λ (r : ReadAnswer). r.all) is;
        }

    module _ (count : ℕ) (c : count ≡ tensor_length (sizes_of a.axes a.all)) where
      count_is : count ≡ tensor_length (sheet_grid bytes)
      count_is = c ∙ tensor_is bytes a.edition a.axes a.all sheet_read

      pub sheet_small : (most : ℕ) → count ≤ most → SmallSheet most bytes a.edition a.axes a.all
      sheet_small most short = record { read = sheet_read; small = omega (arith, count_is) }

  -- ---- the ways that it ends

  module _ (patterns : List ℕ) where
    -- the reader refuses
    pub reader_refuses : (refusal : Refusal) → a.refusal ≡ number_of refusal → Surfaced bytes patterns (Err refusal)
    unfolding surface_refusal
    reader_refuses refusal e =
        record { refused = rw (← fault_is, e) (sym (or_else_met (number_of refusal) _ (number_some refusal))); value_is = tt }

    module _ (none : a.refusal ≡ 0) (count : ℕ) (c : count ≡ tensor_length (sizes_of a.axes a.all)) where
      -- the tensor is too long
      pub stack_refuses : 512 < count → Surfaced bytes patterns (Err Stack)
      unfolding surface_refusal
      stack_refuses long = record {
        refused = rw (accepted none, lt-ltb 512 (tensor_length (sheet_grid bytes)) (omega (arith, count_is none count c)));
        value_is = tt;
      }

      -- it is not: what is left to be met
      module _ (short : count ≤ 512) where
        abbrev left : ℕ
        left = or_else (building_refusal bytes) (asked bytes patterns).refusal

        short_is : surface_refusal bytes patterns ≡ cond (unused_refused a.axes patterns) 17 left
        unfolding surface_refusal
        short_is =
            rw (
              accepted none,
              le-ltb 512 (tensor_length (sheet_grid bytes)) (omega (arith, count_is none count c)),
              ← axes_are bytes a.edition a.axes a.all (sheet_read none),
            )

        -- a pattern past the axes in use is not 0
        pub unused_refuses : unused_refused a.axes patterns ≡ true → Surfaced bytes patterns (Err Unused)
        unused_refuses some = record { refused = sym (short_is ∙ ap (λ (b : Bool). cond b 17 left) some); value_is = tt }

        -- the sheet's tensor is built and asked
        pub sheet_asked : unused_refused a.axes patterns ≡ false → {r : Result Float Refusal} → BuiltAndAsked bytes patterns r
            → Surfaced bytes patterns r
        sheet_asked zeros given = record {
          refused = given.refused ∙ sym (short_is ∙ ap (λ (b : Bool). cond b 17 left) zeros);
          value_is = given.value_is;
        }

-- ---- the pattern of what the call gives

module _ (bytes patterns : List ℕ) where
  pub pattern_is : (r : Result Float Refusal) → Surfaced bytes patterns r → SurfacePromise bytes patterns (pattern_told r)
  unfolding surface
  pattern_is (Ok value) given = record {
    answer = rw given.value_is (accepted_with _ (asked bytes patterns).value (sym given.refused));
  }
  pattern_is (Err refusal) given = record {
    answer =
        refused_with (number_of refusal) (asked bytes patterns).value (number_some refusal)
        ∙ ap (λ (k : ℕ). answer_pattern k (asked bytes patterns).value) given.refused;
  }
