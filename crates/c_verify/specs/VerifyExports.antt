-- The chapter VerifyExports of docs/RULES.md: the exported call that looks at a tensor, in the manner of TensorExports, and its own
-- refusals in the order of OwnRefusals.
use Rattle.std.specs.Prelude.{◌≡◌, Bool, cond, ◌||◌, List, [], ◌∷◌, ◌++◌, ℕ, eqb, length, Float}
use Rattle.rules.specs.Sizes.{most_axes, knots_length, tensor_length}
use Rattle.rules.specs.Refusals.{length_refused}
use Rattle.rules.specs.Calls.{stored, scratch_after}
use Rattle.grid_checks.specs.Tables.{Refusal, row, lowest}
use Rattle.tensor_verify.specs.Verify.{refused_with, verify_refusal, verify_answer}
use Rattle.tensor_verify.specs.Verify.{VerifyAnswer}
use Rattle.c_axes.specs.Axes.{some_kinds_refused, grid_given}
use Rattle.c_refusals.specs.OwnRefusals.{sizes_given, axes_rows, eight_ends_refused}

-- ---- the slots

-- what is found, without its place: 1 for a whole tensor or 0, the mask, how many differ
abbrev pub found_numbers : VerifyAnswer → List ℕ
found_numbers a = cond a.whole 1 0 ∷ a.mask ∷ a.differing ∷ []

-- 4 for the slots of the place and of these
abbrev pub verify_slots_refused : List ℕ → List ℕ → Bool
verify_slots_refused place found = length_refused (length place) most_axes || length_refused (length found) 3

-- what is found in these slots, which are both left as they were where one is another slice
pub record FoundStored (place_lent found_lent : List ℕ) (told : VerifyAnswer) (place_later found_later : List ℕ) : Type 0 where
  pub place : place_later ≡ cond (verify_slots_refused place_lent found_lent) place_lent told.place
  pub numbers : found_later ≡ cond (verify_slots_refused place_lent found_lent) found_lent (found_numbers told)

-- ---- the call

module _ (axes : ℕ) (points kinds : List ℕ) (values knots tensor : List Float) where
  module _ (place_lent found_lent : List ℕ) where
    -- 4 for the ends, the slots and for the call's own slices
    abbrev pub verify_own_rows : List Refusal
    verify_own_rows =
        axes_rows axes points ++ (
        row 4 (
        eight_ends_refused kinds values || verify_slots_refused place_lent found_lent
        || (
        length_refused (length knots) (knots_length (sizes_given axes points))
        || length_refused (length tensor) (tensor_length (sizes_given axes points))
        )
        )
        ∷ row 13 (some_kinds_refused axes kinds)
        ∷ []
        )

    unfoldable pub verify_own_refusal : ℕ
    verify_own_refusal = lowest verify_own_rows 0

  module _ (scratch_lent : List Float) (place_lent found_lent : List ℕ) where
    -- short names for what the record is said by
    abbrev verify_own : ℕ
    verify_own = verify_own_refusal place_lent found_lent

    abbrev given_verify_refusal : ℕ
    given_verify_refusal = verify_refusal (grid_given axes points kinds values knots) tensor scratch_lent

    -- what is told: the call's answer, or that of the host's own refusal
    abbrev pub verify_told : VerifyAnswer
    verify_told =
        cond (eqb verify_own 0) (verify_answer (grid_given axes points kinds values knots) tensor scratch_lent) (refused_with verify_own)

    -- what is promised: the refusal, the scratch, and what was found in its slots
    pub record VerifyExport (refusal : ℕ) (scratch_later : List Float) (place_later found_later : List ℕ) : Type 0 where
      pub answer : refusal ≡ verify_told.refusal
      pub scratch : scratch_later ≡ stored verify_own scratch_lent (scratch_after given_verify_refusal scratch_lent)
      pub answer_stored : FoundStored place_lent found_lent verify_told place_later found_later
