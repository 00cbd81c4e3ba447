-- The chapter SheetSurface of docs/RULES.md: the public call `surface`, from the bytes of a sheet and the patterns of four coordinates to
-- one pattern.
use Rattle.std.specs.Prelude.{◌≡◌, Bool, cond, List, ℕ, ltb, Float}
use Rattle.rules.specs.Sizes.{Grid, tensor_length}
use Rattle.rules.specs.Tensor.{tensor}
use Rattle.rules.specs.Calls.{or_else, query_answer}
use Rattle.rules.specs.Answers.{QueryAnswer}
use Rattle.sheet_patterns.specs.Patterns.{coordinates, unused_refused, answer_pattern}
use Rattle.sheet_read.specs.Fields.{sheet_grid, sheet_samples}
use Rattle.sheet_read.specs.Faults.{sheet_refusal}
use Rattle.sheet_build.specs.SheetTensor.{building_refusal}

-- the most numbers in a tensor that this call builds: it stands on the host's stack, which is small
abbrev pub most_on_the_stack : ℕ
most_on_the_stack = 512

-- 16: the tensor would be longer than that
abbrev pub stack_refused : Grid → Bool
stack_refused g = ltb most_on_the_stack (tensor_length g)

-- the tensor of a sheet
abbrev pub built : List ℕ → List Float
built bytes = tensor (sheet_grid bytes) (sheet_samples bytes)

module _ (bytes patterns : List ℕ) where
  -- what the query of that tensor answers at the coordinates
  unfoldable pub asked : QueryAnswer
  asked = query_answer (sheet_grid bytes) (built bytes) (coordinates (sheet_grid bytes).axes patterns)

  -- the refusal: the reader's, 16, 17, the build's, and then the query's
  unfoldable pub surface_refusal : ℕ
  surface_refusal =
      or_else (sheet_refusal bytes)
      (cond (stack_refused (sheet_grid bytes)) 16
      (cond (unused_refused (sheet_grid bytes).axes patterns) 17
      (or_else (building_refusal bytes) asked.refusal)))

  -- the pattern that is answered
  unfoldable pub surface : ℕ
  surface = answer_pattern surface_refusal asked.value

  -- what the call promises: the answer
  pub record SurfacePromise (given : ℕ) : Type 0 where
    pub answer : given ≡ surface
