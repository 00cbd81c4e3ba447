-- The chapter TensorExports of docs/RULES.md: the exported build and change, in the manner of CurveExports.
use Rattle.std.specs.Prelude.{◌≡◌, List, ℕ, Float}
use Rattle.rules.specs.Sizes.{place_of}
use Rattle.rules.specs.Tensor.{tensor}
use Rattle.rules.specs.Change.{changed_tensor}
use Rattle.rules.specs.Calls.{or_else, stored, scratch_after, counted, build_refusal, change_refusal, change_answer}
use Rattle.c_axes.specs.Axes.{grid_given}
use Rattle.c_refusals.specs.OwnRefusals.{build_own_refusal, change_own_refusal}
use Rattle.c_refusals.specs.Slots.{in_slot}

-- ---- the build

module _ (axes : ℕ) (points kinds : List ℕ) (values knots samples tensor_lent scratch_lent : List Float) where
  -- what the call refuses of what was given
  abbrev given_build_refusal : ℕ
  given_build_refusal = build_refusal (grid_given axes points kinds values knots) samples tensor_lent scratch_lent

  -- short names for what the record is said by
  abbrev build_own : ℕ
  build_own = build_own_refusal axes points kinds values knots samples tensor_lent

  -- what is promised: the refusal, the tensor, the scratch
  pub record BuildExport (refusal : ℕ) (tensor_later scratch_later : List Float) : Type 0 where
    pub answer : refusal ≡ or_else build_own given_build_refusal
    pub output :
        tensor_later
        ≡ stored build_own tensor_lent
        (stored given_build_refusal tensor_lent (tensor (grid_given axes points kinds values knots) samples))
    pub scratch : scratch_later ≡ stored build_own scratch_lent (scratch_after given_build_refusal scratch_lent)

-- ---- the change

module _ (axes : ℕ) (points kinds : List ℕ) (values knots tensor_lent scratch_lent : List Float) (place : List ℕ) (sample : Float)
    (lanes_lent : List ℕ) where
  -- what the call refuses of what was given
  abbrev given_change_refusal : ℕ
  given_change_refusal =
      change_refusal (grid_given axes points kinds values knots) tensor_lent scratch_lent (place_of place) sample

  -- the host's own refusal of what was given
  abbrev change_own : ℕ
  change_own = change_own_refusal axes points kinds values knots tensor_lent place lanes_lent

  -- what is promised: the refusal, the tensor, the scratch, and the count in its slot
  pub record ChangeExport (refusal : ℕ) (tensor_later scratch_later : List Float) (lanes_later : List ℕ) : Type 0 where
    pub answer : refusal ≡ or_else change_own given_change_refusal
    pub output :
        tensor_later
        ≡ stored change_own tensor_lent
        (stored given_change_refusal tensor_lent
        (changed_tensor (grid_given axes points kinds values knots) (place_of place) sample tensor_lent))
    pub scratch : scratch_later ≡ stored change_own scratch_lent (scratch_after given_change_refusal scratch_lent)
    pub slot :
        lanes_later
        ≡ in_slot lanes_lent
        (counted change_own
        (change_answer (grid_given axes points kinds values knots) tensor_lent scratch_lent (place_of place) sample).lanes)
