-- The chapter CurveExports of docs/RULES.md: the exported calls of the curve. What the host itself refuses comes first, and what the call
-- refuses after it. With the host's own, nothing but the slots of the answer is written.
use Rattle.std.specs.Prelude.{◌≡◌, List, ℕ, ◌-◌, Float}
use Rattle.rules.specs.Moments.{moments}
use Rattle.rules.specs.Calls.{or_else, stored, scratch_after, answered, moments_refusal, curve_answer}
use Rattle.c_axes.specs.Axes.{condition_given}
use Rattle.c_refusals.specs.OwnRefusals.{moments_own_refusal, curve_own_refusal}
use Rattle.c_refusals.specs.Slots.{in_slot}

-- ---- the curve's moments

module _ (n : ℕ) (knots samples : List Float) (kinds : List ℕ) (values moments_lent scratch_lent : List Float) where
  -- what the call refuses of what was given
  abbrev given_moments_refusal : ℕ
  given_moments_refusal = moments_refusal n knots samples (condition_given kinds values 0) moments_lent scratch_lent

  -- short names for what the record is said by
  abbrev moments_own : ℕ
  moments_own = moments_own_refusal n knots samples kinds values moments_lent

  -- what is promised: the refusal, the moments, the scratch
  pub record MomentsExport (refusal : ℕ) (moments_later scratch_later : List Float) : Type 0 where
    pub answer : refusal ≡ or_else moments_own given_moments_refusal
    pub output :
        moments_later
        ≡ stored moments_own moments_lent
        (stored given_moments_refusal moments_lent (moments knots (n - 1) (condition_given kinds values 0) samples))
    pub scratch :
        scratch_later ≡ stored moments_own scratch_lent (scratch_after given_moments_refusal scratch_lent)

-- ---- the curve's value

module _ (n : ℕ) (knots samples moments_in : List Float) (point : Float) (value_lent : List Float) where
  -- short names for what the record is said by
  abbrev curve_own : ℕ
  curve_own = curve_own_refusal n value_lent

  -- what is promised: the refusal, and the value in its slot
  pub record CurveExport (refusal : ℕ) (value_later : List Float) : Type 0 where
    pub answer : refusal ≡ or_else curve_own (curve_answer n knots samples moments_in point).refusal
    pub slot : value_later ≡ in_slot value_lent (answered curve_own (curve_answer n knots samples moments_in point).value)

-- The knot slopes have no refusal of the host's own: their record is that of `rules`.
