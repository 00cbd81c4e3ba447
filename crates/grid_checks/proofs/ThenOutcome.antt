-- A public call looks at its rows, works, and then looks at the outcome: what its refusal is in each case, and what stands in all that it
-- was lent.
use mathlib.Core.Path.{◌≡◌, refl}
use mathlib.Core.Bool.{Bool, true, false, cond}
use mathlib.Core.List.{List}
use Prim.Native.Nat.{ℕ, zero, suc, ◌-◌, ◌<◌}
use native.Mathlib.Omega.{arith}
use lib.Dec.{T}
use lib.ListN.{length}
use lib.Ieee.{Float}
use borrow.Author.Tests.{ne_eqb}
use Rattle.rules.specs.Numbers.{plus_zero}
use Rattle.rules.specs.Sizes.{Grid, Place}
use Rattle.rules.specs.Refusals.{outcome_refused, answer_refused}
use Rattle.rules.specs.Moments.{moments}
use Rattle.rules.specs.Curve.{curve, knot_slopes}
use Rattle.rules.specs.Tensor.{tensor}
use Rattle.rules.specs.Change.{changed_tensor}
use Rattle.rules.specs.Calls.{
  or_else,
  stored,
  scratch_after,
  answered,
  counted,
  moments_refusal,
  curve_refusal,
  slopes_refusal,
  build_refusal,
  change_refusal,
}
use Rattle.rules.specs.declared.Condition.{Condition}
use Rattle.rules.proofs.Refused.{or_else_met}
use Rattle.grid_checks.specs.Check.{
  moments_rows,
  curve_rows,
  slopes_rows,
  build_rows,
  change_rows,
  moments_check,
  curve_check,
  slopes_check,
  build_check,
  change_check,
}
use Rattle.grid_checks.specs.Tables.{Refusal, lowest}
use Rattle.grid_checks.proofs.Rows.{numbered, below_outcome, rows_then, rows_below_10}

-- the refusal is the check's number, and where that is 0, 10 for an outcome that is refused
pub record ThenOutcome (check : ℕ) (bad : Bool) (refusal : ℕ) : Type 0 where
  pub is : refusal ≡ or_else check (cond bad 10 0)
  pub low : check < 10

-- what a call answers and leaves that its check refuses: the check's number, and all it was lent as it was
pub record Refused (check refusal : ℕ) : Type 0 where
  pub same : refusal ≡ check
  pub output : (old new : List Float) → old ≡ stored refusal old new
  pub scratch : (lent : List Float) → lent ≡ scratch_after refusal lent
  pub value : (number : Float) → plus_zero ≡ answered refusal number
  pub count : (number : ℕ) → 0 ≡ counted refusal number

untouched : (refusal : ℕ) → (refusal ≡ 0 → ⊥) → refusal < 10 → Refused refusal refusal
untouched zero h l = absurd (h refl)
untouched (suc refusal) h l = record {
  same = refl;
  output = λ old new. refl;
  scratch = λ lent. rw (ne_eqb (suc refusal) 0 h, ne_eqb (suc refusal) 10 (λ e. omega arith));
  value = λ number. refl;
  count = λ number. refl;
}

module _ {check refusal : ℕ} {bad : Bool} (t : ThenOutcome check bad refusal) where
  -- the check refuses
  pub refused : (check ≡ 0 → ⊥) → Refused check refusal
  refused h = rw (t.is, or_else_met check (cond bad 10 0) h) (untouched check h t.low)

  -- it does not: the outcome decides
  pub outcome : check ≡ 0 → refusal ≡ cond bad 10 0
  outcome e = rw (t.is, e)

  pub outcome_bad : check ≡ 0 → bad ≡ true → refusal ≡ 10
  outcome_bad e b = rw (outcome e, b)

  pub outcome_good : check ≡ 0 → bad ≡ false → refusal ≡ 0
  outcome_good e b = rw (outcome e, b)

pub then_outcome : (rows : List Refusal) (bad : Bool) → T (numbered rows) → T (below_outcome rows)
    → ThenOutcome (lowest rows 0) bad (lowest rows (cond bad 10 0))
then_outcome rows bad n b = record { is = rows_then rows (cond bad 10 0) n; low = rows_below_10 rows b }

-- ---- each call

module _ (n : ℕ) (x y : List Float) where
  pub moments_outcome : (condition : Condition) (moments_out scratch_lent : List Float)
      → ThenOutcome (moments_check n x y condition (length moments_out) (length scratch_lent))
      (outcome_refused (moments x (n - 1) condition y)) (moments_refusal n x y condition moments_out scratch_lent)
  unfolding moments_check moments_refusal
  moments_outcome condition moments_out scratch_lent =
      then_outcome (moments_rows n x y condition (length moments_out) (length scratch_lent))
      (outcome_refused (moments x (n - 1) condition y)) tt tt

  pub curve_outcome : (m : List Float) (point : Float)
      → ThenOutcome (curve_check n x y (length m) point) (answer_refused (curve x (n - 1) y m point)) (curve_refusal n x y m point)
  unfolding curve_check curve_refusal
  curve_outcome m point = then_outcome (curve_rows n x y (length m) point) (answer_refused (curve x (n - 1) y m point)) tt tt

  pub slopes_outcome : (m slopes_out : List Float)
      → ThenOutcome (slopes_check n x y (length m) (length slopes_out)) (outcome_refused (knot_slopes x (n - 1) y m))
      (slopes_refusal n x y m slopes_out)
  unfolding slopes_check slopes_refusal
  slopes_outcome m slopes_out =
      then_outcome (slopes_rows n x y (length m) (length slopes_out)) (outcome_refused (knot_slopes x (n - 1) y m)) tt tt

module _ (g : Grid) where
  pub build_outcome : (samples tensor_out scratch_lent : List Float)
      → ThenOutcome (build_check g samples (length tensor_out) (length scratch_lent)) (outcome_refused (tensor g samples))
      (build_refusal g samples tensor_out scratch_lent)
  unfolding build_check build_refusal
  build_outcome samples tensor_out scratch_lent =
      then_outcome (build_rows g samples (length tensor_out) (length scratch_lent)) (outcome_refused (tensor g samples)) tt tt

  pub change_outcome : (tensor_lent scratch_lent : List Float) (changed : Place) (v : Float)
      → ThenOutcome (change_check g tensor_lent (length scratch_lent) changed v) (outcome_refused (changed_tensor g changed v tensor_lent))
      (change_refusal g tensor_lent scratch_lent changed v)
  unfolding change_check change_refusal
  change_outcome tensor_lent scratch_lent changed v =
      then_outcome (change_rows g tensor_lent (length scratch_lent) changed v) (outcome_refused (changed_tensor g changed v tensor_lent)) tt
      tt
