-- Where neither 16 nor 17 applies, the call answers what the public calls `tensor_of_sheet` and `query` give one after the other.
use mathlib.Core.Path.{◌≡◌, refl, ap, ◌∙◌}
use mathlib.Core.Bool.{Bool, true, false}
use mathlib.Core.List.{List}
use Prim.Native.Nat.{ℕ, zero, suc}
use lib.ListN.{length}
use lib.Ieee.{Float}
use Rattle.rules.specs.Sizes.{Grid}
use Rattle.rules.specs.Calls.{or_else, QueryPromise}
use Rattle.rules.specs.Answers.{QueryAnswer}
use Rattle.sheet_patterns.specs.Patterns.{coordinates, unused_refused, answer_pattern}
use Rattle.sheet_read.specs.Fields.{sheet_grid}
use Rattle.sheet_read.specs.Faults.{sheet_refusal}
use Rattle.sheet_build.specs.SheetTensor.{building_refusal, own_refusal, SheetAnswer, SheetPromise}
use Rattle.sheet_build.specs.LentEnough.{Enough}
use Rattle.sheet_build.proofs.Alone.{answered_alone}
use Rattle.sheet_build.proofs.Demand3.{grid_made, tensor_made, answer_is, grid_is, tensor_is}
use Rattle.sheet_surface.specs.SheetSurface.{stack_refused, asked, surface_refusal, surface}

module _
    (bytes patterns : List ℕ) (knots samples lent scratch : List Float)
    (enough : Enough (length knots) (length samples) (length lent) (length scratch))
    (given : SheetAnswer) (k s t w : List Float) (p : SheetPromise bytes knots samples lent scratch given k s t w)
    (answer : QueryAnswer) (q : QueryPromise (grid_made given k) (tensor_made given t) (coordinates given.axes patterns) answer)
  where
    abbrev g : Grid
    g = sheet_grid bytes

    -- the first call's refusal is the sheet's
    first_is : given.refusal ≡ or_else (sheet_refusal bytes) (building_refusal bytes)
    unfolding own_refusal
    first_is = answered_alone bytes knots samples lent scratch enough given k s t w p

    -- where it is 0, the second call answers what is asked of the sheet's tensor
    second_is : given.refusal ≡ 0 → answer ≡ asked bytes patterns
    unfolding asked
    second_is none =
        let axes_are : given.axes ≡ g.axes =
        ap (λ (a : SheetAnswer). a.axes) (answer_is bytes knots samples lent scratch given k s t w p none) in
        rw (
          grid_is bytes knots samples lent scratch given k s t w p none,
          tensor_is bytes knots samples lent scratch given k s t w p none,
          axes_are,
        ) at q.answer

    -- neither 16 nor 17
    module _ (short : surface_refusal bytes patterns ≡ 16 → ⊥) (zeros : surface_refusal bytes patterns ≡ 17 → ⊥) where
      own_passed : sheet_refusal bytes ≡ 0
          → surface_refusal bytes patterns ≡ or_else (building_refusal bytes) (asked bytes patterns).refusal
      unfolding surface_refusal
      own_passed read = go (stack_refused g) (unused_refused g.axes patterns) refl refl
        where
          go : (a b : Bool) → stack_refused g ≡ a → unused_refused g.axes patterns ≡ b
              → surface_refusal bytes patterns ≡ or_else (building_refusal bytes) (asked bytes patterns).refusal
          go true b e f = absurd (short (rw (read, e)))
          go false true e f = absurd (zeros (rw (read, e, f)))
          go false false e f = rw (read, e, f)

      refusals_are : surface_refusal bytes patterns ≡ or_else given.refusal (asked bytes patterns).refusal
      unfolding surface_refusal
      refusals_are = go (sheet_refusal bytes) refl
        where
          go : (fault : ℕ) → sheet_refusal bytes ≡ fault
              → surface_refusal bytes patterns ≡ or_else given.refusal (asked bytes patterns).refusal
          go zero e = own_passed e ∙ rw (first_is, e)
          go (suc fault) e = rw (first_is, e)

      answered_alike : (first : ℕ) → given.refusal ≡ first
          → answer_pattern (or_else first (asked bytes patterns).refusal) (asked bytes patterns).value
          ≡ answer_pattern (or_else first answer.refusal) answer.value
      answered_alike zero e = rw (second_is e)
      answered_alike (suc first) e = refl

      pub surface_is_build_then_query : surface bytes patterns ≡ answer_pattern (or_else given.refusal answer.refusal) answer.value
      unfolding surface
      surface_is_build_then_query = rw refusals_are (answered_alike given.refusal refl)
