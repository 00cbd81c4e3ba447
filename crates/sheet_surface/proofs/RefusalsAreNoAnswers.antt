-- No accepted answer has the pattern of a refusal, and two refusals have different patterns: so the pattern tells the refusal.
use mathlib.Core.Path.{◌≡◌, refl, sym, ◌∙◌}
use mathlib.Core.Bool.{true}
use mathlib.Core.List.{List}
use Prim.Native.Nat.{ℕ, zero, suc, ◌<◌, ◌≤◌}
use native.Mathlib.Omega.{arith}
use lib.Dec.{T}
use lib.Ieee.{Float, binary64, fits, to_bits}
use lib.Ieee.Scale.{finite}
use Rattle.std.specs.Prelude.{Result, Ok, Err}
use Rattle.std.specs.Result.{IfOk}
use Rattle.rules.specs.Calls.{query_answer}
use Rattle.rules.specs.declared.Refusal.{Refusal}
use Rattle.rules.specs.Numbers.{at}
use Rattle.rules.proofs.Refused.{or_else_passed}
use Rattle.grid_checks.proofs.Rows.{axes_few}
use Rattle.sheet_patterns.specs.Patterns.{coordinates, unused_refused, refusal_pattern}
use Rattle.sheet_patterns.proofs.Refusals.{no_number, refusals_apart}
use Rattle.sheet_read.specs.Fields.{sheet_grid}
use Rattle.sheet_read.specs.Faults.{sheet_refusal}
use Rattle.sheet_read.proofs.Parts.{parts}
use Rattle.sheet_build.specs.SheetTensor.{building_refusal}
use Rattle.sheet_build.proofs.Few.{at_most, or_else_few, sheet_few, build_few}
use Rattle.rules.proofs.Cases.{passed}
use Rattle.sheet_surface.specs.SheetSurface.{stack_refused, built, asked, surface_refusal, surface}
use Rattle.sheet_surface.specs.OnTheStack.{Surfaced}
use Rattle.sheet_surface.proofs.Values.{value_fits}
use Rattle.sheet_surface.proofs.Answers.{asked_few, asked_finite}

module _ (bytes patterns : List ℕ) where
  pub surface_few : surface_refusal bytes patterns ≤ 22
  unfolding surface_refusal
  surface_few =
      or_else_few (sheet_refusal bytes) (sheet_few bytes)
      (at_most (stack_refused (sheet_grid bytes)) (omega arith)
      (at_most (unused_refused (sheet_grid bytes).axes patterns) (omega arith)
      (or_else_few (building_refusal bytes) (build_few bytes) (asked_few bytes patterns))))

  module _ (none : surface_refusal bytes patterns ≡ 0) where
    pub nothing_refused : (sheet_refusal bytes ≡ 0) × ((asked bytes patterns).refusal ≡ 0)
    unfolding surface_refusal
    nothing_refused =
        let read = or_else_passed (sheet_refusal bytes) _ none in
        let short = passed (stack_refused (sheet_grid bytes)) 15 _ read.1 in
        let zero_patterns = passed (unused_refused (sheet_grid bytes).axes patterns) 16 _ short.1 in
        let in_turn = or_else_passed (building_refusal bytes) _ zero_patterns.1 in (read.0, in_turn.1)

    pub held : T (fits binary64 (asked bytes patterns).value)
    unfolding asked query_answer
    held =
        let some = (axes_few {axes = (sheet_grid bytes).axes} (parts bytes nothing_refused.0).axes).0 in
        rw nothing_refused.1 (value_fits (sheet_grid bytes) (built bytes) (at (coordinates (sheet_grid bytes).axes patterns)) some)

    pub refusals_are_no_answers : (number : ℕ) → number < 0x0008_0000_0000_0000 → surface bytes patterns ≡ refusal_pattern number → ⊥
    unfolding surface
    refusals_are_no_answers number small e =
        let value : surface bytes patterns ≡ to_bits binary64 (asked bytes patterns).value = rw none in
        no_number (asked bytes patterns).value held (asked_finite bytes patterns nothing_refused.1) number small (sym value ∙ e)

  pub refused_pattern : (number : ℕ) → surface_refusal bytes patterns ≡ suc number → surface bytes patterns ≡ refusal_pattern (suc number)
  unfolding surface
  refused_pattern number e = rw e

-- a value that is given is finite
pub given_finite : (bytes patterns : List ℕ) (r : Result Float Refusal) → Surfaced bytes patterns r → IfOk r (λ value. finite value ≡ true)
given_finite bytes patterns (Ok value) given =
    rw given.value_is (asked_finite bytes patterns (nothing_refused bytes patterns (sym given.refused)).1)
given_finite bytes patterns (Err refusal) given = tt

-- two calls that answer one pattern have one refusal
pub pattern_tells_the_refusal : (bytes patterns bytes' patterns' : List ℕ) → surface bytes patterns ≡ surface bytes' patterns'
    → surface_refusal bytes patterns ≡ surface_refusal bytes' patterns'
pattern_tells_the_refusal bytes patterns bytes' patterns' same =
    go (surface_refusal bytes patterns) (surface_refusal bytes' patterns') refl refl
  where
    go : (a b : ℕ) → surface_refusal bytes patterns ≡ a → surface_refusal bytes' patterns' ≡ b → a ≡ b
    go zero zero e f = refl
    go zero (suc b) e f =
        absurd
        (refusals_are_no_answers bytes patterns e (suc b) (omega (arith, surface_few bytes' patterns', f))
        (same ∙ refused_pattern bytes' patterns' b f))
    go (suc a) zero e f =
        absurd
        (refusals_are_no_answers bytes' patterns' f (suc a) (omega (arith, surface_few bytes patterns, e))
        (sym same ∙ refused_pattern bytes patterns a e))
    go (suc a) (suc b) e f =
        refusals_apart (suc a) (suc b) (sym (refused_pattern bytes patterns a e) ∙ same ∙ refused_pattern bytes' patterns' b f)
