-- Knots that rise on an axis of finite length rise by finite steps: there one comparison a knot tells refusal 8.
use native.Mathlib.Omega.{arith}
use native.Mathlib.Nat.{le_refl, eq-or-lt_of_le}
use mathlib.Core.Path.{◌≡◌, refl, sym, ap, subst, ◌∙◌}
use mathlib.Core.Bool.{Bool, true, false, not, true≢false}
use mathlib.Core.List.{List}
use mathlib.Core.Logic.{⊎_elim}
use Prim.Native.Nat.{ℕ, zero, suc, ◌+◌, ◌-◌, ◌<◌, ◌≤◌}
use lib.Ieee.{Float, nan, binary64, lt}
use lib.Ieee.Scale.{finite}
use borrow.Author.Tests.{ltb-true, lt-ltb, not-false}
use Rattle.rules.specs.Numbers.{at, any, ◌⊖◌}
use Rattle.rules.specs.Steps.{h}
use Rattle.rules.specs.Refusals.{step_refused, knots_refused}
use Rattle.base_numbers.proofs.Scan.{neither, any_none, any_at, any_never}
use Rattle.base_numbers.proofs.Finite.{finite_difference}
use Rattle.base_floats.specs.Place.{place, AllFit}
use Rattle.base_floats.proofs.Places.{no_nan, lt_places, finite_between}
use Rattle.base_floats.proofs.Differences.{sub_within}
use Rattle.grid_checks.specs.Rising.{not_rising}

-- a knot alone, or none, has no step
pub no_steps : (x : List Float) (n : ℕ) → n < 2 → knots_refused x n ≡ false
no_steps x n few = let none : n - 1 ≡ 0 = omega arith in rw none (any_none (step_refused x))

-- a knot that does not rise is refused
pub not_risen : (x : List Float) (n : ℕ) → any (not_rising x) (n - 1) ≡ true → knots_refused x n ≡ true
unfolding step_refused
not_risen x n found = go (knots_refused x n) refl
  where
    go : (b : Bool) → knots_refused x n ≡ b → knots_refused x n ≡ true
    go true e = e
    go false e =
        absurd
        (true≢false
        (sym found
        ∙ any_never (not_rising x) (n - 1)
        (λ k l. (neither (not (lt (at x k) (at x (k + 1)))) (not (finite (h x k))) (any_at (step_refused x) (n - 1) e k l)).0)))

module _
    (x : List Float) (n : ℕ) (fit : AllFit x) (two : 2 ≤ n)
    (rises : any (not_rising x) (n - 1) ≡ false) (span : finite (at x (n - 1) ⊖ at x 0) ≡ true)
  where
    ends : (finite (at x (n - 1)) ≡ true) × (finite (at x 0) ≡ true)
    ends = finite_difference binary64 (at x (n - 1)) (at x 0) span

    rise : (k : ℕ) → k + 1 < n → lt (at x k) (at x (k + 1)) ≡ true
    rise k l = not-false (lt (at x k) (at x (k + 1))) (any_at (not_rising x) (n - 1) rises k (omega arith))

    no_nan_at : (k : ℕ) → k < n → at x k ≡ nan → ⊥
    unfolding lt
    no_nan_at k l e =
        let most : k ≤ n - 1 = omega arith in
        ⊎_elim (λ last. no_nan (at x (n - 1)) ends.0 (ap (at x) (sym last) ∙ e))
        (λ before. true≢false (sym (rise k (omega arith)) ∙ ap (λ (v : Float). lt v (at x (k + 1))) e))
        (eq-or-lt_of_le most)

    -- ---- every knot lies between the first and the last

    place_rises : (k : ℕ) → k + 1 < n → place (at x k) < place (at x (k + 1))
    place_rises k l =
        ltb-true (place (at x k)) (place (at x (k + 1)))
        (sym (lt_places binary64 (at x k) (at x (k + 1)) (fit k) (fit (k + 1)) (no_nan_at k (omega arith)) (no_nan_at (k + 1) l))
        ∙ rise k l)

    in_order : (i d : ℕ) → i + d < n → place (at x i) ≤ place (at x (i + d))
    in_order i zero l = let e : i ≡ i + 0 = omega arith in subst (λ (k : ℕ). place (at x i) ≤ place (at x k)) e (le_refl (place (at x i)))
    in_order i (suc d) l =
        let e : i + d + 1 ≡ i + suc d = omega arith in
        let before = in_order i d (omega arith) in
        let here = place_rises (i + d) (omega arith) in
        subst (λ (k : ℕ). place (at x i) ≤ place (at x k)) e (omega (arith, before, here))

    after_first : (k : ℕ) → k < n → place (at x 0) ≤ place (at x k)
    after_first k l = let e : 0 + k ≡ k = omega arith in subst (λ (j : ℕ). place (at x 0) ≤ place (at x j)) e (in_order 0 k (omega arith))

    before_last : (k : ℕ) → k < n → place (at x k) ≤ place (at x (n - 1))
    before_last k l =
        let e : k + (n - 1 - k) ≡ n - 1 = omega arith in
        subst (λ (j : ℕ). place (at x k) ≤ place (at x j)) e (in_order k (n - 1 - k) (omega arith))

    knot_finite : (k : ℕ) → k < n → finite (at x k) ≡ true
    knot_finite k l =
        finite_between binary64 (at x 0) (at x k) (at x (n - 1)) (fit 0) (fit (n - 1)) ends.1 ends.0 (no_nan_at k l) (after_first k l)
        (before_last k l)

    first_below_last : lt (at x 0) (at x (n - 1)) ≡ true
    first_below_last =
        let next = place_rises 0 (omega arith) in
        let most = before_last (0 + 1) (omega arith) in
        lt_places binary64 (at x 0) (at x (n - 1)) (fit 0) (fit (n - 1)) (no_nan_at 0 (omega arith)) (no_nan_at (n - 1) (omega arith))
        ∙ lt-ltb (place (at x 0)) (place (at x (n - 1))) (omega (arith, next, most))

    -- ---- so every step is finite

    step_finite : (k : ℕ) → k + 1 < n → finite (h x k) ≡ true
    unfolding h
    step_finite k l =
        sub_within binary64 (at x (n - 1)) (at x 0) (at x (k + 1)) (at x k) (fit (n - 1)) (fit 0) (fit (k + 1)) (fit k) ends.0 ends.1
        (knot_finite (k + 1) l) (knot_finite k (omega arith)) first_below_last (rise k l) (after_first k (omega arith))
        (before_last (k + 1) l) span

    pub finite_steps : knots_refused x n ≡ false
    unfolding step_refused
    finite_steps = any_never (step_refused x) (n - 1) (λ k l. rw (rise k (omega arith), step_finite k (omega arith)) refl)
