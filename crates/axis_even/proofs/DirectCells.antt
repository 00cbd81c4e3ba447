-- On an even axis whose last knot less the first is finite, the direct cell of a point that equals knot k is k or k - 1.
use Rattle.std.proofs.Common.{◌≡◌, ℕ, zero, suc, ◌+◌, ◌-◌, ◌^◌, ◌<◌, ◌≤◌, true, false, T, List, refl, arith, pow_pos}
use lib.Ieee.{Float, binary64, low, lt, eq}
use lib.Ieee.Scale.{finite}
use lib.Ieee.Positive.{positive}
use Rattle.base_floats.specs.Place.{Real}
use Rattle.base_floats.proofs.Equals.{eq_equal}
use Rattle.base_floats.proofs.Operations.{sub_equal, div_zero}
use Rattle.base_floats.proofs.Differences.{sub_positive, sub_same}
use Rattle.rules.specs.Numbers.{◌⊖◌, ◌⊗◌, at}
use Rattle.rules.specs.Steps.{h}
use Rattle.rules.specs.Even.{apart, fails, uneven_refused, direct_cell}
use Rattle.axis_even.proofs.Spacing.{tolerance_above_zero, no_failure}
use Rattle.axis_even.proofs.Cells.{HasEnd, cell_of_quotient, cell_of_zero}
use Rattle.axis_even.proofs.Steps.{part, EvenSteps, above_first, quotient, below, above, quotient_holds}

-- n knots, 2 to 256, that rise by finite steps, none of which fails, and the last less the first is finite
pub record EvenAxis (x : List Float) (n : ℕ) : Type 0 where
  pub some : 2 ≤ n
  pub few : n ≤ 256
  pub real : (k : ℕ) → k < n → Real (at x k)
  pub rise : (k : ℕ) → k + 1 < n → lt (at x k) (at x (k + 1)) ≡ true
  pub steps : (k : ℕ) → k + 1 < n → finite (h x k) ≡ true
  pub even : uneven_refused x n ≡ false
  pub wide : finite (at x (n - 1) ⊖ at x 0) ≡ true

module _ (x : List Float) (n : ℕ) (E : EvenAxis x n) where
  one : 0 < n
  one = omega (arith, E.some)

  two : 0 + 1 < n
  two = omega (arith, E.some)

  first_positive : T (positive (h x 0))
  unfolding h
  first_positive =
      let lower = E.real 0 one in
      let upper = E.real 1 two in
      sub_positive binary64 (at x 1) (at x 0) upper.fits lower.fits upper.finite lower.finite (E.rise 0 two) (E.steps 0 two)

  within : (i : ℕ) → 0 < i → i + 1 < n → lt (h x 0 ⊗ part) (apart (h x i) (h x 0)) ≡ false
  unfolding fails
  within i a b = rw (tolerance_above_zero (h x 0) first_positive) at (no_failure x n E.even i a b)

  even_steps : EvenSteps binary64 (at x) n
  unfolding h apart
  even_steps = record {
    some = E.some;
    few = E.few;
    fit = λ k l. (E.real k l).fits;
    real = λ k l. (E.real k l).finite;
    rise = E.rise;
    steps = E.steps;
    even = within;
    wide = E.wide;
  }

  module _ (point : Float) (R : Real point) (k : ℕ) (inside : k < n) (meets : eq point (at x k) ≡ true) where
    at_first : k ≡ 0 → HasEnd (direct_cell (at x 0) (h x 0) n point) k
    at_first e =
        let knot = E.real 0 one in
        let same : eq point (at x 0) ≡ true = rw e at meets in
        rw e
        (cell_of_zero (at x 0) (h x 0) point n
        (div_zero binary64 (point ⊖ at x 0) (h x 0)
        (sub_equal binary64 point (at x 0) R.finite (eq_equal binary64 point (at x 0) R.fits knot.fits R.finite same))
        first_positive))

    at_later : 0 < k → HasEnd (direct_cell (at x 0) (h x 0) n point) k
    unfolding h
    at_later some =
        let knot = E.real k inside in
        let first = E.real 0 one in
        let same : point ⊖ at x 0 ≡ at x k ⊖ at x 0 =
        sub_same binary64 (at x k) (at x 0) knot.fits first.fits knot.finite first.finite
        (above_first binary64 (at x) n even_steps k some inside) point R.fits R.finite meets in
        cell_of_quotient (at x 0) (h x 0) point n (quotient binary64 (at x) n even_steps k some inside) (2 ^ low binary64) k
        (rw same (quotient_holds binary64 (at x) n even_steps k some inside)) (pow_pos (low binary64))
        (below binary64 (at x) n even_steps k some inside) (above binary64 (at x) n even_steps k some inside) inside E.few E.some

    -- the knot is an end of the direct cell
    pub direct_cell_at_knot : HasEnd (direct_cell (at x 0) (h x 0) n point) k
    direct_cell_at_knot = go k refl
      where
        go : (j : ℕ) → k ≡ j → HasEnd (direct_cell (at x 0) (h x 0) n point) k
        go zero e = at_first e
        go (suc j) e = at_later (omega arith)
