-- What the tests of two steps come to: a number without its sign, the tolerance, and whether an interval fails.
use Rattle.std.proofs.Common.{◌≡◌, ℕ, zero, suc, ◌+◌, ◌-◌, ◌*◌, ◌<◌, Bool, true, false, cond, ◌&&◌, ◌||◌, T, eqb, List, ℤ, pos, sym, refl, ap, ◌∙◌, zero-lt-suc, mul-pos, zero-mul, mul-one, arith, ltb-false, ltb-true, lt-ltb, eqb-true}
use lib.Ieee as Ieee
use lib.Ieee.{Float, nan, inf, fin, up, down, binary64, fits, lt, eq, neg}
use lib.Ieee.Fits.{up_pos}
use lib.Ieee.Back.{whole_unique}
use lib.Ieee.Positive.{positive}
use Rattle.base_floats.proofs.InUnits.{power_below_one}
use Rattle.base_numbers.proofs.Scan.{neither}
use Rattle.rules.specs.Numbers.{◌⊖◌, ◌⊗◌, plus_zero}
use Rattle.rules.specs.Steps.{h}
use Rattle.rules.proofs.Cases.{not_both, both_left}
use Rattle.rules.specs.Even.{absolute, epsilon, doubled, tolerance, apart, fails, first_that, first_failing, uneven_refused}
use Rattle.axis_even.proofs.First.{none_found}

-- ten doublings of 2 to the -52 are 2 to the -42
ten_doublings : Ieee.of_bits binary64 0x3D50_0000_0000_0000 ≡ doubled 10 epsilon
unfolding Ieee.of_bits Ieee.add doubled
ten_doublings = refl

-- so one product gives the tolerance
pub tolerance_is : (step size : Float) → size ≡ absolute step → size ⊗ Ieee.of_bits binary64 0x3D50_0000_0000_0000 ≡ tolerance step
unfolding tolerance
tolerance_is step size e =
    ap (λ (v : Float). v ⊗ Ieee.of_bits binary64 0x3D50_0000_0000_0000) e ∙ ap (λ (v : Float). absolute step ⊗ v) ten_doublings

absolute_positive : (v : Float) → T (positive v) → v ≡ absolute v
unfolding absolute
absolute_positive nan p = absurd p
absolute_positive (inf s) p = absurd p
absolute_positive (fin true m e) p = absurd p
absolute_positive (fin false m e) p = refl

-- of a step above zero it is that step with 2 to the -42
pub tolerance_above_zero : (step : Float) → T (positive step) → tolerance step ≡ step ⊗ power_below_one 41
unfolding Ieee.of_bits
tolerance_above_zero step p = sym (tolerance_is step step (absolute_positive step p))

pub apart_wider : (spacing step : Float) → lt step spacing ≡ true → spacing ⊖ step ≡ apart spacing step
unfolding apart
apart_wider spacing step e = sym (ap (λ (t : Bool). cond t (spacing ⊖ step) (step ⊖ spacing)) e)

pub apart_narrower : (spacing step : Float) → lt step spacing ≡ false → step ⊖ spacing ≡ apart spacing step
unfolding apart
apart_narrower spacing step e = sym (ap (λ (t : Bool). cond t (spacing ⊖ step) (step ⊖ spacing)) e)

-- interval i fails as its step, the first and the tolerance say
pub fails_is : (x : List Float) (i : ℕ) (spacing step limit : Float) → spacing ≡ h x i → step ≡ h x 0 → limit ≡ tolerance step → (r : Bool)
    → r ≡ lt limit (apart spacing step) → fails x i ≡ r
unfolding fails
fails_is x i spacing step limit a b c r e = cc

-- the intervals from 1 up to the last
pub failing_is : (x : List Float) (n : ℕ) → first_that (fails x) (n - 1 - 1) 1 ≡ first_failing x n
unfolding first_failing
failing_is x n = ap (λ (d : ℕ). first_that (fails x) d 1) (let z : n - 1 - 1 ≡ n - 2 = omega arith in z)

-- of an axis that is not refused by 21 none fails
pub no_failure : (x : List Float) (n : ℕ) → uneven_refused x n ≡ false → (i : ℕ) → 0 < i → i + 1 < n → fails x i ≡ false
unfolding first_failing
no_failure x n even i some inside =
    let none : first_that (fails x) (n - 2) 1 ≡ 0 = omega (arith, ltb-false 0 (first_failing x n) even) in
    none_found (fails x) (n - 2) 1 (omega arith) none i some (omega arith)

-- ---- a number without its sign, by two tests

at_zero : (s : Bool) (e : ℤ) → T (fits binary64 (fin s 0 e)) → fin s 0 (pos 0) ≡ fin s 0 e
unfolding fits
at_zero s e fit =
    whole_unique binary64 (fin s 0 (pos 0)) (fin s 0 e) s 0 tt fit (refl, refl)
    (refl, ap (λ (n : ℕ). n * 1) (zero-mul (up e)) ∙ sym (zero-mul (down e)))

-- a number above or below zero, beside the zero over a common denominator
some : (m : ℕ) (e : ℤ) → 0 < suc m * up e * 1
some m e = let l : 0 < suc m * up e = mul-pos (zero-lt-suc m) (up_pos e) in let k = mul-one (suc m * up e) in omega arith

none : (e : ℤ) → 0 * up e * 1 ≡ 0
none e = ap (λ (n : ℕ). n * 1) (zero-mul (up e))

zero_across : (e : ℤ) → 0 * 1 * down e ≡ 0
zero_across e = zero-mul (down e)

pub absolute_below : (v : Float) → lt v plus_zero ≡ true → neg v ≡ absolute v
unfolding Ieee.of_bits lt neg absolute
absolute_below nan e = not_both false e refl
absolute_below (inf true) e = refl
absolute_below (inf false) e = not_both false e refl
absolute_below (fin true m k) e = refl
absolute_below (fin false m k) e =
    let l : m * up k * 1 < 0 * 1 * down k = ltb-true (m * up k * 1) (0 * 1 * down k) e in let z = zero_across k in absurd (omega arith)

pub absolute_zero : (v : Float) → T (fits binary64 v) → eq v plus_zero ≡ true → plus_zero ≡ absolute v
unfolding Ieee.of_bits eq absolute fits
absolute_zero nan fit e = not_both false e refl
absolute_zero (inf s) fit e = not_both false e refl
absolute_zero (fin s zero k) fit e = at_zero false k fit
absolute_zero (fin s (suc m) k) fit e =
    let l = some m k in
    let z = zero_across k in
    let q : suc m * up k * 1 ≡ 0 * 1 * down k = eqb-true (suc m * up k * 1) (0 * 1 * down k) (both_left _ _ e) in
    absurd (omega arith)

pub absolute_rest : (v : Float) → lt v plus_zero ≡ false → eq v plus_zero ≡ false → v ≡ absolute v
unfolding Ieee.of_bits lt eq absolute
absolute_rest nan e f = refl
absolute_rest (inf true) e f = not_both true refl e
absolute_rest (inf false) e f = refl
absolute_rest (fin false m k) e f = refl
absolute_rest (fin true zero k) e f =
    not_both (eqb 0 0) refl
    (sym (ap (λ (n : ℕ). eqb n (0 * 1 * down k) && eqb n 0) (none k) ∙ ap (λ (n : ℕ). eqb 0 n && true) (zero_across k)) ∙ f)
absolute_rest (fin true (suc m) k) e f =
    let l = some m k in not_both true refl (sym (lt-ltb 0 (suc m * up k * 1 + 0 * 1 * down k) (omega arith)) ∙ e)

-- where neither difference is above the tolerance, the larger step minus the smaller is not
pub neither_above : (spacing step limit : Float) → (lt limit (spacing ⊖ step) || lt limit (step ⊖ spacing)) ≡ false
    → lt limit (apart spacing step) ≡ false
neither_above spacing step limit none = go (lt step spacing) refl
  where
    above : (lt limit (spacing ⊖ step) ≡ false) × (lt limit (step ⊖ spacing) ≡ false)
    above = neither (lt limit (spacing ⊖ step)) (lt limit (step ⊖ spacing)) none

    go : (t : Bool) → lt step spacing ≡ t → lt limit (apart spacing step) ≡ false
    go true e = rw (← apart_wider spacing step e) above.0
    go false e = rw (← apart_narrower spacing step e) above.1
