-- Knots of a format whose steps are even: knot k less the first, over the first step, lies within one of k.
use Rattle.std.proofs.Common.{◌≡◌, ℕ, zero, suc, ◌+◌, ◌-◌, ◌*◌, ◌^◌, ◌<◌, ◌≤◌, true, false, cond, T, sym, ap, ◌∙◌, le_trans, le_of_eq, mul-le-mul_right, mul_comm, mul-pos, arith, pow_mono, pow-add, lt-ltb}
use lib.Ieee.{Float, Format, binary32, binary64, emax, low, sub, mul, div, fits, lt}
use lib.Ieee.Exact.{HasValue}
use lib.Ieee.Scale.{grid, overflow, finite}
use Rattle.base_floats.specs.Place.{place_in}
use Rattle.base_floats.proofs.Places.{no_nan, lt_places}
use Rattle.base_floats.proofs.Differences.{places_rise, sub_places, sub_within}
use Rattle.base_floats.proofs.Near.{Close, grid_close, grid_within}
use Rattle.base_floats.proofs.InUnits.{Holds, round_holds, finite_round, sub_holds}
use Rattle.base_floats.proofs.InUnits.{Apart, more, fewer, apart_at_most, power_below_one, Small, product_small, div_round}
use Rattle.axis_even.proofs.Counts.{evenness, step_above, step_below, step_first, span, quotient_below, quotient_above}

-- ---- a format's sizes

four_units : (f : Format) → 4 ≤ 2 ^ low f
four_units f = pow_mono {i = 2} {j = low f} (go f)
  where
    go : (f : Format) → 2 ≤ low f
    go binary32 = omega arith
    go binary64 = omega arith

room : (f : Format) → 256 * 2 ^ low f ≤ overflow f
room f =
    le_trans (mul-le-mul_right (2 ^ low f) (pow_mono {i = 8} {j = suc (emax f)} (go f)))
    (le_of_eq (mul_comm (2 ^ suc (emax f)) (2 ^ low f) ∙ sym (pow-add 2 (low f) (suc (emax f)))))
  where
    go : (f : Format) → 8 ≤ suc (emax f)
    go binary32 = omega arith
    go binary64 = omega arith

-- places that rise
rises : (P : ℕ → ℕ) (n : ℕ) → ((i : ℕ) → i + 1 < n → P i < P (i + 1)) → (k d : ℕ) → k + d < n → P k ≤ P (k + d)
rises P n rise k zero l = let e : k + 0 ≡ k = omega arith in rw e (omega arith)
rises P n rise k (suc d) l =
    let before = rises P n rise k d (omega arith) in
    let next = rise (k + d) (omega arith) in
    let e : k + suc d ≡ k + d + 1 = omega arith in
    rw e (omega arith)

-- ---- the knots

-- 2 to the -42: how far a step may lie from the first, of the first
abbrev pub part : Float
part = power_below_one 41

-- the larger of two numbers minus the smaller
abbrev apart_in : Format → Float → Float → Float
apart_in f v w = cond (lt w v) (sub f v w) (sub f w v)

pub record EvenSteps (f : Format) (x : ℕ → Float) (n : ℕ) : Type 0 where
  pub some : 2 ≤ n
  pub few : n ≤ 256
  pub fit : (k : ℕ) → k < n → T (fits f (x k))
  pub real : (k : ℕ) → k < n → finite (x k) ≡ true
  pub rise : (k : ℕ) → k + 1 < n → lt (x k) (x (k + 1)) ≡ true
  pub steps : (k : ℕ) → k + 1 < n → finite (sub f (x (k + 1)) (x k)) ≡ true
  pub even : (i : ℕ) → 0 < i → i + 1 < n
      → lt (mul f (sub f (x 1) (x 0)) part) (apart_in f (sub f (x (i + 1)) (x i)) (sub f (x 1) (x 0))) ≡ false
  pub wide : finite (sub f (x (n - 1)) (x 0)) ≡ true

module _ (f : Format) (x : ℕ → Float) (n : ℕ) (E : EvenSteps f x n) where
  abbrev P : ℕ → ℕ
  P k = place_in f (x k)

  abbrev L : ℕ
  L = 2 ^ low f

  -- step i in units, exactly and rounded
  abbrev d : ℕ → ℕ
  d i = P (i + 1) - P i

  abbrev s : ℕ → ℕ
  s i = grid f (d i) L

  abbrev step : ℕ → Float
  step i = sub f (x (i + 1)) (x i)

  rising : (i : ℕ) → i + 1 < n → P i < P (i + 1)
  rising i l =
      places_rise f (x (i + 1)) (x i) (E.fit (i + 1) l) (E.fit i (omega arith)) (E.real (i + 1) l) (E.real i (omega arith))
      (E.rise i l)

  step_holds : (i : ℕ) → i + 1 < n → Holds f (step i) (s i)
  step_holds i l =
      sub_holds f (x (i + 1)) (x i) (E.fit (i + 1) l) (E.fit i (omega arith)) (E.real (i + 1) l) (E.real i (omega arith)) (E.rise i l)
      (E.steps i l)

  step_positive : (i : ℕ) → i + 1 < n → 0 < s i
  step_positive i l = let r = rising i l in let c = (grid_close f (d i)).under in omega arith

  two : 0 + 1 < n
  two = omega (arith, E.some)

  one : 0 < n
  one = omega (arith, E.some)

  step_under : s 0 < overflow f
  step_under =
      finite_round f (d 0) L
      (sym (ap finite (sub_places f (x 1) (x 0) (E.fit 1 two) (E.fit 0 one) (E.real 1 two) (E.real 0 one) (E.rise 0 two)))
      ∙ E.steps 0 two)

  tolerated : Small f 41 (mul f (step 0) part) (s 0)
  tolerated = product_small f 41 (step 0) (s 0) (step_holds 0 two) (step_positive 0 two) step_under

  -- each step lies near the first, rounded
  step_near : (i : ℕ) → i + 1 < n → Close evenness (d i) (s 0)
  step_near zero l = step_first (d 0) (s 0) (grid_close f (d 0))
  step_near (suc i) l =
      go
      (apart_at_most f (mul f (step 0) part) (step (suc i)) (step 0) tolerated.units (s (suc i)) (s 0) tolerated.holds
      (step_holds (suc i) l) (step_holds 0 two) (E.even (suc i) (omega arith) l))
    where
      go : Apart f (s (suc i)) (s 0) tolerated.units → Close evenness (d (suc i)) (s 0)
      go (more a b) =
          step_above (d (suc i)) (s (suc i)) (s 0) (grid f (s (suc i) - s 0) L) tolerated.units (grid_close f (d (suc i))) b
          tolerated.small a (grid_close f (s (suc i) - s 0))
      go (fewer a b) =
          step_below (d (suc i)) (s (suc i)) (s 0) (grid f (s 0 - s (suc i)) L) tolerated.units (grid_close f (d (suc i))) b
          tolerated.small a (grid_close f (s 0 - s (suc i)))

  -- ---- knot k

  module _ (k : ℕ) (some : 0 < k) (inside : k < n) where
    far : (P 0 ≤ P k) × Close evenness (P k - P 0) (k * s 0)
    far = span P (s 0) k (λ i l. let r = rising i (omega arith) in omega arith) (λ i l. step_near i (omega arith))

    after_first : P 0 < P k
    after_first =
        let u = far.1.under in
        let g : 0 < k * s 0 = mul-pos some (step_positive 0 two) in
        omega arith

    below_places : (j : ℕ) → j < n → P 0 < P j → lt (x 0) (x j) ≡ true
    below_places j l h =
        lt_places f (x 0) (x j) (E.fit 0 one) (E.fit j l) (no_nan (x 0) (E.real 0 one)) (no_nan (x j) (E.real j l))
        ∙ lt-ltb (P 0) (P j) h

    pub above_first : lt (x 0) (x k) ≡ true
    above_first = below_places k inside after_first

    last_inside : n - 1 < n
    last_inside = omega arith

    upper : P k ≤ P (n - 1)
    upper = let e : k + (n - 1 - k) ≡ n - 1 = omega arith in rw e at (rises P n rising k (n - 1 - k) (omega arith))

    last_above : lt (x 0) (x (n - 1)) ≡ true
    last_above = let a = after_first in let b = upper in below_places (n - 1) last_inside (omega arith)

    distance_finite : finite (sub f (x k) (x 0)) ≡ true
    distance_finite =
        sub_within f (x (n - 1)) (x 0) (x k) (x 0) (E.fit (n - 1) last_inside) (E.fit 0 one) (E.fit k inside) (E.fit 0 one)
        (E.real (n - 1) last_inside) (E.real 0 one) (E.real k inside) (E.real 0 one) last_above above_first (omega arith) upper
        E.wide

    abbrev distance : ℕ
    distance = grid f (P k - P 0) L

    distance_holds : Holds f (sub f (x k) (x 0)) distance
    distance_holds =
        sub_holds f (x k) (x 0) (E.fit k inside) (E.fit 0 one) (E.real k inside) (E.real 0 one) above_first distance_finite

    abbrev pub quotient : ℕ
    quotient = grid f distance (s 0)

    pub below : quotient < (k + 1) * L
    below =
        quotient_below quotient distance (P k - P 0) (s 0) L k (omega (arith, E.few)) (step_positive 0 two) (four_units f)
        (grid_close f (P k - P 0)) far.1 (grid_within f distance (s 0) (step_positive 0 two))

    pub above : k * L ≤ quotient + L
    above =
        quotient_above quotient distance (P k - P 0) (s 0) L k (omega (arith, E.few)) (step_positive 0 two) (four_units f)
        (grid_close f (P k - P 0)) far.1 (grid_within f distance (s 0) (step_positive 0 two))

    pub quotient_holds : HasValue (div f (sub f (x k) (x 0)) (sub f (x 1) (x 0))) false quotient L
    quotient_holds =
        let most : (k + 1) * L ≤ 256 * L = mul-le-mul_right L (omega (arith, E.few)) in
        let r = room f in
        let b = below in
        rw (div_round f (sub f (x k) (x 0)) (step 0) distance (s 0) distance_holds (step_holds 0 two) (step_positive 0 two))
        (round_holds f distance (s 0) (omega arith)).value
