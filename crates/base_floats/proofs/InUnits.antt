-- Numbers that are not negative, by the units they hold: their order, a rounded fraction, a difference, a product with a power of two
-- below one, and a quotient.
use mathlib.Core.Path.{◌≡◌, refl, sym, ap, ◌∙◌}
use mathlib.Core.Logic.{◌⊎◌, inl, inr}
use mathlib.Core.Bool.{Bool, true, false, cond, true≢false}
use Prim.Native.Nat.{ℕ, zero, suc, ◌+◌, ◌-◌, ◌*◌, ◌^◌, ◌≤◌, ◌<◌}
use native.Mathlib.Nat.{zero-mul, mul-one, mul_comm, mul_assoc, mul_right_comm, mul-pos}
use native.Mathlib.Nat.{zero-lt-suc, mul-le-mul_right, le_of_mul-le-mul_right, eq_of_mul-eq-mul_right}
use native.Mathlib.Omega.{arith}
use denote.Floats.{passes}
use lib.Dec.{T, ltb}
use lib.IntN.{ℤ, negsuc}
use lib.Pow.{pow_pos, pow_mono}
use borrow.Author.Tests.{ltb-true, ltb-false}
use lib.Ieee.{Float, nan, inf, fin, Format, prec, low, up, down, units, round, sub, mul, div, fits, lt}
use lib.Ieee.Fits.{up_pos, down_pos, round_is, round-fits}
use lib.Ieee.Exact.{HasValue}
use lib.Ieee.Order.{kept, drop}
use lib.Ieee.Scale.{grid, overflow, finite, round_val, round_under, round_same}
use lib.Ieee.Positive.{positive_of_value, mul_at}
use Rattle.base_floats.specs.Place.{magnitude, place_in}
use Rattle.base_floats.proofs.Units.{magnitude_is}
use Rattle.base_floats.proofs.Places.{no_nan, lt_places}
use Rattle.base_floats.proofs.Operations.{div_is}
use Rattle.base_floats.proofs.Differences.{sub_places}
use Rattle.base_floats.proofs.Near.{grid_close, grid_twice}

-- a number of so many units, not negative
pub record Holds (f : Format) (x : Float) (units : ℕ) : Type 0 where
  pub fits : T (fits f x)
  pub value : HasValue x false units (2 ^ low f)

value_finite : (x : Float) (s : Bool) (a c : ℕ) → HasValue x s a c → finite x ≡ true
value_finite nan s a c v = absurd v
value_finite (inf t) s a c v = absurd v
value_finite (fin t m e) s a c v = refl

holds_finite : (f : Format) (x : Float) (a : ℕ) → Holds f x a → finite x ≡ true
holds_finite f x a H = value_finite x false a (2 ^ low f) H.value

-- ---- its place, and so its order

place_of_value : (f : Format) (x : Float) (a : ℕ) → T (fits f x) → HasValue x false a (2 ^ low f) → place_in f x ≡ overflow f + a
unfolding place_in
place_of_value f nan a p v = absurd v
place_of_value f (inf s) a p v = absurd v
place_of_value f (fin true m e) a p v = absurd (true≢false v.0)
place_of_value f (fin false m e) a p v =
    ap (λ (z : ℕ). overflow f + z)
    (eq_of_mul-eq-mul_right (down e) (down_pos e) (magnitude f m e) a (sym (magnitude_is f false m e p) ∙ v.1))

place_of : (f : Format) (x : Float) (a : ℕ) → Holds f x a → place_in f x ≡ overflow f + a
place_of f x a H = place_of_value f x a H.fits H.value

module _ (f : Format) (x y : Float) (a b : ℕ) (X : Holds f x a) (Y : Holds f y b) where
  lt_units : lt x y ≡ ltb (overflow f + a) (overflow f + b)
  lt_units =
      lt_places f x y X.fits Y.fits (no_nan x (holds_finite f x a X)) (no_nan y (holds_finite f y b Y))
      ∙ rw (place_of f x a X, place_of f y b Y) refl

  less : lt x y ≡ true → a < b
  less h = let g = ltb-true (overflow f + a) (overflow f + b) (sym lt_units ∙ h) in omega arith

  not_less : lt x y ≡ false → b ≤ a
  not_less h = let g = ltb-false (overflow f + a) (overflow f + b) (sym lt_units ∙ h) in omega arith

-- ---- a rounded fraction

pub round_holds : (f : Format) (a c : ℕ) → grid f a c < overflow f → Holds f (round f false a c) (grid f a c)
round_holds f a c h = record { fits = round-fits f false a c; value = round_val f a c h }

pub finite_round : (f : Format) (a c : ℕ) → finite (round f false a c) ≡ true → grid f a c < overflow f
finite_round f a c h = round_under f a c (passes (finite (round f false a c)) h)

round_either : (f : Format) (a c : ℕ) → (grid f a c < overflow f) ⊎ (round f false a c ≡ inf false)
round_either f a c = go (ltb (grid f a c) (overflow f)) refl
  where
    in_units : round f false a c ≡ units f false (kept (prec f) (a * 2 ^ low f) c) (drop (prec f) (a * 2 ^ low f) c)
    in_units = round_is f false a c

    go : (b : Bool) → ltb (grid f a c) (overflow f) ≡ b → (grid f a c < overflow f) ⊎ (round f false a c ≡ inf false)
    go true e = inl (ltb-true (grid f a c) (overflow f) e)
    go false e = inr (in_units ∙ (unfold units in rw e refl))

-- ---- a difference

pub sub_holds :
    (f : Format) (x y : Float) → T (fits f x) → T (fits f y) → finite x ≡ true → finite y ≡ true → lt y x ≡ true → finite (sub f x y) ≡ true
    → Holds f (sub f x y) (grid f (place_in f x - place_in f y) (2 ^ low f))
sub_holds f x y p q a b h fine =
    let is = sub_places f x y p q a b h in
    let d = place_in f x - place_in f y in
    rw is (round_holds f d (2 ^ low f) (finite_round f d (2 ^ low f) (sym (ap finite is) ∙ fine)))

lt_infinite : (x : Float) (s : Bool) (a c : ℕ) → HasValue x s a c → lt x (inf false) ≡ true
unfolding lt
lt_infinite nan s a c v = absurd v
lt_infinite (inf t) s a c v = absurd v
lt_infinite (fin t m e) s a c v = refl

-- of numbers of a and b units, where it is not above a number of c
module _ (f : Format) (t x y : Float) (c a b : ℕ) (R : Holds f t c) (X : Holds f x a) (Y : Holds f y b) where
  difference : lt y x ≡ true → sub f x y ≡ round f false (a - b) (2 ^ low f)
  difference h =
      sub_places f x y X.fits Y.fits (holds_finite f x a X) (holds_finite f y b Y) h
      ∙ rw (place_of f x a X, place_of f y b Y)
      (ap (λ (z : ℕ). round f false z (2 ^ low f)) (let e : overflow f + a - (overflow f + b) ≡ a - b = omega arith in e))

  not_above : lt y x ≡ true → lt t (sub f x y) ≡ false → grid f (a - b) (2 ^ low f) ≤ c
  not_above h n = go (rw (difference h) at n) (round_either f (a - b) (2 ^ low f))
    where
      go : lt t (round f false (a - b) (2 ^ low f)) ≡ false
          → (grid f (a - b) (2 ^ low f) < overflow f) ⊎ (round f false (a - b) (2 ^ low f) ≡ inf false)
          → grid f (a - b) (2 ^ low f) ≤ c
      go k (inl under) =
          not_less f t (round f false (a - b) (2 ^ low f)) c (grid f (a - b) (2 ^ low f)) R (round_holds f (a - b) (2 ^ low f) under) k
      go k (inr e) = absurd (true≢false (sym (lt_infinite t false c (2 ^ low f) R.value) ∙ (rw e at k)))

-- the larger minus the smaller, rounded, has at most c units
pub data Apart (f : Format) (a b c : ℕ) : Type 0 where
  more : b ≤ a → grid f (a - b) (2 ^ low f) ≤ c → Apart f a b c
  fewer : a ≤ b → grid f (b - a) (2 ^ low f) ≤ c → Apart f a b c

pub apart_at_most :
    (f : Format) (t x y : Float) (c a b : ℕ) → Holds f t c → Holds f x a → Holds f y b
    → lt t (cond (lt y x) (sub f x y) (sub f y x)) ≡ false → Apart f a b c
apart_at_most f t x y c a b R X Y n = go (lt y x) refl (lt x y) refl n
  where
    nothing : (d : ℕ) → d ≡ 0 → grid f d (2 ^ low f) ≤ c
    nothing d e = let z = (grid_close f d).over in omega arith

    go : (u : Bool) → lt y x ≡ u → (v : Bool) → lt x y ≡ v → lt t (cond u (sub f x y) (sub f y x)) ≡ false → Apart f a b c
    go true e v d k = let l = less f y x b a Y X e in more (omega arith) (not_above f t x y c a b R X Y e k)
    go false e true d k = fewer (not_less f y x b a Y X e) (not_above f t y x c b a R Y X d k)
    go false e false d k =
        let l = not_less f y x b a Y X e in
        let m = not_less f x y a b X Y d in
        fewer l (nothing (b - a) (omega arith))

-- ---- a product with a power of two below one

-- 2 to the -(k + 1)
abbrev pub power_below_one : ℕ → Float
power_below_one k = fin false 1 (negsuc k)

-- it holds at most twice what the product is
pub record Small (f : Format) (k : ℕ) (x : Float) (a : ℕ) : Type 0 where
  pub units : ℕ
  pub holds : Holds f x units
  pub small : units * 2 ^ suc k ≤ 2 * a

without_unit : (t a L c : ℕ) → 0 < L → t * (L * c) ≤ 2 * (a * 1 * L) → t * c ≤ 2 * a
without_unit t a L c h l =
    le_of_mul-le-mul_right (rw (mul_assoc t c L, mul_comm c L, mul_assoc 2 a L) (rw (mul-one a) at l)) h

no_more : (t a c : ℕ) → 2 ≤ c → t * c ≤ 2 * a → t ≤ a
no_more t a c two h =
    let double : 2 * t ≤ c * t = mul-le-mul_right t two in
    omega (arith, mul_comm c t)

pub product_small :
    (f : Format) (k : ℕ) (x : Float) (a : ℕ) → Holds f x a → 0 < a → a < overflow f → Small f k (mul f x (power_below_one k)) a
product_small f k x a X h l =
    let L = 2 ^ low f in
    let c = 2 ^ suc k in
    let is : mul f x (power_below_one k) ≡ round f false (a * 1) (L * c) =
    mul_at f x (power_below_one k) a L 1 c (positive_of_value x a L X.value h) tt (pow_pos (low f)) (pow_pos (suc k))
    X.value (refl, refl) in
    let t = grid f (a * 1) (L * c) in
    let double : t * (L * c) ≤ 2 * (a * 1 * L) = grid_twice f (a * 1) (L * c) (mul-pos (pow_pos (low f)) (pow_pos (suc k))) in
    let small : t * c ≤ 2 * a = without_unit t a L c (pow_pos (low f)) double in
    let most : t ≤ a = no_more t a c (pow_mono {i = 1} {j = suc k} (omega arith)) small in
    rw is (record { units = t; holds = round_holds f (a * 1) (L * c) (omega arith); small = small })

-- ---- a quotient

-- M / de over N / dd is a over b, where these are a and b units of which there are L to one
across : (M N de dd a b L : ℕ) → 0 < L → M * L ≡ a * de → N * L ≡ b * dd → M * dd * b ≡ a * (N * de)
across M N de dd a b L h p q =
    eq_of_mul-eq-mul_right L h (M * dd * b) (a * (N * de))
    (rw (
      mul_assoc M dd b,
      mul_right_comm M (dd * b) L,
      p,
      mul_comm dd b,
      ← q,
      mul_assoc a de (N * L),
      mul_assoc a (N * de) L,
      ← mul_assoc de N L,
      mul_comm de N,
    ) refl)

pub div_round : (f : Format) (x y : Float) (a b : ℕ) → Holds f x a → Holds f y b → 0 < b → div f x y ≡ round f false a b
div_round f x y a b X Y h = go x y X.value Y.value
  where
    no_units : (d : ℤ) → 0 * up d * 2 ^ low f ≡ b * down d → ⊥
    no_units d e =
        let g = mul-pos h (down_pos d) in
        let z : 0 * up d * 2 ^ low f ≡ 0 = rw (zero-mul (up d), zero-mul (2 ^ low f)) refl in
        omega arith

    go : (x y : Float) → HasValue x false a (2 ^ low f) → HasValue y false b (2 ^ low f) → div f x y ≡ round f false a b
    go nan y v w = absurd v
    go (inf s) y v w = absurd v
    go (fin s m e) nan v w = absurd w
    go (fin s m e) (inf t) v w = absurd w
    go (fin true m e) (fin t n d) v w = absurd (true≢false v.0)
    go (fin false m e) (fin true n d) v w = absurd (true≢false w.0)
    go (fin false m e) (fin false zero d) v w = absurd (no_units d w.1)
    go (fin false m e) (fin false (suc n) d) v w =
        div_is f false m e n d
        ∙ round_same f false (m * up e * down d) (suc n * up d * down e) a b
        (mul-pos (mul-pos (zero-lt-suc n) (up_pos d)) (down_pos e)) h
        (across (m * up e) (suc n * up d) (down e) (down d) a b (2 ^ low f) (pow_pos (low f)) v.1 w.1)
