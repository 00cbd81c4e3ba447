-- The difference of two numbers in order is that of their places in units, rounded once: so it is above zero, one for equal numbers, and
-- finite within one that is.
use mathlib.Core.Path.{◌≡◌, refl, sym, ap, ◌∙◌}
use mathlib.Core.Bool.{Bool, true, false, not, cond}
use Prim.Native.Nat.{ℕ, ◌+◌, ◌-◌, ◌*◌, ◌^◌, ◌<◌, ◌≤◌}
use native.Mathlib.Nat.{mul_comm, add-mul, mul-sub, mul-pos, mul-le-mul_right}
use native.Mathlib.Omega.{arith}
use lib.Dec.{T}
use lib.IntN.{ℤ}
use lib.Pow.{pow_pos}
use borrow.Author.Tests.{ltb-true, eqb-true, lt-ltb, le-ltb}
use lib.Ieee.{Float, nan, inf, fin, Format, binary32, binary64, low, up, down, round, sum, sub, fits, lt, eq, below}
use lib.Ieee.Fits.{down_pos}
use lib.Ieee.Order.{round_mono}
use lib.Ieee.Scale.{overflow, finite, round_same}
use lib.Ieee.Positive.{positive, above, above_of_le, between}
use Rattle.base_floats.specs.Place.{magnitude, place_in}
use Rattle.base_floats.proofs.Units.{magnitude_under, magnitude_across}
use Rattle.base_floats.proofs.Places.{no_nan, lt_places, eq_places, place_signed}
use Rattle.base_floats.proofs.Equals.{never}
use Rattle.base_floats.proofs.Operations.{sub_is}

-- ---- two signed magnitudes, X and Y over C, a and b in units

less_in_units : (X Y a b L C : ℕ) → X * L ≡ a * C → Y * L ≡ b * C → (X - Y) * L ≡ (a - b) * C
less_in_units X Y a b L C p q =
    rw (mul_comm (X - Y) L, mul_comm (a - b) C, mul-sub L X Y, mul-sub C a b, mul_comm L X, mul_comm L Y, mul_comm C a, mul_comm C b, p, q)
    refl

more_in_units : (X Y a b L C : ℕ) → X * L ≡ a * C → Y * L ≡ b * C → (X + Y) * L ≡ (a + b) * C
more_in_units X Y a b L C p q = rw (add-mul X Y L, add-mul a b C, p, q) refl

-- B is the place of the zeros
module _ (f : Format) (B X Y a b C : ℕ) (A : a < B) (A' : b < B) (C_pos : 0 < C) (p : X * 2 ^ low f ≡ a * C)
    (q : Y * 2 ^ low f ≡ b * C) where
  -- rounded over C, or over the units
  in_units : (N n m : ℕ) → N * 2 ^ low f ≡ n * C → n ≡ m → round f false N C ≡ round f false m (2 ^ low f)
  in_units N n m e is = round_same f false N C m (2 ^ low f) C_pos (pow_pos (low f)) (e ∙ ap (λ (k : ℕ). k * C) is)

  signed_difference : (s t : Bool) → below t Y s X ≡ true
      → sum f s X (not t) Y C ≡ round f false (cond s (B - a) (B + a) - cond t (B - b) (B + b)) (2 ^ low f)
  unfolding sum
  signed_difference false false h =
      let l = ltb-true Y X h in
      rw (le-ltb X Y (omega arith)) (in_units (X - Y) (a - b) (B + a - (B + b)) (less_in_units X Y a b (2 ^ low f) C p q) (omega arith))
  signed_difference false true h = in_units (X + Y) (a + b) (B + a - (B - b)) (more_in_units X Y a b (2 ^ low f) C p q) (omega arith)
  signed_difference true false h = never h
  signed_difference true true h =
      rw h (in_units (Y - X) (b - a) (B - a - (B - b)) (less_in_units Y X b a (2 ^ low f) C q p) (omega arith))

-- ---- the law

lt_says : (s : Bool) (m : ℕ) (e : ℤ) (t : Bool) (n : ℕ) (d : ℤ) → lt (fin t n d) (fin s m e) ≡ true
    → below t (n * up d * down e) s (m * up e * down d) ≡ true
unfolding lt
lt_says s m e t n d h = h

pub sub_places : (f : Format) (x y : Float) → T (fits f x) → T (fits f y) → finite x ≡ true → finite y ≡ true → lt y x ≡ true
    → sub f x y ≡ round f false (place_in f x - place_in f y) (2 ^ low f)
sub_places f nan y p q a b h = never a
sub_places f (inf s) y p q a b h = never a
sub_places f (fin s m e) nan p q a b h = never b
sub_places f (fin s m e) (inf t) p q a b h = never b
sub_places f (fin s m e) (fin t n d) p q a b h =
    sub_is f s m e t n d
    ∙ signed_difference f (overflow f) (m * up e * down d) (n * up d * down e) (magnitude f m e) (magnitude f n d) (down e * down d)
    (magnitude_under f s m e p) (magnitude_under f t n d q) (mul-pos (down_pos e) (down_pos d))
    (magnitude_across f s m e d p) (magnitude_across f t n d e q ∙ ap (λ (z : ℕ). magnitude f n d * z) (mul_comm (down d) (down e)))
    s t (lt_says s m e t n d h)
    ∙ (cc (place_signed f s m e, place_signed f t n d))

-- ---- what follows

one_unit : (f : Format) → T (positive (round f false 1 (2 ^ low f)))
unfolding round
one_unit binary32 = tt
one_unit binary64 = tt

finite_above : (x : Float) → T (above x) → finite x ≡ true → T (positive x)
finite_above nan p h = p
finite_above (inf s) p h = never h
finite_above (fin true m e) p h = p
finite_above (fin false m e) p h = p

module _ (f : Format) (x y : Float) (p : T (fits f x)) (q : T (fits f y)) (a : finite x ≡ true) (b : finite y ≡ true)
    (h : lt y x ≡ true) where
  pub places_rise : place_in f y < place_in f x
  places_rise = ltb-true (place_in f y) (place_in f x) (sym (lt_places f y x q p (no_nan y b) (no_nan x a)) ∙ h)

  -- a difference that does not overflow is above zero
  pub sub_positive : finite (sub f x y) ≡ true → T (positive (sub f x y))
  sub_positive fine =
      let rise = places_rise in
      finite_above (sub f x y)
      (rw (sub_places f x y p q a b h)
      (above_of_le (round f false 1 (2 ^ low f)) (round f false (place_in f x - place_in f y) (2 ^ low f)) (one_unit f)
      (round_mono f 1 (2 ^ low f) (place_in f x - place_in f y) (2 ^ low f) (pow_pos (low f)) (pow_pos (low f))
      (mul-le-mul_right (2 ^ low f) (omega arith)))))
      fine

  -- from an equal number it is the same
  pub sub_same : (z : Float) → T (fits f z) → finite z ≡ true → eq z x ≡ true → sub f z y ≡ sub f x y
  sub_same z r c e =
      let same : place_in f z ≡ place_in f x =
      eqb-true (place_in f z) (place_in f x) (sym (eq_places f z x r p (no_nan z c) (no_nan x a)) ∙ e) in
      let rise : lt y z ≡ true =
      lt_places f y z q r (no_nan y b) (no_nan z c) ∙ lt-ltb (place_in f y) (place_in f z) (rw same places_rise) in
      sub_places f z y r q c b rise ∙ rw same (sym (sub_places f x y p q a b h))

positive_finite : (x : Float) → T (positive x) → finite x ≡ true
positive_finite nan p = absurd p
positive_finite (inf s) p = absurd p
positive_finite (fin s m e) p = refl

-- where a difference does not overflow, none between numbers that lie within does
pub sub_within :
    (f : Format) (x y v w : Float) → T (fits f x) → T (fits f y) → T (fits f v) → T (fits f w)
    → finite x ≡ true → finite y ≡ true → finite v ≡ true → finite w ≡ true → lt y x ≡ true → lt w v ≡ true
    → place_in f y ≤ place_in f w → place_in f v ≤ place_in f x → finite (sub f x y) ≡ true → finite (sub f v w) ≡ true
sub_within f x y v w p q r s a b c d h k lower upper fine =
    let rise = places_rise f v w r s c d k in
    let unit = pow_pos (low f) in
    let wide : T (positive (round f false (place_in f x - place_in f y) (2 ^ low f))) =
    rw (sub_places f x y p q a b h) at (sub_positive f x y p q a b h fine) in
    rw (sub_places f v w r s c d k)
    (positive_finite (round f false (place_in f v - place_in f w) (2 ^ low f))
    (between (round f false 1 (2 ^ low f)) (round f false (place_in f v - place_in f w) (2 ^ low f))
    (round f false (place_in f x - place_in f y) (2 ^ low f)) (one_unit f) wide
    (round_mono f 1 (2 ^ low f) (place_in f v - place_in f w) (2 ^ low f) unit unit (mul-le-mul_right (2 ^ low f) (omega arith)))
    (round_mono f (place_in f v - place_in f w) (2 ^ low f) (place_in f x - place_in f y) (2 ^ low f) unit unit
    (mul-le-mul_right (2 ^ low f) (omega arith)))))
