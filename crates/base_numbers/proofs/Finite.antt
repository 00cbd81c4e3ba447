-- Finite numbers, told by two comparisons; differences that are finite; and the patterns of floats.
use mathlib.Core.Path.{◌≡◌, refl, sym, subst, ◌∙◌}
use mathlib.Core.Bool.{Bool, true, false, not, cond}
use Prim.Native.Nat.{ℕ, zero, suc, ◌+◌, ◌-◌, ◌*◌, ◌%◌, ◌^◌, ◌<◌, ◌≤◌}
use native.Mathlib.Omega.{arith}
use borrow.Author.Tests.{ltb-true, lt-ltb, le-ltb}
use lib.Dec.{T, ltb}
use lib.Ieee.{
  Float,
  nan,
  inf,
  fin,
  Format,
  binary64,
  prec,
  low,
  up,
  down,
  of_bits,
  neg,
  lt,
  below,
  odd,
  units,
  round,
  sum,
  add,
  sub,
  div,
  is_nan,
  nan_bits,
}
use lib.Ieee.Bits.{nan_bits_is, nan_bits_above}
use lib.Ieee.Scale.{finite, overflow}

abbrev pub infinity : Float
infinity = of_bits binary64 0x7FF0_0000_0000_0000

-- what lies below the infinity is finite where it lies above the other
pub below_infinity : (x : Float) → lt x infinity ≡ true → lt (neg infinity) x ≡ finite x
unfolding of_bits neg lt
below_infinity nan e = refl
below_infinity (inf true) e = refl
below_infinity (inf false) e = sym e
below_infinity (fin s m k) e = refl

-- what does not lie below it is not
pub not_below_infinity : (x : Float) → lt x infinity ≡ false → false ≡ finite x
unfolding of_bits neg lt
not_below_infinity nan e = refl
not_below_infinity (inf true) e = refl
not_below_infinity (inf false) e = refl
not_below_infinity (fin s m k) e = sym e

-- ---- differences

-- numbers whose difference is finite are finite
pub finite_difference : (f : Format) (x y : Float) → finite (sub f x y) ≡ true → (finite x ≡ true) × (finite y ≡ true)
unfolding sub add neg
finite_difference f nan y e = (e, cc)
finite_difference f (inf s) nan e = (e, e)
finite_difference f (inf true) (inf true) e = (e, e)
finite_difference f (inf true) (inf false) e = (e, e)
finite_difference f (inf false) (inf true) e = (e, e)
finite_difference f (inf false) (inf false) e = (e, e)
finite_difference f (inf s) (fin t n d) e = (e, refl)
finite_difference f (fin s m k) nan e = (refl, e)
finite_difference f (fin s m k) (inf t) e = (refl, e)
finite_difference f (fin s m k) (fin t n d) e = (refl, refl)

-- what is rounded without a sign is finite, or the infinity itself
in_units : (f : Format) (q k : ℕ) → lt (units f false q k) infinity ≡ finite (units f false q k)
unfolding units odd lt of_bits
in_units f q k = go (ltb (q * 2 ^ k) (overflow f)) q
  where
    go : (b : Bool) (q : ℕ)
        → lt (cond b (odd (suc (prec f)) false q k (low f)) (inf false)) infinity
        ≡ finite (cond b (odd (suc (prec f)) false q k (low f)) (inf false))
    go true zero = refl
    go true (suc q) = refl
    go false q = refl

rounded : (f : Format) (a c : ℕ) → lt (round f false a c) infinity ≡ finite (round f false a c)
unfolding round
rounded f a c = in_units f _ _

-- a greater number less a smaller one: it is finite where it lies below the infinity
rising_sum : (f : Format) (s t : Bool) (a b c : ℕ) → below s a t b ≡ true
    → lt (sum f t b (not s) a c) infinity ≡ finite (sum f t b (not s) a c)
unfolding sum
rising_sum f true true a b c e = rw e (rounded f (a - b) c)
rising_sum f true false a b c e = rounded f (b + a) c
rising_sum f false true a b c e = cc
rising_sum f false false a b c e = let l = ltb-true a b e in rw (le-ltb b a (omega arith)) (rounded f (b - a) c)

pub rising_difference : (f : Format) (x y : Float) → lt x y ≡ true → lt (sub f y x) infinity ≡ finite (sub f y x)
unfolding sub add neg lt of_bits
rising_difference f nan y e = cc
rising_difference f (inf s) nan e = cc
rising_difference f (inf true) (inf true) e = cc
rising_difference f (inf true) (inf false) e = refl
rising_difference f (inf false) (inf t) e = cc
rising_difference f (inf true) (fin t n d) e = refl
rising_difference f (inf false) (fin t n d) e = cc
rising_difference f (fin s m k) nan e = cc
rising_difference f (fin s m k) (inf true) e = cc
rising_difference f (fin s m k) (inf false) e = refl
rising_difference f (fin s m k) (fin t n d) e = rising_sum f s t (m * up k * down d) (n * up d * down k) (down d * down k) e

-- ---- patterns

one_nan : (x : Float) → is_nan x ≡ true → nan ≡ x
unfolding is_nan
one_nan nan e = refl
one_nan (inf s) e = cc
one_nan (fin s m k) e = cc

-- a pattern above the infinity's, its sign dropped, is that of the one nan
pub nan_pattern : (n : ℕ) → 0x7FF0_0000_0000_0000 < n % 0x8000_0000_0000_0000
    → div binary64 (of_bits binary64 0) (of_bits binary64 0) ≡ of_bits binary64 n
unfolding div of_bits
nan_pattern n h = one_nan (of_bits binary64 n) (sym (nan_bits_is binary64 n) ∙ nan_bits_above binary64 n ∙ lt-ltb _ _ h)

-- any other pattern is a number's or an infinity's
pub other_pattern : (n : ℕ) → n % 0x8000_0000_0000_0000 ≤ 0x7FF0_0000_0000_0000 → T (not (nan_bits binary64 n))
other_pattern n h = subst (λ (b : Bool). T (not b)) (sym (nan_bits_above binary64 n ∙ le-ltb _ _ h)) tt

-- a finite number is no nan
pub finite_not_nan : (x : Float) → finite x ≡ true → T (not (is_nan x))
unfolding is_nan
finite_not_nan nan e = subst T (sym e) tt
finite_not_nan (inf s) e = tt
finite_not_nan (fin s m k) e = tt
