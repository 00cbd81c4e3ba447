-- A finite value that fits its format is a whole number of units, the format's smallest value, and below the units at which it overflows.
use mathlib.Core.Path.{◌≡◌, sym, ap, ◌∙◌, subst}
use mathlib.Core.Bool.{Bool, ◌&&◌}
use Prim.Native.Nat.{ℕ, zero, suc, ◌+◌, ◌-◌, ◌*◌, ◌%◌, ◌^◌, ◌≤◌, ◌<◌}
use native.Mathlib.Nat.{
  mul-one,
  one-mul,
  mul_assoc,
  mul_comm,
  mul_right_comm,
  zero-mul,
  lt_of_mul-lt-mul_right,
  mul-lt-mul_of_pos_right,
  not-le_of_lt,
}
use native.Mathlib.Omega.{arith}
use lib.Dec.{T, ltb, leb, eqb, eqb→eq, ltb→lt, leb→le}
use lib.IntN.{ℤ, pos, negsuc}
use lib.Pow.{pow-add, pow_pos, pow-lt}
use lib.Ieee.{fin, Format, prec, emax, low, up, down, fits}
use lib.Ieee.Fits.{and_l, and_r}
use lib.Ieee.Scale.{overflow}
use Rattle.base_floats.specs.Place.{weight, magnitude}

-- what it takes to fit, of a value other than zero
pub record Fitting (f : Format) (m : ℕ) (e : ℤ) : Type 0 where
  pub odd : m % 2 ≡ 1
  pub short : m < 2 ^ prec f
  pub fine : down e ≤ 2 ^ low f
  pub under : m * up e < 2 ^ suc (emax f) * down e

pub fitting : (f : Format) (s : Bool) (m : ℕ) (e : ℤ) → T (fits f (fin s (suc m) e)) → Fitting f (suc m) e
unfolding fits
fitting f s m e t =
    let odd : Bool = eqb (suc m % 2) 1 in
    let short : Bool = ltb (suc m) (2 ^ prec f) in
    let fine : Bool = leb (down e) (2 ^ low f) in
    let under : Bool = ltb (suc m * up e) (2 ^ suc (emax f) * down e) in
    record {
      odd = eqb→eq (suc m % 2) 1 (and_l odd short (and_l (odd && short) fine (and_l (odd && short && fine) under t)));
      short = ltb→lt (suc m) (2 ^ prec f) (and_r odd short (and_l (odd && short) fine (and_l (odd && short && fine) under t)));
      fine = leb→le (down e) (2 ^ low f) (and_r (odd && short) fine (and_l (odd && short && fine) under t));
      under = ltb→lt (suc m * up e) (2 ^ suc (emax f) * down e) (and_r (odd && short && fine) under t);
    }

-- ---- 2 to the e in units

exponents : (a b : ℕ) → 2 ^ a ≤ 2 ^ b → a ≤ b
exponents a b h = turned a b (λ (l : b < a). not-le_of_lt (pow-lt l) h)
  where
    turned : (a b : ℕ) → (b < a → ⊥) → a ≤ b
    turned a b k = omega arith

weight_is : (f : Format) (e : ℤ) → down e ≤ 2 ^ low f → weight f e * down e ≡ up e * 2 ^ low f
weight_is f (pos k) h = mul-one (2 ^ (k + low f)) ∙ pow-add 2 k (low f)
weight_is f (negsuc k) h =
    sym (pow-add 2 (low f - suc k) (suc k))
    ∙ ap (λ (x : ℕ). 2 ^ x) (back (low f) (suc k) (exponents (suc k) (low f) h))
    ∙ sym (one-mul (2 ^ low f))
  where
    back : (a b : ℕ) → b ≤ a → a - b + b ≡ a
    back a b h = omega arith

pub scaled : (f : Format) (m : ℕ) (e : ℤ) → down e ≤ 2 ^ low f → m * up e * 2 ^ low f ≡ magnitude f m e * down e
scaled f m e h =
    mul_assoc m (up e) (2 ^ low f) ∙ ap (λ (x : ℕ). m * x) (sym (weight_is f e h)) ∙ sym (mul_assoc m (weight f e) (down e))

pub under_overflow : (f : Format) (m : ℕ) (e : ℤ) → Fitting f m e → magnitude f m e < overflow f
under_overflow f m e w =
    lt_of_mul-lt-mul_right (down e)
    (subst (λ (x : ℕ). x < overflow f * down e) (scaled f m e w.fine)
    (subst (λ (x : ℕ). m * up e * 2 ^ low f < x)
    (mul_right_comm (2 ^ suc (emax f)) (down e) (2 ^ low f)
    ∙ ap (λ (x : ℕ). x * down e) (mul_comm (2 ^ suc (emax f)) (2 ^ low f) ∙ sym (pow-add 2 (low f) (suc (emax f)))))
    (mul-lt-mul_of_pos_right w.under (pow_pos (low f)))))

-- ---- the magnitude of a value that fits

module _ (f : Format) (s : Bool) where
  pub magnitude_under : (m : ℕ) (e : ℤ) → T (fits f (fin s m e)) → magnitude f m e < overflow f
  magnitude_under zero e t = subst (λ (x : ℕ). x < overflow f) (sym (zero-mul (weight f e))) (pow_pos (low f + suc (emax f)))
  magnitude_under (suc m) e t = under_overflow f (suc m) e (fitting f s m e t)

  pub magnitude_is : (m : ℕ) (e : ℤ) → T (fits f (fin s m e)) → m * up e * 2 ^ low f ≡ magnitude f m e * down e
  magnitude_is zero e t =
      ap (λ (x : ℕ). x * 2 ^ low f) (zero-mul (up e)) ∙ zero-mul (2 ^ low f)
      ∙ sym (ap (λ (x : ℕ). x * down e) (zero-mul (weight f e)) ∙ zero-mul (down e))
  magnitude_is (suc m) e t = scaled f (suc m) e (fitting f s m e t).fine

  -- the same over a common denominator, as comparisons have it
  pub magnitude_across : (m : ℕ) (e d : ℤ) → T (fits f (fin s m e)) → m * up e * down d * 2 ^ low f ≡ magnitude f m e * (down e * down d)
  magnitude_across m e d t =
      mul_right_comm (m * up e) (down d) (2 ^ low f)
      ∙ ap (λ (x : ℕ). x * down d) (magnitude_is m e t)
      ∙ mul_assoc (magnitude f m e) (down e) (down d)
