-- Equal numbers: those that `eq` finds equal, where both fit, and what passes from one to the other.
use mathlib.Core.Path.{◌≡◌, refl, sym, ap, ◌∙◌, subst}
use mathlib.Core.Logic.{◌⊎◌, inl, inr}
use mathlib.Core.Bool.{Bool, true, false, ◌&&◌, ◌||◌, beq, true≢false}
use Prim.Native.Nat.{ℕ, zero, suc, ◌*◌}
use lib.Dec.{T, eqb}
use lib.IntN.{ℤ, pos}
use borrow.Author.Tests.{eqb-true, eq-eqb}
use lib.Ieee.{Float, nan, inf, fin, Format, up, down, fits, eq, level}
use lib.Ieee.Fits.{up_pos, down_pos}
use lib.Ieee.Scale.{finite}
use Rattle.base_floats.specs.Zeros.{Zero, Equal}
use Rattle.base_floats.proofs.Units.{fitting}
use Rattle.base_floats.proofs.Rounding.{written_once, zero_exponent, no_zero, zero_across}

-- a test that cannot pass
pub never : {A : Type 0} → false ≡ true → A
never e = absurd (true≢false (sym e))

-- ---- what passes from one to the other

pub equal_then : (x y z : Float) → Equal x y → Equal y z → Equal x z
equal_then x y z (inl p) (inl q) = inl (p ∙ q)
equal_then x y z (inl p) (inr q) = inr (subst Zero (sym p) q.0, q.1)
equal_then x y z (inr p) (inl q) = inr (p.0, subst Zero q p.1)
equal_then x y z (inr p) (inr q) = inr (p.0, q.1)

pub equal_zero : (x y : Float) → Equal x y → Zero y → Zero x
equal_zero x y (inl p) z = subst Zero (sym p) z
equal_zero x y (inr p) z = p.0

pub zero_finite : (x : Float) → Zero x → finite x ≡ true
zero_finite x z = ap finite z.is

pub equal_finite : (x y : Float) → Equal x y → finite y ≡ true → finite x ≡ true
equal_finite x y (inl p) h = ap finite p ∙ h
equal_finite x y (inr p) h = zero_finite x p.0

-- what is found equal to a finite number is finite
pub eq_finite : (x y : Float) → eq x y ≡ true → finite y ≡ true → finite x ≡ true
unfolding eq
eq_finite nan y e h = e
eq_finite (inf s) nan e h = e
eq_finite (inf s) (inf t) e h = h
eq_finite (inf s) (fin t n d) e h = e
eq_finite (fin s m k) y e h = refl

-- ---- equal numbers are found equal

eq_self : (x : Float) → finite x ≡ true → eq x x ≡ true
unfolding eq
eq_self nan h = h
eq_self (inf s) h = never h
eq_self (fin true m e) h = rw (eq-eqb (m * up e * down e) (m * up e * down e) refl)
eq_self (fin false m e) h = rw (eq-eqb (m * up e * down e) (m * up e * down e) refl)

eq_zeros : (s t : Bool) → eq (fin s 0 (pos 0)) (fin t 0 (pos 0)) ≡ true
unfolding eq
eq_zeros true true = refl
eq_zeros true false = refl
eq_zeros false true = refl
eq_zeros false false = refl

pub equal_eq : (x y : Float) → Equal x y → finite y ≡ true → eq x y ≡ true
equal_eq x y (inl p) h = rw p (eq_self y h)
equal_eq x y (inr p) h = rw (p.0.is, p.1.is) (eq_zeros p.0.sign p.1.sign)

-- ---- and what fits and is found equal is equal

-- the magnitudes are one, and so are the signs unless both are zero
level_says : (s t : Bool) (X Y : ℕ) → level s X t Y ≡ true → (X ≡ Y) × ((s ≡ t) ⊎ (X ≡ 0))
level_says s t X Y h = go (eqb X Y) refl (beq s t) refl (eqb X 0) refl h
  where
    one_sign : (s t : Bool) → beq s t ≡ true → s ≡ t
    one_sign true true e = refl
    one_sign true false e = never e
    one_sign false true e = never e
    one_sign false false e = refl

    go : (a : Bool) → eqb X Y ≡ a → (b : Bool) → beq s t ≡ b → (c : Bool) → eqb X 0 ≡ c → a && (b || c) ≡ true
        → (X ≡ Y) × ((s ≡ t) ⊎ (X ≡ 0))
    go true p true q c r h = (eqb-true X Y p, inl (one_sign s t q))
    go true p false q true r h = (eqb-true X Y p, inr (eqb-true X 0 r))
    go true p false q false r h = never h
    go false p b q c r h = never h

eq_says : (s : Bool) (m : ℕ) (e : ℤ) (t : Bool) (n : ℕ) (d : ℤ) → eq (fin s m e) (fin t n d) ≡ true
    → (m * up e * down d ≡ n * up d * down e) × ((s ≡ t) ⊎ (m * up e * down d ≡ 0))
unfolding eq
eq_says s m e t n d h = level_says s t (m * up e * down d) (n * up d * down e) h

pub fitting_zero : (f : Format) (s : Bool) (e : ℤ) → T (fits f (fin s 0 e)) → Zero (fin s 0 e)
fitting_zero f s e t = record { sign = s; is = ap (fin s 0) (zero_exponent f s e t) }

pub eq_equal : (f : Format) (x y : Float) → T (fits f x) → T (fits f y) → finite x ≡ true → eq x y ≡ true → Equal x y
eq_equal f nan y p q a h = never a
eq_equal f (inf s) y p q a h = never a
eq_equal f (fin s m e) nan p q a h = unfold eq in never h
eq_equal f (fin s m e) (inf t) p q a h = unfold eq in never h
eq_equal f (fin s zero e) (fin t zero d) p q a h = inr (fitting_zero f s e p, fitting_zero f t d q)
eq_equal f (fin s zero e) (fin t (suc n) d) p q a h =
    absurd (no_zero n (up d) (down e) (up_pos d) (down_pos e) (sym (eq_says s zero e t (suc n) d h).0 ∙ zero_across (up e) (down d)))
eq_equal f (fin s (suc m) e) (fin t zero d) p q a h =
    absurd (no_zero m (up e) (down d) (up_pos e) (down_pos d) ((eq_says s (suc m) e t zero d h).0 ∙ zero_across (up d) (down e)))
eq_equal f (fin s (suc m) e) (fin t (suc n) d) p q a h =
    let says = eq_says s (suc m) e t (suc n) d h in
    let same = written_once (suc m) (suc n) e d (fitting f s m e p).odd (fitting f t n d q).odd says.0 in
    inl (λ i. fin (one_sign says.1 i) (same.0 i) (same.1 i))
  where
    one_sign : (s ≡ t) ⊎ (suc m * up e * down d ≡ 0) → s ≡ t
    one_sign (inl z) = z
    one_sign (inr z) = absurd (no_zero m (up e) (down d) (up_pos e) (down_pos d) z)
