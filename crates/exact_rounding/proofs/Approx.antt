-- A float that stands for a number: how large the number is and how far off the float; and what operations make of both.
use mathlib.Core.Path.{subst}
use mathlib.Core.Bool.{Bool, true, false, cond, beq}
use mathlib.Core.List.{[], ◌∷◌}
use native.Mathlib.Omega.{arith}
use lib.Dec.{T, eqb}
use lib.Ieee.{Float, nan, inf, fin, binary64, unlike, fits}
use lib.Ieee as Ieee
use lib.Ieee.Fits.{add-fits, sub-fits, mul-fits}
use lib.Ieee.Scale.{finite}
use Rattle.exact_solver.specs.Expressions.{var, t1, t2, add, sub, mul, div, neg}
use Rattle.exact_rationals.proofs.RationalLaws as Q
use Rattle.exact_rationals.specs.Rationals.{ℚ, number, rationals, plus, minus, times, over, negative, Positive, Least}
use Rattle.exact_rationals.specs.Values.{value}
use Rattle.exact_rounding.specs.Near.{size, Near, Within, share, tiny}
use Rattle.exact_rounding.specs.Errors as Errors
use Rattle.exact_rationals.proofs.Order.{least_plus, least_times, positive_least, ring}
use Rattle.exact_rounding.proofs.Nearness.{near_wider}
use Rattle.exact_rounding.proofs.Operations.{mul_bound, add_bound, sub_bound, never_finite}

positive_two : Positive (number 2)
unfolding Positive number
positive_two = omega arith

pub least_half : Least (over (number 1) (number 2))
least_half = positive_least _ (Q.positive_over _ _ Q.positive_one positive_two)

-- the bound is nought or more
pub bound_least : (y b : ℚ) → Within y b → Least b
bound_least y b w =
    subst Least (ring (y ∷ b ∷ []) (mul (div t1 t2) (add (sub (var 1) (var 0)) (add (var 1) (var 0)))) (var 1) tt tt tt)
    (least_times _ _ least_half (least_plus _ _ w.under w.above))

pub within_times : (x y b c : ℚ) → Within x b → Within y c → Within (times x y) (times b c)
within_times x y b c v w =
    record {
      under =
          subst Least
          (ring (x ∷ y ∷ b ∷ c ∷ [])
          (mul (div t1 t2) (add (mul (sub (var 2) (var 0)) (add (var 3) (var 1))) (mul (add (var 2) (var 0)) (sub (var 3) (var 1)))))
          (sub (mul (var 2) (var 3)) (mul (var 0) (var 1))) tt tt tt)
          (least_times _ _ least_half (least_plus _ _ (least_times _ _ v.under w.above) (least_times _ _ v.above w.under)));
      above =
          subst Least
          (ring (x ∷ y ∷ b ∷ c ∷ [])
          (mul (div t1 t2) (add (mul (sub (var 2) (var 0)) (sub (var 3) (var 1))) (mul (add (var 2) (var 0)) (add (var 3) (var 1)))))
          (add (mul (var 2) (var 3)) (mul (var 0) (var 1))) tt tt tt)
          (least_times _ _ least_half (least_plus _ _ (least_times _ _ v.under w.under) (least_times _ _ v.above w.above)));
    }

pub within_plus : (x y b c : ℚ) → Within x b → Within y c → Within (plus x y) (plus b c)
within_plus x y b c v w =
    record {
      under =
          subst Least (ring (x ∷ y ∷ b ∷ c ∷ []) (add (sub (var 2) (var 0)) (sub (var 3) (var 1)))
          (sub (add (var 2) (var 3)) (add (var 0) (var 1))) tt tt tt) (least_plus _ _ v.under w.under);
      above =
          subst Least (ring (x ∷ y ∷ b ∷ c ∷ []) (add (add (var 2) (var 0)) (add (var 3) (var 1)))
          (add (add (var 2) (var 3)) (add (var 0) (var 1))) tt tt tt) (least_plus _ _ v.above w.above);
    }

pub within_negative : (x b : ℚ) → Within x b → Within (negative x) b
within_negative x b w =
    record {
      under = subst Least (ring (x ∷ b ∷ []) (add (var 1) (var 0)) (sub (var 1) (neg (var 0))) tt tt tt) w.above;
      above = subst Least (ring (x ∷ b ∷ []) (sub (var 1) (var 0)) (add (var 1) (neg (var 0))) tt tt tt) w.under;
    }

-- nearness is a bound of the difference
pub off : (x y e : ℚ) → Near x y e → Within (minus x y) e
off x y e h =
    record {
      under =
          subst Least (ring (x ∷ y ∷ e ∷ []) (sub (add (var 1) (var 2)) (var 0)) (sub (var 2) (sub (var 0) (var 1))) tt tt tt) h.under;
      above =
          subst Least (ring (x ∷ y ∷ e ∷ []) (sub (add (var 0) (var 2)) (var 1)) (add (var 2) (sub (var 0) (var 1))) tt tt tt) h.above;
    }

pub on : (x y e : ℚ) → Within (minus x y) e → Near x y e
on x y e h =
    record {
      under =
          subst Least (ring (x ∷ y ∷ e ∷ []) (sub (var 2) (sub (var 0) (var 1))) (sub (add (var 1) (var 2)) (var 0)) tt tt tt) h.under;
      above =
          subst Least (ring (x ∷ y ∷ e ∷ []) (add (var 2) (sub (var 0) (var 1))) (sub (add (var 0) (var 2)) (var 1)) tt tt tt) h.above;
    }

-- from x by y to z
pub near_through : (x y z e d : ℚ) → Near x y e → Near y z d → Near x z (plus d e)
near_through x y z e d h k =
    on x z (plus d e)
    (subst (λ w. Within w (plus d e))
    (ring (x ∷ y ∷ z ∷ []) (add (sub (var 1) (var 2)) (sub (var 0) (var 1))) (sub (var 0) (var 2)) tt tt tt)
    (within_plus _ _ _ _ (off y z d k) (off x y e h)))

-- what is near a number within b
pub within_near : (x y b e : ℚ) → Near x y e → Within y b → Within x (plus b e)
within_near x y b e h w =
    subst (λ z. Within z (plus b e)) (ring (x ∷ y ∷ []) (add (var 1) (sub (var 0) (var 1))) (var 0) tt tt tt)
    (within_plus _ _ _ _ w (off x y e h))

pub near_same : (x e : ℚ) → Least e → Near x x e
near_same x e h =
    record {
      under = subst Least (ring (x ∷ e ∷ []) (var 1) (sub (add (var 0) (var 1)) (var 0)) tt tt tt) h;
      above = subst Least (ring (x ∷ e ∷ []) (var 1) (sub (add (var 0) (var 1)) (var 0)) tt tt tt) h;
    }

pub near_back : (x y e : ℚ) → Near x y e → Near y x e
near_back x y e h = record { under = h.above; above = h.under }

-- sums, differences and products of numbers that are near others
pub near_plus : (x y x' y' e d : ℚ) → Near x y e → Near x' y' d → Near (plus x x') (plus y y') (plus e d)
near_plus x y x' y' e d h k =
    on _ _ _ (subst (λ z. Within z (plus e d))
    (ring (x ∷ y ∷ x' ∷ y' ∷ []) (add (sub (var 0) (var 1)) (sub (var 2) (var 3)))
    (sub (add (var 0) (var 2)) (add (var 1) (var 3))) tt tt tt)
    (within_plus _ _ _ _ (off _ _ _ h) (off _ _ _ k)))

pub near_minus : (x y x' y' e d : ℚ) → Near x y e → Near x' y' d → Near (minus x x') (minus y y') (plus e d)
near_minus x y x' y' e d h k =
    on _ _ _ (subst (λ z. Within z (plus e d))
    (ring (x ∷ y ∷ x' ∷ y' ∷ []) (add (sub (var 0) (var 1)) (neg (sub (var 2) (var 3))))
    (sub (sub (var 0) (var 2)) (sub (var 1) (var 3))) tt tt tt)
    (within_plus _ _ _ _ (off _ _ _ h) (within_negative _ _ (off _ _ _ k))))

pub near_times : (x y x' y' b e c d : ℚ) → Within y b → Within y' c → Near x y e → Near x' y' d
    → Near (times x x') (times y y') (Errors.cross rationals b e c d)
near_times x y x' y' b e c d v w h k =
    on _ _ _ (subst (λ z. Within z (Errors.cross rationals b e c d))
    (ring (x ∷ y ∷ x' ∷ y' ∷ [])
    (add (add (mul (sub (var 0) (var 1)) (var 3)) (mul (var 1) (sub (var 2) (var 3)))) (mul (sub (var 0) (var 1)) (sub (var 2) (var 3))))
    (sub (mul (var 0) (var 2)) (mul (var 1) (var 3))) tt tt tt)
    (within_plus _ _ _ _ (within_plus _ _ _ _ (within_times _ _ _ _ (off _ _ _ h) w) (within_times _ _ _ _ v (off _ _ _ k)))
    (within_times _ _ _ _ (off _ _ _ h) (off _ _ _ k))))

-- ---- floats

abbrev pub u : ℚ
u = share binary64

abbrev pub v : ℚ
v = tiny binary64

pub record Approx (x : Float) (y b e : ℚ) : Type 0 where
  pub fits : T (fits binary64 x)
  pub within : Within y b
  pub near : Near (value x) y e

no_sum : (b : Bool) (s : Bool) → T (finite (cond b (inf s) nan)) → ⊥
no_sum true s h = h
no_sum false s h = h

pub add_finite : (x y : Float) → T (finite (Ieee.add binary64 x y)) → T (finite x) × T (finite y)
unfolding Ieee.add
add_finite nan y h = absurd h
add_finite (inf s) nan h = absurd h
add_finite (inf s) (inf t) h = absurd (no_sum (beq s t) s h)
add_finite (inf s) (fin t n d) h = absurd h
add_finite (fin s m e) nan h = absurd h
add_finite (fin s m e) (inf t) h = absurd h
add_finite (fin s m e) (fin t n d) h = (tt, tt)

neg_finite : (x : Float) → T (finite (Ieee.neg x)) → T (finite x)
unfolding Ieee.neg
neg_finite nan h = h
neg_finite (inf s) h = h
neg_finite (fin s m e) h = tt

pub sub_finite : (x y : Float) → T (finite (Ieee.sub binary64 x y)) → T (finite x) × T (finite y)
unfolding Ieee.sub
sub_finite x y h = let a : T (finite x) × T (finite (Ieee.neg y)) = add_finite x (Ieee.neg y) h in (a.0, neg_finite y a.1)

pub mul_finite : (x y : Float) → T (finite (Ieee.mul binary64 x y)) → T (finite x) × T (finite y)
unfolding Ieee.mul
mul_finite nan y h = absurd h
mul_finite (inf s) nan h = absurd h
mul_finite (inf s) (inf t) h = absurd h
mul_finite (inf s) (fin t n d) h = absurd (never_finite (eqb n 0) (unlike s t) h)
mul_finite (fin s m e) nan h = absurd h
mul_finite (fin s m e) (inf t) h = absurd (never_finite (eqb m 0) (unlike s t) h)
mul_finite (fin s m e) (fin t n d) h = (tt, tt)

module _ (x x' : Float) (y b e y' b' e' : ℚ) (p : Approx x y b e) (q : Approx x' y' b' e') (c : ℚ) where
  pub approx_add : T (finite (Ieee.add binary64 x x')) → Within (plus y y') c
      → Approx (Ieee.add binary64 x x') (plus y y') c (Errors.sum_error rationals u c e e')
  approx_add f w =
      let both : Near (plus (value x) (value x')) (plus y y') (plus e e') = near_plus _ _ _ _ _ _ p.near q.near in
      let g : T (finite x) × T (finite x') = add_finite x x' f in
      record {
        fits = add-fits binary64 x x';
        within = w;
        near =
            near_through _ _ _ _ _
            (add_bound binary64 x x' p.fits q.fits g.0 g.1 f (plus c (plus e e')) (within_near _ _ _ _ both w)) both;
      }

  pub approx_sub : T (finite (Ieee.sub binary64 x x')) → Within (minus y y') c
      → Approx (Ieee.sub binary64 x x') (minus y y') c (Errors.sum_error rationals u c e e')
  approx_sub f w =
      let both : Near (minus (value x) (value x')) (minus y y') (plus e e') = near_minus _ _ _ _ _ _ p.near q.near in
      let g : T (finite x) × T (finite x') = sub_finite x x' f in
      record {
        fits = sub-fits binary64 x x';
        within = w;
        near =
            near_through _ _ _ _ _
            (sub_bound binary64 x x' p.fits q.fits g.0 g.1 f (plus c (plus e e')) (within_near _ _ _ _ both w)) both;
      }

  pub approx_mul : T (finite (Ieee.mul binary64 x x')) → Within (times y y') c
      → Approx (Ieee.mul binary64 x x') (times y y') c (Errors.product_error rationals u v c (Errors.cross rationals b e b' e'))
  approx_mul f w =
      let g : ℚ = Errors.cross rationals b e b' e' in
      let both : Near (times (value x) (value x')) (times y y') g =
      near_times _ _ _ _ _ _ _ _ p.within q.within p.near q.near in
      let h : T (finite x) × T (finite x') = mul_finite x x' f in
      record {
        fits = mul-fits binary64 x x';
        within = w;
        near = near_through _ _ _ _ _ (mul_bound binary64 x x' h.0 h.1 f (plus c g) (within_near _ _ _ _ both w)) both;
      }

pub approx_wider : (x : Float) (y b e d : ℚ) → Approx x y b e → Least (minus d e) → Approx x y b d
approx_wider x y b e d p h = record { fits = p.fits; within = p.within; near = near_wider _ _ _ _ p.near h }

-- a float is within its size
pub within_size : (x : Float) → Within (value x) (size x)
unfolding Least minus plus negative number
within_size nan = record { under = omega arith; above = omega arith }
within_size (inf s) = record { under = omega arith; above = omega arith }
within_size (fin true m e) = record { under = omega arith; above = omega arith }
within_size (fin false m e) = record { under = omega arith; above = omega arith }
