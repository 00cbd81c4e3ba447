-- The operations keep the bounds: where floats lie within theirs of exact numbers, a result lies within its own of the exact result, or has
-- none.
use mathlib.Core.Path.{◌≡◌, refl, sym, ◌∙◌, ap, subst}
use mathlib.Core.Quot.{sound}
use mathlib.Core.Bool.{Bool, true, false, cond}
use mathlib.Core.List.{[], ◌∷◌}
use Prim.Native.Nat.{ℕ}
use lib.Dec.{T}
use denote.Floats.{passes}
use lib.Ieee as Ieee
use lib.Ieee.{Float, nan, binary64, fits}
use lib.Ieee.Bits.{of_bits-fits}
use lib.Ieee.Fits.{add-fits, sub-fits, mul-fits, div-fits}
use lib.Ieee.Scale.{finite}
use Rattle.rules.specs.Numbers.{◌⊕◌, ◌⊖◌, ◌⊗◌, ◌⊘◌, plus_zero, one, two, three, six}
use Rattle.exact_solver.specs.Expressions.{var, sub, neg}
use Rattle.exact_rationals.specs.Rationals.{ℚ, number, minus, negative, rationals, Positive, decide_positive}
use Rattle.exact_rationals.specs.Values.{value}
use Rattle.exact_rationals.proofs.Order.{least_number, ring}
use Rattle.exact_rounding.specs.Near.{Near, Within, size}
use Rattle.exact_rounding.proofs.Operations.{value_neg, finite_neg, fits_neg}
use Rattle.exact_rounding.proofs.Approx.{near_same, off, on, within_negative}
use Rattle.exact_blend.proofs.Weights.{value_one, value_two, value_three}
use Rattle.exact_blend.proofs.TheQuery.{value_nought}
use Rattle.exact_bounds.specs.Bounds.{
  Bound,
  unknown,
  within,
  Bounded,
  given,
  bounded,
  from_both,
  where_finite,
  where_positive,
}
use Rattle.exact_bounds.proofs.Relations.{Respected}
use Rattle.exact_bounds.proofs.Results.{sum_near, difference_near, product_near, quotient_near}

-- a float within a bound of a number
abbrev pub Under : Float → Bound → ℚ → Type 0
Under x unknown Y = T true
Under x (within e) Y = T (finite x) × Near (value x) Y e

-- a float that binary64 holds, within its bound of a number
pub record Stands (a : Bounded) (Y : ℚ) : Type 0 where
  pub fits : T (fits binary64 a.float)
  pub under : Under a.float a.bound Y

under_finite : (x : Float) (e Y : ℚ) → (T (finite x) → Near (value x) Y e) → Under x (where_finite x e) Y
under_finite x e Y near = go (finite x) refl
  where
    go : (b : Bool) → finite x ≡ b → Under x (cond b (within e) unknown) Y
    go true f = (passes _ f, near (passes _ f))
    go false f = tt

under_both : (r : Float) (f : ℚ → ℚ → Bound) (x y : Float) (b c : Bound) (X Y Z : ℚ) → Under x b X → Under y c Y
    → ((e d : ℚ) → T (finite x) × Near (value x) X e → T (finite y) × Near (value y) Y d → Under r (f e d) Z)
    → Under r (from_both b c f) Z
under_both r f x y unknown c X Y Z p q h = tt
under_both r f x y (within e) unknown X Y Z p q h = tt
under_both r f x y (within e) (within d) X Y Z p q h = h e d p q

under_positive : (r : Float) (z : ℚ) (t : Dec (Positive z)) (b : Bound) (Z : ℚ) → (Positive z → Under r b Z)
    → Under r (where_positive z t b) Z
under_positive r z (yes p) b Z h = h p
under_positive r z (no p) b Z h = tt

-- a number that is given
pub given_stands : (x : Float) → T (fits binary64 x) → Stands (given x) (value x)
given_stands x f = record { fits = f; under = under_finite x (number 0) (value x) (λ h. near_same _ _ (least_number 0)) }

constant : (n : ℕ) (x : Float) → T (fits binary64 x) → value x ≡ number n → Stands (given x) (number n)
constant n x f e = subst (Stands (given x)) e (given_stands x f)

value_six : value six ≡ number 6
unfolding Ieee.of_bits number
value_six = sound refl

nan_fits : T (fits binary64 nan)
unfolding fits
nan_fits = tt

under_negative : (x : Float) (b : Bound) (Y : ℚ) → Under x b Y → Under (Ieee.neg x) b (negative Y)
under_negative x unknown Y p = tt
under_negative x (within e) Y p = (
  finite_neg x p.0,
  on _ _ _ (subst (λ z. Within z e)
      (ring (value x ∷ Y ∷ []) (neg (sub (var 0) (var 1))) (sub (neg (var 0)) (neg (var 1))) tt tt tt
      ∙ ap (λ z. minus z (negative Y)) (sym (value_neg x)))
      (within_negative _ _ (off _ _ _ p.1))),
)

pub operations_keep_bounds : Respected bounded rationals Stands
operations_keep_bounds =
    record {
      absent = record { fits = nan_fits; under = tt };
      nought = constant 0 plus_zero (of_bits-fits binary64 _) value_nought;
      one = constant 1 one (of_bits-fits binary64 _) value_one;
      two = constant 2 two (of_bits-fits binary64 _) value_two;
      three = constant 3 three (of_bits-fits binary64 _) value_three;
      six = constant 6 six (of_bits-fits binary64 _) value_six;
      plus = λ a b X Y p q.
          record {
            fits = add-fits binary64 a.float b.float;
            under = under_both _ _ a.float b.float a.bound b.bound X Y _ p.under q.under
                (λ e d i j. under_finite (a.float ⊕ b.float) _ _
                (sum_near a.float b.float X Y e d p.fits q.fits i.0 j.0 i.1 j.1));
          };
      minus = λ a b X Y p q.
          record {
            fits = sub-fits binary64 a.float b.float;
            under = under_both _ _ a.float b.float a.bound b.bound X Y _ p.under q.under
                (λ e d i j. under_finite (a.float ⊖ b.float) _ _
                (difference_near a.float b.float X Y e d p.fits q.fits i.0 j.0 i.1 j.1));
          };
      times = λ a b X Y p q.
          record {
            fits = mul-fits binary64 a.float b.float;
            under = under_both _ _ a.float b.float a.bound b.bound X Y _ p.under q.under
                (λ e d i j. under_finite (a.float ⊗ b.float) _ _
                (product_near a.float b.float X Y e d p.fits q.fits i.0 j.0 i.1 j.1));
          };
      over = λ a b X Y p q.
          record {
            fits = div-fits binary64 a.float b.float;
            under = under_both _ _ a.float b.float a.bound b.bound X Y _ p.under q.under
                (λ e d i j. under_positive _ (minus (size b.float) d) (decide_positive (minus (size b.float) d)) _ _
                (λ clear. under_finite (a.float ⊘ b.float) _ _
                (quotient_near a.float b.float X Y e d p.fits q.fits i.0 j.0 i.1 j.1 clear)));
          };
      negative = λ a Y p.
          record { fits = fits_neg binary64 a.float p.fits; under = under_negative a.float a.bound Y p.under };
    }
