-- The Hermite blend of finite numbers equals the lower value at t = 0 and the upper at t = 1.
use mathlib.Core.Path.{◌≡◌, refl, ap, ◌∙◌}
use mathlib.Core.Logic.{inl}
use mathlib.Core.Bool.{true}
use Prim.Native.Nat.{ℕ, ◌<◌}
use native.Mathlib.Omega.{arith}
use lib.Dec.{T}
use lib.Ieee.{Float, binary64, fits}
use lib.Ieee.Fits.{add-fits, mul-fits}
use lib.Ieee.Scale.{finite}
use Rattle.rules.specs.Numbers.{◌⊕◌, ◌⊗◌}
use Rattle.rules.specs.Query.{hermite}
use Rattle.base_floats.specs.Place.{Real}
use Rattle.base_floats.specs.Zeros.{Zero, Equal, one}
use Rattle.base_floats.proofs.Equals.{equal_then, equal_zero, zero_finite, equal_finite}
use Rattle.base_floats.proofs.Operations.{add_zero_right, add_zero_left, mul_zero_left, mul_one_left}
use Rattle.query_measured.specs.Weights.{h00, h10, h01, h11}
use Rattle.query_measured.proofs.AtTheEnds.{at_zero, at_one}

-- ---- what is left of a sum of products

-- a zero added to what equals a number
then_zero : (x y z : Float) → T (fits binary64 x) → Equal x y → finite y ≡ true → Zero z → Equal (x ⊕ z) y
then_zero x y z f e h k = equal_then (x ⊕ z) x y (add_zero_right binary64 x z f (equal_finite x y e h) k) e

zero_sum : (x y : Float) → T (fits binary64 x) → Zero x → Zero y → Zero (x ⊕ y)
zero_sum x y f p q = equal_zero (x ⊕ y) x (add_zero_right binary64 x y f (zero_finite x p) q) p

-- a slope that does not count
no_slope : (w width m : Float) → Zero w → finite width ≡ true → finite m ≡ true → Zero (w ⊗ width ⊗ m)
no_slope w width m k a b = mul_zero_left binary64 (w ⊗ width) m (mul_zero_left binary64 w width k a) b

-- a value that counts alone
value_alone : (w p : Float) → w ≡ one → Real p → w ⊗ p ≡ p
value_alone w p e r = ap (λ (w : Float). w ⊗ p) e ∙ mul_one_left binary64 p r.fits r.finite

-- the values and slopes at the two ends of a cell, and its width, are finite numbers
pub record FiniteEnds (p0 m0 p1 m1 width : Float) : Type 0 where
  pub lower_value : Real p0
  pub lower_slope : Real m0
  pub upper_value : Real p1
  pub upper_slope : Real m1
  pub width_finite : finite width ≡ true

module _ (p0 m0 p1 m1 width : Float) (F : FiniteEnds p0 m0 p1 m1 width) (w00 w10 w01 w11 : Float) where
  abbrev lower : Float
  lower = w00 ⊗ p0 ⊕ w10 ⊗ width ⊗ m0

  abbrev weighted : Float
  weighted = lower ⊕ w01 ⊗ p1 ⊕ w11 ⊗ width ⊗ m1

  lower_alone : w00 ≡ one → Zero w10 → Zero w01 → Zero w11 → Equal weighted p0
  lower_alone a b c d =
      let fine = F.lower_value.finite in
      then_zero (lower ⊕ w01 ⊗ p1) p0 (w11 ⊗ width ⊗ m1) (add-fits binary64 lower (w01 ⊗ p1))
      (then_zero lower p0 (w01 ⊗ p1) (add-fits binary64 (w00 ⊗ p0) (w10 ⊗ width ⊗ m0))
      (then_zero (w00 ⊗ p0) p0 (w10 ⊗ width ⊗ m0) (mul-fits binary64 w00 p0)
      (inl (value_alone w00 p0 a F.lower_value))
      fine (no_slope w10 width m0 b F.width_finite F.lower_slope.finite))
      fine (mul_zero_left binary64 w01 p1 c F.upper_value.finite))
      fine (no_slope w11 width m1 d F.width_finite F.upper_slope.finite)

  upper_alone : Zero w00 → Zero w10 → w01 ≡ one → Zero w11 → Equal weighted p1
  upper_alone a b c d =
      let fine = F.upper_value.finite in
      let before : Zero lower =
      zero_sum (w00 ⊗ p0) (w10 ⊗ width ⊗ m0) (mul-fits binary64 w00 p0)
      (mul_zero_left binary64 w00 p0 a F.lower_value.finite)
      (no_slope w10 width m0 b F.width_finite F.lower_slope.finite) in
      then_zero (lower ⊕ w01 ⊗ p1) p1 (w11 ⊗ width ⊗ m1) (add-fits binary64 lower (w01 ⊗ p1))
      (rw (value_alone w01 p1 c F.upper_value) (add_zero_left binary64 lower p1 F.upper_value.fits fine before))
      fine (no_slope w11 width m1 d F.width_finite F.upper_slope.finite)

-- ---- the blend

hermite_is : (p0 m0 p1 m1 width t : Float) → hermite p0 m0 p1 m1 width t ≡ h00 t ⊗ p0 ⊕ h10 t ⊗ width ⊗ m0 ⊕ h01 t ⊗ p1 ⊕ h11 t ⊗ width ⊗ m1
unfolding hermite h00 h10 h01 h11
hermite_is p0 m0 p1 m1 width t = refl

-- it is a number of an f64, whatever is blended
pub hermite_fits : (p0 m0 p1 m1 width t : Float) → T (fits binary64 (hermite p0 m0 p1 m1 width t))
hermite_fits p0 m0 p1 m1 width t =
    rw (hermite_is p0 m0 p1 m1 width t) (add-fits binary64 (h00 t ⊗ p0 ⊕ h10 t ⊗ width ⊗ m0 ⊕ h01 t ⊗ p1) (h11 t ⊗ width ⊗ m1))

-- the end of its cell at which a fraction stands: 0 the lower, 1 the upper
pub data AtEnd (t : Float) : ℕ → Type 0 where
  at_lower : Zero t → AtEnd t 0
  at_upper : t ≡ one → AtEnd t 1

pub end_below : (t : Float) (end : ℕ) → AtEnd t end → end < 2
end_below t end (at_lower z) = omega arith
end_below t end (at_upper z) = omega arith

module _ (p0 m0 p1 m1 width t : Float) (F : FiniteEnds p0 m0 p1 m1 width) where
  pub hermite_at_lower : Zero t → Equal (hermite p0 m0 p1 m1 width t) p0
  hermite_at_lower z =
      let w = at_zero t z in
      rw (hermite_is p0 m0 p1 m1 width t)
      (lower_alone p0 m0 p1 m1 width F (h00 t) (h10 t) (h01 t) (h11 t) w.value w.slope w.other_value w.other_slope)

  pub hermite_at_upper : t ≡ one → Equal (hermite p0 m0 p1 m1 width t) p1
  hermite_at_upper e =
      let w = at_one t e in
      rw (hermite_is p0 m0 p1 m1 width t)
      (upper_alone p0 m0 p1 m1 width F (h00 t) (h10 t) (h01 t) (h11 t) w.other_value w.other_slope w.value w.slope)
