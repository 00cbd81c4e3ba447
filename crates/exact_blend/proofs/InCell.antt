-- The fraction of a point in the cell that holds it lies between nought and one, as the rules compute it: rounding keeps the order.
use mathlib.Core.Path.{◌≡◌, refl, sym, subst}
use mathlib.Core.Bool.{true, false}
use mathlib.Core.List.{[], ◌∷◌}
use mathlib.Core.Quot.{sound}
use Prim.Native.Nat.{ℕ, ◌-◌, ◌^◌, ◌<◌, ◌≤◌}
use native.Mathlib.Nat.{mul-le-mul_right, le_of_mul-le-mul_right}
use native.Mathlib.Omega.{arith}
use lib.Dec.{T}
use lib.Pow.{pow_pos}
use lib.IntN.{pos}
use lib.Ieee.{Float, fin, binary64, low, fits, lt, le, round}
use lib.Ieee.Order.{round_mono}
use lib.Ieee.Positive.{positive, values_of_le, value_pos}
use lib.Ieee.Scale.{finite, grid}
use lib.Ieee.Bits.{is_true}
use Rattle.rules.specs.Numbers.{◌⊖◌, ◌⊘◌}
use Rattle.base_floats.specs.Place.{place_in}
use Rattle.base_floats.proofs.Rounding.{round_zero}
use Rattle.base_floats.proofs.Differences.{sub_places, sub_positive}
use Rattle.base_floats.proofs.InUnits.{Holds, sub_holds, div_round}
use Rattle.exact_solver.specs.Expressions.{var, t0, sub}
use Rattle.exact_rationals.specs.Rationals.{Least, minus, number}
use Rattle.exact_rationals.specs.Values.{value}
use Rattle.exact_rationals.proofs.Order.{ring}
use Rattle.exact_rationals.proofs.Comparisons.{at_most}

-- x < p <= y by their places, all finite, and both differences and the quotient finite
module _
    (x p y : Float) (x_fits : T (fits binary64 x)) (p_fits : T (fits binary64 p)) (y_fits : T (fits binary64 y))
    (x_finite : finite x ≡ true) (p_finite : finite p ≡ true) (y_finite : finite y ≡ true)
    (above : lt x p ≡ true) (wide : lt x y ≡ true) (under : place_in binary64 p ≤ place_in binary64 y)
    (first : finite (p ⊖ x) ≡ true) (second : finite (y ⊖ x) ≡ true) (whole : finite ((p ⊖ x) ⊘ (y ⊖ x)) ≡ true) where
  abbrev A : ℕ
  A = grid binary64 (place_in binary64 p - place_in binary64 x) (2 ^ low binary64)

  abbrev B : ℕ
  B = grid binary64 (place_in binary64 y - place_in binary64 x) (2 ^ low binary64)

  holds_A : Holds binary64 (p ⊖ x) A
  holds_A = sub_holds binary64 p x p_fits x_fits p_finite x_finite above first

  holds_B : Holds binary64 (y ⊖ x) B
  holds_B = sub_holds binary64 y x y_fits x_fits y_finite x_finite wide second

  positive_A : T (positive (p ⊖ x))
  positive_A = sub_positive binary64 p x p_fits x_fits p_finite x_finite above first

  positive_B : T (positive (y ⊖ x))
  positive_B = sub_positive binary64 y x y_fits x_fits y_finite x_finite wide second

  ordered : T (le (p ⊖ x) (y ⊖ x))
  ordered =
      rw (sub_places binary64 p x p_fits x_fits p_finite x_finite above, sub_places binary64 y x y_fits x_fits y_finite x_finite wide)
      (round_mono binary64 (place_in binary64 p - place_in binary64 x) (2 ^ low binary64) (place_in binary64 y - place_in binary64 x)
      (2 ^ low binary64) (pow_pos (low binary64)) (pow_pos (low binary64)) (mul-le-mul_right (2 ^ low binary64) (omega arith)))

  at_most_B : A ≤ B
  at_most_B =
      le_of_mul-le-mul_right
      (values_of_le (p ⊖ x) (y ⊖ x) A (2 ^ low binary64) B (2 ^ low binary64) positive_A positive_B holds_A.value
      holds_B.value ordered)
      (pow_pos (low binary64))

  some_B : 0 < B
  some_B = value_pos (y ⊖ x) B (2 ^ low binary64) positive_B (pow_pos (low binary64)) holds_B.value

  quotient : (p ⊖ x) ⊘ (y ⊖ x) ≡ round binary64 false A B
  quotient = div_round binary64 (p ⊖ x) (y ⊖ x) A B holds_A holds_B some_B

  abbrev one_float : Float
  one_float = fin false 1 (pos 0)

  one_is : round binary64 false 1 1 ≡ one_float
  unfolding round
  one_is = refl

  value_one : value one_float ≡ number 1
  unfolding number
  value_one = sound refl

  value_nought : value (fin false 0 (pos 0)) ≡ number 0
  unfolding number
  value_nought = sound refl

  pub fraction_at_most_one : Least (minus (number 1) (value ((p ⊖ x) ⊘ (y ⊖ x))))
  fraction_at_most_one =
      subst (λ v. Least (minus v (value ((p ⊖ x) ⊘ (y ⊖ x))))) value_one
      (at_most ((p ⊖ x) ⊘ (y ⊖ x)) one_float whole refl
      (is_true _ (subst (λ t. T (le t one_float)) (sym quotient)
      (subst (λ o. T (le (round binary64 false A B) o)) one_is
      (round_mono binary64 A B 1 1 some_B (omega arith) (omega (arith, at_most_B)))))))

  pub fraction_at_least_nought : Least (value ((p ⊖ x) ⊘ (y ⊖ x)))
  fraction_at_least_nought =
      subst Least (ring (value ((p ⊖ x) ⊘ (y ⊖ x)) ∷ []) (sub (var 0) t0) (var 0) tt tt tt)
      (subst (λ v. Least (minus (value ((p ⊖ x) ⊘ (y ⊖ x))) v)) value_nought
      (at_most (fin false 0 (pos 0)) ((p ⊖ x) ⊘ (y ⊖ x)) refl whole
      (is_true _ (subst (λ t. T (le (fin false 0 (pos 0)) t)) (sym quotient)
      (subst (λ z. T (le z (round binary64 false A B))) (round_zero binary64 false 1 (omega arith))
      (round_mono binary64 0 1 A B (omega arith) some_B (omega arith)))))))
