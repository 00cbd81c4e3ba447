-- Rational numbers of nought or more: their sums and products, differences one after the other, and when one is nought; and equations
-- without a divisor.
use mathlib.Core.Path.{◌≡◌, sym, subst}
use mathlib.Core.List.{List, [], ◌∷◌}
use mathlib.Core.Quot.{ind, sound}
use mathlib.Core.HLevel.{Π_prop}
use Prim.Native.Nat.{ℕ, ◌+◌, ◌-◌, ◌*◌, ◌≤◌}
use native.Mathlib.Nat.{mul-le-mul_right}
use native.Mathlib.Omega.{arith}
use lib.Dec.{T}
use Rattle.exact_solver.specs.Expressions.{Term, var, add, sub, divides, same, meaning}
use Rattle.exact_solver.proofs.Solver.{solve}
use Rattle.exact_rationals.specs.Rationals.{
  ℚ,
  Ratio,
  mk,
  rationals,
  number,
  plus,
  minus,
  times,
  negative,
  Positive,
  Least,
  least_prop,
  ℚ_set,
}
use Rattle.exact_rationals.proofs.OrderedField.{rationals_are_a_field}

pub least_plus : (x y : ℚ) → Least x → Least y → Least (plus x y)
unfolding Least plus
least_plus x y =
    ind {0, 0, 0} {β = λ x. Least x → Least y → Least (plus x y)}
    (λ x. Π_prop (λ h. Π_prop (λ k. least_prop (plus x y))))
    (λ a. ind {0, 0, 0} {β = λ y. Least (mk a) → Least y → Least (plus (mk a) y)}
    (λ y. Π_prop (λ h. Π_prop (λ k. least_prop (plus (mk a) y))))
    (λ b h k. sums a.p a.n a.d b.p b.n b.d h k) y) x
  where
    sums : (p n d p' n' d' : ℕ) → n ≤ p → n' ≤ p' → n * d' + n' * d ≤ p * d' + p' * d
    sums p n d p' n' d' h k = omega (arith, mul-le-mul_right d' h, mul-le-mul_right d k)

pub least_times : (x y : ℚ) → Least x → Least y → Least (times x y)
unfolding Least times
least_times x y =
    ind {0, 0, 0} {β = λ x. Least x → Least y → Least (times x y)}
    (λ x. Π_prop (λ h. Π_prop (λ k. least_prop (times x y))))
    (λ a. ind {0, 0, 0} {β = λ y. Least (mk a) → Least y → Least (times (mk a) y)}
    (λ y. Π_prop (λ h. Π_prop (λ k. least_prop (times (mk a) y))))
    (λ b h k. products a.p a.n b.p b.n h k) y) x
  where
    products : (p n p' n' : ℕ) → n ≤ p → n' ≤ p' → p * n' + n * p' ≤ p * p' + n * n'
    products p n p' n' h k = go (p - n) (p' - n') (omega arith) (omega arith)
      where
        go : (i j : ℕ) → p ≡ n + i → p' ≡ n' + j → p * n' + n * p' ≤ p * p' + n * n'
        go i j e f =
            let z : (n + i) * n' + n * (n' + j) ≤ (n + i) * (n' + j) + n * n' = omega arith in
            subst (λ p. p * n' + n * p' ≤ p * p' + n * n') (sym e) (subst (λ p'. (n + i) * n' + n * p' ≤ (n + i) * p' + n * n') (sym f) z)

-- a difference is nought or more where the fractions say so, and where it is positive
pub least_difference : (a b : Ratio) → a.p * b.d + b.n * a.d ≤ b.p * a.d + a.n * b.d → Least (minus (mk b) (mk a))
unfolding Least minus plus negative
least_difference a b h = omega arith

pub positive_least : (x : ℚ) → Positive x → Least x
unfolding Positive Least
positive_least =
    ind {0, 0, 0} {β = λ x. Positive x → Least x} (λ x. Π_prop (λ h. least_prop x)) (λ a h. omega (arith, h))

-- what is not above nought has an opposite of nought or more
pub not_positive : (x : ℚ) → ¬ Positive x → Least (negative x)
unfolding Positive Least negative
not_positive =
    ind {0, 0, 0} {β = λ x. ¬ Positive x → Least (negative x)} (λ x. Π_prop (λ h. least_prop (negative x))) (λ a h. omega (arith, h))

-- nought or more, and its opposite too: nought
pub least_both : (x : ℚ) → Least x → Least (negative x) → x ≡ number 0
unfolding Least negative number
least_both =
    ind {0, 0, 0} {β = λ x. Least x → Least (negative x) → x ≡ number 0}
    (λ x. Π_prop (λ h. Π_prop (λ k. ℚ_set x (number 0)))) (λ a h k. sound (omega (arith, h, k)))

pub least_number : (k : ℕ) → Least (number k)
unfolding Least number
least_number k = omega arith

-- an equation of expressions, none divided by a variable
pub ring : (env : List ℚ) (a b : Term) → T (divides 0 a) → T (divides 0 b) → T (same a b)
    → meaning rationals env a ≡ meaning rationals env b
ring env a b = solve rationals rationals_are_a_field 0 env tt a b

-- from a to b and on to c
pub least_through : (a b c : ℚ) → Least (minus b a) → Least (minus c b) → Least (minus c a)
least_through a b c h k =
    subst Least
    (ring (a ∷ b ∷ c ∷ []) (add (sub (var 1) (var 0)) (sub (var 2) (var 1))) (sub (var 2) (var 0)) tt tt tt)
    (least_plus _ _ h k)
