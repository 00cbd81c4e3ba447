-- The laws of rational numbers: those of a field, those of order, each by the fractions that its numbers are made of.
use mathlib.Core.Path.{◌≡◌, refl, sym, ◌∙◌, ap, ap₂, subst}
use mathlib.Core.Quot.{sound, ind}
use mathlib.Core.HLevel.{Π_prop}
use Prim.Native.Nat.{ℕ, ◌+◌, ◌-◌, ◌*◌, ◌<◌}
use native.Mathlib.Nat.{mul-le-mul_right}
use native.Mathlib.Decide.{dec_lt}
use native.Mathlib.Omega.{arith}
use Rattle.exact_rationals.specs.Rationals.{
  Ratio,
  Same,
  ℚ,
  positive_product,
  sum,
  product,
  whole,
  inverted,
  ℚ_set,
  mk,
  plus,
  times,
  negative,
  reciprocal,
  number,
  minus,
  over,
  Positive,
  positive_prop,
}

-- the laws of a field, on three numbers by their fractions
three_of : (f g : ℚ → ℚ → ℚ → ℚ) → ((a b c : Ratio) → f (mk a) (mk b) (mk c) ≡ g (mk a) (mk b) (mk c)) → (x y z : ℚ) → f x y z ≡ g x y z
three_of f g h x y z =
    ind {0, 0, 0} {β = λ x. f x y z ≡ g x y z} (λ x. ℚ_set (f x y z) (g x y z))
    (λ a. ind {0, 0, 0} {β = λ y. f (mk a) y z ≡ g (mk a) y z} (λ y. ℚ_set (f (mk a) y z) (g (mk a) y z))
    (λ b. ind {0, 0, 0} {β = λ z. f (mk a) (mk b) z ≡ g (mk a) (mk b) z} (λ z. ℚ_set (f (mk a) (mk b) z) (g (mk a) (mk b) z))
    (λ c. h a b c) z) y) x

two_of : (f g : ℚ → ℚ → ℚ) → ((a b : Ratio) → f (mk a) (mk b) ≡ g (mk a) (mk b)) → (x y : ℚ) → f x y ≡ g x y
two_of f g h x y = three_of (λ x y z. f x y) (λ x y z. g x y) (λ a b c. h a b) x y x

one_of : (f g : ℚ → ℚ) → ((a : Ratio) → f (mk a) ≡ g (mk a)) → (x : ℚ) → f x ≡ g x
one_of f g h x = three_of (λ x y z. f x) (λ x y z. g x) (λ a b c. h a) x x x

-- a fraction and one of so many times its numbers
multiple : (a b : Ratio) (k : ℕ) → b.p ≡ a.p * k → b.n ≡ a.n * k → b.d ≡ a.d * k → Same a b
multiple a b k e f g =
    ap₂ (λ d n. a.p * d + n * a.d) g f
    ∙ crossing a.p a.n a.d
    ∙ sym (ap₂ (λ p d. p * a.d + a.n * d) e g)
  where
    crossing : (p n d : ℕ) → p * (d * k) + n * k * d ≡ p * k * d + n * (d * k)
    crossing p n d = omega arith

pub plus_assoc : (x y z : ℚ) → plus (plus x y) z ≡ plus x (plus y z)
unfolding plus
plus_assoc = three_of (λ x y z. plus (plus x y) z) (λ x y z. plus x (plus y z)) (λ a b c. sound (omega arith))

pub plus_comm : (x y : ℚ) → plus x y ≡ plus y x
unfolding plus
plus_comm = two_of (λ x y. plus x y) (λ x y. plus y x) (λ a b. sound (omega arith))

pub plus_nought : (x : ℚ) → plus x (number 0) ≡ x
unfolding plus number
plus_nought = one_of (λ x. plus x (number 0)) (λ x. x) (λ a. sound (omega arith))

pub plus_negative : (x : ℚ) → plus x (negative x) ≡ number 0
unfolding plus number negative
plus_negative = one_of (λ x. plus x (negative x)) (λ x. number 0) (λ a. sound (omega arith))

pub times_assoc : (x y z : ℚ) → times (times x y) z ≡ times x (times y z)
unfolding times
times_assoc = three_of (λ x y z. times (times x y) z) (λ x y z. times x (times y z)) (λ a b c. sound (omega arith))

pub times_comm : (x y : ℚ) → times x y ≡ times y x
unfolding times
times_comm = two_of (λ x y. times x y) (λ x y. times y x) (λ a b. sound (omega arith))

pub times_one : (x : ℚ) → times x (number 1) ≡ x
unfolding times number
times_one = one_of (λ x. times x (number 1)) (λ x. x) (λ a. sound (omega arith))

pub times_plus : (x y z : ℚ) → times x (plus y z) ≡ plus (times x y) (times x z)
unfolding times plus
times_plus =
    three_of (λ x y z. times x (plus y z)) (λ x y z. plus (times x y) (times x z))
    (λ a b c. sound
    (multiple (product a (sum b c)) (sum (product a b) (product a c)) a.d (omega arith) (omega arith) (omega arith)))

pub minus_is : (x y : ℚ) → minus x y ≡ plus x (negative y)
unfolding minus
minus_is x y = refl

pub two_is : number 2 ≡ plus (number 1) (number 1)
unfolding plus number
two_is = sound (omega arith)

pub three_is : number 3 ≡ plus (number 2) (number 1)
unfolding plus number
three_is = sound (omega arith)

pub six_is : number 6 ≡ plus (number 3) (number 3)
unfolding plus number
six_is = sound (omega arith)

-- an inverse times the number is one
inverted_times : (a : Ratio) → ¬ (mk a ≡ number 0) → (i : Dec (a.n < a.p)) (j : Dec (a.p < a.n))
    → Same (product (inverted a i j) a) (whole 1)
unfolding inverted number
inverted_times a h (yes i) j = go (a.p - a.n) (omega arith)
  where
    go : (k : ℕ) → a.p ≡ a.n + k → (a.d * a.p + 0 * a.n) * 1 + 0 * (k * a.d) ≡ 1 * (k * a.d) + (a.d * a.n + 0 * a.p) * 1
    go k e = ap (λ p. (a.d * p + 0 * a.n) * 1 + 0 * (k * a.d)) e ∙ omega arith
inverted_times a h (no i) (yes j) = go (a.n - a.p) (omega arith)
  where
    go : (k : ℕ) → a.n ≡ a.p + k → (0 * a.p + a.d * a.n) * 1 + 0 * (k * a.d) ≡ 1 * (k * a.d) + (0 * a.n + a.d * a.p) * 1
    go k e = ap (λ n. (0 * a.p + a.d * n) * 1 + 0 * (k * a.d)) e ∙ omega arith
inverted_times a h (no i) (no j) =
    let e : a.p ≡ a.n = omega arith in
    absurd (h (sound (omega arith)))

reciprocal_times : (x : ℚ) → ¬ (x ≡ number 0) → times (reciprocal x) x ≡ number 1
unfolding times reciprocal number
reciprocal_times x =
    ind {0, 0, 0} {β = λ x. ¬ (x ≡ number 0) → times (reciprocal x) x ≡ number 1}
    (λ x. Π_prop (λ h. ℚ_set (times (reciprocal x) x) (number 1)))
    (λ a h. sound (inverted_times a h (dec_lt a.n a.p) (dec_lt a.p a.n))) x

pub over_times : (x y : ℚ) → ¬ (y ≡ number 0) → times (over x y) y ≡ x
unfolding over
over_times x y h = times_assoc x (reciprocal y) y ∙ ap (times x) (reciprocal_times y h) ∙ times_one x

pub positive_one : Positive (number 1)
unfolding Positive number
positive_one = omega arith

pub positive_plus : (x y : ℚ) → Positive x → Positive y → Positive (plus x y)
unfolding Positive plus
positive_plus x y =
    ind {0, 0, 0} {β = λ x. Positive x → Positive y → Positive (plus x y)}
    (λ x. Π_prop (λ h. Π_prop (λ k. positive_prop (plus x y))))
    (λ a. ind {0, 0, 0} {β = λ y. Positive (mk a) → Positive y → Positive (plus (mk a) y)}
    (λ y. Π_prop (λ h. Π_prop (λ k. positive_prop (plus (mk a) y))))
    (λ b h k. sums a.p a.n a.d b.p b.n b.d a.below b.below h k) y) x
  where
    sums : (p n d p' n' d' : ℕ) → 0 < d → 0 < d' → n < p → n' < p' → n * d' + n' * d < p * d' + p' * d
    sums p n d p' n' d' i j h k = omega (arith, mul-le-mul_right d' h, mul-le-mul_right d k)

pub positive_times : (x y : ℚ) → Positive x → Positive y → Positive (times x y)
unfolding Positive times
positive_times x y =
    ind {0, 0, 0} {β = λ x. Positive x → Positive y → Positive (times x y)}
    (λ x. Π_prop (λ h. Π_prop (λ k. positive_prop (times x y))))
    (λ a. ind {0, 0, 0} {β = λ y. Positive (mk a) → Positive y → Positive (times (mk a) y)}
    (λ y. Π_prop (λ h. Π_prop (λ k. positive_prop (times (mk a) y))))
    (λ b h k. products a.p a.n b.p b.n h k) y) x
  where
    products : (p n p' n' : ℕ) → n < p → n' < p' → p * n' + n * p' < p * p' + n * n'
    products p n p' n' h k =
        go (p - n) (p' - n') (omega arith) (omega arith) (positive_product (p - n) (p' - n') (omega arith) (omega arith))
      where
        go : (i j : ℕ) → p ≡ n + i → p' ≡ n' + j → 0 < i * j → p * n' + n * p' < p * p' + n * n'
        go i j e f g =
            let z : (n + i) * n' + n * (n' + j) < (n + i) * (n' + j) + n * n' = omega arith in
            subst (λ p. p * n' + n * p' < p * p' + n * n') (sym e) (subst (λ p'. (n + i) * n' + n * p' < (n + i) * p' + n * n') (sym f) z)

positive_inverted : (a : Ratio) (i : Dec (a.n < a.p)) (j : Dec (a.p < a.n)) → a.n < a.p → (inverted a i j).n < (inverted a i j).p
unfolding inverted
positive_inverted a (yes i) j h = a.below
positive_inverted a (no i) (yes j) h = absurd (i h)
positive_inverted a (no i) (no j) h = absurd (i h)

positive_reciprocal : (x : ℚ) → Positive x → Positive (reciprocal x)
unfolding Positive reciprocal
positive_reciprocal x =
    ind {0, 0, 0} {β = λ x. Positive x → Positive (reciprocal x)} (λ x. Π_prop (λ h. positive_prop (reciprocal x)))
    (λ a h. positive_inverted a (dec_lt a.n a.p) (dec_lt a.p a.n) h) x

pub positive_over : (x y : ℚ) → Positive x → Positive y → Positive (over x y)
unfolding over
positive_over x y h k = positive_times x (reciprocal y) h (positive_reciprocal y k)

pub positive_not_nought : (x : ℚ) → Positive x → ¬ (x ≡ number 0)
unfolding Positive number
positive_not_nought x h e = let z : 0 < 0 = subst Positive e h in omega arith

-- a difference is positive where the fractions say so
pub positive_difference : (a b : Ratio) → a.p * b.d + b.n * a.d < b.p * a.d + a.n * b.d → Positive (minus (mk b) (mk a))
unfolding Positive minus plus negative
positive_difference a b h = omega arith
