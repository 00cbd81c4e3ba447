-- The chapter Rationals of docs/RULES.md: the rational numbers, their operations, and which are above nought.
use Rattle.std.specs.Prelude.{◌≡◌, refl, ℕ, ◌+◌, ◌-◌, ◌*◌, ◌<◌, ◌≤◌}
use Rattle.std.proofs.Common.{sym, ◌∙◌, ap, mul-le-mul_right, arith}
use Rattle.std.proofs.Math.Logic.{Dec-prop}
use mathlib.Core.Quot.{Quot, sound, lift, Quot-set, lift_prop, lift_prop_prop, ind}
use Rattle.std.proofs.Math.Bridge.{le_prop}
use Rattle.std.proofs.Math.Decide.{dec_lt}
use Rattle.exact_arithmetic.specs.Arithmetic.{Arithmetic}

-- a fraction (p - n) / d of natural numbers
pub record Ratio : Type 0 where
  pub p : ℕ
  pub n : ℕ
  pub d : ℕ
  pub below : 0 < d

-- two fractions of one value
abbrev pub Same : Ratio → Ratio → Type 0
Same a b = a.p * b.d + b.n * a.d ≡ b.p * a.d + a.n * b.d

-- the rational numbers: fractions, those of one value made one
abbrev pub ℚ : Type 0
ℚ = Quot Same

pub positive_product : (a b : ℕ) → 0 < a → 0 < b → 0 < a * b
positive_product a b h k = omega (arith, mul-le-mul_right b h)

-- sum, product and opposite of fractions
abbrev pub sum : Ratio → Ratio → Ratio
sum a b =
    record {
      p = a.p * b.d + b.p * a.d;
      n = a.n * b.d + b.n * a.d;
      d = a.d * b.d;
      below = positive_product a.d b.d
          a.below b.below;
    }

abbrev pub product : Ratio → Ratio → Ratio
product a b =
    record {
      p = a.p * b.p + a.n * b.n;
      n = a.p * b.n + a.n * b.p;
      d = a.d * b.d;
      below = positive_product a.d b.d
          a.below b.below;
    }

abbrev pub opposite : Ratio → Ratio
opposite a = record { p = a.n; n = a.p; d = a.d; below = a.below }

pub one_below : 0 < 1
one_below = omega arith

-- a whole number
abbrev pub whole : ℕ → Ratio
whole k = record { p = k; n = 0; d = 1; below = one_below }

pub gap : (a b : ℕ) → a < b → 0 < b - a
gap a b h = omega arith

-- the inverse of a fraction, by whether it lies above or below nought; that of nought is nought
unfoldable pub inverted : (a : Ratio) → Dec (a.n < a.p) → Dec (a.p < a.n) → Ratio
inverted a (yes h) k = record { p = a.d; n = 0; d = a.p - a.n; below = gap a.n a.p h }
inverted a (no h) (yes k) = record { p = 0; n = a.d; d = a.n - a.p; below = gap a.p a.n k }
inverted a (no h) (no k) = whole 0

abbrev pub inverse : Ratio → Ratio
inverse a = inverted a (dec_lt a.n a.p) (dec_lt a.p a.n)

-- fractions of one value have sums, products and opposites of one value
pub sum_left : (a b c : Ratio) → Same a b → Same (sum a c) (sum b c)
sum_left a b c h = omega (arith, ap (λ z. z * (c.d * c.d)) h)

pub sum_right : (a b c : Ratio) → Same a b → Same (sum c a) (sum c b)
sum_right a b c h = omega (arith, ap (λ z. z * (c.d * c.d)) h)

pub product_left : (a b c : Ratio) → Same a b → Same (product a c) (product b c)
product_left a b c h = omega (arith, ap (λ z. z * (c.p * c.d)) h, ap (λ z. z * (c.n * c.d)) h)

pub product_right : (a b c : Ratio) → Same a b → Same (product c a) (product c b)
product_right a b c h = omega (arith, ap (λ z. z * (c.p * c.d)) h, ap (λ z. z * (c.n * c.d)) h)

pub opposite_same : (a b : Ratio) → Same a b → Same (opposite a) (opposite b)
opposite_same a b h = omega arith

pub positive_same : (a b : Ratio) → Same a b → a.n < a.p → b.n < b.p
positive_same a b h k = go (dec_lt b.n b.p)
  where
    go : Dec (b.n < b.p) → b.n < b.p
    go (yes i) = i
    go (no i) =
        let j : b.p ≤ b.n = omega arith in
        let z : ⊥ = omega (arith, mul-le-mul_right b.d k, mul-le-mul_right a.d j, b.below) in
        absurd z

-- and inverses
inverse_value : (p n d p' n' d' : ℕ) → n < p → n' < p' → p * d' + n' * d ≡ p' * d + n * d'
    → d * (p' - n') + 0 * (p - n) ≡ d' * (p - n) + 0 * (p' - n')
inverse_value p n d p' n' d' h k e = go (p - n) (p' - n') (omega arith) (omega arith)
  where
    go : (i j : ℕ) → p ≡ n + i → p' ≡ n' + j → d * j + 0 * i ≡ d' * i + 0 * j
    go i j f g =
        let e' : (n + i) * d' + n' * d ≡ (n' + j) * d + n * d' = ap (λ z. z * d' + n' * d) (sym f) ∙ e ∙ ap (λ z. z * d + n * d') g in
        omega arith

pub inverted_same : (a b : Ratio) → Same a b
    → (i : Dec (a.n < a.p)) (j : Dec (a.p < a.n)) (k : Dec (b.n < b.p)) (l : Dec (b.p < b.n))
    → Same (inverted a i j) (inverted b k l)
unfolding inverted
inverted_same a b h (yes i) j (yes k) l = inverse_value a.p a.n a.d b.p b.n b.d i k h
inverted_same a b h (yes i) j (no k) l = absurd (k (positive_same a b h i))
inverted_same a b h (no i) j (yes k) l = absurd (i (positive_same b a (sym h) k))
inverted_same a b h (no i) (yes j) (no k) (yes l) =
    let e : a.n * b.d + b.p * a.d ≡ b.n * a.d + a.p * b.d = omega arith in
    let v : a.d * (b.n - b.p) + 0 * (a.n - a.p)
    ≡ b.d * (a.n - a.p) + 0 * (b.n - b.p) = inverse_value a.n a.p a.d b.n b.p b.d j l e in
    turned a.d b.d (b.n - b.p) (a.n - a.p) v
  where
    turned : (x y i j : ℕ) → x * i + 0 * j ≡ y * j + 0 * i → 0 * i + y * j ≡ 0 * j + x * i
    turned x y i j e = omega arith
inverted_same a b h (no i) (yes j) (no k) (no l) = absurd (l (positive_same (opposite a) (opposite b) (opposite_same a b h) j))
inverted_same a b h (no i) (no j) (no k) (yes l) = absurd (j (positive_same (opposite b) (opposite a) (opposite_same b a (sym h)) l))
inverted_same a b h (no i) (no j) (no k) (no l) = refl

-- so the operations are those of the rational numbers
pub ℚ_set : IsSet ℚ
ℚ_set = Quot-set

abbrev pub mk : Ratio → ℚ
mk a = Quot.mk a

abbrev pub with_left : (f : Ratio → Ratio → Ratio) → ((a b c : Ratio) → Same a b → Same (f c a) (f c b)) → Ratio → ℚ → ℚ
with_left f right a y = lift ℚ_set (λ b. mk (f a b)) (λ b c h. sound (right b c a h)) y

abbrev pub binary : (f : Ratio → Ratio → Ratio) → ((a b c : Ratio) → Same a b → Same (f a c) (f b c))
    → ((a b c : Ratio) → Same a b → Same (f c a) (f c b)) → ℚ → ℚ → ℚ
binary f left right x y =
    lift ℚ_set
    (λ a. with_left f right a y)
    (λ a c h. ind {0, 0, 0} {β = λ y. with_left f right a y ≡ with_left f right c y}
    (λ y. ℚ_set (with_left f right a y) (with_left f right c y)) (λ b. sound (left a c b h)) y)
    x

abbrev pub unary : (f : Ratio → Ratio) → ((a b : Ratio) → Same a b → Same (f a) (f b)) → ℚ → ℚ
unary f same x = lift ℚ_set (λ a. mk (f a)) (λ a b h. sound (same a b h)) x

unfoldable pub plus : ℚ → ℚ → ℚ
plus = binary sum sum_left sum_right

unfoldable pub times : ℚ → ℚ → ℚ
times = binary product product_left product_right

unfoldable pub negative : ℚ → ℚ
negative = unary opposite opposite_same

unfoldable pub reciprocal : ℚ → ℚ
reciprocal =
    unary inverse (λ a b h. inverted_same a b h (dec_lt a.n a.p) (dec_lt a.p a.n) (dec_lt b.n b.p) (dec_lt b.p b.n))

unfoldable pub number : ℕ → ℚ
number k = Quot.mk (whole k)

unfoldable pub minus : ℚ → ℚ → ℚ
minus x y = plus x (negative y)

unfoldable pub over : ℚ → ℚ → ℚ
over x y = times x (reciprocal y)

abbrev pub rationals : Arithmetic
rationals =
    record {
      Number = ℚ;
      absent = number 0;
      nought = number 0;
      one = number 1;
      two = number 2;
      three = number 3;
      six = number 6;
      plus = plus;
      minus = minus;
      times = times;
      over = over;
      negative = negative;
    }

-- above nought
unfoldable pub Positive : ℚ → Type 0
Positive x = (lift_prop {0, 0, 0} (λ a. (a.n < a.p, le_prop)) (λ a b h. (positive_same a b h, positive_same b a (sym h))) x).0

pub positive_prop : (x : ℚ) → IsProp (Positive x)
unfolding Positive
positive_prop x = lift_prop_prop {0, 0, 0} (λ a. (a.n < a.p, le_prop)) (λ a b h. (positive_same a b h, positive_same b a (sym h))) x

-- which is decided
unfoldable pub decide_positive : (x : ℚ) → Dec (Positive x)
unfolding Positive
decide_positive = ind {0, 0, 0} {β = λ x. Dec (Positive x)} (λ x. Dec-prop (positive_prop x)) (λ a. dec_lt a.n a.p)

-- nought or more
pub least_same : (a b : Ratio) → Same a b → a.n ≤ a.p → b.n ≤ b.p
least_same a b h k = go (dec_lt b.p b.n)
  where
    go : Dec (b.p < b.n) → b.n ≤ b.p
    go (no i) = omega arith
    go (yes i) =
        let z : ⊥ = omega (arith, mul-le-mul_right b.d k, mul-le-mul_right a.d i, a.below) in
        absurd z

unfoldable pub Least : ℚ → Type 0
Least x = (lift_prop {0, 0, 0} (λ a. (a.n ≤ a.p, le_prop)) (λ a b h. (least_same a b h, least_same b a (sym h))) x).0

pub least_prop : (x : ℚ) → IsProp (Least x)
unfolding Least
least_prop x = lift_prop_prop {0, 0, 0} (λ a. (a.n ≤ a.p, le_prop)) (λ a b h. (least_same a b h, least_same b a (sym h))) x
