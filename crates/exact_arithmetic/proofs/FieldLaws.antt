-- What follows from the laws of a field: sums and products in another order, signs, what is added or multiplied on both sides.
use mathlib.Core.Path.{◌≡◌, sym, ◌∙◌, ap, ap₂}
use Rattle.exact_arithmetic.specs.Arithmetic.{Arithmetic, IsField}

module _ (A : Arithmetic) (F : IsField A) where
  infixl 60 ◌+◌
  infixl 60 ◌-◌
  infixl 70 ◌*◌
  infixl 70 ◌/◌
  open A use {Number as R, plus as ◌+◌, minus as ◌-◌, times as ◌*◌, over as ◌/◌, negative as neg, nought as 𝟘, one as 𝟙}
  open F use {
    plus_assoc,
    plus_comm,
    plus_nought,
    plus_negative,
    times_assoc,
    times_comm,
    times_one,
    times_plus,
    minus_is,
    over_times,
    one_not_nought,
  }

  pub plus_left_comm : (a b c : R) → a + (b + c) ≡ b + (a + c)
  plus_left_comm a b c = sym (plus_assoc a b c) ∙ ap (λ x. x + c) (plus_comm a b) ∙ plus_assoc b a c

  pub times_left_comm : (a b c : R) → a * (b * c) ≡ b * (a * c)
  times_left_comm a b c = sym (times_assoc a b c) ∙ ap (λ x. x * c) (times_comm a b) ∙ times_assoc b a c

  pub nought_plus : (a : R) → 𝟘 + a ≡ a
  nought_plus a = plus_comm 𝟘 a ∙ plus_nought a

  pub one_times : (a : R) → 𝟙 * a ≡ a
  one_times a = times_comm 𝟙 a ∙ times_one a

  pub plus_times : (a b c : R) → (a + b) * c ≡ a * c + b * c
  plus_times a b c = times_comm (a + b) c ∙ times_plus c a b ∙ ap₂ ◌+◌ (times_comm c a) (times_comm c b)

  -- what is added on either side is taken away
  pub plus_cancel : (a b c : R) → a + c ≡ b + c → a ≡ b
  plus_cancel a b c e = sym (back a) ∙ ap (λ x. x + neg c) e ∙ back b
    where
      back : (x : R) → x + c + neg c ≡ x
      back x = plus_assoc x c (neg c) ∙ ap (λ y. x + y) (plus_negative c) ∙ plus_nought x

  pub times_nought : (a : R) → a * 𝟘 ≡ 𝟘
  times_nought a = plus_cancel (a * 𝟘) 𝟘 (a * 𝟘) (sym (times_plus a 𝟘 𝟘) ∙ ap (λ x. a * x) (plus_nought 𝟘) ∙ sym (nought_plus (a * 𝟘)))

  pub nought_times : (a : R) → 𝟘 * a ≡ 𝟘
  nought_times a = times_comm 𝟘 a ∙ times_nought a

  -- a number whose sum with a is nought is a's negative
  pub negative_unique : (a b : R) → b + a ≡ 𝟘 → b ≡ neg a
  negative_unique a b e = plus_cancel b (neg a) a (e ∙ sym (plus_comm (neg a) a ∙ plus_negative a))

  pub negative_nought : neg 𝟘 ≡ 𝟘
  negative_nought = sym (negative_unique 𝟘 𝟘 (plus_nought 𝟘))

  pub negative_negative : (a : R) → neg (neg a) ≡ a
  negative_negative a = sym (negative_unique (neg a) a (plus_negative a))

  pub negative_plus : (a b : R) → neg (a + b) ≡ neg a + neg b
  negative_plus a b =
      sym
      (negative_unique
      (a + b)
      (neg a + neg b)
      (plus_assoc (neg a) (neg b) (a + b)
      ∙ ap (λ x. neg a + x) (plus_left_comm (neg b) a b ∙ ap (λ x. a + x) (plus_comm (neg b) b ∙ plus_negative b) ∙ plus_nought a)
      ∙ plus_comm (neg a) a
      ∙ plus_negative a))

  pub times_negative : (a b : R) → a * neg b ≡ neg (a * b)
  times_negative a b =
      negative_unique (a * b) (a * neg b)
      (sym (times_plus a (neg b) b) ∙ ap (λ x. a * x) (plus_comm (neg b) b ∙ plus_negative b) ∙ times_nought a)

  pub negative_times : (a b : R) → neg a * b ≡ neg (a * b)
  negative_times a b = times_comm (neg a) b ∙ times_negative b a ∙ ap neg (times_comm b a)

  -- equal numbers, and a difference of nought
  pub minus_self : (a : R) → a - a ≡ 𝟘
  minus_self a = minus_is a a ∙ plus_negative a

  pub equal_of_minus : (a b : R) → a - b ≡ 𝟘 → a ≡ b
  equal_of_minus a b e = plus_cancel a b (neg b) (sym (minus_is a b) ∙ e ∙ sym (plus_negative b))

  -- an inverse of b
  abbrev pub Inverse : R → Type 0
  Inverse b = (w : R) × (b * w ≡ 𝟙)

  pub inverse : (b : R) → ¬ (b ≡ 𝟘) → Inverse b
  inverse b h = (𝟙 / b, times_comm b (𝟙 / b) ∙ over_times 𝟙 b h)

  pub inverse_times : (a b : R) → Inverse a → Inverse b → Inverse (a * b)
  inverse_times a b (v, e) (w, f) =
      (v * w, times_assoc a b (v * w) ∙ ap (λ x. a * x) (times_left_comm b v w) ∙ sym (times_assoc a v (b * w)) ∙ ap₂ ◌*◌ e f ∙ times_one 𝟙)

  pub not_nought : (b : R) → Inverse b → ¬ (b ≡ 𝟘)
  not_nought b (w, e) z = one_not_nought (sym e ∙ ap (λ x. x * w) z ∙ nought_times w)

  -- what is multiplied on either side is taken away
  pub times_cancel : (a b c : R) → Inverse c → a * c ≡ b * c → a ≡ b
  times_cancel a b c (w, f) e = sym (back a) ∙ ap (λ x. x * w) e ∙ back b
    where
      back : (x : R) → x * c * w ≡ x
      back x = times_assoc x c w ∙ ap (λ y. x * y) f ∙ times_one x
