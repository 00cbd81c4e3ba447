-- Two expressions that come to the same fraction mean the same number in every field, where nothing that they divide by is nought: `solve`.
use mathlib.Core.Path.{◌≡◌, refl, sym, ◌∙◌, ap, ap₂, subst}
use mathlib.Core.Bool.{◌&&◌}
use mathlib.Core.List.{List, [], ◌∷◌}
use Prim.Native.Nat.{ℕ, zero, suc, ◌+◌ as ◌+ₙ◌, ◌*◌ as ◌*ₙ◌, ◌<◌, compare, Ordering}
use native.Mathlib.Nat.{add-zero, add-suc, mul-zero, mul-suc}
use native.Mathlib.Omega.{arith}
use lib.Dec.{eqb, compare_is_eq, T, ltb→lt, eqb→eq}
use lib.Ieee.Fits.{and_l, and_r}
use Rattle.exact_arithmetic.specs.Arithmetic.{Arithmetic, IsField}
use Rattle.exact_solver.specs.Expressions.{
  Term,
  var,
  t0,
  t1,
  t2,
  t3,
  t6,
  add,
  sub,
  mul,
  div,
  neg,
  Poly,
  none,
  term,
  order,
  then,
  joined,
  single,
  put,
  sum,
  scaled,
  product,
  opposite,
  number,
  vanishes,
  Fraction,
  fraction,
  same,
  look,
  Units,
  meaning,
  unit,
  divides,
}
use Rattle.exact_arithmetic.proofs.FieldLaws as Laws

then_eq : (o p : Ordering) → T (compare_is_eq (then o p)) → T (compare_is_eq o) × T (compare_is_eq p)
then_eq Ordering.lt p t = absurd t
then_eq Ordering.eq p t = (tt, t)
then_eq Ordering.gt p t = absurd t

order_eq : (l m : List ℕ) → T (compare_is_eq (order l m)) → l ≡ m
order_eq [] [] t = refl
order_eq [] (k ∷ m) t = absurd t
order_eq (j ∷ l) [] t = absurd t
order_eq (j ∷ l) (k ∷ m) t =
    let h : T (eqb j k) × T (compare_is_eq (order l m)) = then_eq (compare j k) (order l m) t in
    ap₂ ◌∷◌ (eqb→eq j k h.0) (order_eq l m h.1)

module _ (A : Arithmetic) (F : IsField A) where
  infixl 60 ◌+◌
  infixl 60 ◌-◌
  infixl 70 ◌*◌
  infixl 70 ◌/◌
  open A use {Number as R, plus as ◌+◌, minus as ◌-◌, times as ◌*◌, over as ◌/◌, negative as ~, nought as 𝟘, one as 𝟙}
  open F use {
    plus_assoc,
    plus_comm,
    plus_nought,
    plus_negative,
    times_assoc,
    times_comm,
    times_one,
    times_plus,
    minus_is,
    over_times,
    one_not_nought,
    two_is,
    three_is,
    six_is,
    six_not_nought,
  }

  plus_left_comm : (a b c : R) → a + (b + c) ≡ b + (a + c)
  plus_left_comm = Laws.plus_left_comm A F

  times_left_comm : (a b c : R) → a * (b * c) ≡ b * (a * c)
  times_left_comm = Laws.times_left_comm A F

  nought_plus : (a : R) → 𝟘 + a ≡ a
  nought_plus = Laws.nought_plus A F

  one_times : (a : R) → 𝟙 * a ≡ a
  one_times = Laws.one_times A F

  plus_times : (a b c : R) → (a + b) * c ≡ a * c + b * c
  plus_times = Laws.plus_times A F

  times_nought : (a : R) → a * 𝟘 ≡ 𝟘
  times_nought = Laws.times_nought A F

  nought_times : (a : R) → 𝟘 * a ≡ 𝟘
  nought_times = Laws.nought_times A F

  negative_nought : ~ 𝟘 ≡ 𝟘
  negative_nought = Laws.negative_nought A F

  negative_negative : (a : R) → ~ (~ a) ≡ a
  negative_negative = Laws.negative_negative A F

  negative_plus : (a b : R) → ~ (a + b) ≡ ~ a + ~ b
  negative_plus = Laws.negative_plus A F

  times_negative : (a b : R) → a * ~ b ≡ ~ (a * b)
  times_negative = Laws.times_negative A F

  negative_times : (a b : R) → ~ a * b ≡ ~ (a * b)
  negative_times = Laws.negative_times A F

  -- a whole number
  whole : ℕ → R
  whole zero = 𝟘
  whole (suc n) = whole n + 𝟙

  whole_plus : (a b : ℕ) → whole (a +ₙ b) ≡ whole a + whole b
  unfolding whole
  whole_plus a zero = rw add-zero (sym (plus_nought (whole a)))
  whole_plus a (suc b) = rw add-suc (ap (λ x. x + 𝟙) (whole_plus a b) ∙ plus_assoc (whole a) (whole b) 𝟙)

  whole_times : (a b : ℕ) → whole (a *ₙ b) ≡ whole a * whole b
  unfolding whole
  whole_times a zero = rw mul-zero (sym (times_nought (whole a)))
  whole_times a (suc b) =
      rw mul-suc
      (whole_plus (a *ₙ b) a
      ∙ ap (λ x. x + whole a) (whole_times a b)
      ∙ ap (λ x. whole a * whole b + x) (sym (times_one (whole a)))
      ∙ sym (times_plus (whole a) (whole b) 𝟙))

  -- the coefficient p - n
  whole_of : ℕ → ℕ → R
  whole_of p n = whole p + ~ (whole n)

  whole_of_plus : (p n q r : ℕ) → whole_of (p +ₙ q) (n +ₙ r) ≡ whole_of p n + whole_of q r
  unfolding whole_of
  whole_of_plus p n q r = simp (whole_of, whole_plus, negative_plus, plus_assoc, plus_left_comm, plus_comm)

  whole_of_times : (p n q r : ℕ) → whole_of (p *ₙ q +ₙ n *ₙ r) (p *ₙ r +ₙ n *ₙ q) ≡ whole_of p n * whole_of q r
  unfolding whole_of
  whole_of_times p n q r =
      simp (
        whole_of,
        whole_plus,
        whole_times,
        plus_times,
        times_plus,
        negative_plus,
        times_negative,
        negative_times,
        negative_negative,
        plus_assoc,
        plus_left_comm,
        plus_comm,
      )

  whole_of_opposite : (p n : ℕ) → whole_of n p ≡ ~ (whole_of p n)
  unfolding whole_of
  whole_of_opposite p n = simp (negative_plus, negative_negative, plus_assoc, plus_left_comm, plus_comm)

  whole_of_same : (p n : ℕ) → p ≡ n → whole_of p n ≡ 𝟘
  unfolding whole_of
  whole_of_same p n e = rw e (plus_negative (whole n))

  power : R → ℕ → R
  power a zero = 𝟙
  power a (suc n) = power a n * a

  power_plus : (a : R) (j k : ℕ) → power a (j +ₙ k) ≡ power a j * power a k
  unfolding power
  power_plus a j zero = rw add-zero (sym (times_one (power a j)))
  power_plus a j (suc k) = rw add-suc (ap (λ x. x * a) (power_plus a j k) ∙ times_assoc (power a j) (power a k) a)

  -- a product of powers of variables
  powers : (ℕ → R) → List ℕ → R
  powers ρ [] = 𝟙
  powers ρ (k ∷ m) = power (ρ 0) k * powers (λ i. ρ (suc i)) m

  powers_joined : (ρ : ℕ → R) (l m : List ℕ) → powers ρ (joined l m) ≡ powers ρ l * powers ρ m
  unfolding powers
  powers_joined ρ [] m = sym (one_times (powers ρ m))
  powers_joined ρ (j ∷ l) [] = sym (times_one (power (ρ 0) j * powers (λ i. ρ (suc i)) l))
  powers_joined ρ (j ∷ l) (k ∷ m) =
      rw (power_plus (ρ 0) j k, powers_joined (λ i. ρ (suc i)) l m) (simp (times_assoc, times_left_comm, times_comm))

  powers_single : (ρ : ℕ → R) (i : ℕ) → powers ρ (single i) ≡ ρ i
  unfolding powers power
  powers_single ρ zero = times_one (𝟙 * ρ 0) ∙ one_times (ρ 0)
  powers_single ρ (suc i) = one_times _ ∙ powers_single (λ i. ρ (suc i)) i

  exchange : (a b c d : R) → a * b * (c * d) ≡ a * c * (b * d)
  exchange a b c d = simp (times_assoc, times_left_comm, times_comm)

  module _ (ρ : ℕ → R) where
    value : Poly → R
    value none = 𝟘
    value (term m p n rest) = whole_of p n * powers ρ m + value rest

    put_value : (m : List ℕ) (p n : ℕ) (a : Poly) → value (put m p n a) ≡ whole_of p n * powers ρ m + value a
    unfolding value
    put_value m p n none = refl
    put_value m p n (term l q r rest) = go (order m l) refl (put_value m p n rest)
      where
        go : (o : Ordering) → order m l ≡ o
            → value (put m p n rest) ≡ whole_of p n * powers ρ m + value rest
            → value (elim o as (λ _. Poly) [
              | Ordering.lt ↦ term m p n (term l q r rest)
              | Ordering.eq ↦ term l (p +ₙ q) (n +ₙ r) rest
              | Ordering.gt ↦ term l q r (put m p n rest)
            ])
            ≡ whole_of p n * powers ρ m + (whole_of q r * powers ρ l + value rest)
        go Ordering.lt e ih = refl
        go Ordering.eq e ih =
            let same_powers : m ≡ l = order_eq m l (subst (λ (o : Ordering). T (compare_is_eq o)) (sym e) tt) in
            ap (λ x. x * powers ρ l + value rest) (whole_of_plus p n q r)
            ∙ ap (λ x. x + value rest) (plus_times (whole_of p n) (whole_of q r) (powers ρ l))
            ∙ plus_assoc (whole_of p n * powers ρ l) (whole_of q r * powers ρ l) (value rest)
            ∙ ap (λ l'. whole_of p n * powers ρ l' + (whole_of q r * powers ρ l + value rest)) (sym same_powers)
        go Ordering.gt e ih =
            ap (λ x. whole_of q r * powers ρ l + x) ih
            ∙ (plus_left_comm (whole_of q r * powers ρ l) (whole_of p n * powers ρ m) (value rest))

    sum_value : (a b : Poly) → value (sum a b) ≡ value a + value b
    unfolding value
    sum_value none b = sym (nought_plus (value b))
    sum_value (term m p n rest) b =
        put_value m p n (sum rest b)
        ∙ ap (λ x. whole_of p n * powers ρ m + x) (sum_value rest b)
        ∙ sym (plus_assoc (whole_of p n * powers ρ m) (value rest) (value b))

    scaled_value : (m : List ℕ) (p n : ℕ) (a : Poly) → value (scaled m p n a) ≡ whole_of p n * powers ρ m * value a
    unfolding value
    scaled_value m p n none = sym (times_nought _)
    scaled_value m p n (term l q r rest) =
        ap₂ ◌+◌
        (ap₂ ◌*◌ (whole_of_times p n q r) (powers_joined ρ m l) ∙ exchange (whole_of p n) (whole_of q r) (powers ρ m) (powers ρ l))
        (scaled_value m p n rest)
        ∙ sym (times_plus (whole_of p n * powers ρ m) (whole_of q r * powers ρ l) (value rest))

    product_value : (a b : Poly) → value (product a b) ≡ value a * value b
    unfolding value
    product_value none b = sym (nought_times (value b))
    product_value (term m p n rest) b =
        sum_value (scaled m p n b) (product rest b)
        ∙ ap₂ ◌+◌ (scaled_value m p n b) (product_value rest b)
        ∙ sym (plus_times (whole_of p n * powers ρ m) (value rest) (value b))

    opposite_value : (a : Poly) → value (opposite a) ≡ ~ (value a)
    unfolding value
    opposite_value none = sym negative_nought
    opposite_value (term m p n rest) =
        rw (whole_of_opposite p n, opposite_value rest) (simp (negative_times, negative_plus))

    vanishes_value : (a : Poly) → T (vanishes a) → value a ≡ 𝟘
    unfolding value
    vanishes_value none t = refl
    vanishes_value (term m p n rest) t =
        let h : T (eqb p n) × T (vanishes rest) = (and_l (eqb p n) (vanishes rest) t, and_r (eqb p n) (vanishes rest) t) in
        ap₂ ◌+◌ (ap (λ x. x * powers ρ m) (whole_of_same p n (eqb→eq p n h.0)) ∙ nought_times (powers ρ m)) (vanishes_value rest h.1)
        ∙ plus_nought 𝟘

  whole_one : whole 1 ≡ 𝟙
  unfolding whole
  whole_one = nought_plus 𝟙

  whole_two : whole 2 ≡ A.two
  unfolding whole
  whole_two = ap (λ x. x + 𝟙) (nought_plus 𝟙) ∙ sym two_is

  whole_three : whole 3 ≡ A.three
  unfolding whole
  whole_three = ap (λ x. x + 𝟙) whole_two ∙ sym three_is

  whole_six : whole 6 ≡ A.six
  whole_six = whole_plus 3 3 ∙ ap₂ ◌+◌ whole_three whole_three ∙ sym six_is

  abbrev Inverse : R → Type 0
  Inverse b = Laws.Inverse A F b

  inverse_six : Inverse A.six
  inverse_six = Laws.inverse A F A.six six_not_nought

  two_three : A.two * A.three ≡ A.six
  two_three = ap₂ ◌*◌ (sym whole_two) (sym whole_three) ∙ sym (whole_times 2 3) ∙ whole_six

  inverse_two : Inverse A.two
  inverse_two = (
    A.three * inverse_six.0,
    sym (times_assoc A.two A.three inverse_six.0) ∙ ap
        (λ x. x * inverse_six.0) two_three ∙ inverse_six.1,
  )

  inverse_three : Inverse A.three
  inverse_three = (
    A.two * inverse_six.0,
    sym (times_assoc A.three A.two inverse_six.0) ∙ ap (λ x. x * inverse_six.0) (times_comm A.three A.two ∙ two_three)
        ∙ inverse_six.1,
  )

  inverse_over : (a b : R) → Inverse a → Inverse b → Inverse (a / b)
  inverse_over a b (v, e) (w, f) =
      (b * v, sym (times_assoc (a / b) b v) ∙ ap (λ x. x * v) (over_times a b (Laws.not_nought A F b (w, f))) ∙ e)

  inverse_negative : (a : R) → Inverse a → Inverse (~ a)
  inverse_negative a (v, e) = (~ v, negative_times a (~ v) ∙ ap ~ (times_negative a v) ∙ negative_negative (a * v) ∙ e)

  plus_over_one : (x y m n b d : R) → x ≡ m * b → y ≡ n * d → x * d + y * b ≡ (m + n) * (b * d)
  plus_over_one x y m n b d e f = rw (e, f) (simp (plus_times, times_assoc, times_left_comm, times_comm))

  minus_over_one : (x y m n b d : R) → x ≡ m * b → y ≡ n * d → x * d + ~ (y * b) ≡ (m - n) * (b * d)
  minus_over_one x y m n b d e f = rw (e, f, minus_is) (simp (plus_times, negative_times, times_assoc, times_left_comm, times_comm))

  times_over_one : (x y m n b d : R) → x ≡ m * b → y ≡ n * d → x * y ≡ m * n * (b * d)
  times_over_one x y m n b d e f = ap₂ ◌*◌ e f ∙ exchange m b n d

  over_over_one : (x y m n b d : R) → Inverse n → x ≡ m * b → y ≡ n * d → x * d ≡ m / n * (b * y)
  over_over_one x y m n b d i e f =
      ap (λ z. z * d) e
      ∙ times_assoc m b d
      ∙ ap (λ z. z * (b * d)) (sym (over_times m n (Laws.not_nought A F n i)))
      ∙ times_assoc (m / n) n (b * d)
      ∙ ap (λ z. m / n * z) (times_left_comm n b d ∙ ap (λ z. b * z) (sym f))

  unit_not_nought : (u : ℕ) (env : List R) (i : ℕ) → Units A u env → i < u → ¬ (look A env i ≡ 𝟘)
  unit_not_nought zero env i units h = let z : ⊥ = omega arith in absurd z
  unit_not_nought (suc u) [] i units h = absurd units
  unit_not_nought (suc u) (a ∷ rest) zero units h = units.0
  unit_not_nought (suc u) (a ∷ rest) (suc i) units h = unit_not_nought u rest i units.1 (omega arith)

  module _ (u : ℕ) (env : List R) (units : Units A u env) where
    abbrev ρ : ℕ → R
    ρ = look A env

    number_value : (n : ℕ) → value ρ (number n) ≡ whole n
    unfolding value whole_of powers whole
    number_value n =
        plus_nought ((whole n + ~ 𝟘) * 𝟙) ∙ times_one (whole n + ~ 𝟘) ∙ ap (λ x. whole n + x) negative_nought ∙ plus_nought (whole n)

    one_value : value ρ (number 1) ≡ 𝟙
    one_value = number_value 1 ∙ whole_one

    var_value : (i : ℕ) → value ρ (term (single i) 1 0 none) ≡ ρ i
    unfolding value whole_of whole
    var_value i =
        plus_nought ((𝟘 + 𝟙 + ~ 𝟘) * powers ρ (single i))
        ∙ ap₂ ◌*◌ (ap₂ ◌+◌ (nought_plus 𝟙) negative_nought ∙ plus_nought 𝟙) (powers_single ρ i)
        ∙ one_times (ρ i)

    unit_inverse : (e : Term) → T (unit u e) → Inverse (meaning A env e)
    unit_inverse (var i) t = Laws.inverse A F (look A env i) (unit_not_nought u env i units (ltb→lt i u t))
    unit_inverse t0 t = absurd t
    unit_inverse t1 t = (𝟙, times_one 𝟙)
    unit_inverse t2 t = inverse_two
    unit_inverse t3 t = inverse_three
    unit_inverse t6 t = inverse_six
    unit_inverse (add a b) t = absurd t
    unit_inverse (sub a b) t = absurd t
    unit_inverse (mul a b) t =
        let h : T (unit u a) × T (unit u b) = (and_l (unit u a) (unit u b) t, and_r (unit u a) (unit u b) t) in
        Laws.inverse_times A F (meaning A env a) (meaning A env b) (unit_inverse a h.0) (unit_inverse b h.1)
    unit_inverse (div a b) t =
        let h : T (unit u a) × T (unit u b) = (and_l (unit u a) (unit u b) t, and_r (unit u a) (unit u b) t) in
        inverse_over (meaning A env a) (meaning A env b) (unit_inverse a h.0) (unit_inverse b h.1)
    unit_inverse (neg a) t = inverse_negative (meaning A env a) (unit_inverse a t)

    -- above the line stands the expression's meaning times what is below it, which has an inverse
    abbrev Meant : R → Fraction → Type 0
    Meant m f = (value ρ f.above ≡ m * value ρ f.below) × Inverse (value ρ f.below)

    meant_whole : (n : ℕ) (a : R) → whole n ≡ a → Meant a (record { above = number n; below = number 1 })
    meant_whole n a e =
        (number_value n ∙ e ∙ sym (ap (λ x. a * x) one_value ∙ times_one a), (𝟙, ap (λ x. x * 𝟙) one_value ∙ times_one 𝟙))

    meant_sum : (m n : R) (f g : Fraction) → Meant m f → Meant n g
        → Meant (m + n) (record {
          above = sum (product f.above g.below) (product g.above f.below);
          below = product f.below
              g.below;
        })
    meant_sum m n f g (p, i) (q, j) = (
      sum_value ρ (product f.above g.below) (product g.above f.below)
          ∙ ap₂ ◌+◌ (product_value ρ f.above g.below) (product_value ρ g.above f.below)
          ∙ plus_over_one _ _ m n _ _ p q
          ∙ ap (λ x. (m + n) * x) (sym (product_value ρ f.below g.below)),
      subst Inverse (sym (product_value ρ f.below g.below)) (Laws.inverse_times A F _ _ i j),
    )

    meant_difference : (m n : R) (f g : Fraction) → Meant m f → Meant n g
        → Meant (m - n) (record {
          above = sum (product f.above g.below) (opposite (product g.above f.below));
          below = product
              f.below g.below;
        })
    meant_difference m n f g (p, i) (q, j) = (
      sum_value ρ (product f.above g.below) (opposite (product g.above f.below))
          ∙ ap₂ ◌+◌ (product_value ρ f.above g.below)
          (opposite_value ρ (product g.above f.below) ∙ ap ~ (product_value ρ g.above f.below))
          ∙ minus_over_one _ _ m n _ _ p q
          ∙ ap (λ x. (m - n) * x) (sym (product_value ρ f.below g.below)),
      subst Inverse (sym (product_value ρ f.below g.below)) (Laws.inverse_times A F _ _ i j),
    )

    meant_product : (m n : R) (f g : Fraction) → Meant m f → Meant n g
        → Meant (m * n) (record { above = product f.above g.above; below = product f.below g.below })
    meant_product m n f g (p, i) (q, j) = (
      product_value ρ f.above g.above
          ∙ times_over_one _ _ m n _ _ p q
          ∙ ap (λ x. m * n * x) (sym (product_value ρ f.below g.below)),
      subst Inverse (sym (product_value ρ f.below g.below)) (Laws.inverse_times A F _ _ i j),
    )

    meant_quotient : (m n : R) (f g : Fraction) → Inverse n → Meant m f → Meant n g
        → Meant (m / n) (record { above = product f.above g.below; below = product f.below g.above })
    meant_quotient m n f g k (p, i) (q, j) = (
      product_value ρ f.above g.below
          ∙ over_over_one _ _ m n _ _ k p q
          ∙ ap (λ x. m / n * x) (sym (product_value ρ f.below g.above)),
      subst Inverse (sym (product_value ρ f.below g.above))
          (Laws.inverse_times A F _ _ i (subst Inverse (sym q) (Laws.inverse_times A F n (value ρ g.below) k j))),
    )

    meant_opposite : (m : R) (f : Fraction) → Meant m f → Meant (~ m) (record { above = opposite f.above; below = f.below })
    meant_opposite m f (p, i) = (opposite_value ρ f.above ∙ ap ~ p ∙ sym (negative_times m (value ρ f.below)), i)

    none_value : value ρ none ≡ 𝟘
    unfolding value
    none_value = refl

    meant : (e : Term) → T (divides u e) → Meant (meaning A env e) (fraction e)
    meant (var i) t =
        (var_value i ∙ sym (ap (λ x. ρ i * x) one_value ∙ times_one (ρ i)), (𝟙, ap (λ x. x * 𝟙) one_value ∙ times_one 𝟙))
    meant t0 t = (none_value ∙ sym (nought_times (value ρ (number 1))), (𝟙, ap (λ x. x * 𝟙) one_value ∙ times_one 𝟙))
    meant t1 t = meant_whole 1 𝟙 whole_one
    meant t2 t = meant_whole 2 A.two whole_two
    meant t3 t = meant_whole 3 A.three whole_three
    meant t6 t = meant_whole 6 A.six whole_six
    meant (add a b) t =
        let h : T (divides u a) × T (divides u b) = (and_l (divides u a) (divides u b) t, and_r (divides u a) (divides u b) t) in
        meant_sum (meaning A env a) (meaning A env b) (fraction a) (fraction b) (meant a h.0) (meant b h.1)
    meant (sub a b) t =
        let h : T (divides u a) × T (divides u b) = (and_l (divides u a) (divides u b) t, and_r (divides u a) (divides u b) t) in
        meant_difference (meaning A env a) (meaning A env b) (fraction a) (fraction b) (meant a h.0) (meant b h.1)
    meant (mul a b) t =
        let h : T (divides u a) × T (divides u b) = (and_l (divides u a) (divides u b) t, and_r (divides u a) (divides u b) t) in
        meant_product (meaning A env a) (meaning A env b) (fraction a) (fraction b) (meant a h.0) (meant b h.1)
    meant (div a b) t =
        let divisor : T (divides u b && unit u b) = and_r (divides u a) (divides u b && unit u b) t in
        meant_quotient (meaning A env a) (meaning A env b) (fraction a) (fraction b)
        (unit_inverse b (and_r (divides u b) (unit u b) divisor))
        (meant a (and_l (divides u a) (divides u b && unit u b) t))
        (meant b (and_l (divides u b) (unit u b) divisor))
    meant (neg a) t = meant_opposite (meaning A env a) (fraction a) (meant a t)

    -- where the fractions are the same, the numbers are
    pub solve : (a b : Term) → T (divides u a) → T (divides u b) → T (same a b) → meaning A env a ≡ meaning A env b
    solve a b s t e = go (fraction a) (fraction b) (meant a s) (meant b t) e
      where
        go : {m n : R} (f g : Fraction) → Meant m f → Meant n g
            → T (vanishes (sum (product f.above g.below) (opposite (product g.above f.below)))) → m ≡ n
        go {m} {n} f g p q e =
            Laws.equal_of_minus A F m n
            (Laws.times_cancel A F (m - n) 𝟘 (value ρ (product f.below g.below))
            (meant_difference m n f g p q).1
            (sym (meant_difference m n f g p q).0
            ∙ vanishes_value ρ (sum (product f.above g.below) (opposite (product g.above f.below))) e
            ∙ sym (nought_times (value ρ (product f.below g.below)))))
