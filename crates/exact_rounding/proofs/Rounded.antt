-- The exact value of a rounded fraction is the fraction to within a share of its size, and a tiny number.
use mathlib.Core.Path.{◌≡◌, sym, subst}
use mathlib.Core.Bool.{Bool, true, false, cond}
use mathlib.Core.Quot.{sound}
use Prim.Native.Nat.{ℕ, suc, ◌+◌, ◌-◌, ◌*◌, ◌^◌, ◌<◌}
use native.Mathlib.Nat.{mul-le-mul_right, mul-pos}
use native.Mathlib.Omega.{arith}
use lib.Dec.{T, ltb, ltb→lt}
use lib.Pow.{pow_pos}
use lib.Ieee.{Float, nan, inf, fin, Format, prec, low, odd, units, round}
use lib.Ieee.Fits.{round_is, two, two-le_pos}
use lib.Ieee.Exact.{HasValue, units_val}
use lib.Ieee.Order.{drop, kept}
use lib.Ieee.Scale.{grid, overflow, finite}
use Rattle.exact_rationals.specs.Rationals.{ℚ, mk, plus, minus, negative, Least}
use Rattle.exact_rationals.specs.Values.{value}
use Rattle.exact_rounding.specs.Near.{Near}
use Rattle.exact_rounding.proofs.Closest.{Apart, any_apart, whole_apart}

-- ± a / c
abbrev pub signed : Bool → (a c : ℕ) → 0 < c → ℚ
signed false a c h = mk (record { p = a; n = 0; d = c; below = h })
signed true a c h = mk (record { p = 0; n = a; d = c; below = h })

units_under : (f : Format) (s : Bool) (q k : ℕ) → T (finite (units f s q k)) → q * 2 ^ k < overflow f
unfolding units
units_under f s q k = go (ltb (q * 2 ^ k) (overflow f)) (ltb→lt (q * 2 ^ k) (overflow f))
  where
    go : (b : Bool) → (T b → q * 2 ^ k < overflow f) → T (finite (cond b (odd (suc (prec f)) s q k (low f)) (inf s)))
        → q * 2 ^ k < overflow f
    go true h t = h tt
    go false h t = absurd t

-- a finite result is the rounded units, of either sign
rounded_units : (f : Format) (s : Bool) (a c : ℕ) → T (finite (round f s a c)) → HasValue (round f s a c) s (grid f a c) (2 ^ low f)
rounded_units f s a c t =
    subst (λ z. HasValue z s (grid f a c) (2 ^ low f)) (sym (round_is f s a c))
    (units_val f s (kept (prec f) (a * 2 ^ low f) c) (drop (prec f) (a * 2 ^ low f) c)
    (units_under f s (kept (prec f) (a * 2 ^ low f) c) (drop (prec f) (a * 2 ^ low f) c) (subst (λ z. T (finite z)) (round_is f s a c) t)))

value_is : (x : Float) (s : Bool) (a c : ℕ) (h : 0 < c) → HasValue x s a c → value x ≡ signed s a c h
value_is nan s a c h v = absurd v
value_is (inf t) s a c h v = absurd v
value_is (fin true m e) true a c h v = sound (omega (arith, v.1))
value_is (fin false m e) false a c h v = sound (omega (arith, v.1))
value_is (fin true m e) false a c h v = absurd (true_false v.0)
  where
    true_false : true ≡ false → ⊥
    true_false e = subst (λ b. T b) e tt
value_is (fin false m e) true a c h v = absurd (true_false (sym v.0))
  where
    true_false : true ≡ false → ⊥
    true_false e = subst (λ b. T b) e tt

-- from units to numbers: H is half of 2 ^ prec, L the units of one
signed_near : (s : Bool) (g a c H L E : ℕ) (C : 0 < c) (l : 0 < L) (D : 0 < 2 * H * (c * L)) → Apart (2 * H * (g * c)) (2 * H * (a * L)) E
    → Near (signed s g L l) (signed s a c C) (signed false E (2 * H * (c * L)) D)
unfolding Least plus minus negative
signed_near false g a c H L E C l D h =
    record { under = omega (arith, mul-le-mul_right (c * L) h.under); above = omega (arith, mul-le-mul_right (c * L) h.above) }
signed_near true g a c H L E C l D h =
    record { under = omega (arith, mul-le-mul_right (c * L) h.above); above = omega (arith, mul-le-mul_right (c * L) h.under) }

module _ (f : Format) (s : Bool) (a c : ℕ) (C : 0 < c) (t : T (finite (round f s a c))) where
  abbrev half : ℕ
  half = 2 ^ (prec f - 1)

  abbrev L : ℕ
  L = 2 ^ low f

  pub below : 0 < 2 * half * (c * L)
  below = mul-pos (mul-pos (omega arith) (pow_pos (prec f - 1))) (mul-pos C (pow_pos (low f)))

  from_units : (E : ℕ) → Apart (2 * half * (grid f a c * c)) (2 * half * (a * L)) E
      → Near (value (round f s a c)) (signed s a c C) (signed false E (2 * half * (c * L)) below)
  from_units E h =
      subst (λ z. Near z (signed s a c C) (signed false E (2 * half * (c * L)) below))
      (sym (value_is (round f s a c) s (grid f a c) L (pow_pos (low f)) (rounded_units f s a c t)))
      (signed_near s (grid f a c) a c half L E C (pow_pos (low f)) below h)

  pub round_near : Near (value (round f s a c)) (signed s a c C) (signed false (a * L + half * c) (2 * half * (c * L)) below)
  round_near = from_units (a * L + half * c) (any_apart (prec f) (a * L) c (two-le_pos (prec f) (two f)) C)

  pub round_near_whole : (N : ℕ) → a * L ≡ N * c
      → Near (value (round f s a c)) (signed s a c C) (signed false (a * L) (2 * half * (c * L)) below)
  round_near_whole N e = from_units (a * L) (whole_apart (prec f) (a * L) c (two-le_pos (prec f) (two f)) C N e)
