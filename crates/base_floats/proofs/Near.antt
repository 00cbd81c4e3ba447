-- How far a rounded fraction lies from the fraction, in whole numbers of the format's units.
use mathlib.Core.Path.{◌≡◌, refl, sym, ap, ◌∙◌}
use mathlib.Core.Logic.{◌⊎◌, inl, inr}
use Prim.Native.Nat.{ℕ, zero, suc, ◌+◌, ◌-◌, ◌*◌, ◌/◌, ◌%◌, ◌^◌, ◌≤◌, ◌<◌, compare, Ordering}
use native.Mathlib.Nat.{mul-one, mul_comm, mul_assoc, mul_right_comm, mul-pos, add-mul}
use native.Mathlib.Nat.{div-add-mod', mod-lt, le-div_iff_mul-le, le_trans, le_of_eq, mul-le-mul_right, le_of_mul-le-mul_right}
use native.Mathlib.Omega.{arith}
use lib.Dec.{is_le, compare_is_eq}
use lib.Pow.{pow-add, pow_pos}
use borrow.Author.Tests.{leb-true, leb-false, eqb-true}
use lib.Ieee.{Format, binary32, binary64, prec, low, size, nearest}
use lib.Ieee.Digits.{size_reaches}
use lib.Ieee.Nearest.{closest}
use lib.Ieee.Order.{drop}
use lib.Ieee.Scale.{grid}

-- ---- a fraction to the nearest whole number

-- v over u lies within one half of n over u
pub record Half (v n u : ℕ) : Type 0 where
  pub over : 2 * v ≤ 2 * n + u
  pub under : 2 * n ≤ 2 * v + u

-- q times u and a rest r, to the nearest by how twice the rest compares with u
by_order : (q r n u : ℕ) (o : Ordering) → compare (r * 2) u ≡ o → q * u + r ≡ n → r < u → Half (nearest q o * u) n u
by_order q r n u Ordering.lt e is l =
    let h : r * 2 ≤ u = leb-true (r * 2) u (ap is_le e) in
    record { over = omega arith; under = omega arith }
by_order q r n u Ordering.eq e is l =
    let h : r * 2 ≡ u = eqb-true (r * 2) u (ap compare_is_eq e) in
    to_even (q % 2) (omega arith) h
  where
    to_even : (t : ℕ) → t < 2 → r * 2 ≡ u → Half ((q + t) * u) n u
    to_even zero k h = rw (add-mul q 0 u) (record { over = omega arith; under = omega arith })
    to_even (suc zero) k h = rw (add-mul q 1 u) (record { over = omega arith; under = omega arith })
    to_even (suc (suc t)) k h = absurd (omega arith)
by_order q r n u Ordering.gt e is l =
    let h : u < r * 2 = leb-false (r * 2) u (ap is_le e) in
    let next : suc q * u ≡ q * u + u = omega arith in
    rw next (record { over = omega arith; under = omega arith })

pub closest_near : (n u : ℕ) → 0 < u → Half (closest n u * u) n u
closest_near n u h = by_order (n / u) (n % u) n u (compare (n % u * 2) u) refl (div-add-mod' n u) (mod-lt n h)

-- ---- rounded to a format

-- 2 to the 20: what either format drops of a number is below such a part of it
abbrev pub rounding : ℕ
rounding = 1048576

-- n / c in units is rounded to v, off by half of u / c at most, where that is one unit or below such a part
pub record Near (v n c : ℕ) : Type 0 where
  pub u : ℕ
  pub over : 2 * (v * c) ≤ 2 * n + u
  pub under : 2 * n ≤ 2 * (v * c) + u
  pub fine : (u ≡ c) ⊎ (u * rounding ≤ n)

digits : (f : Format) → rounding ≤ 2 ^ (prec f - 1)
digits binary32 = omega arith
digits binary64 = omega arith

some_digits : (f : Format) → 0 < prec f
some_digits binary32 = omega arith
some_digits binary64 = omega arith

all_kept : (z p k : ℕ) → 0 < p → z - p ≡ suc k → p - 1 + suc k < z
all_kept z p k P e = omega arith

dropped : (f : Format) (n c k : ℕ) → 0 < c → drop (prec f) n c ≡ suc k → c * 2 ^ suc k * rounding ≤ n
dropped f n c k C e =
    let reach : 2 ^ (prec f - 1 + suc k) ≤ n / c =
    size_reaches (n / c) (prec f - 1 + suc k) (all_kept (size (n / c)) (prec f) k (some_digits f) e) in
    let whole : 2 ^ (prec f - 1) * 2 ^ suc k * c ≤ n = rw (pow-add 2 (prec f - 1) (suc k)) at ((le-div_iff_mul-le C).0 reach) in
    let big : rounding * (2 ^ suc k * c) ≤ 2 ^ (prec f - 1) * (2 ^ suc k * c) = mul-le-mul_right (2 ^ suc k * c) (digits f) in
    le_trans (le_of_eq (mul_comm (c * 2 ^ suc k) rounding ∙ ap (λ (z : ℕ). rounding * z) (mul_comm c (2 ^ suc k))))
    (le_trans big (le_trans (le_of_eq (sym (mul_assoc (2 ^ (prec f - 1)) (2 ^ suc k) c))) whole))

pub grid_near : (f : Format) (a c : ℕ) → 0 < c → Near (grid f a c) (a * 2 ^ low f) c
grid_near f a c C =
    let n = a * 2 ^ low f in
    let k = drop (prec f) n c in
    let u = c * 2 ^ k in
    let half = closest_near n u (mul-pos C (pow_pos k)) in
    let is : closest n u * 2 ^ k * c ≡ closest n u * u =
    mul_assoc (closest n u) (2 ^ k) c ∙ ap (λ (z : ℕ). closest n u * z) (mul_comm (2 ^ k) c) in
    record {
      u = u;
      over = rw is half.over;
      under = rw is half.under;
      fine = go k refl;
    }
  where
    go : (k : ℕ) → drop (prec f) (a * 2 ^ low f) c ≡ k → (c * 2 ^ k ≡ c) ⊎ (c * 2 ^ k * rounding ≤ a * 2 ^ low f)
    go zero e = inl (mul-one c)
    go (suc k) e = inr (dropped f (a * 2 ^ low f) c k C e)

-- ---- a whole number of units

-- v lies within one part of d, of so many
pub record Close (parts v d : ℕ) : Type 0 where
  pub over : v * parts ≤ d * (parts + 1)
  pub under : d * (parts - 1) ≤ v * parts

cancel : (a b l : ℕ) → 0 < l → a * l ≤ b * l → a ≤ b
cancel a b l L h = le_of_mul-le-mul_right h L

halved : (a b : ℕ) → 2 * a ≤ 2 * b + 1 → a ≤ b
halved a b h = omega arith

-- where nothing is dropped, it is that number
not_more : (v d l : ℕ) → 0 < l → 2 * (v * l) ≤ 2 * (d * l) + l → v ≤ d
not_more v d l L h =
    halved v d (cancel (2 * v) (2 * d + 1) l L (rw (mul_assoc 2 v l, add-mul (2 * d) 1 l, mul_assoc 2 d l) (omega arith)))

whole_near : (v d l : ℕ) → 0 < l → Near v (d * l) l → Close rounding v d
whole_near v d l L N = go N.fine
  where
    go : (N.u ≡ l) ⊎ (N.u * rounding ≤ d * l) → Close rounding v d
    go (inl e) =
        let p = not_more v d l L (rw e at N.over) in
        let q = not_more d v l L (rw e at N.under) in
        record { over = omega arith; under = omega arith }
    go (inr h) =
        let o = N.over in
        let w = N.under in
        record {
          over = cancel (v * 1048576) (d * 1048577) l L (rw (mul_right_comm v 1048576 l, mul_right_comm d 1048577 l) (omega arith));
          under = cancel (d * 1048575) (v * 1048576) l L (rw (mul_right_comm v 1048576 l, mul_right_comm d 1048575 l) (omega arith));
        }

pub grid_close : (f : Format) (d : ℕ) → Close rounding (grid f d (2 ^ low f)) d
grid_close f d = whole_near (grid f d (2 ^ low f)) d (2 ^ low f) (pow_pos (low f)) (grid_near f d (2 ^ low f) (pow_pos (low f)))

-- ---- any fraction

-- a rounded fraction is at most twice the fraction
twice : (v n c : ℕ) → Near v n c → v * c ≤ 2 * n
twice zero n c N = omega arith
twice (suc v) n c N = go N.fine
  where
    go : (N.u ≡ c) ⊎ (N.u * rounding ≤ n) → suc v * c ≤ 2 * n
    go (inl e) = let o = N.over in let next : suc v * c ≡ v * c + c = omega arith in omega arith
    go (inr h) = let o = N.over in omega arith

pub grid_twice : (f : Format) (a c : ℕ) → 0 < c → grid f a c * c ≤ 2 * (a * 2 ^ low f)
grid_twice f a c C = twice (grid f a c) (a * 2 ^ low f) c (grid_near f a c C)

-- v lies within one and such a part of n / c
pub record Within (v n c : ℕ) : Type 0 where
  pub over : v * c * rounding ≤ n * (rounding + 1) + c * rounding
  pub under : n * (rounding - 1) ≤ v * c * rounding + c * rounding

within : (v n c : ℕ) → Near v n c → Within v n c
within v n c N = go N.fine
  where
    go : (N.u ≡ c) ⊎ (N.u * rounding ≤ n) → Within v n c
    go (inl e) = let o = N.over in let w = N.under in record { over = omega arith; under = omega arith }
    go (inr h) = let o = N.over in let w = N.under in record { over = omega arith; under = omega arith }

pub grid_within : (f : Format) (a c : ℕ) → 0 < c → Within (grid f a c) (a * 2 ^ low f) c
grid_within f a c C = within (grid f a c) (a * 2 ^ low f) c (grid_near f a c C)
