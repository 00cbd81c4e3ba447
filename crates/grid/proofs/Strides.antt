-- Strides: neighbours along axis i stand a stride apart, and a stride is one or more and no more than the places.
use mathlib.Core.Path.{◌≡◌, sym, ap, ◌∙◌}
use mathlib.Core.Bool.{Bool, true, false, cond}
use Prim.Native.Nat.{ℕ, zero, suc, ◌+◌, ◌*◌, ◌<◌, ◌≤◌}
use native.Mathlib.Omega.{arith}
use native.Mathlib.Nat.{add-mul, mul_assoc, mul-one, mul-pos, mul-le-mul, le_refl, le_trans}
use native.Mathlib.Numerals.{add-one}
use lib.Dec.{ltb}
use borrow.Author.Tests.{lt-ltb, le-ltb}
use Rattle.rules.specs.Sizes.{Place, moved, flat, product_below}
use Rattle.rules.proofs.Places.{below_or_last, moved_on, moved_off, flat_ext}
use Rattle.grid.specs.GridOfCall.{SizesGiven}
use Rattle.grid.specs.Strides.{stride}
use Rattle.grid.proofs.Products.{sizes_fewer}

-- ---- neighbours along an axis

-- an axis more multiplies the strides before it by its points
pub stride_more_axes : (n : ℕ → ℕ) (d i : ℕ) → i < d → stride n (suc d) i ≡ stride n d i * n d
unfolding stride
stride_more_axes n d i lt = ap (λ (b : Bool). cond b (stride n d i * n d) 1) (lt-ltb i d lt)

-- the stride of the last axis
pub stride_last : (n : ℕ → ℕ) (d : ℕ) → stride n (suc d) d ≡ 1
unfolding stride
stride_last n d = ap (λ (b : Bool). cond b (stride n d d * n d) 1) (le-ltb d d (omega arith))

one_digit_more : (a b size digit k step : ℕ) → a ≡ b + k * step → a * size + digit ≡ b * size + digit + k * (step * size)
one_digit_more a b size digit k step e =
    omega (arith, ap (λ (x : ℕ). x * size) e, add-mul b (k * step) size, mul_assoc k step size)

stride_along_before :
    (n : ℕ → ℕ) (d i k : ℕ) (p : Place) → i < d
    → flat n d (moved p i k) ≡ flat n d (moved p i 0) + k * stride n d i
    → flat n (suc d) (moved p i k) ≡ flat n (suc d) (moved p i 0) + k * stride n (suc d) i
unfolding flat
stride_along_before n d i k p lt less =
    rw (stride_more_axes n d i lt, moved_off p i k d (omega arith), moved_off p i 0 d (omega arith))
    (one_digit_more (flat n d (moved p i k)) (flat n d (moved p i 0)) (n d) (p d) k (stride n d i) less)

stride_along_last : (n : ℕ → ℕ) (d k : ℕ) (p : Place) → flat n (suc d) (moved p d k) ≡ flat n (suc d) (moved p d 0) + k * stride n (suc d) d
unfolding flat
stride_along_last n d k p =
    let e : flat n d (moved p d k) ≡ flat n d (moved p d 0) =
    flat_ext n d (moved p d k) (moved p d 0) (λ j below. moved_off p d k j (omega arith) ∙ sym (moved_off p d 0 j (omega arith))) in
    rw (stride_last n d, moved_on p d k, moved_on p d 0) (omega (arith, ap (λ (x : ℕ). x * n d) e, mul-one k))

pub stride_along : (n : ℕ → ℕ) (d i k : ℕ) (p : Place) → i < d → flat n d (moved p i k) ≡ flat n d (moved p i 0) + k * stride n d i
stride_along n zero i k p lt = absurd (omega arith)
stride_along n (suc d) i k p lt =
    below_or_last (λ (i : ℕ). flat n (suc d) (moved p i k) ≡ flat n (suc d) (moved p i 0) + k * stride n (suc d) i) d i
    (stride_along_last n d k p)
    (λ before. stride_along_before n d i k p before (stride_along n d i k p before))
    lt

-- ---- counting to a stride, and its bounds

module _ (n : ℕ → ℕ) (i : ℕ) where
  pub stride_first : 1 ≡ stride n (i + 1) i
  unfolding stride
  stride_first = rw add-one (sym (ap (λ (b : Bool). cond b (stride n i i * n i) 1) (le-ltb i i (le_refl i))))

  pub stride_more : (step j : ℕ) → step ≡ stride n j i → i < j → step * n j ≡ stride n (j + 1) i
  unfolding stride
  stride_more step j so_far l = rw (add-one, so_far) (sym (ap (λ (b : Bool). cond b (stride n j i * n j) 1) (lt-ltb i j l)))

  product_some : (j : ℕ) → ((k : ℕ) → k < j → 0 < n k) → 1 ≤ product_below n j
  unfolding product_below
  product_some zero some = le_refl 1
  product_some (suc j) some = mul-pos (product_some j (λ k l. some k (omega arith))) (some j (omega arith))

  stride_most : (j : ℕ) → ((k : ℕ) → k < j → 0 < n k) → stride n j i ≤ product_below n j
  unfolding stride product_below
  stride_most zero some = le_refl 1
  stride_most (suc j) some = go (stride_most j (λ k l. some k (omega arith))) (ltb i j)
    where
      go : stride n j i ≤ product_below n j → (b : Bool) → cond b (stride n j i * n j) 1 ≤ product_below n j * n j
      go before true = mul-le-mul before (le_refl (n j))
      go before false = product_some (suc j) some

  pub stride_fits : (axes j : ℕ) → SizesGiven axes n → j ≤ axes → stride n j i ≤ 4096
  stride_fits axes j given l = let fewer = sizes_fewer given j l in le_trans (stride_most j fewer.some_points) fewer.small

pub stride_some : (n : ℕ → ℕ) (d i : ℕ) → ((j : ℕ) → j < d → 0 < n j) → 1 ≤ stride n d i
unfolding stride
stride_some n zero i some = omega arith
stride_some n (suc d) i some = go (mul-pos (stride_some n d i (λ j l. some j (omega arith))) (some d (omega arith))) (ltb i d)
  where
    go : 1 ≤ stride n d i * n d → (b : Bool) → 1 ≤ cond b (stride n d i * n d) 1
    go h true = h
    go h false = omega arith
