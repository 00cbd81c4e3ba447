-- Sums and products over the numbers below a bound, and the sum behind the closed one of a change's lanes.
use mathlib.Core.Path.{◌≡◌, refl, ap, ◌∙◌}
use mathlib.Core.Bool.{cond}
use Prim.Native.Nat.{ℕ, zero, suc, ◌+◌, ◌*◌, ◌/◌, ◌%◌, ◌^◌, ◌<◌, ◌≤◌}
use native.Mathlib.Omega.{arith}
use native.Mathlib.Nat.{add-zero, add-suc, add_comm, zero-mul, mul-zero, suc-mul, mul-one, mul-add, add-mul, two-pow-succ, le_refl}
use lib.Arith.{digits_div, digits_mod}
use Rattle.rules.specs.Sizes.{sum_below, product_below, in_mask}
use Rattle.rules.specs.Change.{product_of_one_more}
use Rattle.rules.proofs.Mask.{in_mask_top, in_mask_below, in_mask_above}

-- sums and products of the same numbers
pub sum_ext : (u v : ℕ → ℕ) (n : ℕ) → ((k : ℕ) → k < n → u k ≡ v k) → sum_below u n ≡ sum_below v n
unfolding sum_below
sum_ext u v zero same = refl
sum_ext u v (suc n) same = cc (sum_ext u v n (λ k l. same k (omega arith)), same n (omega arith))

pub product_ext : (u v : ℕ → ℕ) (n : ℕ) → ((k : ℕ) → k < n → u k ≡ v k) → product_below u n ≡ product_below v n
unfolding product_below
product_ext u v zero same = refl
product_ext u v (suc n) same = cc (product_ext u v n (λ k l. same k (omega arith)), same n (omega arith))

-- a sum in two parts
pub sum_split : (u : ℕ → ℕ) (m n : ℕ) → sum_below u (m + n) ≡ sum_below u m + sum_below (λ k. u (m + k)) n
unfolding sum_below
sum_split u m zero = simp add-zero
sum_split u m (suc n) = rw (add-suc, sum_split u m n) (omega arith)

-- a sum of numbers with a common factor
pub sum_scale : (u : ℕ → ℕ) (c n : ℕ) → sum_below (λ k. u k * c) n ≡ sum_below u n * c
unfolding sum_below
sum_scale u c zero = rw zero-mul
sum_scale u c (suc n) = rw (sum_scale u c n, add-mul)

-- a sum of one number n times
pub sum_same : (c n : ℕ) → sum_below (λ k. c) n ≡ n * c
unfolding sum_below
sum_same c zero = rw zero-mul
sum_same c (suc n) = rw (sum_same c n, suc-mul)

-- of n numbers of which none is more than c
pub sum_bound : (u : ℕ → ℕ) (c n : ℕ) → ((k : ℕ) → k < n → u k ≤ c) → sum_below u n ≤ n * c
unfolding sum_below
sum_bound u c zero most = rw zero-mul (le_refl 0)
sum_bound u c (suc n) most =
    rw suc-mul (let h = sum_bound u c n (λ k l. most k (omega arith)) in let l = most n (omega arith) in omega arith)

-- a sum over the numbers below m * c, each by its quotient and its remainder
pub sum_digits : (u v : ℕ → ℕ) (m c : ℕ) → sum_below (λ f. u (f % c) * v (f / c)) (m * c) ≡ sum_below u c * sum_below v m
unfolding sum_below
sum_digits u v zero c = rw (zero-mul, mul-zero)
sum_digits u v (suc m) c =
    let last : sum_below (λ k. u ((m * c + k) % c) * v ((m * c + k) / c)) c ≡ sum_below u c * v m =
    sum_ext _ (λ k. u k * v m) c (λ k l. rw (digits_mod m l, digits_div m l)) ∙ sum_scale u (v m) c in
    rw (suc-mul, sum_split, sum_digits u v m c, last, mul-add)

-- a product whose factors from i on are ones
pub product_stops : (u : ℕ → ℕ) (i e : ℕ) → ((j : ℕ) → i ≤ j → u j ≡ 1) → product_below u (i + e) ≡ product_below u i
unfolding product_below
product_stops u i zero ones = rw add-zero
product_stops u i (suc e) ones = rw (add-suc, ones (i + e) (omega arith), mul-one) (product_stops u i e ones)

-- the product of the points on those of the first d axes that lie in a mask
abbrev pub points_product : (ℕ → ℕ) → ℕ → ℕ → ℕ
points_product n mask d = product_below (λ j. cond (in_mask mask j) (n j) 1) d

-- over all masks below 2^i, where each axis below i lies in a mask or not
pub sum_of_points_products : (n : ℕ → ℕ) (i : ℕ) → sum_below (λ mask. points_product n mask i) (2 ^ i) ≡ product_of_one_more n i
unfolding sum_below product_below product_of_one_more
sum_of_points_products n zero = refl
sum_of_points_products n (suc i) =
    let without : sum_below (λ mask. points_product n mask (suc i)) (2 ^ i) ≡ product_of_one_more n i =
    sum_ext _ (λ mask. points_product n mask i) (2 ^ i)
    (λ mask l. rw (in_mask_above i mask i l (omega arith), mul-one))
    ∙ sum_of_points_products n i in
    let with_i : sum_below (λ mask. points_product n (2 ^ i + mask) (suc i)) (2 ^ i) ≡ product_of_one_more n i * n i =
    sum_ext _ (λ mask. points_product n mask i * n i) (2 ^ i)
    (λ mask l. rw (add_comm (2 ^ i) mask, in_mask_top i mask l)
    (ap (λ (x : ℕ). x * n i) (product_ext _ _ i (λ j below. rw (add_comm (2 ^ i) mask, in_mask_below i mask j below)))))
    ∙ sum_scale (λ mask. points_product n mask i) (n i) (2 ^ i)
    ∙ rw (sum_of_points_products n i) in
    rw (two-pow-succ i, sum_split, without, with_i, mul-add, mul-one)
