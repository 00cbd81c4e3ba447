-- How many lanes the passes solve: what bounds them, and for a change the closed sum.
use native.Mathlib.Omega.{arith}
use native.Mathlib.Nat.{add-sub_of_le, zero-mul, suc-mul, two-pow-succ, le_refl, eq-or-lt_of_le}
use mathlib.Core.Path.{◌≡◌, refl, ap, ◌∙◌}
use mathlib.Core.Logic.{⊎_elim}
use mathlib.Core.Bool.{Bool, false, cond}
use Prim.Native.Nat.{ℕ, zero, suc, ◌+◌, ◌-◌, ◌*◌, ◌^◌, ◌<◌, ◌≤◌}
use Rattle.rules.specs.Sizes.{sum_below, product_below, in_mask}
use Rattle.rules.specs.Change.{product_of_one_more, lane_sum}
use Rattle.rules.proofs.Mask.{in_mask_below, in_mask_above}
use Rattle.rules.proofs.Sums.{sum_ext, product_ext, product_stops, points_product, sum_of_points_products, sum_bound}
use Rattle.tensor_starts.specs.Starts.{free, varies, lane_points}
use Rattle.tensor_starts.proofs.Agreement.{varies_own, varies_other}
use Rattle.tensor_starts.proofs.Axes.{lanes_most}
use Rattle.tensor_passes.specs.Passes.{lanes_solved, lanes_on_axis, lanes_solved_below}

-- ---- bounds

-- ---- the closed sum

-- a change's lanes along axis i, of one mask
of_change : (n : ℕ → ℕ) (d i mask : ℕ) → i < d → mask < 2 ^ i → lanes_solved n d false i mask ≡ points_product n mask i
unfolding lanes_solved lane_points free
of_change n d i mask in_use low =
    rw (← add-sub_of_le {n = d} {m = i} (omega arith))
    (product_stops (lane_points n (varies false (mask + 2 ^ i) i)) i (d - i) (λ j above. ap (λ (b : Bool). cond b (n j) 1) (fixed j above)))
    ∙ product_ext (lane_points n (varies false (mask + 2 ^ i) i)) (λ j. cond (in_mask mask j) (n j) 1) i
    (λ j below.
    ap (λ (b : Bool). cond b (n j) 1) (varies_other false (mask + 2 ^ i) i j (omega arith) ∙ in_mask_below i mask j below))
  where
    fixed : (j : ℕ) → i ≤ j → varies false (mask + 2 ^ i) i j ≡ false
    fixed j above =
        ⊎_elim (λ e. rw (← e) (varies_own false (mask + 2 ^ i) i))
        (λ lt.
        varies_other false (mask + 2 ^ i) i j (omega arith)
        ∙ in_mask_above (suc i) (mask + 2 ^ i) j (omega (arith, two-pow-succ i)) lt)
        (eq-or-lt_of_le above)

-- along the axes below i: the closed sum of the rules
pub change_count : (n : ℕ → ℕ) (d i : ℕ) → i ≤ d → lanes_solved_below n d false i ≡ lane_sum n i
unfolding lanes_solved_below lanes_on_axis sum_below lane_sum
change_count n d zero le = refl
change_count n d (suc i) le =
    let along : lanes_on_axis n d false i ≡ product_of_one_more n i =
    sum_ext (lanes_solved n d false i) (λ mask. points_product n mask i) (2 ^ i) (λ mask l. of_change n d i mask le l)
    ∙ sum_of_points_products n i in
    cc (change_count n d i (omega arith), along)

-- ---- no count overflows

module _ (n : ℕ → ℕ) (d : ℕ) (whole : Bool) (some : (j : ℕ) → j < d → 0 < n j) where
  pub pass_most : (i mask : ℕ) → lanes_solved n d whole i mask ≤ product_below n d
  unfolding lanes_solved
  pass_most i mask = lanes_most n (varies whole (mask + 2 ^ i) i) d some

  pub axis_most : (i limit : ℕ) → sum_below (lanes_solved n d whole i) limit ≤ limit * product_below n d
  axis_most i limit = sum_bound (lanes_solved n d whole i) (product_below n d) limit (λ mask l. pass_most i mask)
