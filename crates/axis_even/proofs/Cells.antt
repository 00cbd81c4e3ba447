-- The direct cell by its quotient: of one that lies within one of k it is k or k - 1, and of a zero it is 0.
use Rattle.std.proofs.Common.{◌≡◌, ℕ, zero, suc, ◌+◌, ◌-◌, ◌*◌, ◌/◌, ◌<◌, ◌≤◌, min, Bool, true, false, cond, pos, true≢false, mul-le-mul_right, mul_comm, div-lt_iff_lt-mul, add-mul, lt_of_mul-lt-mul_right, mul-lt-mul_of_pos_right, le-div_iff_mul-le, mul_right_comm, le_of_mul-le-mul_right, arith, le-ltb, lt-ltb}
use lib.Ieee as Ieee
use lib.Ieee.{Float, nan, inf, fin, up, down, lt}
use lib.Ieee.Fits.{down_pos}
use lib.Ieee.Exact.{HasValue}
use Rattle.base_floats.specs.Zeros.{Zero}
use Rattle.rules.specs.Numbers.{◌⊖◌, ◌⊘◌, plus_zero}
use Rattle.rules.specs.Even.{whole_part, as_index, direct_cell}
use Rattle.axis_even.proofs.Direct.{direct_is}

-- knot k is an end of a cell: the cell is k or k - 1
pub record HasEnd (cell k : ℕ) : Type 0 where
  pub from : cell ≤ k
  pub to : k ≤ cell + 1

held : (c k n : ℕ) → k + 1 ≤ n → 2 ≤ n → HasEnd c k → HasEnd (min c (n - 2)) k
held c k n l s O = record { from = omega (arith, O.from); to = omega (arith, O.to) }

-- ---- in whole numbers: M / d is Q / L, which lies within one of k

below_next : (M d Q L k : ℕ) → 0 < d → M * L ≡ Q * d → Q < (k + 1) * L → M < (k + 1) * d
below_next M d Q L k D e h = lt_of_mul-lt-mul_right L (rw (e, mul_right_comm (k + 1) d L) (mul-lt-mul_of_pos_right h D))

from_previous : (M d Q L k : ℕ) → 0 < L → M * L ≡ Q * d → k * L ≤ Q + L → k * d ≤ M + d
from_previous M d Q L k l e h =
    le_of_mul-le-mul_right (rw (add-mul M d L, e, mul_right_comm k d L, mul_comm d L, ← add-mul Q L d) (mul-le-mul_right d h)) l

whole_part_ends : (M d k : ℕ) → 0 < d → M < (k + 1) * d → k * d ≤ M + d → HasEnd (M / d) k
whole_part_ends M d zero D a b = let l = (div-lt_iff_lt-mul D).1 a in record { from = omega arith; to = omega arith }
whole_part_ends M d (suc k) D a b =
    let l : M / d < suc k + 1 = (div-lt_iff_lt-mul D).1 a in
    let g : k * d ≤ M = omega (arith, (let e : suc k * d ≡ k * d + d = omega arith in e)) in
    let m : k ≤ M / d = (le-div_iff_mul-le D).1 g in
    record { from = omega arith; to = omega arith }

-- ---- of a float that holds it

not_negative : (t : Float) (Q L : ℕ) → HasValue t false Q L → lt t plus_zero ≡ false
unfolding Ieee.of_bits lt
not_negative nan Q L v = absurd v
not_negative (inf s) Q L v = absurd v
not_negative (fin true m e) Q L v = absurd (true≢false v.0)
not_negative (fin false m e) Q L v = le-ltb (m * up e * 1) (0 * down e) (omega arith)

index_ends : (t : Float) (Q L k : ℕ) → HasValue t false Q L → 0 < L → Q < (k + 1) * L → k * L ≤ Q + L → k < 256 → HasEnd (as_index t) k
unfolding Ieee.of_bits lt as_index whole_part
index_ends nan Q L k v l above below few = absurd v
index_ends (inf s) Q L k v l above below few = absurd v
index_ends (fin true m e) Q L k v l above below few = absurd (true≢false v.0)
index_ends (fin false m e) Q L k v l above below few =
    let a : m * up e < (k + 1) * down e = below_next (m * up e) (down e) Q L k (down_pos e) v.1 above in
    let b : k * down e ≤ m * up e + down e = from_previous (m * up e) (down e) Q L k l v.1 below in
    let c : (k + 1) * down e ≤ 256 * down e = mul-le-mul_right (down e) (omega arith) in
    rw (lt-ltb (m * up e * 1) (18446744073709551616 * down e) (omega arith)) (whole_part_ends (m * up e) (down e) k (down_pos e) a b)

module _ (first step p : Float) (n : ℕ) where
  pub cell_of_quotient :
      (Q L k : ℕ) → HasValue ((p ⊖ first) ⊘ step) false Q L → 0 < L → Q < (k + 1) * L → k * L ≤ Q + L → k < n → n ≤ 256 → 2 ≤ n
      → HasEnd (direct_cell first step n p) k
  cell_of_quotient Q L k v l above below inside few some =
      rw (direct_is first step n p (not_negative ((p ⊖ first) ⊘ step) Q L v))
      (held (as_index ((p ⊖ first) ⊘ step)) k n (omega arith) some
      (index_ends ((p ⊖ first) ⊘ step) Q L k v l above below (omega arith)))

  pub cell_of_zero : Zero ((p ⊖ first) ⊘ step) → HasEnd (direct_cell first step n p) 0
  unfolding direct_cell as_index whole_part Ieee.of_bits lt
  cell_of_zero z = rw z.is (go z.sign)
    where
      go : (s : Bool) → HasEnd (cond (lt (fin s 0 (pos 0)) plus_zero) 0 (min (as_index (fin s 0 (pos 0))) (n - 2))) 0
      go true = record { from = omega arith; to = omega arith }
      go false = record { from = omega arith; to = omega arith }
