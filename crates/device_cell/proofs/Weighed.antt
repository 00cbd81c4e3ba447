-- The weights of a cell's numbers at a position of at most 256 are naturals, and the sum of what they weigh is the exact value times 256³.
use mathlib.Core.Path.{◌≡◌, refl, sym, ap, ◌∙◌}
use Prim.Native.Nat.{ℕ, ◌+◌, ◌-◌, ◌*◌, ◌^◌, ◌≤◌}
use native.Mathlib.Omega.{arith}
use lib.Dec.{leb, eqb}
use lib.IntN.{pos, neg_ℤ, ◌+ℤ◌, ◌-ℤ◌}
use borrow.Author.Tests.{leb-true, eqb-true}
use Rattle.base_integers.proofs.Differences.{less_is, less_pos, less_add, less_neg, less_eq}
use Rattle.base_integers.proofs.Signs.{neg_times}
use Rattle.base_integers.proofs.Tests.{up_to, each}
use Rattle.device_cell.specs.DeviceCell.{exact}
use Rattle.device_cell.specs.CellWeights.{weight_p0, weight_p1, weight_d0, weight_d1, weights_at, weighted}
use Rattle.device_cell.specs.declared.Cell.{Cell}

pub record Weighed (k : ℕ) : Type 0 where
  pub is_p0 : weight_p0 k + 768 * k ^ 2 ≡ 2 * k ^ 3 + 16777216
  pub is_p1 : weight_p1 k + 2 * k ^ 3 ≡ 768 * k ^ 2
  pub is_d0 : weight_d0 k + 512 * k ^ 2 ≡ k ^ 3 + 65536 * k
  pub is_d1 : weight_d1 k + k ^ 3 ≡ 256 * k ^ 2
  pub square : k * k ≤ 65536
  pub mixed : k * (256 - k) ≤ 65536
  pub most_p1 : weight_p1 k ≤ 16777216
  pub most_slopes : weight_d0 k + weight_d1 k ≤ 4194304

-- each is computed at every position
pub weighed : (k : ℕ) → k ≤ 256 → Weighed k
unfolding up_to
weighed k h = record {
  is_p0 = eqb-true _ _ (each (λ i. eqb (weight_p0 i + 768 * i ^ 2) (2 * i ^ 3 + 16777216)) 256 refl k h);
  is_p1 = eqb-true _ _ (each (λ i. eqb (weight_p1 i + 2 * i ^ 3) (768 * i ^ 2)) 256 refl k h);
  is_d0 = eqb-true _ _ (each (λ i. eqb (weight_d0 i + 512 * i ^ 2) (i ^ 3 + 65536 * i)) 256 refl k h);
  is_d1 = eqb-true _ _ (each (λ i. eqb (weight_d1 i + i ^ 3) (256 * i ^ 2)) 256 refl k h);
  square = leb-true _ _ (each (λ i. leb (i * i) 65536) 256 refl k h);
  mixed = leb-true _ _ (each (λ i. leb (i * (256 - i)) 65536) 256 refl k h);
  most_p1 = leb-true _ _ (each (λ i. leb (weight_p1 i) 16777216) 256 refl k h);
  most_slopes = leb-true _ _ (each (λ i. leb (weight_d0 i + weight_d1 i) 4194304) 256 refl k h);
}

three : (a b c w : ℕ) → w + b ≡ a + c → pos a -ℤ pos b +ℤ pos c ≡ pos w
three a b c w e = rw (less_is a b, less_pos c, less_add a b c 0, less_pos w) (less_eq (a + c) (b + 0) w 0 (omega arith))

two : (a b w : ℕ) → w + b ≡ a → pos a -ℤ pos b ≡ pos w
two a b w e = rw (less_is a b, less_pos w) (less_eq a b w 0 (omega arith))

two_below : (a b w : ℕ) → w + a ≡ b → pos a -ℤ pos b ≡ neg_ℤ (pos w)
two_below a b w e = less_is a b ∙ less_eq a b 0 w (omega arith) ∙ sym (less_neg w 0) ∙ ap neg_ℤ (sym (less_pos w))

pub exact_is : (c : Cell) (k : ℕ) → k ≤ 256 → exact c k ≡ weighted (weights_at k) c.p0 c.p1 c.d0 c.d1
unfolding exact
exact_is c k h =
    let w = weighed k h in
    rw (
      three (2 * k ^ 3) (768 * k ^ 2) (256 ^ 3) (weight_p0 k) w.is_p0,
      three (k ^ 3) (512 * k ^ 2) (65536 * k) (weight_d0 k) w.is_d0,
      two (768 * k ^ 2) (2 * k ^ 3) (weight_p1 k) w.is_p1,
      two_below (k ^ 3) (256 * k ^ 2) (weight_d1 k) w.is_d1,
      neg_times (pos (weight_d1 k)) c.d1,
    )
