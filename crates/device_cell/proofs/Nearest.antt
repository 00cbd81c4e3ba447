-- What `nearest` means: the one whole number within half a unit, and at a half the one away from zero; the same on both sides of zero.
use mathlib.Core.Path.{◌≡◌, refl, sym, ap, ◌∙◌}
use Prim.Native.Nat.{ℕ, zero, suc, ◌+◌, ◌-◌, ◌*◌, ◌/◌, ◌<◌, ◌≤◌}
use mathlib.Core.Logic.{⊎_elim}
use native.Mathlib.Nat.{eq-or-lt_of_le}
use native.Mathlib.Omega.{arith}
use lib.IntN.{ℤ, pos, negsuc, neg_ℤ, nat_abs, ◌-ℤ◌, ◌*ℤ◌, neg_ℤ-neg_ℤ, neg_ℤ-+ℤ}
use Rattle.base_integers.specs.Sized.{Sized}
use Rattle.base_integers.proofs.Differences.{less_is}
use Rattle.base_integers.proofs.Signs.{abs_neg, times_neg}
use Rattle.base_integers.proofs.Sizes.{abs_less}
use Rattle.device_cell.specs.DeviceCell.{nearest}

-- twice 256³ times a whole number, less twice a number: by how much the one lies off the other
abbrev pub off : ℤ → ℤ → ℤ
off r z = pos 33554432 *ℤ r -ℤ pos 2 *ℤ z

-- r is the whole number nearest to z over 256³
pub record Nearest (z r : ℤ) : Type 0 where
  pub half : nat_abs (off r z) ≤ 16777216
  pub away : nat_abs (off r z) ≡ 16777216 → nat_abs z < 16777216 * nat_abs r

pub nearest_neg : (z : ℤ) → nearest (neg_ℤ z) ≡ neg_ℤ (nearest z)
unfolding nearest
nearest_neg (pos zero) = refl
nearest_neg (pos (suc n)) = refl
nearest_neg (negsuc n) = sym (neg_ℤ-neg_ℤ (nearest (pos (suc n))))

-- ---- above zero and at it

off_pos : (r n : ℕ) → nat_abs (off (pos r) (pos n)) ≡ (33554432 * r - 2 * n) + (2 * n - 33554432 * r)
off_pos r n = rw (less_is (33554432 * r) (2 * n), abs_less)

-- below zero everything is turned
off_neg : (r z : ℤ) → nat_abs (off (neg_ℤ r) (neg_ℤ z)) ≡ nat_abs (off r z)
off_neg r z =
    rw (times_neg (pos 33554432) r, times_neg (pos 2) z, ← neg_ℤ-+ℤ (pos 33554432 *ℤ r) (neg_ℤ (pos 2 *ℤ z)))
    (abs_neg (off r z))

nearest_pos : (n : ℕ) → Nearest (pos n) (nearest (pos n))
unfolding nearest
nearest_pos n =
    let e = off_pos ((n + 8388608) / 16777216) n in
    record { half = omega arith; away = λ t. omega arith }

turned : (z r : ℤ) → Nearest z r → Nearest (neg_ℤ z) (neg_ℤ r)
turned z r near = record {
  half = rw (off_neg r z) near.half;
  away = λ t. rw (abs_neg z, abs_neg r) (near.away (sym (off_neg r z) ∙ t));
}

-- the answer is one
pub is_nearest : (z : ℤ) → Nearest z (nearest z)
is_nearest (pos n) = nearest_pos n
is_nearest (negsuc n) = rw (nearest_neg (pos (suc n))) (turned (pos (suc n)) (nearest (pos (suc n))) (nearest_pos (suc n)))

-- ---- and there is no other

-- a number below zero lies too far off one that is not
off_below : (r n : ℕ) → nat_abs (off (negsuc r) (pos n)) ≡ 33554432 * suc r + 2 * n
off_below r n = below (33554432 * suc r) (2 * n)
  where
    below : (a b : ℕ) → nat_abs (neg_ℤ (pos a) -ℤ pos b) ≡ a + b
    below a b = rw (← neg_ℤ-+ℤ (pos a) (pos b), abs_neg (pos (a + b)))

one_quotient : (n r : ℕ) → 33554432 * r ≤ 2 * n + 16777216 → 2 * n ≤ 33554432 * r + 16777216
    → ((33554432 * r - 2 * n) + (2 * n - 33554432 * r) ≡ 16777216 → n < 16777216 * r) → r ≡ (n + 8388608) / 16777216
one_quotient n r low high away =
    ⊎_elim (λ e. let l = away (omega (arith, e)) in (let z : ⊥ = omega (arith, e, l) in absurd z)) (λ l. omega (arith, l))
    (eq-or-lt_of_le high)

only_pos : (n : ℕ) (r : ℤ) → Nearest (pos n) r → r ≡ nearest (pos n)
unfolding nearest
only_pos n (pos r) near =
    let e = off_pos r n in
    let h : (33554432 * r - 2 * n) + (2 * n - 33554432 * r) ≤ 16777216 = rw e at near.half in
    ap pos (one_quotient n r (omega arith) (omega arith) (λ t. near.away (e ∙ t)))
only_pos n (negsuc r) near = let e = off_below r n in let h = near.half in let z : ⊥ = omega (arith, e, h) in absurd z

pub only_nearest : (z r : ℤ) → Nearest z r → r ≡ nearest z
only_nearest (pos n) r near = only_pos n r near
only_nearest (negsuc n) r near =
    sym (neg_ℤ-neg_ℤ r) ∙ ap neg_ℤ (only_pos (suc n) (neg_ℤ r) (turned (negsuc n) r near)) ∙ sym (nearest_neg (pos (suc n)))

-- ---- a whole number is its own nearest

whole_pos : (n : ℕ) → nearest (pos (16777216 * n)) ≡ pos n
unfolding nearest
whole_pos n = let e : (16777216 * n + 8388608) / 16777216 ≡ n = omega arith in ap pos e

pub nearest_whole : (z : ℤ) → nearest (pos 16777216 *ℤ z) ≡ z
nearest_whole (pos n) = whole_pos n
nearest_whole (negsuc n) = nearest_neg (pos (16777216 * suc n)) ∙ ap neg_ℤ (whole_pos (suc n))

-- ---- how far it lies from zero

pub nearest_sized : (z : ℤ) → Sized 1099511627776 z → Sized 65536 (nearest z)
unfolding nearest
nearest_sized (pos n) p = let h = p.sized in record { sized = omega arith }
nearest_sized (negsuc n) p =
    let h = p.sized in record { sized = rw (abs_neg (pos ((suc n + 8388608) / 16777216))) (omega arith) }
