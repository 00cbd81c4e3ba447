-- The answer of a cell, for each way that the call ends; p0 at position 0 and p1 at 256.
use mathlib.Core.Path.{◌≡◌, refl, ap, ◌∙◌}
use mathlib.Core.Bool.{Bool, true, false, cond}
use Prim.Native.Nat.{ℕ, zero, suc, ◌≤◌}
use native.Mathlib.Omega.{arith}
use lib.Dec.{T, leb}
use lib.IntN.{ℤ, pos, negsuc, nat_abs, ◌+ℤ◌, ◌*ℤ◌, zero-*ℤ, +ℤ_idl, +ℤ_idr}
use lib.Signed.{non_neg}
use borrow.Author.Tests.{leb-true}
use mir.Syntax.{w64}
use mir.Val.{Fits}
use Rattle.base_integers.proofs.Tests.{both}
use Rattle.device_cell.specs.DeviceCell.{
  exact,
  nearest,
  cell_number,
  cell_in_range,
  position_in_range,
  cell_refusal,
  valued,
  cell_answer,
}
use Rattle.device_cell.specs.declared.Cell.{Cell}
use Rattle.device_cell.proofs.Nearest.{nearest_whole}

-- ---- what is known where nothing is refused

pub record Passed (c : Cell) (k : ℤ) : Type 0 where
  pub cell : cell_in_range c ≡ true
  pub position : k ≡ pos (nat_abs k)
  pub most : nat_abs k ≤ 256

chosen : (a b : Bool) → ◌≡◌ {A = ℕ} (cond a (cond b 0 20) 19) 0 → (a ≡ true) × (b ≡ true)
chosen true true e = (refl, refl)
chosen true false e = let z : ⊥ = omega arith in absurd z
chosen false b e = let z : ⊥ = omega arith in absurd z

position_known : (k : ℤ) → position_in_range k ≡ true → (k ≡ pos (nat_abs k)) × (nat_abs k ≤ 256)
position_known (pos n) e = (refl, leb-true n 256 (both (leb 0 n) (leb n 256) e).1)
position_known (negsuc n) e = let z : ◌≡◌ {A = ℕ} 0 1 = cc in (let y : ⊥ = omega arith in absurd y)

pub passed : (c : Cell) (k : ℤ) → cell_refusal c k ≡ 0 → Passed c k
unfolding cell_refusal
passed c k e =
    let tests = chosen (cell_in_range c) (position_in_range k) e in
    let position = position_known k tests.1 in
    record { cell = tests.0; position = position.0; most = position.1 }

-- a position that is its own magnitude is cast to one
pub natural : (k : ℤ) → k ≡ pos (nat_abs k) → nat_abs k ≤ 256 → T (non_neg k) × Fits w64 (nat_abs k)
natural (pos n) e h = (tt, record { fits = omega arith })
natural (negsuc n) e h = let z : ◌≡◌ {A = ℕ} 0 1 = cc in (let y : ⊥ = omega arith in absurd y)

-- ---- the two ways to end

-- a refused answer has no value
pub no_value : (r : ℕ) (v : ℤ) → (r ≡ 0 → ⊥) → pos 0 ≡ valued r v
no_value zero v some = absurd (some refl)
no_value (suc r) v some = refl

pub answer_refused : (c : Cell) (k : ℤ) (r : ℕ) → r ≡ cell_refusal c k → (r ≡ 0 → ⊥)
    → record { refusal = r; value = pos 0 } ≡ cell_answer c k
unfolding cell_answer
answer_refused c k r e some = rw (← e, ← no_value r (cell_number c (nat_abs k)) some)

pub answer_given : (c : Cell) (k : ℤ) (v : ℤ) → cell_refusal c k ≡ 0 → v ≡ cell_number c (nat_abs k)
    → record { refusal = 0; value = v } ≡ cell_answer c k
unfolding cell_answer
answer_given c k v none e = rw (none, e)

-- ---- the ends of a cell

first_only : (a b c d : ℤ) → a +ℤ pos 0 *ℤ b +ℤ pos 0 *ℤ c +ℤ pos 0 *ℤ d ≡ a
first_only a b c d = rw (zero-*ℤ b, zero-*ℤ c, zero-*ℤ d, +ℤ_idr a, +ℤ_idr a, +ℤ_idr a)

third_only : (a b c d : ℤ) → pos 0 *ℤ b +ℤ pos 0 *ℤ c +ℤ a +ℤ pos 0 *ℤ d ≡ a
third_only a b c d = rw (zero-*ℤ b, zero-*ℤ c, zero-*ℤ d, +ℤ_idl a, +ℤ_idr a)

number_at_0 : (c : Cell) → cell_number c 0 ≡ c.p0
unfolding exact
number_at_0 c = ap nearest (first_only (pos 16777216 *ℤ c.p0) c.d0 c.p1 c.d1) ∙ nearest_whole c.p0

number_at_256 : (c : Cell) → cell_number c 256 ≡ c.p1
unfolding exact
number_at_256 c = ap nearest (third_only (pos 16777216 *ℤ c.p1) c.p0 c.d0 c.d1) ∙ nearest_whole c.p1

-- the values themselves, for cells in range
pub p0_at_0 : (c : Cell) → cell_in_range c ≡ true → cell_answer c (pos 0) ≡ record { refusal = 0; value = c.p0 }
unfolding cell_answer cell_refusal
p0_at_0 c range = rw (range, number_at_0 c)

pub p1_at_256 : (c : Cell) → cell_in_range c ≡ true → cell_answer c (pos 256) ≡ record { refusal = 0; value = c.p1 }
unfolding cell_answer cell_refusal
p1_at_256 c range = rw (range, number_at_256 c)
