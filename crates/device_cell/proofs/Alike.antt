-- Both sides of zero alike: the exact value of a cell with all signs turned is the turned one, so its number is, and so are the answers
-- wherever both cells are in range.
use mathlib.Core.Path.{◌≡◌, ap, ◌∙◌}
use Prim.Native.Nat.{ℕ, ◌*◌, ◌^◌}
use lib.IntN.{ℤ, pos, neg_ℤ, nat_abs, ◌+ℤ◌, ◌-ℤ◌, ◌*ℤ◌, neg_ℤ-+ℤ}
use Rattle.base_integers.proofs.Signs.{times_neg}
use Rattle.device_cell.specs.DeviceCell.{exact, nearest, cell_number, cell_refusal, cell_answer}
use Rattle.device_cell.specs.declared.Cell.{Cell}
use Rattle.device_cell.proofs.Nearest.{nearest_neg}

-- a cell with all signs turned
abbrev pub turned : Cell → Cell
turned c = record { p0 = neg_ℤ c.p0; p1 = neg_ℤ c.p1; d0 = neg_ℤ c.d0; d1 = neg_ℤ c.d1 }

exact_turned : (c : Cell) (k : ℕ) → exact (turned c) k ≡ neg_ℤ (exact c k)
unfolding exact
exact_turned c k =
    let a = pos (2 * k ^ 3) -ℤ pos (768 * k ^ 2) +ℤ pos (256 ^ 3) in
    let b = pos (k ^ 3) -ℤ pos (512 * k ^ 2) +ℤ pos (65536 * k) in
    let p = pos (768 * k ^ 2) -ℤ pos (2 * k ^ 3) in
    let d = pos (k ^ 3) -ℤ pos (256 * k ^ 2) in
    rw (
      neg_ℤ-+ℤ (a *ℤ c.p0 +ℤ b *ℤ c.d0 +ℤ p *ℤ c.p1) (d *ℤ c.d1),
      neg_ℤ-+ℤ (a *ℤ c.p0 +ℤ b *ℤ c.d0) (p *ℤ c.p1),
      neg_ℤ-+ℤ (a *ℤ c.p0) (b *ℤ c.d0),
      times_neg a c.p0,
      times_neg b c.d0,
      times_neg p c.p1,
      times_neg d c.d1,
    )

pub number_alike : (c : Cell) (k : ℕ) → cell_number (turned c) k ≡ neg_ℤ (cell_number c k)
number_alike c k = ap nearest (exact_turned c k) ∙ nearest_neg (exact c k)

-- the answers, where neither is a refusal
pub alike : (c : Cell) (k : ℤ) → cell_refusal c k ≡ 0 → cell_refusal (turned c) k ≡ 0
    → (cell_answer (turned c) k).value ≡ neg_ℤ (cell_answer c k).value
unfolding cell_answer
alike c k none none_turned = rw (none, none_turned) (number_alike c (nat_abs k))
