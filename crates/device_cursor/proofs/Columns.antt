-- The four columns of a curve's numbers together say whether a cell is out of range, and four cells further each of them keeps its flag.
use mathlib.Core.Path.{◌≡◌, refl, sym, ap, ◌∙◌}
use mathlib.Core.Bool.{Bool, false, not, ◌||◌}
use mathlib.Core.List.{List}
use Prim.Native.Nat.{ℕ, zero, suc, ◌+◌, ◌*◌}
use native.Mathlib.Nat.{add-zero}
use native.Mathlib.Omega.{arith}
use Rattle.device_cell.specs.DeviceCell.{cell_in_range}
use Rattle.device_cursor.specs.DeviceCurve.{cell_at, all_in_range}
use Rattle.device_cursor.specs.Columns.{value_out, slope_out, one_of_four_out, column_out}
use Rattle.device_cursor.proofs.Flags.{flags_of_two, flag_and_four, flags_over_flags}
use Rattle.device_cursor.proofs.Judged.{cell_flags}

column_none : (out : ℕ → Bool) (from : ℕ) → false ≡ column_out out from (4 * 0)
unfolding column_out
column_none out from = refl

column_next : (out : ℕ → Bool) (from i a : ℕ) (flag here : Bool) → flag ≡ column_out out from (4 * i) → a ≡ 64 * i + from
    → here ≡ one_of_four_out out a → (flag || here) ≡ column_out out from (4 * (i + 1))
unfolding column_out
column_next out from i a flag here e is f =
    let four : 4 * (i + 1) ≡ suc (suc (suc (suc (4 * i)))) = omega arith in
    let one : a ≡ 16 * (4 * i) + from = omega arith in
    let two : a + 16 ≡ 16 * suc (4 * i) + from = omega arith in
    let three : a + 32 ≡ 16 * suc (suc (4 * i)) + from = omega arith in
    let last : a + 48 ≡ 16 * suc (suc (suc (4 * i))) + from = omega arith in
    rw (four, e, f, flag_and_four (column_out out from (4 * i)) (out a) (out (a + 16)) (out (a + 32)) (out (a + 48)), two, three, last, one)
    refl

module _ (curve : List ℕ) where
  columns : (n : ℕ)
      → (column_out (value_out curve) 0 n || column_out (value_out curve) 4 n || column_out (slope_out curve) 8 n
      || column_out (slope_out curve) 12 n) ≡ not (all_in_range curve n)
  unfolding column_out all_in_range
  columns zero = refl
  columns (suc n) =
      rw (add-zero (16 * n))
      (sym
      (flags_over_flags (column_out (value_out curve) 0 n) (column_out (value_out curve) 4 n) (column_out (slope_out curve) 8 n)
      (column_out (slope_out curve) 12 n) (value_out curve (16 * n)) (value_out curve (16 * n + 4)) (slope_out curve (16 * n + 8))
      (slope_out curve (16 * n + 12)))
      ∙ ap (λ (b : Bool). b || (value_out curve (16 * n) || value_out curve (16 * n + 4) || slope_out curve (16 * n + 8)
      || slope_out curve (16 * n + 12))) (columns n)
      ∙ ap (λ (b : Bool). not (all_in_range curve n) || b) (cell_flags curve n _ _ _ _ refl refl refl refl)
      ∙ flags_of_two (all_in_range curve n) (cell_in_range (cell_at curve n)))

  -- what the loop keeps: a flag for each column, of the cells below 4 * i
  pub record Kept (i : ℕ) (p0 p1 d0 d1 : Bool) : Type 0 where
    pub of_p0 : p0 ≡ column_out (value_out curve) 0 (4 * i)
    pub of_p1 : p1 ≡ column_out (value_out curve) 4 (4 * i)
    pub of_d0 : d0 ≡ column_out (slope_out curve) 8 (4 * i)
    pub of_d1 : d1 ≡ column_out (slope_out curve) 12 (4 * i)

  pub kept_first : Kept 0 false false false false
  kept_first = record {
    of_p0 = column_none (value_out curve) 0;
    of_p1 = column_none (value_out curve) 4;
    of_d0 = column_none (slope_out curve) 8;
    of_d1 = column_none (slope_out curve) 12;
  }

  module _ (i : ℕ) (p0 p1 d0 d1 : Bool) (kept : Kept i p0 p1 d0 d1) where
    pub kept_next : (a b c d : Bool) → a ≡ one_of_four_out (value_out curve) (64 * i)
        → b ≡ one_of_four_out (value_out curve) (64 * i + 4) → c ≡ one_of_four_out (slope_out curve) (64 * i + 8)
        → d ≡ one_of_four_out (slope_out curve) (64 * i + 12) → Kept (i + 1) (p0 || a) (p1 || b) (d0 || c) (d1 || d)
    kept_next a b c d e f g h = record {
      of_p0 = column_next (value_out curve) 0 i (64 * i) p0 a kept.of_p0 (omega arith) e;
      of_p1 = column_next (value_out curve) 4 i (64 * i + 4) p1 b kept.of_p1 refl f;
      of_d0 = column_next (slope_out curve) 8 i (64 * i + 8) d0 c kept.of_d0 refl g;
      of_d1 = column_next (slope_out curve) 12 i (64 * i + 12) d1 d kept.of_d1 refl h;
    }

    pub kept_last : (n : ℕ) → i ≡ n → (p0 || p1 || d0 || d1) ≡ not (all_in_range curve (4 * n))
    kept_last n is =
        rw (kept.of_p0, kept.of_p1, kept.of_d0, kept.of_d1)
        (columns (4 * i) ∙ ap (λ (k : ℕ). not (all_in_range curve (4 * k))) is)
