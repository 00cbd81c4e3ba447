-- A part of a list, by its numbers: a table, or the same part of another list.
use native.Mathlib.Omega.{arith}
use mathlib.Core.Path.{◌≡◌, sym, ◌∙◌}
use mathlib.Core.List.{List}
use Prim.Native.Nat.{ℕ, ◌+◌, ◌<◌, ◌≤◌}
use lib.ListN.{length, take, drop, length-drop}
use lib.Seq.{length-take-le, get_or-take, get_or-drop, ext_get_or}
use lib.Ieee.{Float, nan}
use Rattle.rules.specs.Numbers.{at, table}
use Rattle.rules.proofs.Tables.{table_is}

module _ (w : List Float) (a n : ℕ) (inside : a + n ≤ length w) where
  pub part_length : length (take n (drop a w)) ≡ n
  part_length = length-take-le n (drop a w) (rw length-drop (omega arith))

  pub part_at : (k : ℕ) → k < n → at (take n (drop a w)) k ≡ at w (a + k)
  part_at k lt = rw (get_or-take, get_or-drop)

  pub part_is_table : (f : ℕ → Float) → ((k : ℕ) → k < n → at w (a + k) ≡ f k) → take n (drop a w) ≡ table n f
  part_is_table f same = table_is nan (take n (drop a w)) n f part_length (λ k lt. part_at k lt ∙ same k lt)

-- two lists with the same numbers there have the same part
pub part_ext :
    (w w' : List Float) (a n : ℕ) → a + n ≤ length w → length w' ≡ length w
    → ((k : ℕ) → k < n → at w' (a + k) ≡ at w (a + k)) → take n (drop a w') ≡ take n (drop a w)
part_ext w w' a n inside e same =
    let inside' : a + n ≤ length w' = omega arith in
    ext_get_or nan (take n (drop a w')) (take n (drop a w)) (part_length w' a n inside' ∙ sym (part_length w a n inside))
    (λ k lt.
    let l : k < n = rw (part_length w' a n inside') at lt in
    part_at w' a n inside' k l ∙ same k l ∙ sym (part_at w a n inside k l))
