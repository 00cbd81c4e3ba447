-- Words: eight bytes as one number, and 64 bits that begin within a word as what it has left and the first bits of what follows.
use mathlib.Core.Path.{◌≡◌, sym, ap, ◌∙◌}
use mathlib.Core.List.{List, [], ◌∷◌}
use Prim.Native.Nat.{ℕ, ◌+◌, ◌-◌, ◌*◌, ◌/◌, ◌%◌, ◌^◌, ◌<◌, ◌≤◌}
use native.Mathlib.Nat.{mod-eq_of_lt}
use native.Mathlib.Omega.{arith}
use lib.ListN.{get_or}
use lib.Pow.{shl_exact}
use Rattle.base_bits.specs.Bits.{field}
use Rattle.base_bits.proofs.Runs.{field_add, field_first, field_second, field_start, field_whole}
use Rattle.base_bits.proofs.Shifts.{shifted_is}

-- ---- eight bytes

-- the number that eight digits spell, each of them a byte
abbrev spelled : ℕ → ℕ → ℕ → ℕ → ℕ → ℕ → ℕ → ℕ → ℕ
spelled a b c d e f g h = ((((((a * 256 + b) * 256 + c) * 256 + d) * 256 + e) * 256 + f) * 256 + g) * 256 + h

module _ (bytes : List ℕ) (p : ℕ) where
  one_more : (j : ℕ) → field bytes (8 * p) (8 * j + 8) ≡ field bytes (8 * p) (8 * j) * 256 + get_or bytes (p + j) 0 % 256
  one_more j =
      let e : 8 * p + 8 * j ≡ 8 * (p + j) = omega arith in field_add bytes (8 * p) (8 * j) 8 ∙ rw (e, field_whole bytes (p + j))

  word_spelled : field bytes (8 * p) 64
      ≡ spelled (get_or bytes p 0 % 256) (get_or bytes (p + 1) 0 % 256) (get_or bytes (p + 2) 0 % 256) (get_or bytes (p + 3) 0 % 256)
      (get_or bytes (p + 4) 0 % 256) (get_or bytes (p + 5) 0 % 256) (get_or bytes (p + 6) 0 % 256) (get_or bytes (p + 7) 0 % 256)
  word_spelled =
      rw (one_more 7, one_more 6, one_more 5, one_more 4, one_more 3, one_more 2, one_more 1, field_whole bytes p)

-- a word of a list is that of its eight bytes alone
pub word_alone : (bytes : List ℕ) (p : ℕ)
    → field
    (get_or bytes p 0 ∷ get_or bytes (p + 1) 0 ∷ get_or bytes (p + 2) 0 ∷ get_or bytes (p + 3) 0 ∷ get_or bytes (p + 4) 0 ∷ get_or bytes (p + 5) 0
    ∷ get_or bytes (p + 6) 0 ∷ get_or bytes (p + 7) 0 ∷ []) 0 64 ≡ field bytes (8 * p) 64
word_alone bytes p = word_spelled _ 0 ∙ sym (word_spelled bytes p)

-- a byte moved to its place in a word: the shift loses no bit
moved : (n k : ℕ) → n < 256 → k ≤ 56 → n * 2 ^ k % 18446744073709551616 ≡ n * 2 ^ k
moved n k h l = shl_exact 8 k 64 h (omega arith)

-- eight of them, summed two by two
pub word_summed : (a b c d e f g h : ℕ) → a < 256 → b < 256 → c < 256 → d < 256 → e < 256 → f < 256 → g < 256 → h < 256
    → a * 2 ^ 56 % 18446744073709551616 + b * 2 ^ 48 % 18446744073709551616
    + (c * 2 ^ 40 % 18446744073709551616 + d * 2 ^ 32 % 18446744073709551616)
    + (e * 2 ^ 24 % 18446744073709551616 + f * 2 ^ 16 % 18446744073709551616 + (g * 2 ^ 8 % 18446744073709551616 + h))
    ≡ field (a ∷ b ∷ c ∷ d ∷ e ∷ f ∷ g ∷ h ∷ []) 0 64
word_summed a b c d e f g h la lb lc ld le lf lg lh =
    let sum : a * 2 ^ 56 + b * 2 ^ 48 + (c * 2 ^ 40 + d * 2 ^ 32) + (e * 2 ^ 24 + f * 2 ^ 16 + (g * 2 ^ 8 + h)) ≡ spelled a b c d e f g h =
    omega arith in
    rw (
      moved g 8 lg (omega arith),
      moved f 16 lf (omega arith),
      moved e 24 le (omega arith),
      moved d 32 ld (omega arith),
      moved c 40 lc (omega arith),
      moved b 48 lb (omega arith),
      moved a 56 la (omega arith),
      sum,
      word_spelled (a ∷ b ∷ c ∷ d ∷ e ∷ f ∷ g ∷ h ∷ []) 0,
      mod-eq_of_lt la,
      mod-eq_of_lt lb,
      mod-eq_of_lt lc,
      mod-eq_of_lt ld,
      mod-eq_of_lt le,
      mod-eq_of_lt lf,
      mod-eq_of_lt lg,
      mod-eq_of_lt lh,
    )

-- ---- 64 bits that begin within a word

module _ (bytes : List ℕ) where
  across : (at rest s t : ℕ) → s + t ≡ 64 → rest ≡ at + 64
      → field bytes at 64 * 2 ^ s % 18446744073709551616 + field bytes rest s ≡ field bytes (at + s) 64
  across at rest s t e p =
      let whole : t + s ≡ 64 = omega arith in
      let behind : rest ≡ at + s + t = omega arith in
      let left : field bytes at 64 % 2 ^ t ≡ field bytes (at + s) t =
      ap (λ (k : ℕ). field bytes at k % 2 ^ t) (sym e) ∙ field_second bytes at s t in
      rw (shifted_is s t e (field bytes at 64), left, behind) (sym (field_add bytes (at + s) t s) ∙ ap (field bytes (at + s)) whole)

  -- another word follows
  pub across_word : (p s : ℕ) → s < 64
      → field bytes (8 * p) 64 * 2 ^ s % 18446744073709551616 + field bytes (8 * (p + 8)) 64 / 2 ^ (64 - s) ≡ field bytes (8 * p + s) 64
  across_word p s h =
      let e : s + (64 - s) ≡ 64 = omega arith in
      let first : field bytes (8 * (p + 8)) 64 / 2 ^ (64 - s) ≡ field bytes (8 * (p + 8)) s =
      ap (λ (k : ℕ). field bytes (8 * (p + 8)) k / 2 ^ (64 - s)) (sym e) ∙ field_first bytes (8 * (p + 8)) s (64 - s) in
      rw first (across (8 * p) (8 * (p + 8)) s (64 - s) e (omega arith))

  -- a byte does
  pub across_byte : (p s : ℕ) → s ≤ 8
      → field bytes (8 * p) 64 * 2 ^ s % 18446744073709551616 + get_or bytes (p + 8) 0 / 2 ^ (8 - s) % 2 ^ s ≡ field bytes (8 * p + s) 64
  across_byte p s h =
      rw (← field_start bytes (p + 8) s h) (across (8 * p) (8 * (p + 8)) s (64 - s) (omega arith) (omega arith))
