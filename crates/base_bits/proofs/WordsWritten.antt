-- Words written: bytes side by side are one word, and a pattern that begins within a byte is one word and the first bits of the byte behind
-- it; a row of patterns is words, of which each holds the last bits of one and the first of the next.
use mathlib.Core.Path.{◌≡◌, sym, ap, ◌∙◌}
use mathlib.Core.List.{List}
use Prim.Native.Nat.{ℕ, ◌+◌, ◌-◌, ◌*◌, ◌/◌, ◌%◌, ◌^◌, ◌<◌, ◌≤◌}
use native.Mathlib.Nat.{add-zero}
use native.Mathlib.Omega.{arith}
use lib.ListN.{length, get_or, take}
use lib.Ieee.{Float, nan, binary64, to_bits}
use lib.Pow.{high, low, shr_lt}
use Rattle.base_bits.specs.Written.{with_field, number_fields, with_fields}
use Rattle.base_bits.proofs.Shifts.{shifted_is}
use Rattle.base_bits.proofs.Runs.{field_start}
use Rattle.base_bits.proofs.Writes.{lowest_written, written_of_read, written_add, written_more}
use Rattle.base_bits.proofs.Numbers.{none_written, more_written, all_written}

-- ---- bytes side by side

pub half_written : (z a b c d : List ℕ) (p v : ℕ) → a ≡ with_field z (8 * p + 0) 8 (v / 2 ^ 24)
    → b ≡ with_field a (8 * (p + 1) + 0) 8 (v / 2 ^ 16) → c ≡ with_field b (8 * (p + 2) + 0) 8 (v / 2 ^ 8)
    → d ≡ with_field c (8 * (p + 3) + 0) 8 v → d ≡ with_field z (8 * p) 32 v
half_written z a b c d p v first second third fourth =
    let one : a ≡ with_field z (8 * p) 8 (v / 2 ^ 24) = first ∙ rw (add-zero (8 * p)) in
    let two : b ≡ with_field z (8 * p) 16 (v / 2 ^ 16) = second ∙ written_more z a (8 * p) 8 32 8 v _ one (omega arith) (omega arith) in
    let three : c ≡ with_field z (8 * p) 24 (v / 2 ^ 8) = third ∙ written_more z b (8 * p) 16 32 8 v _ two (omega arith) (omega arith) in
    let last : 8 * (p + 3) + 0 ≡ 8 * p + 24 = omega arith in fourth ∙ rw (three, last) (sym (written_add z (8 * p) 24 8 v))

pub word_written : (z a b : List ℕ) (p v : ℕ) → a ≡ with_field z (8 * p) 32 (v / 2 ^ 32) → b ≡ with_field a (8 * (p + 4)) 32 v
    → b ≡ with_field z (8 * p) 64 v
word_written z a b p v first second =
    let last : 8 * (p + 4) ≡ 8 * p + 32 = omega arith in second ∙ rw (first, last) (sym (written_add z (8 * p) 32 32 v))

-- ---- a pattern that begins within a byte

-- s bits and a pattern behind them are a word and the pattern's last s bits behind it
across_written : (z : List ℕ) (at p before n s t : ℕ) → s + t ≡ 64 → p ≡ at + 64 → n < 18446744073709551616
    → with_field (with_field z at 64 (before * 2 ^ t % 18446744073709551616 + n / 2 ^ s)) p s n
    ≡ with_field (with_field z at s before) (at + s) 64 n
across_written z at p before n s t whole place h =
    let swapped : t + s ≡ 64 = omega arith in
    let w = before % 2 ^ s * 2 ^ t + n / 2 ^ s in
    let few : n / 2 ^ s < 2 ^ t = shr_lt t s (rw swapped h) in
    let behind : p ≡ at + s + t = omega arith in
    let word : with_field z at 64 w ≡ with_field (with_field z at s before) (at + s) t (n / 2 ^ s) =
    ap (λ (k : ℕ). with_field z at k w) (sym whole) ∙ written_add z at s t w
    ∙ rw (
      high (before % 2 ^ s) t few,
      ← lowest_written z at s before,
      lowest_written (with_field z at s before) (at + s) t w,
      low (before % 2 ^ s) t few,
    ) in
    rw (shifted_is t s swapped before, word, behind)
    (sym (written_add (with_field z at s before) (at + s) t s n)
    ∙ ap (λ (k : ℕ). with_field (with_field z at s before) (at + s) k n) swapped)

-- a row of patterns, of which the last bits come late: the first k stand, once those of the one before, or at first what stood there, are
-- written
abbrev pub Late : List ℕ → ℕ → ℕ → List Float → List ℕ → ℕ → ℕ → Type 0
Late z place s xs now before k =
    with_field now (8 * (place + 8 * k)) s before ≡ with_fields z (8 * place + s) (number_fields (take k xs))

module _ (z : List ℕ) (place s : ℕ) (few : s ≤ 8) where
  -- the first bits of a byte, written where they stand, change nothing
  first_kept : (before : ℕ) → before ≡ get_or z place 0 / 2 ^ (8 - s) % 2 ^ s → with_field z (8 * place) s before ≡ z
  first_kept before e =
      ap (with_field z (8 * place) s) (e ∙ sym (field_start z place s few)) ∙ written_of_read z (8 * place) s

  -- so a pattern is written behind them
  pub pattern_written : (before n w : ℕ) → before ≡ get_or z place 0 / 2 ^ (8 - s) % 2 ^ s → n < 18446744073709551616
      → w ≡ before * 2 ^ (64 - s) % 18446744073709551616 + n / 2 ^ (64 - (64 - s))
      → with_field (with_field z (8 * place) 64 w) (8 * (place + 8) + 0) s n ≡ with_field z (8 * place + s) 64 n
  pattern_written before n w e h f =
      let back : 64 - (64 - s) ≡ s = omega arith in
      rw (
        f,
        back,
        across_written z (8 * place) (8 * (place + 8) + 0) before n s (64 - s) (omega arith) (omega arith) h,
        first_kept before e,
      )

  module _ (xs : List Float) where
    pub late_none : (before : ℕ) → before ≡ get_or z place 0 / 2 ^ (8 - s) % 2 ^ s → Late z place s xs z before 0
    late_none before e =
        let here : 8 * (place + 8 * 0) ≡ 8 * place = omega arith in
        rw here (first_kept before e) ∙ none_written z (8 * place + s) xs

    -- a word is written: the last bits of the pattern before, and the first of the next
    pub late_more : (now : List ℕ) (before n w k : ℕ) → Late z place s xs now before k → k < length xs
        → n ≡ to_bits binary64 (get_or xs k nan) → n < 18446744073709551616
        → w ≡ before * 2 ^ (64 - s) % 18446744073709551616 + n / 2 ^ (64 - (64 - s))
        → Late z place s xs (with_field now (8 * (place + 8 * k)) 64 w) n (k + 1)
    late_more now before n w k late l e h f =
        let back : 64 - (64 - s) ≡ s = omega arith in
        let at = 8 * (place + 8 * k) in
        let here : at + s ≡ 8 * place + s + 64 * k = omega arith in
        rw (f, back, across_written now at (8 * (place + 8 * (k + 1))) before n s (64 - s) (omega arith) (omega arith) h, here, e)
        (more_written z (with_field now at s before) (8 * place + s) xs k l late)

    pub late_all : (now : List ℕ) (before k p : ℕ) → Late z place s xs now before k → length xs ≤ k → p ≡ 8 * (place + 8 * k)
        → with_field now p s before ≡ with_fields z (8 * place + s) (number_fields xs)
    late_all now before k p late l e = rw e (all_written z _ (8 * place + s) xs k l late)
