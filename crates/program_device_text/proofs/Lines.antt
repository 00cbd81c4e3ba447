-- The line of a number by its sign, how long it is, and how the lines of a curve's numbers are put one after the other.
use mathlib.Core.Path.{◌≡◌, refl}
use mathlib.Core.List.{List, [], ◌∷◌, ◌++◌, append-nil, append_assoc}
use Prim.Native.Nat.{ℕ, zero, suc, ◌+◌, ◌*◌, ◌<◌, ◌≤◌}
use native.Mathlib.Numerals.{add-one}
use native.Mathlib.Omega.{arith}
use lib.IntN.{ℤ, pos, negsuc, nat_abs}
use lib.ListN.{length, take, length-append}
use lib.Seq.{take-suc, take_all}
use Rattle.base_integers.specs.Sized.{Sized}
use Rattle.base_integers.proofs.Signs.{Below, Above}
use Rattle.base_text.specs.Lines.{word_line}
use Rattle.base_text.specs.PutBytes.{Put}
use Rattle.base_text.proofs.Puts.{put_none, put_more, put_length}
use Rattle.base_text.proofs.Decimals.{decimal_length, length_word_line}
use Rattle.device_cursor.specs.DeviceCurve.{curve_refusal, curve_numbers, last_cursor, cursor_number}
use Rattle.device_cursor.proofs.Walks.{how_many, number_of_place, cursor_sized}
use Rattle.program_device_text.specs.DeviceText.{sign, signed_line, signed_lines}

-- ---- the line of a number

pub line_below : (z : ℤ) → Below z → word_line (45 ∷ []) (nat_abs z) ≡ signed_line z
unfolding signed_line
line_below z b = rw b.is

pub line_above : (z : ℤ) → Above z → word_line [] (nat_abs z) ≡ signed_line z
unfolding signed_line
line_above z a = rw a.is

sign_length : (z : ℤ) → length (sign z) ≤ 1
sign_length (pos n) = omega arith
sign_length (negsuc n) = omega arith

-- a sign, five digits and LF
line_length : (z : ℤ) → Sized 65536 z → length (signed_line z) ≤ 7
unfolding signed_line
line_length z p =
    let h = p.sized in
    let digits = decimal_length 4 (nat_abs z) (omega arith) (omega arith) in
    rw (length_word_line (sign z) (nat_abs z)) (omega (arith, sign_length z))

-- ---- lines of numbers

lines_more : (first more : List ℤ) → signed_lines (first ++ more) ≡ signed_lines first ++ signed_lines more
unfolding signed_lines
lines_more [] more = refl
lines_more (number ∷ first) more = rw (lines_more first more, append_assoc)

line_of_one : (number : ℤ) → signed_lines (number ∷ []) ≡ signed_line number
unfolding signed_lines
line_of_one number = append-nil (signed_line number)

-- ---- the loop over the cursors

pub record Turn (curve before : List ℕ) (n : ℕ) (text : List ℕ) (behind : ℕ) : Type 0 where
  pub put : Put (signed_lines (take n (curve_numbers curve))) before 0 text behind
  pub short : behind ≤ 7 * n

pub turn_first : (curve text : List ℕ) → Turn curve text 0 text 0
unfolding signed_lines
turn_first curve text = record { put = put_none text 0; short = omega arith }

pub turn_length : {curve before text : List ℕ} {n behind : ℕ} → Turn curve before n text behind → length text ≡ length before
turn_length t = put_length t.put

-- there is room for the next line
pub next_fits : {curve before text : List ℕ} {n behind : ℕ} → curve_refusal curve ≡ 0 → Turn curve before n text behind
    → n < last_cursor curve + 1
    → behind + length (signed_line (cursor_number curve n)) ≤ 7 * (n + 1)
next_fits {curve} {before} {text} {n} {behind} accepted t more =
    let l = line_length (cursor_number curve n) (cursor_sized curve accepted n (omega arith)) in
    omega (arith, t.short)

pub turn_next : {curve before text after : List ℕ} {n behind end : ℕ} → curve_refusal curve ≡ 0 → Turn curve before n text behind
    → n < last_cursor curve + 1
    → Put (signed_line (cursor_number curve n)) text behind after end → Turn curve before (n + 1) after end
turn_next {curve} {before} {text} {after} {n} {behind} {end} accepted t more q =
    let all = how_many curve in
    record {
      put =
          rw (
            add-one n,
            take-suc (curve_numbers curve) n (pos 0) (omega (arith, all)),
            number_of_place curve n (omega arith),
            lines_more (take n (curve_numbers curve)) (cursor_number curve n ∷ []),
            line_of_one (cursor_number curve n),
          )
          (put_more t.put q);
      short = omega (arith, q.end, next_fits accepted t more);
    }

pub turn_last : {curve before text : List ℕ} {n behind : ℕ} → Turn curve before n text behind → last_cursor curve + 1 ≤ n
    → Put (signed_lines (curve_numbers curve)) before 0 text behind
turn_last {curve} {before} {text} {n} {behind} t done =
    rw (take_all n (curve_numbers curve) (omega (arith, how_many curve))) at t.put

-- ---- how long they are

first_length : (curve : List ℕ) → curve_refusal curve ≡ 0 → (n : ℕ) → n ≤ last_cursor curve + 1
    → length (signed_lines (take n (curve_numbers curve))) ≤ 7 * n
unfolding signed_lines
first_length curve accepted zero h = omega arith
first_length curve accepted (suc n) h =
    let before = first_length curve accepted n (omega arith) in
    let l = line_length (cursor_number curve n) (cursor_sized curve accepted n (omega arith)) in
    rw (
      take-suc (curve_numbers curve) n (pos 0) (omega (arith, how_many curve)),
      number_of_place curve n (omega arith),
      lines_more (take n (curve_numbers curve)) (cursor_number curve n ∷ []),
      line_of_one (cursor_number curve n),
      length-append,
    )
    (omega arith)

pub lines_length : (curve : List ℕ) → curve_refusal curve ≡ 0 → length (signed_lines (curve_numbers curve)) ≤ 7 * (last_cursor curve + 1)
lines_length curve accepted =
    rw (take_all (last_cursor curve + 1) (curve_numbers curve) (omega (arith, how_many curve))) at
    (first_length curve accepted (last_cursor curve + 1) (omega arith))
