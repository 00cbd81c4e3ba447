-- The decimal digits of a number by its last digit, and how many there are.
use mathlib.Core.Path.{◌≡◌, refl, ap, ◌∙◌}
use mathlib.Core.Bool.{Bool, true, false}
use mathlib.Core.List.{List, [], ◌∷◌, ◌++◌}
use Prim.Native.Nat.{ℕ, zero, suc, ◌+◌, ◌*◌, ◌/◌, ◌%◌, ◌^◌, ◌<◌, ◌≤◌}
use native.Mathlib.Nat.{pow-suc}
use native.Mathlib.Omega.{arith}
use borrow.Author.Tests.{lt-ltb, le-ltb, ltb-false}
use lib.Dec.{ltb}
use lib.ListN.{length, length-append}
use Rattle.base_text.specs.Lines.{decimal_digit, line_end, decimal_digits, decimal, word_line}
use Rattle.base_text.specs.PutBytes.{Put}
use Rattle.base_text.proofs.Puts.{put_more}

pub fewer_places : (k n : ℕ) → n < 10 ^ suc k → n / 10 < 10 ^ k
fewer_places k n h = let f : n < 10 ^ k * 10 = rw (pow-suc 10 k) at h in omega arith

-- places that a number does not need change nothing
more_places : (k m n : ℕ) (short : Bool) → ltb n 10 ≡ short → n < 10 ^ suc k → k ≤ m → decimal_digits (suc k) n ≡ decimal_digits (suc m) n
unfolding decimal_digits
more_places zero m n true e h l = rw e
more_places (suc k) m n true e h l = rw e
more_places zero m n false e h l = let t = ltb-false n 10 e in let z : ⊥ = omega arith in absurd z
more_places (suc k) zero n false e h l = let z : ⊥ = omega arith in absurd z
more_places (suc k) (suc m) n false e h l =
    rw (e, more_places k m (n / 10) (ltb (n / 10) 10) refl (fewer_places (suc k) n h) (omega arith))

pub decimal_short : (n : ℕ) → n < 10 → decimal n ≡ decimal_digit n ∷ []
unfolding decimal decimal_digits
decimal_short n h = rw (lt-ltb n 10 h)

pub decimal_long : (n : ℕ) → 10 ≤ n → n < 18446744073709551616 → decimal n ≡ decimal (n / 10) ++ (decimal_digit (n % 10) ∷ [])
unfolding decimal decimal_digits
decimal_long n long h =
    let e : decimal_digits 19 (n / 10) ≡ decimal_digits 20 (n / 10) =
    more_places 18 19 (n / 10) (ltb (n / 10) 10) refl (omega arith) (omega arith) in
    rw (le-ltb n 10 long, e)

pub one_digit_more : (n : ℕ) → 10 ≤ n → n < 18446744073709551616 → length (decimal n) ≡ length (decimal (n / 10)) + 1
one_digit_more n long h =
    ap (λ (l : List ℕ). length l) (decimal_long n long h) ∙ length-append (decimal (n / 10)) (decimal_digit (n % 10) ∷ [])

most_places : (k n : ℕ) (short : Bool) → ltb n 10 ≡ short → length (decimal_digits (suc k) n) ≤ suc k
unfolding decimal_digits
most_places zero n true e = rw e (omega arith)
most_places (suc k) n true e = rw e (omega arith)
most_places zero n false e = rw e (omega arith)
most_places (suc k) n false e =
    let l = most_places k (n / 10) (ltb (n / 10) 10) refl in rw (e, length-append) (omega arith)

-- no number has more than 20 digits
pub decimal_most : (n : ℕ) → length (decimal n) ≤ 20
unfolding decimal
decimal_most n = most_places 19 n (ltb n 10) refl

-- a number below 10 to the power of so many places has no more digits than these
pub decimal_length : (k n : ℕ) → n < 10 ^ suc k → k ≤ 19 → length (decimal n) ≤ suc k
unfolding decimal
decimal_length k n h l = rw (← more_places k 19 n (ltb n 10) refl h l) (most_places k n (ltb n 10) refl)

-- the line of a word and a number
pub length_word_line : (word : List ℕ) (n : ℕ) → length (word_line word n) ≡ length word + (length (decimal n) + 1)
unfolding word_line
length_word_line word n = length-append word (decimal n ++ line_end) ∙ ap (λ (k : ℕ). length word + k) (length-append (decimal n) line_end)

pub line_put : (word : List ℕ) (n : ℕ) {before first second after : List ℕ} {at a b end : ℕ}
    → Put word before at first a → Put (decimal n) first a second b → Put line_end second b after end
    → Put (word_line word n) before at after end
unfolding word_line
line_put word n p q r = put_more p (put_more q r)
