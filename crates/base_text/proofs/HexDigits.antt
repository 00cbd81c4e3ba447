-- The hex digits of a number by its last digit: how many there are, and how they are put.
use mathlib.Core.Path.{◌≡◌, refl}
use mathlib.Core.List.{List, [], ◌∷◌}
use Prim.Native.Nat.{ℕ, zero, suc, ◌-◌, ◌/◌, ◌%◌}
use native.Mathlib.Omega.{arith}
use lib.ListN.{length, length-append}
use Rattle.base_text.specs.Lines.{hex_digit, hex_digits}
use Rattle.base_text.specs.PutBytes.{Put}
use Rattle.base_text.proofs.Puts.{put_none, put_more}

pub length_hex_digits : (k n : ℕ) → length (hex_digits k n) ≡ k
unfolding hex_digits
length_hex_digits zero n = refl
length_hex_digits (suc k) n = simp (length-append, length_hex_digits k (n / 16)) (omega arith)

pub no_digits : (k n : ℕ) (text : List ℕ) (at : ℕ) → k ≡ 0 → Put (hex_digits k n) text at text at
unfolding hex_digits
no_digits k n text at e = rw e (put_none text at)

one_less : (n : ℕ) → suc n - 1 ≡ n
one_less n = omega arith

pub one_digit_more : (k n byte : ℕ) {before between after : List ℕ} {at middle end : ℕ} → (k ≡ 0 → ⊥) → byte ≡ hex_digit (n % 16)
    → Put (hex_digits (k - 1) (n / 16)) before at between middle → Put (byte ∷ []) between middle after end
    → Put (hex_digits k n) before at after end
unfolding hex_digits
one_digit_more zero n byte some e p q = absurd (some refl)
one_digit_more (suc k) n byte some e p q = put_more (rw (one_less k) at p) (rw e at q)
