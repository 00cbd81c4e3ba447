-- The decimal digits of a number, read back, give the number; the first of them is no zero, unless the number is.
use mathlib.Core.Path.{◌≡◌, refl}
use mathlib.Core.Bool.{Bool, true, false}
use mathlib.Core.List.{List, [], ◌∷◌, ◌++◌}
use Prim.Native.Nat.{ℕ, zero, suc, ◌+◌, ◌-◌, ◌*◌, ◌/◌, ◌%◌, ◌^◌, ◌<◌, ◌≤◌}
use native.Mathlib.Omega.{arith}
use borrow.Author.Tests.{ltb-false}
use lib.Dec.{ltb}
use lib.ListN.{get_or}
use Rattle.base_text.specs.Lines.{decimal_digit, decimal_digits, decimal}
use Rattle.base_text.proofs.Decimals.{fewer_places}

-- what digits say, after digits that said a number
pub read_after : ℕ → List ℕ → ℕ
read_after said [] = said
read_after said (digit ∷ rest) = read_after (said * 10 + (digit - 48)) rest

read_one_more : (said : ℕ) (digits : List ℕ) (digit : ℕ)
    → read_after said (digits ++ (digit ∷ [])) ≡ read_after said digits * 10 + (digit - 48)
unfolding read_after
read_one_more said [] digit = refl
read_one_more said (first ∷ rest) digit = read_one_more (said * 10 + (first - 48)) rest digit

first_of_more : (digits more : List ℕ) → 48 < get_or digits 0 0 → 48 < get_or (digits ++ more) 0 0
first_of_more [] more h = let z : ⊥ = omega arith in absurd z
first_of_more (first ∷ rest) more h = h

read_places : (k n : ℕ) (short : Bool) → ltb n 10 ≡ short → n < 10 ^ suc k → read_after 0 (decimal_digits (suc k) n) ≡ n
unfolding decimal_digits read_after
read_places zero n true e h = rw e (omega arith)
read_places (suc k) n true e h = rw e (omega arith)
read_places zero n false e h = let l = ltb-false n 10 e in let z : ⊥ = omega arith in absurd z
read_places (suc k) n false e h =
    rw (e, read_one_more, read_places k (n / 10) (ltb (n / 10) 10) refl (fewer_places (suc k) n h)) (omega arith)

first_place : (k n : ℕ) (short : Bool) → ltb n 10 ≡ short → 0 < n → n < 10 ^ suc k → 48 < get_or (decimal_digits (suc k) n) 0 0
unfolding decimal_digits
first_place zero n true e some h = rw e (omega arith)
first_place (suc k) n true e some h = rw e (omega arith)
first_place zero n false e some h = let l = ltb-false n 10 e in let z : ⊥ = omega arith in absurd z
first_place (suc k) n false e some h =
    let l : 10 ≤ n = ltb-false n 10 e in
    rw e
    (first_of_more (decimal_digits (suc k) (n / 10)) (decimal_digit (n % 10) ∷ [])
    (first_place k (n / 10) (ltb (n / 10) 10) refl (omega arith) (fewer_places (suc k) n h)))

pub read_back : (n : ℕ) → n < 18446744073709551616 → read_after 0 (decimal n) ≡ n
unfolding decimal
read_back n h = read_places 19 n (ltb n 10) refl (omega arith)

pub no_leading_zero : (n : ℕ) → 0 < n → n < 18446744073709551616 → 48 < get_or (decimal n) 0 0
unfolding decimal
no_leading_zero n some h = first_place 19 n (ltb n 10) refl some (omega arith)
