-- Long division as a loop: after i digits the quotient so far times n, and what is left, are m moved up by eleven places for each.
use mathlib.Core.Path.{◌≡◌, sym, ap, ◌∙◌}
use mathlib.Core.Logic.{inl, inr}
use Prim.Native.Nat.{ℕ, ◌+◌, ◌-◌, ◌*◌, ◌/◌, ◌^◌, ◌≤◌, ◌<◌}
use native.Mathlib.Nat.{
  le_trans,
  le_of_eq,
  lt_of_le_of_lt,
  lt_of_lt_of_le,
  add-zero,
  zero-mul,
  mul-one,
  mul_assoc,
  mul_right_comm,
  add-mul,
  mul-le-mul_left,
  mul-lt-mul_of_pos_right,
  lt_of_mul-lt-mul_right,
}
use native.Mathlib.Omega.{arith}
use lib.Pow.{pow-add, pow_pos, pow_mono}
use Rattle.doubles_patterns.specs.Patterns.{leading}
use Rattle.doubles_rounding.specs.Standing.{StandsFor}
use Rattle.doubles_rounding.proofs.Placing.{odd_near}
use Rattle.doubles_quotient.proofs.Guesses.{guess, guess_fits, guess_small, guess_near}

pub record Turn (m n g i q rest : ℕ) : Type 0 where
  pub guided : g ≡ n / 137438953472 + 1
  pub whole : q * n + rest ≡ m * 2 ^ (11 * i)
  pub few : i ≤ 5
  pub small : rest < 2 * leading
  pub less : 0 < i → rest < n

pub turn_first : (m n g : ℕ) → g ≡ n / 137438953472 + 1 → m < 2 * leading → Turn m n g 0 0 m
turn_first m n g guided small = record {
  guided = guided;
  whole = let z : 0 * n ≡ 0 = zero-mul n in let o : m * 2 ^ (11 * 0) ≡ m = mul-one m in omega arith;
  few = omega arith;
  small = small;
  less = λ h. omega arith;
}

-- one digit more, whichever it is, if it leaves less than n
digit_more : (a b d n s : ℕ) → d * n + b ≡ s * 2048 → (a * 2048 + d) * n + b ≡ (a * n + s) * 2048
digit_more a b d n s e =
    let x : (a * 2048 + d) * n ≡ a * 2048 * n + d * n = add-mul (a * 2048) d n in
    let y : a * 2048 * n ≡ a * n * 2048 = mul_right_comm a 2048 n in
    omega arith

module _ (m n g i q rest : ℕ) (turn : Turn m n g i q rest) (on : i < 5) (long : leading ≤ n) (short : n < 2 * leading) where
  next : (d left : ℕ) → d * n + left ≡ rest * 2048 → left < n → Turn m n g (i + 1) (q * 2048 + d) left
  next d left e l = record {
    guided = turn.guided;
    whole =
        digit_more q left d n rest e ∙ ap (λ (x : ℕ). x * 2048) turn.whole ∙ mul_assoc m (2 ^ (11 * i)) 2048
        ∙ ap (λ (x : ℕ). m * x) (sym (pow-add 2 (11 * i) 11) ∙ ap (λ (x : ℕ). 2 ^ x) (eleven_more i));
    few = omega arith;
    small = omega arith;
    less = λ h. l;
  }
    where
      eleven_more : (i : ℕ) → 11 * i + 11 ≡ 11 * (i + 1)
      eleven_more i = omega arith

  pub fits : guess rest g * n ≤ rest * 2048
  fits = guess_fits n rest g turn.guided long turn.small

  pub few_places : guess rest g < 4096
  few_places = guess_small n rest g turn.guided long turn.small

  -- the digit is the guess, or one more
  pub turn_next : rest * 2048 - guess rest g * n < n → Turn m n g (i + 1) (q * 2048 + guess rest g) (rest * 2048 - guess rest g * n)
  turn_next l = let f = fits in next (guess rest g) (rest * 2048 - guess rest g * n) (omega arith) l

  pub turn_more : n ≤ rest * 2048 - guess rest g * n
      → Turn m n g (i + 1) (q * 2048 + (guess rest g + 1)) (rest * 2048 - guess rest g * n - n)
  turn_more l =
      let f = fits in
      let h = guess_near n rest g turn.guided long turn.small in
      let one = more (guess rest g) in
      next (guess rest g + 1) (rest * 2048 - guess rest g * n - n) (omega arith) (omega arith)
    where
      more : (x : ℕ) → (x + 1) * n ≡ x * n + n
      more x = let a : (x + 1) * n ≡ x * n + 1 * n = add-mul x 1 n in omega arith

-- the quotient so far has one place more than its digits
pub quotient_below : (m n g i q rest : ℕ) → Turn m n g i q rest → leading ≤ n → m < 2 * leading → (k : ℕ) → 11 * i ≤ k → q < 2 * 2 ^ k
quotient_below m n g i q rest turn long top k deep =
    lt_of_mul-lt-mul_right leading
    (lt_of_le_of_lt (le_trans (mul-le-mul_left q long) (upper (q * n) rest (m * 2 ^ (11 * i)) turn.whole))
    (lt_of_le_of_lt (mul-le-mul_left m (pow_mono {i = 11 * i} {j = k} deep))
    (lt_of_lt_of_le (mul-lt-mul_of_pos_right top (pow_pos k)) (le_of_eq (mul_right_comm 2 leading (2 ^ k))))))
  where
    upper : (x y z : ℕ) → x + y ≡ z → x ≤ z
    upper x y z e = omega arith

-- after five digits: what is left is nothing, or the odd number stands for it
module _ (m n g i q rest : ℕ) (turn : Turn m n g i q rest) (last : 5 ≤ i) where
  ended : q * n + rest ≡ m * 36028797018963968
  ended =
      let few = turn.few in
      let five : 11 * i ≡ 55 = omega arith in
      turn.whole ∙ ap (λ (x : ℕ). m * 2 ^ x) five

  pub quotient_exact : rest ≡ 0 → StandsFor q (m * 36028797018963968) n
  quotient_exact none = record { stands = inl (sym (add-zero (q * n)) ∙ ap (λ (x : ℕ). q * n + x) (sym none) ∙ ended) }

  pub quotient_lost : (rest ≡ 0 → ⊥) → StandsFor (q / 2 * 2 + 1) (m * 36028797018963968) n
  quotient_lost some =
      let x = between (q * n) rest (m * 36028797018963968) ended (turn.less (omega arith)) some in
      record { stands = inr (odd_near q (m * 36028797018963968) n x.0 x.1) }
    where
      between : (x r t : ℕ) → x + r ≡ t → r < n → (r ≡ 0 → ⊥) → (x < t) × (t < x + n)
      between x r t e l z = (omega arith, omega arith)
