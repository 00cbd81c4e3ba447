-- A digit of eleven places guessed from the leading places of the rest and of the divisor, this one with one more: it is never too high,
-- and by one too low at most.
use mathlib.Core.Path.{◌≡◌}
use Prim.Native.Nat.{ℕ, ◌+◌, ◌*◌, ◌/◌, ◌%◌, ◌≤◌, ◌<◌}
use native.Mathlib.Nat.{mul_assoc, mul-add, mul-le-mul_left, lt_of_mul-lt-mul_right, div-mul-le_self, div-add-mod', mod-lt}
use native.Mathlib.Omega.{arith}
use Rattle.doubles_patterns.specs.Patterns.{leading}

abbrev pub guess : ℕ → ℕ → ℕ
guess rest guide = rest / 67108864 / guide

module _ (n rest g : ℕ) (guided : g ≡ n / 137438953472 + 1) (long : leading ≤ n) (small : rest < 2 * leading) where
  abbrev q : ℕ
  q = guess rest g

  pub guess_fits : q * n ≤ rest * 2048
  guess_fits =
      let a : q * n ≤ q * (g * 137438953472) = mul-le-mul_left q (omega arith) in
      let b : q * g * 137438953472 ≡ q * (g * 137438953472) = mul_assoc q g 137438953472 in
      let d : q * g ≤ rest / 67108864 = div-mul-le_self (rest / 67108864) g in
      omega arith

  pub guess_small : q < 4096
  guess_small =
      let a : q * leading ≤ q * n = mul-le-mul_left q long in
      let b = guess_fits in
      lt_of_mul-lt-mul_right leading (omega arith)

  pub guess_near : rest * 2048 < q * n + 2 * n
  guess_near =
      let a : q * (g * 137438953472) ≤ q * (n + 137438953472) = mul-le-mul_left q (omega arith) in
      let b : q * g * 137438953472 ≡ q * (g * 137438953472) = mul_assoc q g 137438953472 in
      let d : q * (n + 137438953472) ≡ q * n + q * 137438953472 = mul-add q n 137438953472 in
      let e : q * g + rest / 67108864 % g ≡ rest / 67108864 = div-add-mod' (rest / 67108864) g in
      let f : rest / 67108864 % g < g = mod-lt (rest / 67108864) (omega arith) in
      let s = guess_small in
      omega arith
