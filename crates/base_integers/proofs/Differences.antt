-- A whole number as a difference of two naturals: each law of whole numbers becomes one of naturals.
use mathlib.Core.Path.{◌≡◌, refl, sym, ap, ◌∙◌}
use Prim.Native.Nat.{ℕ, ◌+◌, ◌-◌, ◌≤◌}
use native.Mathlib.Nat.{add_comm}
use native.Mathlib.Omega.{arith}
use lib.IntN.{ℤ, pos, neg_ℤ, ◌+ℤ◌, ◌-ℤ◌, +ℤ_assoc, +ℤ_comm, +ℤ_invr, +ℤ_idr, neg_ℤ-+ℤ, neg_ℤ-neg_ℤ}

-- a − b
unfoldable pub less : ℕ → ℕ → ℤ
less a b = pos a -ℤ pos b

pub less_is : (a b : ℕ) → pos a -ℤ pos b ≡ less a b
unfolding less
less_is a b = refl

pub less_pos : (a : ℕ) → pos a ≡ less a 0
unfolding less
less_pos a = sym (+ℤ_idr (pos a))

swap : (a b c d : ℤ) → (a +ℤ b) +ℤ (c +ℤ d) ≡ (a +ℤ c) +ℤ (b +ℤ d)
swap a b c d = rw (+ℤ_assoc a b (c +ℤ d), ← +ℤ_assoc b c d, +ℤ_comm b c, +ℤ_assoc c b d, ← +ℤ_assoc a c (b +ℤ d))

pub less_add : (a b c d : ℕ) → less a b +ℤ less c d ≡ less (a + c) (b + d)
unfolding less
less_add a b c d = swap (pos a) (neg_ℤ (pos b)) (pos c) (neg_ℤ (pos d)) ∙ ap (λ (z : ℤ). pos (a + c) +ℤ z) (sym (neg_ℤ-+ℤ (pos b) (pos d)))

pub less_neg : (a b : ℕ) → neg_ℤ (less a b) ≡ less b a
unfolding less
less_neg a b = rw (neg_ℤ-+ℤ (pos a) (neg_ℤ (pos b)), neg_ℤ-neg_ℤ (pos b), +ℤ_comm (neg_ℤ (pos a)) (pos b))

none : (d : ℕ) → less d d ≡ pos 0
unfolding less
none d = +ℤ_invr (pos d)

-- two differences are equal where the crosswise sums are
pub less_eq : (a b c d : ℕ) → a + d ≡ c + b → less a b ≡ less c d
less_eq a b c d e =
    sym (+ℤ_idr (less a b))
    ∙ ap (λ (z : ℤ). less a b +ℤ z) (sym (none d))
    ∙ less_add a b d d
    ∙ rw (e, add_comm b d) (sym (less_add c d b b) ∙ ap (λ (z : ℤ). less c d +ℤ z) (none b) ∙ +ℤ_idr (less c d))

-- which side is the greater
pub less_above : (a b : ℕ) → b ≤ a → less a b ≡ pos (a - b)
less_above a b h = less_eq a b (a - b) 0 (omega arith) ∙ sym (less_pos (a - b))

pub less_below : (a b : ℕ) → a ≤ b → less a b ≡ neg_ℤ (pos (b - a))
less_below a b h = sym (less_neg b a) ∙ ap neg_ℤ (less_above b a h)
