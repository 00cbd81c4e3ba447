-- The sign of a pattern, the signs of two, the sign of their product, and the pattern of the opposite number.
use mathlib.Core.Path.{◌≡◌, refl, sym, ap, ◌∙◌}
use mathlib.Core.Bool.{Bool, true, false, not, cond, true≢false}
use Prim.Native.Nat.{ℕ, zero, suc, ◌+◌, ◌-◌, ◌/◌, ◌%◌, ◌≤◌, ◌<◌}
use native.Mathlib.Omega.{arith}
use lib.Dec.{eqb}
use borrow.Author.Tests.{le-leb, lt-leb, leb-true, leb-false}
use lib.Ieee.{Float, nan, inf, Format, binary64, prec, low, hid, ones, odd, neg, of_fields, of_bits, unlike}
use Rattle.doubles_patterns.specs.Patterns.{word, top_place, leading, magnitude, negative, sign_weight}
use Rattle.doubles_patterns.proofs.Values.{of_bits_is}

pub sign_is : (a : ℕ) → a < word → a - magnitude a ≡ sign_weight (negative a)
sign_is a small = go (negative a) refl
  where
    go : (s : Bool) → negative a ≡ s → a - magnitude a ≡ sign_weight s
    go true e = let g = leb-true top_place a e in omega arith
    go false e = let g = leb-false top_place a e in omega arith

pub signed : (a q n : ℕ) → a < word → q ≡ n → a - magnitude a + q ≡ sign_weight (negative a) + n
signed a q n small h = ap (λ (x : ℕ). x + q) (sign_is a small) ∙ ap (λ (x : ℕ). sign_weight (negative a) + x) h

module _ (a b : ℕ) (sa : a < word) (sb : b < word) where
  pub signs_alike : a / top_place ≡ b / top_place → negative a ≡ negative b
  signs_alike h = go (negative a) refl
    where
      go : (s : Bool) → negative a ≡ s → s ≡ negative b
      go true e = let g = leb-true top_place a e in sym (le-leb top_place b (omega arith))
      go false e = let g = leb-false top_place a e in sym (lt-leb top_place b (omega arith))

  pub signs_unlike : (a / top_place ≡ b / top_place → ⊥) → negative a ≡ negative b → ⊥
  signs_unlike h e = go (negative a) refl
    where
      go : (s : Bool) → negative a ≡ s → ⊥
      go true g = let x = leb-true top_place a g in let y = leb-true top_place b (sym e ∙ g) in h (omega arith)
      go false g = let x = leb-false top_place a g in let y = leb-false top_place b (sym e ∙ g) in h (omega arith)

-- ---- the opposite number
odd_opposite : (d : ℕ) (s : Bool) (q k l : ℕ) → odd d (not s) q k l ≡ neg (odd d s q k l)
unfolding odd neg
odd_opposite d s zero k l = refl
odd_opposite d s (suc q) k l = refl

cond_opposite : (b c s : Bool) (x y : Float) → x ≡ neg y → cond b (cond c (inf (not s)) nan) x ≡ neg (cond b (cond c (inf s) nan) y)
unfolding neg
cond_opposite true true s x y h = refl
cond_opposite true false s x y h = refl
cond_opposite false c s x y h = h

fields_opposite : (f : Format) (s : Bool) (x t : ℕ) → of_fields f (not s) x t ≡ neg (of_fields f s x t)
unfolding of_fields
fields_opposite f s zero t = odd_opposite (prec f) s t 0 (low f)
fields_opposite f s (suc x) t =
    cond_opposite (eqb (suc x) (ones f)) (eqb t 0) s (odd (prec f) (not s) (hid f + t) x (low f)) (odd (prec f) s (hid f + t) x (low f))
    (odd_opposite (prec f) s (hid f + t) x (low f))

opposite_at : (a b : ℕ) → negative b ≡ not (negative a) → magnitude b ≡ magnitude a → b % leading ≡ a % leading
    → of_bits binary64 b ≡ neg (of_bits binary64 a)
opposite_at a b s p t =
    of_bits_is binary64 b
    ∙ ap (λ (z : Bool). of_fields binary64 z (magnitude b / leading) (b % leading)) s
    ∙ ap (λ (z : ℕ). of_fields binary64 (not (negative a)) (z / leading) (b % leading)) p
    ∙ ap (of_fields binary64 (not (negative a)) (magnitude a / leading)) t
    ∙ fields_opposite binary64 (negative a) (magnitude a / leading) (a % leading)
    ∙ ap neg (sym (of_bits_is binary64 a))

pub opposite_up : (a : ℕ) → a < top_place → of_bits binary64 (a + top_place) ≡ neg (of_bits binary64 a)
opposite_up a h =
    opposite_at a (a + top_place) (le-leb top_place (a + top_place) (omega arith) ∙ ap not (sym (lt-leb top_place a h))) (omega arith)
    (omega arith)

pub opposite_down : (a : ℕ) → top_place ≤ a → a < word → of_bits binary64 (a - top_place) ≡ neg (of_bits binary64 a)
opposite_down a h g =
    opposite_at a (a - top_place) (lt-leb top_place (a - top_place) (omega arith) ∙ ap not (sym (le-leb top_place a h))) (omega arith)
    (omega arith)

-- ---- the sign of a product or a quotient
pub sign_alike : (a b : ℕ) → a < word → b < word → a / top_place ≡ b / top_place
    → sign_weight (unlike (negative a) (negative b)) ≡ 0
sign_alike a b sa sb h = go (negative a) (negative b) (signs_alike a b sa sb h)
  where
    go : (s t : Bool) → s ≡ t → sign_weight (unlike s t) ≡ 0
    go true true e = refl
    go false false e = refl
    go true false e = absurd (true≢false e)
    go false true e = absurd (true≢false (sym e))

pub sign_unlike : (a b : ℕ) → a < word → b < word → (a / top_place ≡ b / top_place → ⊥)
    → sign_weight (unlike (negative a) (negative b)) ≡ top_place
sign_unlike a b sa sb h = go (negative a) (negative b) (signs_unlike a b sa sb h)
  where
    go : (s t : Bool) → (s ≡ t → ⊥) → sign_weight (unlike s t) ≡ top_place
    go true true e = absurd (e refl)
    go false false e = absurd (e refl)
    go true false e = refl
    go false true e = refl
