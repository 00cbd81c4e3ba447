-- A turn of the loop is one halving, and for at most 256 knots 8 of them end it.
use mathlib.Core.Path.{◌≡◌, refl, sym, subst, ◌∙◌}
use mathlib.Core.List.{List}
use mathlib.Core.Bool.{true, false}
use Prim.Native.Nat.{ℕ, zero, suc, ◌+◌, ◌-◌, ◌/◌, ◌^◌, ◌<◌, ◌≤◌, min}
use native.Mathlib.Nat.{lt_of_lt_of_le, lt_of_not-le}
use native.Mathlib.Decide.{dec_le}
use native.Mathlib.Omega.{arith}
use lib.Pow.{pow_mono}
use lib.Ieee.{Float, le, size}
use lib.Ieee.Digits.{size-lt, size-le}
use Rattle.rules.specs.Numbers.{at}
use Rattle.rules.specs.Search.{middle, halving, most_halvings}
use Rattle.rules.proofs.Halving.{half, halving_ends, halving_down, halving_up, enough}

-- the binary digits of the width between low and high: each halving takes at least one
pub fewer_digits : (width next : ℕ) → 0 < width → next ≤ width / 2 → size next < size width
fewer_digits width next h g = go (size width) (size-lt width)
  where
    go : (d : ℕ) → width < 2 ^ d → size next < d
    go zero w = let e : 2 ^ 0 ≡ 1 = refl in absurd (let z : ⊥ = omega arith in z)
    go (suc d) w = let k = half d width w in let l = size-le next d (omega arith) in omega arith

-- and half of a width has one less, so that the digits of the width and the halvings together stay 8 or fewer
pub counted : (width halvings : ℕ) → 0 < width → size width + halvings ≤ 8 → size (width / 2) + (halvings + 1) ≤ 8
counted width halvings h few = let f = fewer_digits width (width / 2) h (omega arith) in omega arith

pub counted_first : (last : ℕ) → last < 256 → size last + 0 ≤ 8
counted_first last few = let n = size-le last 8 (let e : 2 ^ 8 ≡ 256 = refl in omega arith) in omega arith

-- after 8 halvings no width is left
pub none_left : (width halvings : ℕ) → size width + halvings ≤ 8 → halvings ≡ 8 → width ≡ 0
none_left width halvings few all = go (size width) (size-lt width) (omega arith)
  where
    go : (d : ℕ) → width < 2 ^ d → d ≤ 0 → width ≡ 0
    go zero w z = let e : 2 ^ 0 ≡ 1 = refl in omega arith
    go (suc d) w z = absurd (let b : ⊥ = omega arith in b)

module _ (knots : List Float) (point : Float) where
  -- the search goes on between low and high, and at most 8 halvings are left
  pub record Turn (last low high : ℕ) : Type 0 where
    pub order : low ≤ high
    pub most : high ≤ last
    pub left : size (high - low) ≤ most_halvings
    pub same : halving knots point most_halvings 0 last ≡ halving knots point most_halvings low high

  turn_first : (last : ℕ) → last < 256 → Turn last 0 last
  turn_first last few = record {
    order = omega arith;
    most = omega arith;
    left = size-le (last - 0) most_halvings (let e : 2 ^ 8 ≡ 256 = refl in omega arith);
    same = refl;
  }

  module _ (last low high : ℕ) (t : Turn last low high) (l : low < high) where
    -- after one of 8 halvings another 8 find what 7 do
    wide_enough : high - low < 2 ^ suc 7
    wide_enough = lt_of_lt_of_le (size-lt (high - low)) (pow_mono t.left)

    again : (low' high' : ℕ) → high' - low' ≤ (high - low) / 2
        → halving knots point 7 low' high' ≡ halving knots point most_halvings low' high'
    again low' high' h =
        let w = wide_enough in let n = half 7 (high - low) w in enough knots point 7 most_halvings low' high' (omega arith) (omega arith)

    fewer_left : (next : ℕ) → next ≤ (high - low) / 2 → size next ≤ most_halvings
    fewer_left next h = let d = fewer_digits (high - low) next (omega arith) h in let f = t.left in omega arith

    down : le point (at knots (middle low high)) ≡ true → Turn last low (middle low high)
    down e = record {
      order = omega arith;
      most = (let m = t.most in omega arith);
      left = fewer_left (middle low high - low) (omega arith);
      same = t.same ∙ halving_down knots point 7 low high l e ∙ again low (middle low high) (omega arith);
    }

    up : le point (at knots (middle low high)) ≡ false → Turn last (middle low high + 1) high
    up e = record {
      order = omega arith;
      most = t.most;
      left = fewer_left (high - (middle low high + 1)) (omega arith);
      same = t.same ∙ halving_up knots point 7 low high l e ∙ again (middle low high + 1) high (omega arith);
    }

  moved : (last : ℕ) → {low high low' high' : ℕ} → low ≡ low' → high ≡ high' → Turn last low high → Turn last low' high'
  moved last {high = high} e f t = subst (Turn last _) f (subst (λ (l : ℕ). Turn last l high) e t)

  -- What the loop keeps. Its low goes one past high at most, where a halving looked at the knot at high once more; the search stands
  -- between the lower of the two and high. The width bounds how far they are apart, and goes by the number of knots alone.
  pub record Kept (last low high width halvings : ℕ) : Type 0 where
    pub turn : Turn last (min low high) high
    pub past : low ≤ high + 1
    pub within : high - low ≤ width
    pub count : size width + halvings ≤ 8

  pub kept_first : (last : ℕ) → last < 256 → Kept last 0 last last 0
  kept_first last few = record {
    turn = moved last (omega arith) refl (turn_first last few);
    past = omega arith;
    within = omega arith;
    count = counted_first last few;
  }

  -- once no width is left, low and high have met
  pub kept_last : (last low high width halvings : ℕ) → Kept last low high width halvings → width ≡ 0
      → high ≡ halving knots point most_halvings 0 last
  kept_last last low high width halvings k z =
      let w = k.within in
      let t : Turn last high high = moved last (omega arith) refl k.turn in
      sym (t.same ∙ halving_ends knots point most_halvings high high (omega arith))

  module _ (last low high width halvings : ℕ) (k : Kept last low high width halvings) (left : 0 < width) (mid : ℕ)
      (is : mid ≡ (low + high) / 2) where
    turn_down : le point (at knots mid) ≡ true → Turn last (min low mid) mid
    turn_down e = elim (dec_le high low) [
      | yes g ↦ let p = k.past in moved last (omega arith) (omega arith) k.turn
      | no f ↦
          let l : low < high = lt_of_not-le f in
          let m : mid ≡ middle low high = omega arith in
          moved last (omega arith) (sym m) (down last low high (moved last (omega arith) refl k.turn) l (rw m at e))
    ]

    turn_up : le point (at knots mid) ≡ false → Turn last (min (mid + 1) high) high
    turn_up e = elim (dec_le high low) [
      | yes g ↦ let p = k.past in moved last (omega arith) refl k.turn
      | no f ↦
          let l : low < high = lt_of_not-le f in
          let m : mid ≡ middle low high = omega arith in
          moved last (omega arith) refl (up last low high (moved last (omega arith) refl k.turn) l (rw m at e))
    ]

    pub kept_down : le point (at knots mid) ≡ true → Kept last low mid (width / 2) (halvings + 1)
    kept_down e = record {
      turn = turn_down e;
      past = (let p = k.past in omega arith);
      within = (let w = k.within in omega arith);
      count = counted width halvings left k.count;
    }

    pub kept_up : le point (at knots mid) ≡ false → Kept last (mid + 1) high (width / 2) (halvings + 1)
    kept_up e = record {
      turn = turn_up e;
      past = (let p = k.past in omega arith);
      within = (let w = k.within in omega arith);
      count = counted width halvings left k.count;
    }
