-- The search by halves, of any knots: one halving after the other, 8 of them end it among 256 knots, and the cell that is found is one of
-- the axis.
use mathlib.Core.Path.{◌≡◌, refl, sym, ◌∙◌}
use mathlib.Core.List.{List}
use mathlib.Core.Bool.{Bool, true, false, cond}
use Prim.Native.Nat.{ℕ, zero, suc, ◌+◌, ◌-◌, ◌/◌, ◌^◌, ◌<◌, ◌≤◌}
use native.Mathlib.Nat.{pow-suc}
use native.Mathlib.Omega.{arith}
use lib.Dec.{ltb}
use lib.ListN.{length}
use borrow.Author.Tests.{ltb-true, ltb-false, lt-ltb, le-ltb}
use lib.Ieee.{Float, le}
use Rattle.rules.specs.Numbers.{at}
use Rattle.rules.specs.Sizes.{most_on_an_axis}
use Rattle.rules.specs.Search.{middle, halving, most_halvings, lower_index}

-- half of what is below 2 to the d + 1
pub half : (d width : ℕ) → width < 2 ^ suc d → width / 2 < 2 ^ d
half d width h = let e = pow-suc 2 d in omega arith

module _ (knots : List Float) (point : Float) where
  pub halving_ends : (d low high : ℕ) → high ≤ low → halving knots point d low high ≡ low
  unfolding halving
  halving_ends zero low high h = refl
  halving_ends (suc d) low high h = simp (le-ltb low high h)

  module _ (d low high : ℕ) (l : low < high) where
    pub halving_down : le point (at knots (middle low high)) ≡ true
        → halving knots point (suc d) low high ≡ halving knots point d low (middle low high)
    unfolding halving
    halving_down e = simp (lt-ltb low high l, e)

    pub halving_up : le point (at knots (middle low high)) ≡ false
        → halving knots point (suc d) low high ≡ halving knots point d (middle low high + 1) high
    unfolding halving
    halving_up e = simp (lt-ltb low high l, e)

  -- the search stays between low and high
  pub halving_under : (d low high : ℕ) → low ≤ high → halving knots point d low high ≤ high
  unfolding halving
  halving_under zero low high h = h
  halving_under (suc d) low high h =
      go (ltb low high) refl (le point (at knots (middle low high))) (halving_under d low (middle low high) (omega arith))
      (λ l. halving_under d (middle low high + 1) high (omega arith))
    where
      go : (t : Bool) → ltb low high ≡ t → (u : Bool) → halving knots point d low (middle low high) ≤ middle low high
          → (low < high → halving knots point d (middle low high + 1) high ≤ high)
          → cond t (cond u (halving knots point d low (middle low high)) (halving knots point d (middle low high + 1) high)) low ≤ high
      go true p true down up = omega arith
      go true p false down up = up (ltb-true low high p)
      go false p u down up = h

  -- more halvings than are enough find the same
  pub enough : (d e low high : ℕ) → high - low < 2 ^ d → high - low < 2 ^ e
      → halving knots point d low high ≡ halving knots point e low high
  enough zero e low high h g =
      let z : 2 ^ 0 ≡ 1 = refl in halving_ends 0 low high (omega arith) ∙ sym (halving_ends e low high (omega arith))
  enough (suc d) zero low high h g =
      let z : 2 ^ 0 ≡ 1 = refl in halving_ends (suc d) low high (omega arith) ∙ sym (halving_ends 0 low high (omega arith))
  enough (suc d) (suc e) low high h g =
      let k = half d (high - low) h in
      let l = half e (high - low) g in
      go (ltb low high) refl (le point (at knots (middle low high))) refl
      (enough d e low (middle low high) (omega arith) (omega arith))
      (enough d e (middle low high + 1) high (omega arith) (omega arith))
    where
      go : (b : Bool) → ltb low high ≡ b → (c : Bool) → le point (at knots (middle low high)) ≡ c
          → halving knots point d low (middle low high) ≡ halving knots point e low (middle low high)
          → halving knots point d (middle low high + 1) high ≡ halving knots point e (middle low high + 1) high
          → halving knots point (suc d) low high ≡ halving knots point (suc e) low high
      go false p c q down up =
          halving_ends (suc d) low high (ltb-false low high p) ∙ sym (halving_ends (suc e) low high (ltb-false low high p))
      go true p true q down up =
          let l : low < high = ltb-true low high p in halving_down d low high l q ∙ down ∙ sym (halving_down e low high l q)
      go true p false q down up =
          let l : low < high = ltb-true low high p in halving_up d low high l q ∙ up ∙ sym (halving_up e low high l q)

  -- 256 knots take no more than 8 halvings, whatever they are
  pub eight_are_enough : (d low high : ℕ) → high - low < most_on_an_axis → high - low < 2 ^ d
      → halving knots point d low high ≡ halving knots point most_halvings low high
  eight_are_enough d low high few g = let e : 2 ^ most_halvings ≡ 256 = refl in enough d most_halvings low high g (omega arith)

  -- the cell that is found has its upper knot among the knots, on any knots
  pub quick_cell_inside : lower_index knots point ≤ length knots - 2
  unfolding lower_index
  quick_cell_inside = omega arith
