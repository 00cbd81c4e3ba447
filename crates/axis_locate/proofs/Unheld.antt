-- Only a NaN, as the point or the last knot, takes the Rust's own index past the last cell: of any other knots, in whatever order, holding
-- it changes nothing.
use mathlib.Core.Path.{◌≡◌, refl, sym, ◌∙◌, subst}
use mathlib.Core.List.{List}
use mathlib.Core.Bool.{Bool, true, false, cond, ◌&&◌}
use Prim.Native.Nat.{ℕ, ◌-◌, min, ◌<◌, ◌≤◌}
use native.Mathlib.Omega.{arith}
use lib.Dec.{T, ltb}
use lib.ListN.{length}
use borrow.Author.Tests.{ltb-true, ltb-false, leb-false, le-leb}
use lib.Ieee.{Float, nan, binary64, fits, lt, le}
use Rattle.rules.specs.Numbers.{at}
use Rattle.base_floats.specs.Place.{place, AllFit}
use Rattle.base_floats.proofs.Places.{le_places}
use Rattle.rules.specs.Search.{halving, most_halvings, one_back, rust_index, lower_index}
use Rattle.rules.proofs.Halving.{halving_under}
use Rattle.axis_locate.proofs.Answered.{back_from_above}

module _ (knots : List Float) (point : Float) where
  one_back_under : (low : ℕ) → one_back knots point low ≤ low
  unfolding one_back
  one_back_under low = go (ltb 0 low && le point (at knots low))
    where
      go : (t : Bool) → cond t (low - 1) low ≤ low
      go true = omega arith
      go false = omega arith

  module _ (all : AllFit knots) (fit : T (fits binary64 point)) (some : 2 ≤ length knots) (point_number : point ≡ nan → ⊥)
      (last_number : at knots (length knots - 1) ≡ nan → ⊥) where
    last_above : le (at knots (length knots - 1)) point ≡ false → le point (at knots (length knots - 1)) ≡ true
    last_above e =
        let k = length knots - 1 in
        let h : place point < place (at knots k) =
        leb-false (place (at knots k)) (place point)
        (sym (le_places binary64 (at knots k) point (all k) fit last_number point_number) ∙ e) in
        le_places binary64 point (at knots k) fit (all k) point_number last_number ∙ le-leb (place point) (place (at knots k)) (omega arith)

    back_inside : le (at knots (length knots - 1)) point ≡ false → (low : ℕ) → low ≤ length knots - 1
        → one_back knots point low ≤ length knots - 2
    back_inside e low h = go (ltb low (length knots - 1)) refl
      where
        go : (t : Bool) → ltb low (length knots - 1) ≡ t → one_back knots point low ≤ length knots - 2
        go true p = let l = ltb-true low (length knots - 1) p in let u = one_back_under low in omega arith
        go false p =
            let l = ltb-false low (length knots - 1) p in
            let b : low - 1 ≡ one_back knots point low =
            back_from_above knots point low (omega arith)
            (subst (λ (k : ℕ). le point (at knots k) ≡ true) (let z : length knots - 1 ≡ low = omega arith in z) (last_above e)) in
            omega arith

    pub lower_index_is_rust : lower_index knots point ≡ rust_index knots point
    unfolding lower_index rust_index
    lower_index_is_rust = go (lt point (at knots 0)) (le (at knots (length knots - 1)) point) refl
      where
        found : ℕ
        found = halving knots point most_halvings 0 (length knots - 1)

        go : (t u : Bool) → le (at knots (length knots - 1)) point ≡ u
            → min (cond t 0 (cond u (length knots - 2) (one_back knots point found))) (length knots - 2)
            ≡ cond t 0 (cond u (length knots - 2) (one_back knots point found))
        go true u e = omega arith
        go false true e = omega arith
        go false false e =
            let b = back_inside e found (halving_under knots point most_halvings 0 (length knots - 1) (omega arith)) in omega arith
