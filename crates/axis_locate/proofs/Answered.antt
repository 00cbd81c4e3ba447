-- What each branch of the code answers is the definition's answer, and the definition's answer is the one promised.
use mathlib.Core.Path.{◌≡◌, ap, ◌∙◌}
use mathlib.Core.List.{List}
use mathlib.Core.Bool.{true, false}
use Prim.Native.Nat.{ℕ, ◌-◌, ◌<◌, ◌≤◌}
use native.Mathlib.Omega.{arith}
use lib.Dec.{T}
use lib.ListN.{length}
use borrow.Author.Tests.{lt-ltb}
use lib.Ieee.{Float, binary64, fits, lt, le}
use Rattle.rules.specs.Numbers.{at}
use Rattle.base_floats.specs.Place.{AllFit}
use Rattle.rules.specs.Search.{halving, most_halvings, one_back, rust_index, held, lower_index}
use Rattle.axis_locate.specs.CellFound.{Located}
use Rattle.axis_locate.proofs.Among.{lower_index_is_locate}

module _ (knots : List Float) (point : Float) where
  -- one step back
  pub back_from_above : (low : ℕ) → 0 < low → le point (at knots low) ≡ true → low - 1 ≡ one_back knots point low
  unfolding one_back
  back_from_above low h e = simp (lt-ltb 0 low h, e)

  -- the cell
  pub below_all : lt point (at knots 0) ≡ true → 0 ≡ lower_index knots point
  unfolding lower_index rust_index
  below_all e = simp e (omega arith)

  module _ (not_below : lt point (at knots 0) ≡ false) where
    pub above_all : le (at knots (length knots - 1)) point ≡ true → length knots - 2 ≡ lower_index knots point
    unfolding lower_index rust_index
    above_all e = simp (not_below, e) (omega arith)

    pub inside : le (at knots (length knots - 1)) point ≡ false → (low back cell : ℕ)
        → low ≡ halving knots point most_halvings 0 (length knots - 1) → back ≡ one_back knots point low → cell ≡ held back (length knots)
        → cell ≡ lower_index knots point
    unfolding lower_index rust_index
    inside e low back cell f g h = simp (not_below, e) (h ∙ ap (λ (k : ℕ). held k (length knots)) (g ∙ ap (one_back knots point) f))

  module _ (all : AllFit knots) (fit : T (fits binary64 point)) where
    pub located : (2 ≤ length knots) × (length knots ≤ 256) → (cell : ℕ) → cell ≡ lower_index knots point → Located knots point cell
    unfolding lower_index
    located size cell e = record {
      found = e;
      inside = omega arith;
      rising =
          λ {n} R f.
          e
          ∙ lower_index_is_locate knots point n R all (record { fits = fit; finite = f }) (let c = R.count in omega arith)
          (let c = R.count in omega arith);
    }
