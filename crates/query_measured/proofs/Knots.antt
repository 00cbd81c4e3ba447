-- A point that equals a knot: the cell that is found ends there, or is the first; it lies inside; and in either cell beside the knot the
-- fraction is 0 or 1.
use native.Mathlib.Omega.{arith}
use mathlib.Core.Path.{◌≡◌, refl, sym, ap, ◌∙◌}
use mathlib.Core.List.{List}
use mathlib.Core.Bool.{Bool, true, false}
use Prim.Native.Nat.{ℕ, suc, ◌+◌, ◌-◌, ◌<◌, ◌≤◌}
use lib.Dec.{T, ltb}
use lib.ListN.{length}
use borrow.Author.Tests.{ltb-true, ltb-false, leb-true, lt-leb, le-leb, le-ltb}
use lib.Ieee.{Float, binary64, lt, le, eq}
use lib.Ieee.Scale.{finite}
use lib.Ieee.Positive.{positive}
use Rattle.rules.specs.Numbers.{◌⊖◌, ◌⊘◌, at}
use Rattle.rules.specs.Steps.{h}
use Rattle.rules.specs.Locate.{locate}
use Rattle.rules.specs.Outside.{side}
use Rattle.rules.specs.Query.{fraction}
use Rattle.rules.specs.declared.Side.TheVariants.{Inside}
use Rattle.base_floats.specs.Place.{place, Real, AllFit}
use Rattle.base_floats.proofs.Reals.{lt_is, le_is, eq_le}
use Rattle.base_floats.proofs.Equals.{eq_equal}
use Rattle.base_floats.proofs.Operations.{sub_equal, div_zero, div_self}
use Rattle.base_floats.proofs.Differences.{sub_positive, sub_same}
use Rattle.axis_locate.specs.CellFound.{Rising}
use Rattle.axis_locate.proofs.Among.{Among, placed, locate_is}
use Rattle.query_measured.proofs.Hermite.{AtEnd, at_lower, at_upper}

-- n knots of an f64, at least two, that rise by finite steps
pub record Knots (x : List Float) (n : ℕ) : Type 0 where
  pub some : 2 ≤ n
  pub rising : Rising x n
  pub steps : (k : ℕ) → k + 1 < n → finite (h x k) ≡ true
  pub fit : AllFit x

module _ (x : List Float) (n : ℕ) (K : Knots x n) where
  pub real : (k : ℕ) → k < n → Real (at x k)
  real k l = record { fits = K.fit k; finite = K.rising.finite k l }

  module _ (point : Float) (P : Real point) (k : ℕ) (inside : k < n) (meets : eq point (at x k) ≡ true) where
    -- ---- the cell

    among : Among x point (suc (n - 1))
    among = placed x point n K.rising K.fit P K.some

    first_at_or_above : among.above ≡ k
    first_at_or_above =
        let both = eq_le point (at x k) P (real k inside) meets in
        let lower = leb-true among.above k (sym (among.at_or_above k (omega arith)) ∙ both.0) in
        let upper = ltb-true k among.below (sym (among.at_or_below k (omega arith)) ∙ both.1) in
        omega (arith, among.close)

    pub cell_at_knot : locate x (n - 1) point ≡ k - 1
    cell_at_knot = locate_is x point (n - 1) among ∙ rw first_at_or_above (omega arith)

    -- ---- the side: no mode moves or refuses it

    not_below : lt point (at x 0) ≡ false
    not_below =
        let both = eq_le point (at x k) P (real k inside) meets in
        let after = ltb-true k among.below (sym (among.at_or_below k (omega arith)) ∙ both.1) in
        among.before 0 (omega arith) ∙ lt-leb among.below 0 (omega arith)

    not_above : lt (at x (length x - 1)) point ≡ false
    not_above =
        let last : Real (at x (length x - 1)) = real (length x - 1) (omega (arith, K.rising.count, K.some)) in
        let at_or_above : le point (at x (length x - 1)) ≡ true =
        among.at_or_above (length x - 1) (omega (arith, K.rising.count))
        ∙ le-leb among.above (length x - 1) (omega (arith, first_at_or_above, K.rising.count)) in
        lt_is (at x (length x - 1)) point last P
        ∙ le-ltb (place (at x (length x - 1))) (place point)
        (leb-true (place point) (place (at x (length x - 1))) (sym (le_is point (at x (length x - 1)) P last) ∙ at_or_above))

    pub inside_at_knot : side x point ≡ Inside
    unfolding side
    inside_at_knot = rw (not_below, not_above) refl

    -- ---- the fraction, in a cell l beside the knot

    module _ (l : ℕ) (cell : l + 1 < n) where
      step_positive : T (positive (at x (l + 1) ⊖ at x l))
      unfolding h
      step_positive =
          let lower = real l (omega arith) in
          let upper = real (l + 1) cell in
          sub_positive binary64 (at x (l + 1)) (at x l) upper.fits lower.fits upper.finite lower.finite (K.rising.rise l cell)
          (K.steps l cell)

      fraction_at_lower : k ≡ l → AtEnd (fraction x l point) 0
      unfolding fraction h
      fraction_at_lower e =
          let knot = real l (omega arith) in
          let same : eq point (at x l) ≡ true = rw e at meets in
          at_lower
          (div_zero binary64 (point ⊖ at x l) (at x (l + 1) ⊖ at x l)
          (sub_equal binary64 point (at x l) P.finite (eq_equal binary64 point (at x l) P.fits knot.fits P.finite same))
          step_positive)

      fraction_at_upper : k ≡ l + 1 → AtEnd (fraction x l point) 1
      unfolding fraction h
      fraction_at_upper e =
          let lower = real l (omega arith) in
          let upper = real (l + 1) cell in
          let same : eq point (at x (l + 1)) ≡ true = rw e at meets in
          at_upper
          (ap (λ (v : Float). v ⊘ (at x (l + 1) ⊖ at x l))
          (sub_same binary64 (at x (l + 1)) (at x l) upper.fits lower.fits upper.finite lower.finite (K.rising.rise l cell)
          point P.fits P.finite same)
          ∙ div_self binary64 (at x (l + 1) ⊖ at x l) step_positive)

      pub fraction_at_knot : l ≤ k → k ≤ l + 1 → AtEnd (fraction x l point) (k - l)
      fraction_at_knot from to = go (ltb l k) refl
        where
          go : (b : Bool) → ltb l k ≡ b → AtEnd (fraction x l point) (k - l)
          go true e = let up = ltb-true l k e in let end : k - l ≡ 1 = omega arith in rw end (fraction_at_upper (omega arith))
          go false e = let down = ltb-false l k e in let end : k - l ≡ 0 = omega arith in rw end (fraction_at_lower (omega arith))
