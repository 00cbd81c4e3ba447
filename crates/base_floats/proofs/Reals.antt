-- The tests of two finite numbers of an f64 are those of their places.
use mathlib.Core.Path.{◌≡◌, sym, ◌∙◌}
use mathlib.Core.Bool.{true}
use native.Mathlib.Nat.{le_of_eq}
use lib.Dec.{ltb, leb, eqb}
use borrow.Author.Tests.{eqb-true, le-leb}
use lib.Ieee.{Float, binary64, lt, le, eq}
use Rattle.base_floats.specs.Place.{place, Real}
use Rattle.base_floats.proofs.Places.{no_nan, lt_places, le_places, eq_places}

module _ (x y : Float) (p : Real x) (q : Real y) where
  pub lt_is : lt x y ≡ ltb (place x) (place y)
  lt_is = lt_places binary64 x y p.fits q.fits (no_nan x p.finite) (no_nan y q.finite)

  pub le_is : le x y ≡ leb (place x) (place y)
  le_is = le_places binary64 x y p.fits q.fits (no_nan x p.finite) (no_nan y q.finite)

  pub eq_is : eq x y ≡ eqb (place x) (place y)
  eq_is = eq_places binary64 x y p.fits q.fits (no_nan x p.finite) (no_nan y q.finite)

-- numbers found equal are at or below each other
pub eq_le : (x y : Float) → Real x → Real y → eq x y ≡ true → (le x y ≡ true) × (le y x ≡ true)
eq_le x y p q e =
    let same : place x ≡ place y = eqb-true (place x) (place y) (sym (eq_is x y p q) ∙ e) in
    (le_is x y p q ∙ le-leb (place x) (place y) (le_of_eq same), le_is y x q p ∙ le-leb (place y) (place x) (le_of_eq (sym same)))
