-- A part of a list of numbers that an f64 each holds is such a list.
use native.Mathlib.Omega.{arith}
use mathlib.Core.Path.{◌≡◌, refl, sym, subst, ◌∙◌}
use mathlib.Core.Bool.{Bool, true, false}
use mathlib.Core.List.{List}
use Prim.Native.Nat.{ℕ, ◌+◌}
use lib.Dec.{T, ltb}
use lib.ListN.{get_or, take, drop, length-take, get_or-eq_default}
use lib.Seq.{get_or-take, get_or-drop}
use lib.Ieee.{Float, nan, binary64, fits}
use borrow.Author.Tests.{ltb-true, ltb-false}
use Rattle.base_floats.specs.Place.{AllFit}

pub part_fits : (xs : List Float) (begin size : ℕ) → AllFit xs → AllFit (take size (drop begin xs))
unfolding fits
part_fits xs begin size all k = go (ltb k size) refl
  where
    go : (b : Bool) → ltb k size ≡ b → T (fits binary64 (get_or (take size (drop begin xs)) k nan))
    go true e =
        subst (λ (v : Float). T (fits binary64 v))
        (sym (get_or-take size (drop begin xs) k nan (ltb-true k size e) ∙ get_or-drop begin xs k nan))
        (all (begin + k))
    go false e =
        subst (λ (v : Float). T (fits binary64 v))
        (sym (get_or-eq_default (take size (drop begin xs)) nan {n = k}
        (omega (arith, ltb-false k size e, length-take size (drop begin xs))))) tt
