-- The points of four axes, taken out of them, are the points of the axes.
use mathlib.Core.Path.{◌≡◌, refl, fun_ext}
use mathlib.Core.List.{List, [], ◌∷◌}
use Prim.Native.Nat.{ℕ, zero, suc}
use native.Mathlib.Omega.{arith}
use lib.ListN.{length}
use Rattle.rules.specs.Sizes.{place_of}
use Rattle.rules.specs.declared.Axis.{Axis}
use Rattle.grid.specs.GridOfCall.{points_of}

pub points_taken : (all : List Axis) → length all ≡ 4
    → place_of (points_of all 0 ∷ points_of all 1 ∷ points_of all 2 ∷ points_of all 3 ∷ []) ≡ points_of all
points_taken [] e = absurd (omega arith)
points_taken (a ∷ []) e = absurd (omega arith)
points_taken (a ∷ b ∷ []) e = absurd (omega arith)
points_taken (a ∷ b ∷ c ∷ []) e = absurd (omega arith)
points_taken (a ∷ b ∷ c ∷ d ∷ []) e = fun_ext same
  where
    same : (i : ℕ) → place_of (a.points ∷ b.points ∷ c.points ∷ d.points ∷ []) i ≡ points_of (a ∷ b ∷ c ∷ d ∷ []) i
    same zero = refl
    same (suc zero) = refl
    same (suc (suc zero)) = refl
    same (suc (suc (suc zero))) = refl
    same (suc (suc (suc (suc i)))) = refl
points_taken (a ∷ b ∷ c ∷ d ∷ f ∷ all) e = absurd (omega arith)
