-- Two tests asked one after the other, of which the first number met is the answer, and what a point's coordinates are where none is met.
use native.Mathlib.Omega.{arith}
use mathlib.Core.Path.{◌≡◌, refl, sym, ap, ◌∙◌}
use mathlib.Core.Logic.{◌≢◌}
use mathlib.Core.Bool.{Bool, true, false, cond, ◌||◌}
use mathlib.Core.List.{List}
use Prim.Native.Nat.{ℕ, suc, ◌*◌, ◌<◌}
use native.Mathlib.Nat.{mul-le-mul_left, mul-suc}
use lib.ListN.{length, drop, length-drop}
use lib.Seq.{length-take-le}
use lib.Ieee.{Float}
use Rattle.rules.specs.Calls.{or_else}
use Rattle.rules.proofs.Refused.{or_else_met}
use Rattle.many_points.specs.ManyPoints.{point_of}

-- a first number that is met, and one that is not
pub sizes_stop : {number sizes : ℕ} (later : ℕ) → number ≡ sizes → number ≢ 0 → number ≡ or_else sizes later
sizes_stop later e some = sym (or_else_met _ later some) ∙ ap (λ (n : ℕ). or_else n later) e

pub sizes_pass : {number sizes answer : ℕ} (later : ℕ) → number ≡ sizes → number ≡ 0 → answer ≡ later → answer ≡ or_else sizes later
sizes_pass later e none below = below ∙ ap (λ (n : ℕ). or_else n later) (sym none ∙ e)

-- two tests for 4, asked one after the other; the third of the first holds of no call
pub asked_in_turn :
    (first second never : Bool) → never ≡ false → cond {A = ℕ} (first || second) 4 0 ≡ cond (first || never) 4 (cond second 4 0)
asked_in_turn true second never e = refl
asked_in_turn false second never e = rw e refl

-- the coordinates of a point are one for each axis
pub coordinates_of_point :
    (axes count : ℕ) (coordinates : List Float) → length coordinates ≡ axes * count → (j : ℕ) → j < count
    → length (point_of axes coordinates j) ≡ axes
coordinates_of_point axes count coordinates exact j lt =
    length-take-le axes (drop (axes * j) coordinates)
    (rw length-drop (omega (arith, exact, mul-le-mul_left {m = suc j} {n = count} axes (omega arith), mul-suc axes j)))
