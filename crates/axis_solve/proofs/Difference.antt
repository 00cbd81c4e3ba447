-- The turns of `subtract`, on plain lists: they leave y less factor times z.
use native.Mathlib.Omega.{arith}
use mathlib.Core.Path.{◌≡◌, refl, ◌∙◌}
use mathlib.Core.Logic.{◌≢◌}
use mathlib.Core.List.{List}
use Prim.Native.Nat.{ℕ, ◌+◌, ◌<◌, ◌≤◌}
use lib.ListN.{set, length-set}
use lib.Seq.{get_or-set_same, get_or-set_other}
use lib.Ieee.{Float, nan}
use borrow.Author.Count.{below_more}
use Rattle.rules.specs.Numbers.{at, ◌⊖◌, ◌⊗◌}
use Rattle.axis_solve.specs.RowsSolved.{RowsGiven}
use Rattle.grid_scratch.specs.Layout.{row}
use Rattle.axis_solve.specs.Cyclic.{Subtracted}

-- the numbers before number k are done
pub record Turn (w₀ w : List Float) (l : ℕ) (factor : Float) (k : ℕ) : Type 0 where
  pub given : RowsGiven w₀ l
  pub most : k ≤ l + 1
  pub done : Subtracted w₀ w k factor

pub turn_first : (w : List Float) (l : ℕ) (factor : Float) → RowsGiven w l → Turn w w l factor 0
turn_first w l factor g = record {
  given = g;
  most = omega arith;
  done = record { same_length = refl; result = λ k h. absurd (omega arith); kept = λ j o. refl };
}

module _ (w₀ w : List Float) (l : ℕ) (factor : Float) (k : ℕ) (t : Turn w₀ w l factor k) (le : k ≤ l) where
  abbrev here : Float
  here = at w (1792 + k) ⊖ factor ⊗ at w (1536 + k)

  abbrev w₁ : List Float
  w₁ = set w (1792 + k) here

  other : (j : ℕ) → j ≢ 1792 + k → at w₁ j ≡ at w j
  other j n = get_or-set_other w (1792 + k) j here nan n

  here_is : row w₁ 1792 k ≡ row w₀ 1792 k ⊖ factor ⊗ row w₀ 1536 k
  here_is =
      cc (
        get_or-set_same w (1792 + k) here nan (omega arith),
        t.done.kept (1792 + k) (omega arith),
        t.done.kept (1536 + k) (omega arith),
      )

  pub turn_next : Turn w₀ w₁ l factor (k + 1)
  turn_next = record {
    given = t.given;
    most = omega arith;
    done = record {
      same_length = simp length-set t.done.same_length;
      result = below_more _ k (λ j h. other (1792 + j) (omega arith) ∙ t.done.result j h) here_is;
      kept = λ j o. other j (o k (omega arith)) ∙ t.done.kept j (λ i h. o i (omega arith));
    };
  }

pub turn_last : (w₀ w : List Float) (l : ℕ) (factor : Float) (k : ℕ) → Turn w₀ w l factor k → l < k → Subtracted w₀ w (l + 1) factor
turn_last w₀ w l factor k t gt = let e : k ≡ l + 1 = omega arith in rw e at t.done
