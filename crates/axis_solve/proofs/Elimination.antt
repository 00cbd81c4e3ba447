-- The turns of `eliminate`, on plain lists: they leave the two helper rows of the definition.
use native.Mathlib.Omega.{arith}
use mathlib.Core.Path.{◌≡◌, refl, ◌∙◌}
use mathlib.Core.Logic.{◌≢◌}
use mathlib.Core.List.{List}
use Prim.Native.Nat.{ℕ, suc, ◌+◌, ◌<◌, ◌≤◌}
use native.Mathlib.Numerals.{add-one}
use lib.ListN.{length, set, length-set}
use lib.Seq.{get_or-set_same, get_or-set_other}
use lib.Ieee.{Float, nan}
use borrow.Author.Count.{below_more}
use Rattle.rules.specs.Numbers.{at, ◌⊖◌, ◌⊗◌, ◌⊘◌}
use Rattle.rules.specs.Solve as Solve
use Rattle.rules.specs.Solve.{cp, dp}
use Rattle.axis_solve.specs.RowsSolved.{of_rows, RowsGiven, ResultPlace, Eliminated}
use Rattle.grid_scratch.specs.Layout.{row, Outside}

-- the rows below k are done; row k's divisor and second number are known
pub record Turn (w₀ w : List Float) (l to : ℕ) (divisor d : Float) (k : ℕ) : Type 0 where
  pub given : RowsGiven w₀ l
  pub place : ResultPlace l to
  pub most : k ≤ l
  pub same_length : length w ≡ length w₀
  pub divisor_is : divisor ≡ of_rows Solve.w w₀ k
  pub d_is : d ≡ of_rows dp w₀ k
  pub first : (j : ℕ) → j < k → row w 1280 j ≡ of_rows cp w₀ j
  pub second : (j : ℕ) → j < k → row w to j ≡ of_rows dp w₀ j
  pub kept : (j : ℕ) → Outside 1280 256 j → Outside to (suc l) j → at w j ≡ at w₀ j

pub turn_first : (w : List Float) (l to : ℕ) → RowsGiven w l → ResultPlace l to → Turn w w l to (at w 512) (at w 1024 ⊘ at w 512) 0
unfolding Solve.w dp
turn_first w l to g p = record {
  given = g;
  place = p;
  most = omega arith;
  same_length = refl;
  divisor_is = refl;
  d_is = refl;
  first = λ j h. absurd (omega arith);
  second = λ j h. absurd (omega arith);
  kept = λ j h p. refl;
}

module _ (w₀ w : List Float) (l to : ℕ) (divisor d : Float) (k : ℕ) (t : Turn w₀ w l to divisor d k) (lt : k < l) where
  abbrev c : Float
  c = at w (768 + k) ⊘ divisor

  abbrev w₁ : List Float
  w₁ = set w (1280 + k) c

  abbrev w₂ : List Float
  w₂ = set w₁ (to + k) d

  other : (j : ℕ) → j ≢ 1280 + k → j ≢ to + k → at w₂ j ≡ at w j
  other j a b = get_or-set_other w₁ (to + k) j d nan b ∙ get_or-set_other w (1280 + k) j c nan a

  outside : (j : ℕ) → Outside 1280 256 j → Outside to (suc l) j → at w₂ j ≡ at w₀ j
  outside j o p = other j (o k (omega arith)) (p k (omega arith)) ∙ t.kept j o p

  at_first : at w₂ (1280 + k) ≡ c
  at_first =
      get_or-set_other w₁ (to + k) (1280 + k) d nan (omega arith) ∙ get_or-set_same w (1280 + k) c nan (omega arith)

  at_second : at w₂ (to + k) ≡ d
  at_second = get_or-set_same w₁ (to + k) d nan (simp length-set (omega arith))

  c_is : c ≡ of_rows cp w₀ k
  unfolding cp
  c_is = cc (t.kept (768 + k) (omega arith) (omega arith), t.divisor_is)

  abbrev next_divisor : Float
  next_divisor = at w₂ (512 + (k + 1)) ⊖ at w (256 + k) ⊗ c

  abbrev next_d : Float
  next_d = (at w₂ (1024 + (k + 1)) ⊖ at w (256 + k) ⊗ d) ⊘ next_divisor

  next_divisor_is : next_divisor ≡ of_rows Solve.w w₀ (k + 1)
  unfolding Solve.w cp
  next_divisor_is =
      rw add-one (cc (outside (512 + suc k) (omega arith) (omega arith), t.kept (256 + k) (omega arith) (omega arith), c_is))

  next_d_is : next_d ≡ of_rows dp w₀ (k + 1)
  unfolding dp
  next_d_is =
      rw add-one
      (cc (
        outside (1024 + suc k) (omega arith) (omega arith),
        t.kept (256 + k) (omega arith) (omega arith),
        t.d_is,
        rw add-one at next_divisor_is,
      ))

  pub turn_next : Turn w₀ w₂ l to next_divisor next_d (k + 1)
  turn_next = record {
    given = t.given;
    place = t.place;
    most = omega arith;
    same_length = simp length-set t.same_length;
    divisor_is = next_divisor_is;
    d_is = next_d_is;
    first = below_more _ k (λ j h. other (1280 + j) (omega arith) (omega arith) ∙ t.first j h) (at_first ∙ c_is);
    second = below_more _ k (λ j h. other (to + j) (omega arith) (omega arith) ∙ t.second j h) (at_second ∙ t.d_is);
    kept = outside;
  }

-- after the loop
pub turn_last : (w₀ w : List Float) (l to : ℕ) (divisor d : Float) (k : ℕ) → Turn w₀ w l to divisor d k → l ≤ k → Eliminated w₀ w l to d
turn_last w₀ w l to divisor d k t ge =
    let e : k ≡ l = omega arith in
    record {
      same_length = t.same_length;
      first = λ j h. t.first j (omega arith);
      second = λ j h. t.second j (omega arith);
      last_is = rw e at t.d_is;
      kept = t.kept;
    }
