-- The turns of `substitute`, on plain lists: each number of the result takes the place of the second helper row's, and comes from the one
-- after it.
use native.Mathlib.Omega.{arith}
use mathlib.Core.Path.{◌≡◌, refl, subst, ◌∙◌}
use mathlib.Core.Logic.{◌≢◌, ⊎_elim}
use mathlib.Core.List.{List}
use Prim.Native.Nat.{ℕ, suc, ◌+◌, ◌-◌, ◌<◌, ◌≤◌}
use native.Mathlib.Nat.{eq-or-lt_of_le}
use lib.ListN.{length, set, length-set}
use lib.Seq.{get_or-set_same, get_or-set_other}
use lib.Ieee.{Float, nan}
use Rattle.rules.specs.Numbers.{at, ◌⊖◌, ◌⊗◌}
use Rattle.axis_solve.specs.RowsSolved.{RowsGiven, ResultPlace, Substituted}
use Rattle.grid_scratch.specs.Layout.{row}

-- once x is stored at row k, the rows from k on are done
pub record Turn (w₀ w : List Float) (l to : ℕ) (last x : Float) (k : ℕ) : Type 0 where
  pub given : RowsGiven w₀ l
  pub place : ResultPlace l to
  pub most : k ≤ l
  pub same_length : length w ≡ length w₀
  pub done : Substituted w₀ (set w (to + k) x) l to last k

pub turn_first : (w : List Float) (l to : ℕ) (last : Float) → RowsGiven w l → ResultPlace l to → Turn w w l to last last l
turn_first w l to last g p = record {
  given = g;
  place = p;
  most = omega arith;
  same_length = refl;
  done = record {
    same_length = simp length-set;
    at_last = get_or-set_same w (to + l) _ nan (omega arith);
    next = λ k a b. absurd (omega arith);
    kept = λ j o. get_or-set_other w (to + l) j _ nan (o l (omega arith) (omega arith));
  };
}

module _ (w₀ w : List Float) (l to : ℕ) (last x : Float) (k : ℕ) (t : Turn w₀ w l to last x k) (lt : 0 < k) where
  abbrev w₁ : List Float
  w₁ = set w (to + k) x

  abbrev next_x : Float
  next_x = at w₁ (to + (k - 1)) ⊖ at w₁ (1280 + (k - 1)) ⊗ x

  abbrev w₂ : List Float
  w₂ = set w₁ (to + (k - 1)) next_x

  at_x : at w₁ (to + k) ≡ x
  at_x = get_or-set_same w (to + k) x nan (omega arith)

  at_next : at w₂ (to + (k - 1)) ≡ next_x
  at_next = get_or-set_same w₁ (to + (k - 1)) next_x nan (simp length-set (omega arith))

  other : (j : ℕ) → j ≢ to + (k - 1) → at w₂ j ≡ at w₁ j
  other j n = get_or-set_other w₁ (to + (k - 1)) j next_x nan n

  -- before row k both helper rows still have what stood in them
  still : (j : ℕ) → j < to + k → at w₁ j ≡ at w₀ j
  still j h = t.done.kept j (λ i a b. omega arith)

  next_here : row w₂ to (k - 1) ≡ row w₀ to (k - 1) ⊖ row w₀ 1280 (k - 1) ⊗ row w₂ to (suc (k - 1))
  next_here =
      let e : suc (k - 1) ≡ k = omega arith in
      rw e
      (at_next
      ∙ cc (
        still (to + (k - 1)) (omega arith),
        still (1280 + (k - 1)) (omega (arith, t.place.behind, t.given.fit)),
        at_x,
        other (to + k) (omega arith),
      ))

  pub turn_next : Turn w₀ w₁ l to last next_x (k - 1)
  turn_next = record {
    given = t.given;
    place = t.place;
    most = omega arith;
    same_length = simp length-set t.same_length;
    done = record {
      same_length = simp length-set t.same_length;
      at_last = other (to + l) (omega arith) ∙ t.done.at_last;
      next = λ j a b. ⊎_elim
          (λ e. subst (λ (i : ℕ). row w₂ to i ≡ row w₀ to i ⊖ row w₀ 1280 i ⊗ row w₂ to (suc i)) e next_here)
          (λ above. rw (other (to + j) (omega arith), other (to + suc j) (omega arith)) (t.done.next j (omega arith) b))
          (eq-or-lt_of_le a);
      kept = λ j o. other j (o (k - 1) (omega arith) (omega arith)) ∙ t.done.kept j (λ i a b. o i (omega arith) b);
    };
  }

pub turn_last : (w₀ w : List Float) (l to : ℕ) (last x : Float) (k : ℕ) → Turn w₀ w l to last x k → k ≤ 0
    → Substituted w₀ (set w to x) l to last 0
turn_last w₀ w l to last x k t z =
    let e : k ≡ 0 = omega arith in
    let none : to + 0 ≡ to = omega arith in
    rw (e, none) at t.done
