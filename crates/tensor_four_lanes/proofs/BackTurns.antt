-- The turns of `back`: from knot k on the moments stand; in hand is that of knot k.
use native.Mathlib.Omega.{arith}
use mathlib.Core.Path.{◌≡◌, refl, sym, subst, ◌∙◌}
use mathlib.Core.Logic.{⊎_elim}
use mathlib.Core.List.{List}
use Prim.Native.Nat.{ℕ, ◌+◌, ◌-◌, ◌*◌, ◌<◌, ◌≤◌}
use native.Mathlib.Nat.{eq-or-lt_of_le}
use lib.ListN.{length}
use lib.Ieee.{Float}
use Rattle.rules.specs.Numbers.{at, ◌⊖◌, ◌⊗◌}
use Rattle.tensor_fours.specs.Fours.{Lanewise, in_row, RowSet}
use Rattle.tensor_plan.specs.PlanOfEnds.{Room}
use Rattle.tensor_four_lanes.specs.Sweeps.{Back}
use Rattle.tensor_fours.proofs.Fours.{lane, number, row_other, row_there}

pub record Turn (w₀ w : List Float) (low from : ℕ) (m : List Float) (k : ℕ) : Type 0 where
  pub given : Room w₀ from
  pub least : low ≤ k
  pub most : k ≤ from
  pub same_length : length w ≡ length w₀
  pub m_is : (l : ℕ) → l < 4 → at m l ≡ in_row w 1536 k l
  pub done : Back w₀ w k from

pub turn_first :
    (w : List Float) (low from : ℕ) (m : List Float) → Room w from → low ≤ from → Lanewise m (λ l. in_row w 1536 from l)
    → Turn w w low from m from
turn_first w low from m room le e = record {
  given = room;
  least = le;
  most = omega arith;
  same_length = refl;
  m_is = number e;
  done = record {
    same_length = refl;
    top = λ l lt. refl;
    next = λ l lt k h g. absurd (omega arith);
    below = λ l lt k h. refl;
    kept = λ j o. refl;
  };
}

module _
    (w₀ w w₁ : List Float) (low from : ℕ) (m : List Float) (k : ℕ) (t : Turn w₀ w low from m k) (more : low < k)
    (d c next : List Float) (d_is : Lanewise d (λ l. in_row w 1536 (k - 1) l)) (c_is : Lanewise c (λ l. at w (256 + (k - 1)) ⊗ at m l))
    (next_is : Lanewise next (λ l. at d l ⊖ at c l)) (put : RowSet w w₁ 1536 (k - 1) next)
  where
    rows : Room w₀ from
    rows = t.given

    here : (l : ℕ) → l < 4 → in_row w₁ 1536 (k - 1) l ≡ in_row w₀ 1536 (k - 1) l ⊖ at w₀ (256 + (k - 1)) ⊗ in_row w₁ 1536 (k - 1 + 1) l
    here l lt =
        let e : k - 1 + 1 ≡ k = omega arith in
        rw e
        (cc (
          row_there put next_is l lt,
          number d_is l lt,
          number c_is l lt,
          t.done.below l lt (k - 1) (omega arith),
          t.m_is l lt,
          row_other put k (omega arith) l lt,
          t.done.kept (256 + (k - 1)) (λ i h. omega (arith, rows, t.most)),
        ))

    pub turn_next : Turn w₀ w₁ low from next (k - 1)
    turn_next = record {
      given = t.given;
      least = omega arith;
      most = omega (arith, t.most);
      same_length = put.same_length ∙ t.same_length;
      m_is = λ l lt. sym (lane put.numbers l lt);
      done = record {
        same_length = put.same_length ∙ t.same_length;
        top = λ l lt. row_other put from (omega (arith, t.most)) l lt ∙ t.done.top l lt;
        next = λ l lt j ge h. ⊎_elim
            (λ e. subst (λ (i : ℕ). in_row w₁ 1536 i l ≡ in_row w₀ 1536 i l ⊖ at w₀ (256 + i) ⊗ in_row w₁ 1536 (i + 1) l) e (here l lt))
            (λ above.
            rw (row_other put j (omega arith) l lt, row_other put (j + 1) (omega arith) l lt) (t.done.next l lt j (omega arith) h))
            (eq-or-lt_of_le ge);
        below = λ l lt j h. row_other put j (omega arith) l lt ∙ t.done.below l lt j (omega arith);
        kept =
            λ j o.
            put.kept j (λ i h. omega (arith, rows, t.most, o (4 * (k - 1) + i) (omega (arith, rows, t.most)))) ∙ t.done.kept j o;
      };
    }

pub turn_last : (w₀ w : List Float) (low from : ℕ) (m : List Float) (k : ℕ) → Turn w₀ w low from m k → k ≤ low → Back w₀ w low from
turn_last w₀ w low from m k t le = let e : k ≡ low = omega (arith, t.least) in rw e at t.done
