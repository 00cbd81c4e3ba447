-- The turns of `slopes`: the steps from `from` to k - 1 have their slopes, and in hand are the numbers at knot k.
use native.Mathlib.Omega.{arith}
use mathlib.Core.Path.{◌≡◌, refl, ◌∙◌}
use mathlib.Core.List.{List}
use Prim.Native.Nat.{ℕ, ◌+◌, ◌*◌, ◌<◌, ◌≤◌}
use lib.ListN.{length}
use lib.Ieee.{Float}
use borrow.Author.Count.{below_more}
use Rattle.rules.specs.Numbers.{at, ◌⊖◌, ◌⊘◌}
use Rattle.tensor_fours.specs.Fours.{Lanewise, in_row, place, RowSet}
use Rattle.tensor_plan.specs.PlanOfEnds.{Room}
use Rattle.tensor_four_lanes.specs.Sweeps.{Lanes, step_slope, Sloped}
use Rattle.tensor_fours.proofs.Fours.{lane, number, row_other, row_there}

pub record Turn (w₀ w : List Float) (from stop : ℕ) (p : List ℕ) (step : ℕ) (y : List Float) (k : ℕ) : Type 0 where
  pub lanes : Lanes w₀ stop p 0 step
  pub least : from ≤ k
  pub most : k ≤ stop
  pub same_length : length w ≡ length w₀
  pub y_is : (l : ℕ) → l < 4 → at y l ≡ at w₀ (place p l + k * step)
  pub done : Sloped w₀ w from k p step

pub turn_first :
    (w : List Float) (from stop : ℕ) (p : List ℕ) (step : ℕ) (y : List Float) → Lanes w stop p 0 step → from ≤ stop
    → Lanewise y (λ l. at w (place p l + from * step)) → Turn w w from stop p step y from
turn_first w from stop p step y lanes le e = record {
  lanes = lanes;
  least = omega arith;
  most = le;
  same_length = refl;
  y_is = number e;
  done = record { same_length = refl; slopes = λ l lt k h g. absurd (omega arith); kept = λ j o. refl };
}

module _
    (w₀ w w₁ : List Float) (from stop : ℕ) (p : List ℕ) (step : ℕ) (y : List Float) (k : ℕ) (t : Turn w₀ w from stop p step y k)
    (below : k < stop)
    (next d q : List Float) (next_is : Lanewise next (λ l. at w (place p l + (k + 1) * step)))
    (d_is : Lanewise d (λ l. at next l ⊖ at y l)) (q_is : Lanewise q (λ l. at d l ⊘ at w k)) (put : RowSet w w₁ 1024 k q)
  where
    rows : Room w₀ stop
    rows = t.lanes.rows

    next_there : (l : ℕ) → l < 4 → at next l ≡ at w₀ (place p l + (k + 1) * step)
    next_there l lt =
        number next_is l lt
        ∙ t.done.kept (place p l + (k + 1) * step) (λ m i a b c. omega (arith, rows, lane t.lanes.behind l lt))

    here : (l : ℕ) → l < 4 → in_row w₁ 1024 k l ≡ step_slope w₀ p step k l
    here l lt =
        cc (row_there put q_is l lt, number d_is l lt, next_there l lt, t.y_is l lt, t.done.kept k (λ m i a b c. omega (arith, rows)))

    pub turn_next : Turn w₀ w₁ from stop p step next (k + 1)
    turn_next = record {
      lanes = t.lanes;
      least = omega (arith, t.least);
      most = omega arith;
      same_length = put.same_length ∙ t.same_length;
      y_is = next_there;
      done = record {
        same_length = put.same_length ∙ t.same_length;
        slopes = λ l lt. below_more _ k
            (λ j h ge. row_other put j (omega arith) l lt ∙ t.done.slopes l lt j h ge)
            (λ ge. here l lt);
        kept = λ j off. put.kept j (λ i h. off k i t.least (omega arith) h) ∙ t.done.kept j (λ m i a b c. off m i a (omega arith) c);
      };
    }

pub turn_last :
    (w₀ w : List Float) (from stop : ℕ) (p : List ℕ) (step : ℕ) (y : List Float) (k : ℕ) → Turn w₀ w from stop p step y k → stop ≤ k
    → Sloped w₀ w from stop p step
turn_last w₀ w from stop p step y k t ge = let e : k ≡ stop = omega (arith, t.most) in rw e at t.done
