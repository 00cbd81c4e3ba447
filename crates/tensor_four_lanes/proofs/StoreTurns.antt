-- The turns of `store_inner_slopes`: below knot k the knot slopes stand at their places; in hand is the moment of knot k. Then the last
-- one.
use native.Mathlib.Omega.{arith}
use mathlib.Core.Path.{◌≡◌, refl, ◌∙◌}
use mathlib.Core.List.{List}
use Prim.Native.Nat.{ℕ, ◌+◌, ◌*◌, ◌<◌, ◌≤◌}
use lib.ListN.{length}
use lib.Ieee.{Float}
use borrow.Author.Count.{below_more}
use Rattle.rules.specs.Numbers.{at, ◌⊕◌, ◌⊖◌, ◌⊗◌, ◌⊘◌, two, six}
use Rattle.grid_scratch.specs.Layout.{Outside}
use Rattle.tensor_fours.specs.Fours.{Lanewise, Four, in_row, place, RowSet, Stored}
use Rattle.tensor_plan.specs.PlanOfEnds.{Room}
use Rattle.tensor_four_lanes.specs.Sweeps.{Lanes, inner_slope, last_slope, slope_at, Laid}
use Rattle.tensor_fours.proofs.Fours.{lane, each, number}
use borrow.Author.Tests.{lt-ltb, le-ltb}

pub record Turn (w₀ w : List Float) (n : ℕ) (p : List ℕ) (o step : ℕ) (m : List Float) (k : ℕ) : Type 0 where
  pub lanes : Lanes w₀ n p o step
  pub most : k ≤ n
  pub same_length : length w ≡ length w₀
  pub m_is : (l : ℕ) → l < 4 → at m l ≡ in_row w₀ 1536 k l
  pub rows : (j : ℕ) → j < 2048 → Outside 1024 (4 * k) j → at w j ≡ at w₀ j
  pub done : Laid w₀ w p o step k (inner_slope w₀)

pub turn_first :
    (w : List Float) (n : ℕ) (p : List ℕ) (o step : ℕ) (m : List Float) → Lanes w n p o step → Lanewise m (λ l. in_row w 1536 0 l)
    → Turn w w n p o step m 0
turn_first w n p o step m lanes e = record {
  lanes = lanes;
  most = omega arith;
  same_length = refl;
  m_is = number e;
  rows = λ j lt out. refl;
  done =
      record {
        same_length = refl;
        there = λ G same l lt k h. absurd (omega arith);
        still = λ G same j ge e. e;
        rows = λ j lt. refl;
        kept = λ j ge out. refl;
      };
}

module _
    (w₀ w w₁ w₂ : List Float) (n : ℕ) (p : List ℕ) (o step : ℕ) (m : List Float) (k : ℕ) (t : Turn w₀ w n p o step m k) (below : k < n)
    (next s r : List Float) (next_is : Lanewise next (λ l. in_row w 1536 (k + 1) l)) (s_is : Lanewise s (λ l. in_row w 1024 k l))
    (r_is : Lanewise r (λ l. at s l ⊖ at w k ⊗ (two ⊗ at m l ⊕ at next l) ⊘ six))
    (put : RowSet w w₁ 1024 k r) (laid : Stored w₁ w₂ p (o + k * step) r)
  where
    few : Room w₀ n
    few = t.lanes.rows

    behind : (l : ℕ) → l < 4 → 2048 ≤ place p l
    behind = lane t.lanes.behind

    next_there : (l : ℕ) → l < 4 → at next l ≡ in_row w₀ 1536 (k + 1) l
    next_there l lt = number next_is l lt ∙ t.rows (1536 + 4 * (k + 1) + l) (omega (arith, few)) (λ i h. omega (arith, few))

    here : (l : ℕ) → l < 4 → at r l ≡ inner_slope w₀ k l
    here l lt =
        cc (
          number r_is l lt,
          number s_is l lt,
          next_there l lt,
          t.m_is l lt,
          t.rows (1024 + 4 * k + l) (omega (arith, few)) (λ i h. omega arith),
          t.rows k (omega (arith, few)) (λ i h. omega (arith, few)),
        )

    -- the working tensor lies behind the block of slopes
    past : (j : ℕ) → 2048 ≤ j → at w₁ j ≡ at w j
    past j ge = put.kept j (λ i h. omega (arith, few))

    module _ (G : ℕ → Float) (same : (l : ℕ) → l < 4 → (i : ℕ) → i < k + 1 → inner_slope w₀ i l ≡ G (place p l + (o + i * step))) where
      four_here : Four (λ l. at r l ≡ G (place p l + (o + k * step)))
      four_here = each (λ l lt. here l lt ∙ same l lt k (omega arith))

      there : (l : ℕ) → l < 4 → (i : ℕ) → i < k + 1 → at w₂ (place p l + (o + i * step)) ≡ G (place p l + (o + i * step))
      there l lt =
          below_more _ k
          (λ i h.
          laid.still G four_here (place p l + (o + i * step))
          (past (place p l + (o + i * step)) (omega (arith, behind l lt))
          ∙ t.done.there G (λ a b c d. same a b c (omega arith)) l lt i h))
          (lane (laid.there G four_here) l lt)

    still : (G : ℕ → Float) → ((l : ℕ) → l < 4 → (i : ℕ) → i < k + 1 → inner_slope w₀ i l ≡ G (place p l + (o + i * step)))
        → (j : ℕ) → 2048 ≤ j → at w₀ j ≡ G j → at w₂ j ≡ G j
    still G same j ge e = laid.still G (four_here G same) j (past j ge ∙ t.done.still G (λ a b c d. same a b c (omega arith)) j ge e)

    before : (j : ℕ) → j < 2048 → at w₂ j ≡ at w₁ j
    before j lt = laid.kept j (λ l h. omega (arith, behind l h))

    pub turn_next : Turn w₀ w₂ n p o step next (k + 1)
    turn_next = record {
      lanes = t.lanes;
      most = omega arith;
      same_length = laid.same_length ∙ put.same_length ∙ t.same_length;
      m_is = next_there;
      rows = λ j lt out.
          before j lt
          ∙ put.kept j (λ i h. omega (arith, out (4 * k + i) (omega arith)))
          ∙ t.rows j lt (λ i h. out i (omega arith));
      done = record {
        same_length = laid.same_length ∙ put.same_length ∙ t.same_length;
        there = there;
        still = still;
        rows = λ j lt. before j (omega arith) ∙ put.kept j (λ i h. omega arith) ∙ t.done.rows j lt;
        kept =
            λ j ge none.
            laid.kept j (λ l lt. none l lt k (omega arith)) ∙ past j ge ∙ t.done.kept j ge (λ l lt i h. none l lt i (omega arith));
      };
    }

pub turn_last :
    (w₀ w : List Float) (n : ℕ) (p : List ℕ) (o step : ℕ) (m : List Float) (k : ℕ) → Turn w₀ w n p o step m k → n ≤ k
    → Laid w₀ w p o step n (inner_slope w₀)
turn_last w₀ w n p o step m k t ge = let e : k ≡ n = omega (arith, t.most) in rw e at t.done

-- the last knot's own
module _
    (w w₁ w₂ : List Float) (n : ℕ) (p : List ℕ) (o step : ℕ) (lanes : Lanes w n p o step) (last : List Float)
    (last_is : (l : ℕ) → l < 4 → at last l ≡ last_slope w n l)
    (inside : Laid w w₁ p o step n (inner_slope w)) (laid : Stored w₁ w₂ p (o + n * step) last)
  where
    module _ (G : ℕ → Float) (same : (l : ℕ) → l < 4 → (k : ℕ) → k < n + 1 → slope_at w n k l ≡ G (place p l + (o + k * step))) where
      at_last : Four (λ l. at last l ≡ G (place p l + (o + n * step)))
      at_last = each (λ l lt. last_is l lt ∙ rw (le-ltb n n (omega arith)) at (same l lt n (omega arith)))

      all_there : (l : ℕ) → l < 4 → (k : ℕ) → k < n + 1 → at w₂ (place p l + (o + k * step)) ≡ G (place p l + (o + k * step))
      all_there l lt =
          below_more _ n
          (λ k h. laid.still G at_last _ (inside.there G (λ a b c d. rw (lt-ltb c n d) at (same a b c (omega arith))) l lt k h))
          (lane (laid.there G at_last) l lt)

    pub settled : Laid w w₂ p o step (n + 1) (slope_at w n)
    settled = record {
      same_length = laid.same_length ∙ inside.same_length;
      there = all_there;
      still = λ G same j ge e.
          laid.still G (at_last G same) j (inside.still G (λ a b c d. rw (lt-ltb c n d) at (same a b c (omega arith))) j ge e);
      rows = λ j lt. laid.kept j (λ l h. omega (arith, lane lanes.behind l h)) ∙ inside.rows j lt;
      kept = λ j ge none. laid.kept j (λ l lt. none l lt n (omega arith)) ∙ inside.kept j ge (λ l lt k h. none l lt k (omega arith));
    }
