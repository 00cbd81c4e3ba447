-- The turns of `forward`: up to knot k both blocks have their rows; in hand are those of knot k, and the numbers at the knot behind it.
use native.Mathlib.Omega.{arith}
use mathlib.Core.Path.{◌≡◌, refl, sym, subst, ◌∙◌}
use mathlib.Core.Logic.{◌⊎◌, inl, inr, ⊎_elim}
use mathlib.Core.List.{List}
use Prim.Native.Nat.{ℕ, ◌+◌, ◌*◌, ◌<◌, ◌≤◌}
use native.Mathlib.Nat.{eq-or-lt_of_le}
use lib.ListN.{length}
use lib.Ieee.{Float}
use borrow.Author.Count.{below_more}
use Rattle.rules.specs.Numbers.{at, ◌⊖◌, ◌⊗◌, ◌⊘◌, six}
use Rattle.tensor_fours.specs.Fours.{Lanewise, in_row, place, RowSet}
use Rattle.tensor_plan.specs.PlanOfEnds.{Room}
use Rattle.tensor_four_lanes.specs.Sweeps.{Lanes, step_slope, Forward}
use Rattle.tensor_fours.proofs.Fours.{lane, number, row_other, row_there}

pub record Turn (w₀ w : List Float) (first stop : ℕ) (p : List ℕ) (step : ℕ) (y s d : List Float) (k : ℕ) : Type 0 where
  pub lanes : Lanes w₀ stop p 0 step
  pub least : first ≤ k
  pub most : k < stop
  pub same_length : length w ≡ length w₀
  pub y_is : (l : ℕ) → l < 4 → at y l ≡ at w₀ (place p l + (k + 1) * step)
  pub s_is : (l : ℕ) → l < 4 → at s l ≡ in_row w 1024 k l
  pub d_is : (l : ℕ) → l < 4 → at d l ≡ in_row w 1536 k l
  pub done : Forward w₀ w first (k + 1) p step

pub turn_first :
    (w : List Float) (first stop : ℕ) (p : List ℕ) (step : ℕ) (y s d : List Float) → Lanes w stop p 0 step → first < stop
    → Lanewise y (λ l. at w (place p l + (first + 1) * step))
    → Lanewise s (λ l. in_row w 1024 first l) → Lanewise d (λ l. in_row w 1536 first l) → Turn w w first stop p step y s d first
turn_first w first stop p step y s d lanes some at_y at_s at_d = record {
  lanes = lanes;
  least = omega arith;
  most = some;
  same_length = refl;
  y_is = number at_y;
  s_is = number at_s;
  d_is = number at_d;
  done = record {
    same_length = refl;
    first_is = λ l lt. refl;
    slopes = λ l lt k h g. absurd (omega arith);
    next = λ l lt k h g. absurd (omega arith);
    kept = λ j o off. refl;
  };
}

module _
    (w₀ w w₁ w₂ : List Float) (first stop : ℕ) (p : List ℕ) (step : ℕ) (y s d : List Float) (k : ℕ)
    (t : Turn w₀ w first stop p step y s d k) (below : k + 1 < stop)
    (ahead e q next : List Float) (ahead_is : Lanewise ahead (λ l. at w (place p l + (k + 1 + 1) * step)))
    (e_is : Lanewise e (λ l. at ahead l ⊖ at y l)) (q_is : Lanewise q (λ l. at e l ⊘ at w (k + 1)))
    (next_is : Lanewise next (λ l. (six ⊗ (at q l ⊖ at s l) ⊖ at w k ⊗ at d l) ⊘ at w (128 + (k + 1))))
    (put_q : RowSet w w₁ 1024 (k + 1) q) (put_d : RowSet w₁ w₂ 1536 (k + 1) next)
  where
    rows : Room w₀ stop
    rows = t.lanes.rows

    -- the two blocks have no place in common
    q_row : (i l : ℕ) → i ≤ k + 1 → l < 4 → in_row w₂ 1024 i l ≡ in_row w₁ 1024 i l
    q_row i l le lt = put_d.kept (1024 + 4 * i + l) (λ m h. omega (arith, rows))

    d_row : (i l : ℕ) → i ≤ k + 1 → l < 4 → in_row w₁ 1536 i l ≡ in_row w 1536 i l
    d_row i l le lt = put_q.kept (1536 + 4 * i + l) (λ m h. omega (arith, rows))

    q_before : (i l : ℕ) → i ≤ k → l < 4 → in_row w₂ 1024 i l ≡ in_row w 1024 i l
    q_before i l le lt = q_row i l (omega arith) lt ∙ row_other put_q i (omega arith) l lt

    d_before : (i l : ℕ) → i ≤ k → l < 4 → in_row w₂ 1536 i l ≡ in_row w 1536 i l
    d_before i l le lt = row_other put_d i (omega arith) l lt ∙ d_row i l (omega arith) lt

    -- all else is kept by both stores
    same : (j : ℕ) → (j < 1024) ⊎ (2048 ≤ j) → at w j ≡ at w₀ j
    same j (inl lo) = t.done.kept j (λ i h. omega arith) (λ m i a b c. omega arith)
    same j (inr hi) = t.done.kept j (λ i h. omega arith) (λ m i a b c. omega (arith, rows))

    ahead_there : (l : ℕ) → l < 4 → at ahead l ≡ at w₀ (place p l + (k + 1 + 1) * step)
    ahead_there l lt = number ahead_is l lt ∙ same (place p l + (k + 1 + 1) * step) (inr (omega (arith, lane t.lanes.behind l lt)))

    q_here : (l : ℕ) → l < 4 → at q l ≡ step_slope w₀ p step (k + 1) l
    q_here l lt =
        cc (number q_is l lt, number e_is l lt, ahead_there l lt, t.y_is l lt, same (k + 1) (inl (omega (arith, rows))))

    q_there : (l : ℕ) → l < 4 → in_row w₂ 1024 (k + 1) l ≡ at q l
    q_there l lt = q_row (k + 1) l (omega arith) lt ∙ lane put_q.numbers l lt

    here : (l : ℕ) → l < 4
        → in_row w₂ 1536 (k + 1) l
        ≡ (six ⊗ (in_row w₂ 1024 (k + 1) l ⊖ in_row w₂ 1024 k l) ⊖ at w₀ k ⊗ in_row w₂ 1536 k l) ⊘ at w₀ (128 + (k + 1))
    here l lt =
        cc (
          row_there put_d next_is l lt,
          q_there l lt,
          q_before k l (omega arith) lt,
          d_before k l (omega arith) lt,
          t.s_is l lt,
          t.d_is l lt,
          same k (inl (omega (arith, rows))),
          same (128 + (k + 1)) (inl (omega (arith, rows))),
        )

    pub turn_next : Turn w₀ w₂ first stop p step ahead q next (k + 1)
    turn_next = record {
      lanes = t.lanes;
      least = omega (arith, t.least);
      most = below;
      same_length = put_d.same_length ∙ put_q.same_length ∙ t.same_length;
      y_is = ahead_there;
      s_is = λ l lt. sym (q_there l lt);
      d_is = λ l lt. sym (lane put_d.numbers l lt);
      done = record {
        same_length = put_d.same_length ∙ put_q.same_length ∙ t.same_length;
        first_is = λ l lt. d_before first l t.least lt ∙ t.done.first_is l lt;
        slopes = λ l lt. below_more _ (k + 1)
            (λ i h more. q_before i l (omega arith) lt ∙ t.done.slopes l lt i h more)
            (λ more. q_there l lt ∙ q_here l lt);
        next = λ l lt j h ge. ⊎_elim
            (λ e.
            subst
            (λ (i : ℕ).
            in_row w₂ 1536 (i + 1) l
            ≡ (six ⊗ (in_row w₂ 1024 (i + 1) l ⊖ in_row w₂ 1024 i l) ⊖ at w₀ i ⊗ in_row w₂ 1536 i l) ⊘ at w₀ (128 + (i + 1)))
            (sym e) (here l lt))
            (λ less.
            rw (
              d_before (j + 1) l (omega arith) lt,
              d_before j l (omega arith) lt,
              q_before (j + 1) l (omega arith) lt,
              q_before j l (omega arith) lt,
            )
            (t.done.next l lt j (omega arith) ge))
            (eq-or-lt_of_le (let le : j ≤ k = omega arith in le));
        kept = λ j o off.
            put_d.kept j (λ i h. omega (arith, rows, o (4 * (k + 1) + i) (omega (arith, rows))))
            ∙ put_q.kept j (λ i h. off (k + 1) i (omega (arith, t.least)) (omega arith) h)
            ∙ t.done.kept j o (λ m i a b c. off m i a (omega arith) c);
      };
    }

pub turn_last :
    (w₀ w : List Float) (first stop : ℕ) (p : List ℕ) (step : ℕ) (y s d : List Float) (k : ℕ) → Turn w₀ w first stop p step y s d k
    → stop ≤ k + 1
    → Forward w₀ w first stop p step
turn_last w₀ w first stop p step y s d k t ge = let e : k + 1 ≡ stop = omega (arith, t.most) in rw e at t.done
