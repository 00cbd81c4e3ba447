-- Where any two lanes are one or have no place in common, what `Laid` says by a G is so of each place: it holds its own number.
use native.Mathlib.Omega.{arith}
use mathlib.Core.Path.{◌≡◌, ap, ap₂, sym, ◌∙◌}
use mathlib.Core.Logic.{◌⊎◌, inl, inr, ⊎_elim}
use mathlib.Core.Bool.{cond}
use mathlib.Core.List.{List}
use Prim.Native.Nat.{ℕ, zero, suc, ◌+◌, ◌-◌, ◌*◌, ◌<◌, ◌≤◌}
use native.Mathlib.Nat.{eq-or-lt_of_le}
use lib.Dec.{eqb}
use lib.ListN.{length}
use lib.Ieee.{Float, nan}
use borrow.Author.Tests.{eq-eqb, ne_eqb}
use Rattle.rules.specs.Numbers.{at, table}
use Rattle.rules.specs.Curve.{lane_slope}
use Rattle.rules.specs.declared.Condition.{Condition}
use Rattle.tensor_fours.specs.Fours.{place}
use Rattle.tensor_four_lanes.specs.Groups.{four_slope}
use Rattle.tensor_four_lanes.specs.Sweeps.{Laid}
use Rattle.tensor_fours.proofs.Fours.{same_or_other}

-- the number of the last of n whose place is j; if there is none, f j
pick : (ℕ → ℕ) → (ℕ → Float) → (ℕ → Float) → ℕ → ℕ → Float
pick at_place number f zero j = f j
pick at_place number f (suc n) j = cond (eqb j (at_place n)) (number n) (pick at_place number f n j)

-- that is v, if every one whose place is j has v, and one of them or f has it
picked :
    (at_place : ℕ → ℕ) (number f : ℕ → Float) (j : ℕ) (v : Float) (n : ℕ)
    → ((t : ℕ) → t < n → j ≡ at_place t → number t ≡ v)
    → (f j ≡ v) ⊎ ((t : ℕ) × (t < n) × (j ≡ at_place t)) → pick at_place number f n j ≡ v
unfolding pick
picked at_place number f j v zero all (inl e) = e
picked at_place number f j v zero all (inr one) = absurd (let z = one.1 in omega arith)
picked at_place number f j v (suc n) all some =
    ⊎_elim
    (λ here. rw (eq-eqb j (at_place n) here) (all n (omega arith) here))
    (λ off.
    rw (ne_eqb j (at_place n) off)
    (picked at_place number f j v n (λ t lt e. all t (omega arith) e)
    (⊎_elim
    (λ e. inl e)
    (λ one. ⊎_elim
    (λ same. absurd (off (one.2 ∙ ap at_place same)))
    (λ less. inr (one.0, less, one.2))
    (eq-or-lt_of_le (let le : one.0 ≤ n = (let z = one.1 in omega arith) in le)))
    some)))
    (same_or_other j (at_place n))

module _
    (w w' : List Float) (p : List ℕ) (o step n : ℕ) (numbers : ℕ → ℕ → Float) (laid : Laid w w' p o step n numbers)
    (agree : (l m k i : ℕ) → l < 4 → m < 4 → k < n → i < n → place p l + (o + k * step) ≡ place p m + (o + i * step)
    → numbers k l ≡ numbers i m)
  where
    G : ℕ → ℕ → Float
    G zero j = nan
    G (suc k) j = pick (λ l. place p l + (o + k * step)) (numbers k) (G k) 4 j

    G_is : (m : ℕ) → m ≤ n → (l : ℕ) → l < 4 → (k : ℕ) → k < m → G m (place p l + (o + k * step)) ≡ numbers k l
    unfolding G
    G_is zero le l lt k less = absurd (omega arith)
    G_is (suc m) le l lt k less =
        picked (λ a. place p a + (o + m * step)) (numbers m) (G m) (place p l + (o + k * step)) (numbers k l) 4
        (λ a b e. agree a l m k b lt (omega arith) (omega arith) (sym e))
        (⊎_elim
        (λ same. inr (l, lt, ap (λ (i : ℕ). place p l + (o + i * step)) same))
        (λ before. inl (G_is m (omega arith) l lt k before))
        (eq-or-lt_of_le (let h : k ≤ m = omega arith in h)))

    -- so each place has its own
    pub held : (l : ℕ) → l < 4 → (k : ℕ) → k < n → at w' (place p l + (o + k * step)) ≡ numbers k l
    held l lt k less = laid.there (G n) (λ a b c d. sym (G_is n (omega arith) a b c d)) l lt k less ∙ G_is n (omega arith) l lt k less

-- behind each lane's numbers stand the knot slopes of its spline
pub lanes_held :
    (w w' x : List Float) (condition : Condition) (p : List ℕ) (to step : ℕ)
    → Laid w w' p to step (length x) (four_slope w x condition p step)
    → ((l m k i : ℕ) → l < 4 → m < 4 → k < length x → i < length x → place p l + (to + k * step) ≡ place p m + (to + i * step)
    → (place p l ≡ place p m) × (k ≡ i))
    → (l : ℕ) → l < 4 → (k : ℕ) → k < length x
    → at w' (place p l + (to + k * step)) ≡ lane_slope x (length x - 1) condition (table (length x) (λ j. at w (place p l + j * step))) k
lanes_held w w' x condition p to step laid apart =
    held w w' p to step (length x) (four_slope w x condition p step) laid
    (λ l m k i a b c d e.
    let f = apart l m k i a b c d e in
    ap₂ (λ (q t : ℕ). lane_slope x (length x - 1) condition (table (length x) (λ j. at w (q + j * step))) t) f.0 f.1)
