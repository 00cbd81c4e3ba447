-- The cell that `locate` finds, by exact values: inside it holds the point; below the knots it is the first cell, above them the last; and
-- it
-- holds the point that hold puts in its place.
use mathlib.Core.Path.{◌≡◌, refl, sym, subst}
use mathlib.Core.Bool.{Bool, true, false, cond}
use mathlib.Core.List.{List, [], ◌∷◌}
use Prim.Native.Nat.{ℕ, zero, suc, ◌+◌, ◌-◌, ◌<◌, ◌≤◌}
use native.Mathlib.Decide.{dec_lt}
use native.Mathlib.Omega.{arith}
use lib.Ieee.{Float, lt, le, eq}
use lib.Ieee.Scale.{finite}
use Rattle.rules.specs.Numbers.{at}
use Rattle.rules.specs.Locate.{first_at_or_above, locate}
use Rattle.base_numbers.proofs.Scan.{neither}
use Rattle.exact_rationals.specs.Rationals.{rationals, Positive, Least, minus}
use Rattle.exact_rationals.specs.Values.{value}
use Rattle.exact_rationals.proofs.Order.{positive_least, least_number, least_through, ring}
use Rattle.exact_solver.specs.Expressions.{var, t0, sub}
use Rattle.exact_rationals.proofs.Comparisons.{not_less, at_most}
use Rattle.exact_spline.specs.Steps.{h}
use Rattle.exact_calls.specs.Exactly.{exact, HoldsPoint}

-- not at most, so not less
not_at_most : (a b : Float) → le a b ≡ false → lt a b ≡ false
unfolding le
not_at_most a b e = (neither (lt a b) (eq a b) e).0

-- less, so at most
less_at_most : (a b : Float) → lt a b ≡ true → le a b ≡ true
unfolding le
less_at_most a b e = rw e refl

-- the first of the knots k, .., k + d that is at or above the point
record First (x : List Float) (p : Float) (d k r : ℕ) : Type 0 where
  from : k ≤ r
  to : r ≤ k + d
  here : r < k + d → le p (at x r) ≡ true
  before : k < r → le p (at x (r - 1)) ≡ false

first_found : (x : List Float) (p : Float) (d k : ℕ) → First x p d k (first_at_or_above x p d k)
unfolding first_at_or_above
first_found x p zero k =
    record {
      from = omega arith;
      to = omega arith;
      here = λ l. let z : ⊥ = omega arith in absurd z;
      before = λ l. let z : ⊥ = omega arith in absurd z;
    }
first_found x p (suc d) k = go (le p (at x k)) refl (first_found x p d (suc k))
  where
    go : (t : Bool) → le p (at x k) ≡ t → First x p d (suc k) (first_at_or_above x p d (suc k))
        → First x p (suc d) k (elim t [ true ↦ k | false ↦ first_at_or_above x p d (suc k) ])
    go true e later =
        record { from = omega arith; to = omega arith; here = λ l. e; before = λ l. let z : ⊥ = omega arith in absurd z }
    go false e later =
        record {
          from = omega (arith, later.from);
          to = omega (arith, later.to);
          here = λ l. later.here (omega (arith, l));
          before =
              λ l. back (first_at_or_above x p d (suc k)) later.from later.before (dec_lt (suc k) (first_at_or_above x p d (suc k)));
        }
      where
        back : (r : ℕ) → suc k ≤ r → (suc k < r → le p (at x (r - 1)) ≡ false) → Dec (suc k < r) → le p (at x (r - 1)) ≡ false
        back r h f (yes i) = f i
        back r h f (no i) = let same : k ≡ r - 1 = omega arith in subst (λ j. le p (at x j) ≡ false) same e

-- n + 1 finite knots that rise, and a finite point
module _
    (x : List Float) (n : ℕ) (p : Float) (some : 0 < n) (knots : (k : ℕ) → k ≤ n → finite (at x k) ≡ true)
    (rising : (k : ℕ) → k < n → Positive (h rationals (exact x) k)) (point : finite p ≡ true) where
  step : (k : ℕ) → k < n → Least (minus (exact x (k + 1)) (exact x k))
  unfolding h
  step k inside = positive_least _ (rising k inside)

  -- below the first knot it is the first cell, from the last knot on the last
  pub locate_below : lt p (at x 0) ≡ true → locate x n p ≡ 0
  unfolding locate
  locate_below below = rw below refl

  pub locate_above : lt p (at x 0) ≡ false → le (at x n) p ≡ true → locate x n p ≡ n - 1
  unfolding locate
  locate_above not_below above = rw (not_below, above) refl

  -- it is always a cell
  pub locate_inside : locate x n p + 1 < n + 1
  unfolding locate
  locate_inside = go (lt p (at x 0)) (le (at x n) p)
    where
      go : (t u : Bool) → cond t 0 (cond u (n - 1) (first_at_or_above x p n 0 - 1)) + 1 < n + 1
      go true u = omega arith
      go false true = omega arith
      go false false = omega (arith, (first_found x p n 0).to)

  -- between them the cell holds the point
  pub located : lt p (at x 0) ≡ false → lt (at x n) p ≡ false → HoldsPoint (exact x) (locate x n p) (value p)
  unfolding locate
  located not_below not_above = go (lt p (at x 0)) not_below (le (at x n) p) refl
    where
      upmost : Least (minus (exact x n) (value p))
      upmost = not_less (at x n) p (knots n (omega arith)) point not_above

      lowest : Least (minus (value p) (exact x 0))
      lowest = not_less p (at x 0) point (knots 0 (omega arith)) not_below

      last : le (at x n) p ≡ true → HoldsPoint (exact x) (n - 1) (value p)
      last above =
          let e : n ≡ n - 1 + 1 = omega arith in
          record {
            from_lower =
                least_through (exact x (n - 1)) (exact x (n - 1 + 1)) (value p) (step (n - 1) (omega arith))
                (subst (λ k. Least (minus (value p) (exact x k))) e (at_most (at x n) p (knots n (omega arith)) point above));
            to_upper = subst (λ k. Least (minus (exact x k) (value p))) e upmost;
          }

      among : (r : ℕ) → First x p n 0 r → HoldsPoint (exact x) (r - 1) (value p)
      among zero first =
          record {
            from_lower = lowest;
            to_upper =
                least_through (value p) (exact x 0) (exact x 1)
                (at_most p (at x 0) point (knots 0 (omega arith)) (first.here (omega arith))) (step 0 some);
          }
      among (suc r) first =
          let e : r ≡ suc r - 1 = omega arith in
          let f : suc r ≡ suc r - 1 + 1 = omega arith in
          record {
            from_lower =
                subst (λ k. Least (minus (value p) (exact x k))) e
                (not_less p (at x r) point (knots r (omega (arith, first.to)))
                (not_at_most p (at x r) (subst (λ k. le p (at x k) ≡ false) (sym e) (first.before (omega arith)))));
            to_upper = subst (λ k. Least (minus (exact x k) (value p))) f (upper (dec_lt (suc r) n));
          }
        where
          upper : Dec (suc r < n) → Least (minus (exact x (suc r)) (value p))
          upper (yes i) = at_most p (at x (suc r)) point (knots (suc r) (omega arith)) (first.here (omega arith))
          upper (no i) =
              let same : n ≡ suc r = omega (arith, first.to) in
              subst (λ k. Least (minus (exact x k) (value p))) same upmost

      go : (t : Bool) → t ≡ false → (u : Bool) → le (at x n) p ≡ u
          → HoldsPoint (exact x) (cond t 0 (cond u (n - 1) (first_at_or_above x p n 0 - 1))) (value p)
      go t e true above = rw e (last above)
      go t e false below = rw e (among (first_at_or_above x p n 0) (first_found x p n 0))

  -- so the point that hold puts in its place always lies in the cell: outside it is the end knot of that cell
  pub held : HoldsPoint (exact x) (locate x n p) (value (cond (lt p (at x 0)) (at x 0) (cond (lt (at x n) p) (at x n) p)))
  held = go (lt p (at x 0)) refl (lt (at x n) p) refl
    where
      at_a_knot : (k : ℕ) → Least (minus (exact x k) (exact x k))
      at_a_knot k = subst Least (ring (exact x k ∷ []) t0 (sub (var 0) (var 0)) tt tt tt) (least_number 0)

      go : (t : Bool) → lt p (at x 0) ≡ t → (u : Bool) → lt (at x n) p ≡ u
          → HoldsPoint (exact x) (locate x n p) (value (cond t (at x 0) (cond u (at x n) p)))
      go true e u f =
          subst (λ l. HoldsPoint (exact x) l (exact x 0)) (sym (locate_below e))
          (record { from_lower = at_a_knot 0; to_upper = step 0 some })
      go false e true f =
          let same : n ≡ n - 1 + 1 = omega arith in
          subst (λ l. HoldsPoint (exact x) l (exact x n)) (sym (locate_above e (less_at_most (at x n) p f)))
          (record {
            from_lower = subst (λ k. Least (minus (exact x k) (exact x (n - 1)))) (sym same) (step (n - 1) (omega arith));
            to_upper = subst (λ k. Least (minus (exact x k) (exact x n))) same (at_a_knot n);
          })
      go false e false f = located e f
