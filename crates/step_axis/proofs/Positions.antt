-- Among rising knots two numbers say where a point lies: the index of its step, and whether it is a knot, by these.
use mathlib.Core.Path.{◌≡◌, refl, sym, ap, ap₂, ◌∙◌}
use mathlib.Core.List.{List}
use mathlib.Core.Bool.{Bool, true, false, not, cond, ◌&&◌}
use Prim.Native.Nat.{ℕ, suc, ◌+◌, ◌-◌, min, ◌<◌, ◌≤◌}
use native.Mathlib.Omega.{arith}
use lib.Dec.{ltb, leb, eqb}
use borrow.Author.Tests.{ltb-true, ltb-false, leb-true, leb-false, lt-ltb, le-ltb, eq-eqb, ne_eqb}
use lib.Ieee.{Float, lt, le, eq}
use Rattle.rules.specs.Numbers.{at}
use Rattle.rules.specs.Locate.{locate}
use Rattle.rules.specs.Step.{lower_step, upper_step}
use Rattle.base_floats.specs.Place.{place, Real, AllFit}
use Rattle.base_floats.proofs.Reals.{lt_is, le_is, eq_is}
use Rattle.axis_locate.specs.CellFound.{Rising}
use Rattle.axis_locate.proofs.Among.{Among, placed, locate_is}

-- ---- the tests of two finite numbers

equal_both : (a b : ℕ) → eqb a b ≡ (leb a b && leb b a)
equal_both a b = go (leb a b) refl (leb b a) refl
  where
    go : (t : Bool) → leb a b ≡ t → (u : Bool) → leb b a ≡ u → eqb a b ≡ (t && u)
    go true p true q = eq-eqb a b (let l = leb-true a b p in let g = leb-true b a q in omega arith)
    go true p false q = ne_eqb a b (λ e. let g = leb-false b a q in omega arith)
    go false p u q = ne_eqb a b (λ e. let l = leb-false a b p in omega arith)

less_turned : (a b : ℕ) → ltb a b ≡ not (leb b a)
less_turned a b = go (leb b a) refl
  where
    go : (t : Bool) → leb b a ≡ t → ltb a b ≡ not t
    go true p = le-ltb a b (leb-true b a p)
    go false p = lt-ltb a b (leb-false b a p)

module _ (v w : Float) (p : Real v) (q : Real w) where
  eq_both : eq v w ≡ (le v w && le w v)
  eq_both = eq_is v w p q ∙ equal_both (place v) (place w) ∙ ap₂ (λ (a b : Bool). a && b) (sym (le_is v w p q)) (sym (le_is w v q p))

  lt_turned : lt v w ≡ not (le w v)
  lt_turned = lt_is v w p q ∙ less_turned (place v) (place w) ∙ ap not (sym (le_is w v q p))

-- ---- n knots, and a point among them

module _ (x : List Float) (n : ℕ) (point : Float) (R : Rising x n) (F : AllFit x) (P : Real point) (some : 2 ≤ n) where
  abbrev last : ℕ
  last = n - 1

  -- the knots from `above` on are at or above the point, those before `below` at or below it
  pub among : Among x point (suc last)
  among = placed x point n R F P some

  abbrev pub above : ℕ
  above = among.above

  abbrev pub below : ℕ
  below = among.below

  pub close : (above ≤ below) × (below ≤ above + 1)
  close = (among.order, among.close)

  -- the cell of the point
  abbrev pub cell : ℕ
  cell = min (above - 1) (last - 1)

  pub cell_is : locate x last point ≡ cell
  cell_is = locate_is x point last among

  module _ (k : ℕ) (l : k < n) where
    real : Real (at x k)
    real = record { fits = F k; finite = R.finite k l }

    pub at_or_above : le point (at x k) ≡ leb above k
    at_or_above = among.at_or_above k (omega arith)

    pub at_or_below : le (at x k) point ≡ ltb k below
    at_or_below = among.at_or_below k (omega arith)

    pub before : lt point (at x k) ≡ leb below k
    before = among.before k (omega arith)

    pub after : lt (at x k) point ≡ not (leb above k)
    after = lt_turned (at x k) point real P ∙ ap not at_or_above

    pub point_is_knot : eq point (at x k) ≡ (leb above k && ltb k below)
    point_is_knot = eq_both point (at x k) P real ∙ ap₂ (λ (a b : Bool). a && b) at_or_above at_or_below

    pub knot_is_point : eq (at x k) point ≡ (ltb k below && leb above k)
    knot_is_point = eq_both (at x k) point real P ∙ ap₂ (λ (a b : Bool). a && b) at_or_below at_or_above

  -- ---- the step downward

  abbrev lower_by : ℕ → ℕ → ℕ → ℕ
  lower_by a b m = cond (leb a last && ltb last b) last (cond (leb a (m + 1) && ltb (m + 1) b) (m + 1) m)

  lower_step_by : lower_step x last point ≡ lower_by above below cell
  unfolding lower_step
  lower_step_by =
      (cc (cell_is, point_is_knot last (omega arith)))
      ∙ ap (λ (t : Bool). cond (leb above last && ltb last below) last (cond t (cell + 1) cell)) (point_is_knot (cell + 1) (omega arith))

  pub lower_step_inside : above ≤ last → lower_step x last point ≡ below - 1
  lower_step_inside h =
      lower_step_by ∙ go (leb above last) refl (ltb last below) refl (leb above (cell + 1)) refl (ltb (cell + 1) below) refl
    where
      go : (t : Bool) → leb above last ≡ t → (u : Bool) → ltb last below ≡ u → (v : Bool) → leb above (cell + 1) ≡ v → (w : Bool)
          → ltb (cell + 1) below ≡ w
          → cond (t && u) last (cond (v && w) (cell + 1) cell) ≡ below - 1
      go true p true q v r w s = let b = ltb-true last below q in let c = close in omega arith
      go true p false q true r true s =
          let b = leb-true above (cell + 1) r in let d = ltb-true (cell + 1) below s in let c = close in omega arith
      go true p false q true r false s = let d = ltb-false (cell + 1) below s in let c = close in omega arith
      go true p false q false r w s = let b = leb-false above (cell + 1) r in absurd (let z : ⊥ = omega arith in z)
      go false p u q v r w s = let b = leb-false above last p in absurd (let z : ⊥ = omega arith in z)

  pub lower_step_above : last < above → lower_step x last point ≡ n - 2
  lower_step_above h = lower_step_by ∙ go (leb above last) refl (leb above (cell + 1)) refl
    where
      go : (t : Bool) → leb above last ≡ t → (v : Bool) → leb above (cell + 1) ≡ v
          → cond (t && ltb last below) last (cond (v && ltb (cell + 1) below) (cell + 1) cell) ≡ n - 2
      go true p v r = let b = leb-true above last p in absurd (let z : ⊥ = omega arith in z)
      go false p true r = let b = leb-true above (cell + 1) r in absurd (let z : ⊥ = omega arith in z)
      go false p false r = omega arith

  -- ---- the step upward

  upper_step_by : upper_step x last point ≡ cond (leb above 0 && ltb 0 below) 0 (cell + 1)
  unfolding upper_step
  upper_step_by = cc (cell_is, point_is_knot 0 (omega arith))

  pub upper_step_inside : 0 < below → upper_step x last point ≡ min above last
  upper_step_inside h = upper_step_by ∙ go (leb above 0) refl (ltb 0 below) refl
    where
      go : (t : Bool) → leb above 0 ≡ t → (u : Bool) → ltb 0 below ≡ u → cond (t && u) 0 (cell + 1) ≡ min above last
      go true p true q = let a = leb-true above 0 p in omega arith
      go true p false q = let b = ltb-false 0 below q in absurd (let z : ⊥ = omega arith in z)
      go false p u q = let a = leb-false above 0 p in omega arith

  pub upper_step_below : below ≡ 0 → upper_step x last point ≡ 1
  upper_step_below h = upper_step_by ∙ go (leb above 0) (ltb 0 below) refl
    where
      go : (t u : Bool) → ltb 0 below ≡ u → cond (t && u) 0 (cell + 1) ≡ 1
      go t true q = let b = ltb-true 0 below q in absurd (let z : ⊥ = omega arith in z)
      go true false q = let c = close in omega arith
      go false false q = let c = close in omega arith
