-- Places of the grid and their flat numbers: each way and back, and what moving along an axis does to both.
use mathlib.Core.Path.{◌≡◌, refl, sym, ap, ◌∙◌, subst}
use mathlib.Core.Logic.{◌≢◌}
use mathlib.Core.Bool.{Bool, true, false, cond}
use Prim.Native.Nat.{ℕ, zero, suc, ◌+◌, ◌*◌, ◌/◌, ◌%◌, ◌<◌}
use native.Mathlib.Omega.{arith}
use native.Mathlib.Nat.{div-add-mod', div-lt_iff_lt-mul, mod-lt}
use lib.Arith.{digits_lt, digits_div, digits_mod}
use lib.Dec.{eqb}
use borrow.Author.Tests.{eqb-true, eqb-false, eq-eqb, ne_eqb}
use Rattle.rules.specs.Sizes.{Place, moved, flat, unflat, product_below}

-- p lies on the first d axes of a grid of n points each
abbrev pub OnGrid : (ℕ → ℕ) → ℕ → Place → Type 0
OnGrid n d p = (j : ℕ) → j < d → p j < n j

-- p and q are one place of the first d axes
abbrev pub One : ℕ → Place → Place → Type 0
One d p q = (j : ℕ) → j < d → p j ≡ q j

-- what holds of d and of each number below d holds below suc d
pub below_or_last : (P : ℕ → Type 0) (d j : ℕ) → P d → (j < d → P j) → j < suc d → P j
below_or_last P d j last below lt = go (eqb j d) refl
  where
    go : (b : Bool) → eqb j d ≡ b → P j
    go true e = subst P (sym (eqb-true j d e)) last
    go false e = below (let ne : j ≢ d = eqb-false j d e in omega arith)

-- ---- moving along an axis

pub moved_on : (p : Place) (i k : ℕ) → moved p i k i ≡ k
moved_on p i k = ap (λ (b : Bool). cond b k (p i)) (eq-eqb i i refl)

pub moved_off : (p : Place) (i k j : ℕ) → j ≢ i → moved p i k j ≡ p j
moved_off p i k j ne = ap (λ (b : Bool). cond b k (p j)) (ne_eqb j i ne)

pub moved_on_grid : (n : ℕ → ℕ) (d i k : ℕ) (p : Place) → OnGrid n d p → k < n i → OnGrid n d (moved p i k)
moved_on_grid n d i k p on lt j below = go (eqb j i) refl
  where
    go : (b : Bool) → eqb j i ≡ b → cond b k (p j) < n j
    go true e = subst (λ (x : ℕ). k < n x) (sym (eqb-true j i e)) lt
    go false e = on j below

pub moved_one : (d i k : ℕ) (p q : Place) → One d p q → One d (moved p i k) (moved q i k)
moved_one d i k p q one j below = ap (λ (x : ℕ). cond (eqb j i) k x) (one j below)

-- a place moved to its own index is itself
pub moved_own : (p : Place) (i d : ℕ) → One d (moved p i (p i)) p
moved_own p i d j below = go (eqb j i) refl
  where
    go : (b : Bool) → eqb j i ≡ b → cond b (p i) (p j) ≡ p j
    go true e = ap p (sym (eqb-true j i e))
    go false e = refl

-- ---- flat numbers

pub flat_below : (n : ℕ → ℕ) (d : ℕ) (p : Place) → OnGrid n d p → flat n d p < product_below n d
unfolding flat product_below
flat_below n zero p on = omega arith
flat_below n (suc d) p on = digits_lt (flat_below n d p (λ j below. on j (omega arith))) (on d (omega arith))

pub flat_ext : (n : ℕ → ℕ) (d : ℕ) (p q : Place) → One d p q → flat n d p ≡ flat n d q
unfolding flat
flat_ext n zero p q one = refl
flat_ext n (suc d) p q one = cc (flat_ext n d p q (λ j below. one j (omega arith)), one d (omega arith))

pub unflat_last : (n : ℕ → ℕ) (d f : ℕ) → unflat n (suc d) f d ≡ f % n d
unfolding unflat
unflat_last n d f = ap (λ (b : Bool). cond b (f % n d) (unflat n d (f / n d) d)) (eq-eqb d d refl)

pub unflat_before : (n : ℕ → ℕ) (d f j : ℕ) → j < d → unflat n (suc d) f j ≡ unflat n d (f / n d) j
unfolding unflat
unflat_before n d f j below = ap (λ (b : Bool). cond b (f % n d) (unflat n d (f / n d) j)) (ne_eqb j d (omega arith))

-- the place of a place's number is the place
pub unflat_flat : (n : ℕ → ℕ) (d : ℕ) (p : Place) → OnGrid n d p → One d (unflat n d (flat n d p)) p
unfolding flat
unflat_flat n zero p on j below = absurd (omega arith)
unflat_flat n (suc d) p on j below =
    below_or_last (λ (j : ℕ). unflat n (suc d) (flat n d p * n d + p d) j ≡ p j) d j
    (unflat_last n d _ ∙ digits_mod (flat n d p) (on d (omega arith)))
    (λ before.
    unflat_before n d _ j before
    ∙ ap (λ (f : ℕ). unflat n d f j) (digits_div (flat n d p) (on d (omega arith)))
    ∙ unflat_flat n d p (λ i less. on i (omega arith)) j before)
    below

-- the number of a number's place is the number
pub flat_unflat : (n : ℕ → ℕ) (d f : ℕ) → ((j : ℕ) → j < d → 0 < n j) → f < product_below n d → flat n d (unflat n d f) ≡ f
unfolding flat product_below
flat_unflat n zero f some lt = omega arith
flat_unflat n (suc d) f some lt =
    let rest : flat n d (unflat n (suc d) f) ≡ f / n d =
    flat_ext n d (unflat n (suc d) f) (unflat n d (f / n d)) (λ j below. unflat_before n d f j below)
    ∙ flat_unflat n d (f / n d) (λ j below. some j (omega arith)) ((div-lt_iff_lt-mul (some d (omega arith))).1 lt) in
    cc (rest, unflat_last n d f, div-add-mod' f (n d))

pub unflat_on_grid : (n : ℕ → ℕ) (d f : ℕ) → ((j : ℕ) → j < d → 0 < n j) → OnGrid n d (unflat n d f)
unflat_on_grid n zero f some j below = absurd (omega arith)
unflat_on_grid n (suc d) f some j below =
    below_or_last (λ (j : ℕ). unflat n (suc d) f j < n j) d j
    (subst (λ (x : ℕ). x < n d) (sym (unflat_last n d f)) (mod-lt f (some d (omega arith))))
    (λ before.
    subst (λ (x : ℕ). x < n j) (sym (unflat_before n d f j before))
    (unflat_on_grid n d (f / n d) (λ i less. some i (omega arith)) j before))
    below

-- two places of the grid with one flat number are one
pub flat_one : (n : ℕ → ℕ) (d : ℕ) (p q : Place) → OnGrid n d p → OnGrid n d q → flat n d p ≡ flat n d q → One d p q
flat_one n d p q on_p on_q e j below =
    sym (unflat_flat n d p on_p j below) ∙ ap (λ (f : ℕ). unflat n d f j) e ∙ unflat_flat n d q on_q j below
