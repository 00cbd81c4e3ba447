-- One pass after another along an axis, and one axis after another: what they leave in the working tensor, on plain lists.
use native.Mathlib.Omega.{arith}
use native.Mathlib.Nat.{two-pow-succ, eq-or-lt_of_le}
use mathlib.Core.Path.{◌≡◌, refl, sym, ap, ◌∙◌, subst}
use mathlib.Core.Logic.{⊎_elim}
use mathlib.Core.List.{List}
use mathlib.Core.Bool.{Bool, true, false}
use Prim.Native.Nat.{ℕ, suc, ◌+◌, ◌-◌, ◌^◌, ◌<◌, ◌≤◌}
use native.Mathlib.Numerals.{add-one}
use lib.Dec.{ltb}
use lib.Ieee.{Float}
use borrow.Author.Tests.{ltb-true, ltb-false, lt-ltb, le-ltb}
use Rattle.rules.specs.Sizes.{Grid, points, masks, Place, moved}
use Rattle.rules.specs.Tensor.{slope_along}
use Rattle.rules.proofs.Cases.{arms, arms_one, not_both}
use Rattle.rules.proofs.Places.{moved_on_grid}
use Rattle.rules.proofs.Locality.{slope_along_ext}
use Rattle.tensor_passes.specs.Passes.{solves, working, Passed, AxisPassed, refreshed, Refreshed}
use Rattle.grid.specs.GridOfCall.{On}
use Rattle.tensor_passes.proofs.Pass.{target_below}

module _ (g : Grid) (whole : Bool) (place : Place) where
  -- ---- along one axis

  pub no_pass : (w : List Float) (i : ℕ) → AxisPassed g w w whole place i 0
  no_pass w i = record { same_length = refl; slopes = λ p mask on lt. absurd (omega arith); kept = λ p m on small h. refl }

  module _
      (w₀ w w' : List Float) (i mask : ℕ) (in_use : i < g.axes) (low : mask < 2 ^ i)
      (before : AxisPassed g w₀ w whole place i mask) (pass : Passed g w w' whole place i mask)
    where
      -- the numbers that a pass reads are as they stood
      lane_kept : (p : Place) (k : ℕ) → On g p → k < points g i → working g w (moved p i k) mask ≡ working g w₀ (moved p i k) mask
      lane_kept p k on h =
          before.kept (moved p i k) mask (moved_on_grid (points g) g.axes i k p on h)
          (omega (arith, target_below i mask g.axes in_use low)) (λ other lt e. absurd (omega arith))

      pub one_pass_more : AxisPassed g w₀ w' whole place i (mask + 1)
      one_pass_more = record {
        same_length = pass.same_length ∙ before.same_length;
        slopes = λ p m on lt e. ⊎_elim
            (λ is.
            subst
            (λ (m : ℕ). solves g whole place (m + 2 ^ i) p ≡ true
            → working g w' p (m + 2 ^ i) ≡ slope_along g i m (λ q. working g w₀ q m) p)
            (sym is)
            (λ e. pass.slopes p on e
            ∙ slope_along_ext g i mask (λ q. working g w q mask) (λ q. working g w₀ q mask) p p refl (λ k h. lane_kept p k on h)) e)
            (λ less.
            pass.kept p (m + 2 ^ i) on (target_below i m g.axes in_use (omega arith)) (λ same. absurd (omega arith))
            ∙ before.slopes p m on less e)
            (eq-or-lt_of_le (let l : m ≤ mask = omega arith in l));
        kept = λ p m on small h.
            pass.kept p m on small (h mask (omega arith)) ∙ before.kept p m on small (λ other lt. h other (omega arith));
      }

  -- ---- axis after axis

  module _ (old : Place → ℕ → Float) (i : ℕ) (p : Place) where
    refreshed_low : (mask : ℕ) → mask < 2 ^ i → refreshed g whole place old (suc i) mask p ≡ refreshed g whole place old i mask p
    unfolding refreshed
    refreshed_low mask lt =
        let e = lt-ltb mask (2 ^ i) lt in
        arms_one (ltb mask (2 ^ i)) (λ f. refl) (λ f. not_both (ltb mask (2 ^ i)) e f)

    refreshed_high :
        (mask : ℕ) → 2 ^ i ≤ mask
        → refreshed g whole place old (suc i) mask p
        ≡ arms (solves g whole place (mask - 2 ^ i + 2 ^ i) p)
        (slope_along g i (mask - 2 ^ i) (refreshed g whole place old i (mask - 2 ^ i)) p) (old p mask)
    unfolding refreshed
    refreshed_high mask le =
        let e = le-ltb mask (2 ^ i) le in
        arms_one (ltb mask (2 ^ i)) (λ f. not_both (ltb mask (2 ^ i)) f e) (λ f. refl)

  pub no_axis : (w : List Float) → Refreshed g w w whole place 0
  unfolding refreshed
  no_axis w = record {
    same_length = refl;
    done = λ p mask on small lt. ap (working g w p) (let e : mask ≡ 0 = omega arith in e);
    rest = λ p mask on small le. refl;
  }

  module _
      (w₀ w w' : List Float) (i : ℕ) (in_use : i < g.axes)
      (before : Refreshed g w₀ w whole place i) (axis : AxisPassed g w w' whole place i (2 ^ i))
    where
      abbrev old : Place → ℕ → Float
      old = working g w₀

      high : (p : Place) (mask rest : ℕ) → On g p → mask < masks g → rest < 2 ^ i → mask ≡ rest + 2 ^ i → (b : Bool)
          → solves g whole place (rest + 2 ^ i) p ≡ b
          → working g w' p mask ≡ arms b (slope_along g i rest (refreshed g whole place old i rest) p) (old p mask)
      high p mask rest on small lt e true solved =
          ap (working g w' p) e ∙ axis.slopes p rest on lt solved
          ∙ slope_along_ext g i rest (λ q. working g w q rest) (refreshed g whole place old i rest) p p refl
          (λ k h. before.done (moved p i k) rest (moved_on_grid (points g) g.axes i k p on h) (omega arith) lt)
      high p mask rest on small lt e false left =
          axis.kept p mask on small
          (λ other l same. subst (λ (m : ℕ). solves g whole place (m + 2 ^ i) p ≡ false) (let s : rest ≡ other = omega arith in s) left)
          ∙ before.rest p mask on small (omega arith)

      low_kept : (p : Place) (mask : ℕ) → On g p → mask < masks g → mask < 2 ^ i
          → working g w' p mask ≡ refreshed g whole place old (suc i) mask p
      low_kept p mask on small lt =
          axis.kept p mask on small (λ other l same. absurd (omega arith))
          ∙ before.done p mask on small lt ∙ sym (refreshed_low old i p mask lt)

      pub one_axis_more : Refreshed g w₀ w' whole place (i + 1)
      one_axis_more = rw add-one (record {
        same_length = axis.same_length ∙ before.same_length;
        done = λ p mask on small lt. go p mask on small lt (ltb mask (2 ^ i)) refl;
        rest = λ p mask on small le.
            axis.kept p mask on small (λ other l same. absurd (omega (arith, two-pow-succ i)))
            ∙ before.rest p mask on small (omega (arith, two-pow-succ i));
      })
        where
          go : (p : Place) (mask : ℕ) → On g p → mask < masks g → mask < 2 ^ suc i → (b : Bool) → ltb mask (2 ^ i) ≡ b
              → working g w' p mask ≡ refreshed g whole place old (suc i) mask p
          go p mask on small lt true e = low_kept p mask on small (ltb-true mask (2 ^ i) e)
          go p mask on small lt false e =
              let le = ltb-false mask (2 ^ i) e in
              let rest : mask - 2 ^ i < 2 ^ i = omega (arith, two-pow-succ i) in
              high p mask (mask - 2 ^ i) on small rest (omega arith) (solves g whole place (mask - 2 ^ i + 2 ^ i) p) refl
              ∙ sym (refreshed_high old i p mask le)
