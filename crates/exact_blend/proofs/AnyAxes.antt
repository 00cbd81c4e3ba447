-- The blend of a cell of any number of axes, each operation rounded, is the exact one to within a bound that is worked out axis by axis.
use mathlib.Core.Path.{◌≡◌, refl, sym, subst}
use mathlib.Core.List.{[], ◌∷◌}
use Prim.Native.Nat.{ℕ, zero, suc, ◌+◌, ◌-◌, ◌*◌, ◌/◌, ◌%◌, ◌^◌, ◌<◌}
use native.Mathlib.Nat.{pow-succ'}
use native.Mathlib.Omega.{arith}
use native.Mathlib.Decide.{dec_lt}
use lib.Dec.{T}
use lib.Ieee.{Float, binary64, fits}
use lib.Ieee.Fits.{add-fits}
use lib.Ieee.Scale.{finite}
use Rattle.exact_solver.specs.Expressions.{var, t1, terms, add, sub, mul}
use Rattle.exact_rationals.specs.Rationals.{ℚ, number, rationals, plus, minus, times, Least}
use Rattle.exact_rationals.specs.Values.{value}
use Rattle.exact_rounding.specs.Near.{size, Near, Within}
use Rattle.exact_rationals.proofs.Order.{ring}
use Rattle.exact_rounding.proofs.Approx.{
  Approx,
  v,
  within_times,
  within_plus,
  within_near,
  within_size,
  near_through,
  on,
  off,
  add_finite,
  mul_finite,
}
use Rattle.rules.specs.Query as Rules
use Rattle.exact_spline.specs.Query as Exact
use Rattle.exact_blend.specs.BlendErrors as Total
use Rattle.exact_blend.proofs.Weights.{amount, within_h00, within_h10, within_h01, within_h11}
use Rattle.exact_blend.proofs.OneAxis.{blend_near}

-- nineteen roundings, and five
abbrev pub k : ℚ
k = amount 19456

abbrev pub j : ℚ
j = number 5

-- a width within W and a fraction between nought and one
pub record Ready (width t : Float) (W : ℚ) : Type 0 where
  pub width_fits : T (fits binary64 width)
  pub t_fits : T (fits binary64 t)
  pub width_within : Within (value width) W
  pub low : Least (value t)
  pub high : Least (minus (number 1) (value t))

-- the blend of differences is the difference of blends
linear : (a b c d p q r s w t : ℚ)
    → Exact.hermite rationals (minus a p) (minus b q) (minus c r) (minus d s) w t
    ≡ minus (Exact.hermite rationals a b c d w t) (Exact.hermite rationals p q r s w t)
unfolding Exact.hermite
linear a b c d p q r s w t =
    ring (a ∷ b ∷ c ∷ d ∷ p ∷ q ∷ r ∷ s ∷ w ∷ t ∷ [])
    (Exact.hermite terms (sub (var 0) (var 4)) (sub (var 1) (var 5)) (sub (var 2) (var 6)) (sub (var 3) (var 7)) (var 8) (var 9))
    (sub (Exact.hermite terms (var 0) (var 1) (var 2) (var 3) (var 8) (var 9))
    (Exact.hermite terms (var 4) (var 5) (var 6) (var 7) (var 8) (var 9)))
    tt tt tt

ones : (P0 M0 P1 M1 W : ℚ)
    → plus (plus (plus (times (number 1) P0) (times (times (number 1) W) M0)) (times (number 1) P1)) (times (times (number 1) W) M1)
    ≡ Total.blended rationals W P0 M0 P1 M1
ones P0 M0 P1 M1 W =
    ring (P0 ∷ M0 ∷ P1 ∷ M1 ∷ W ∷ [])
    (add (add (add (mul t1 (var 0)) (mul (mul t1 (var 4)) (var 1))) (mul t1 (var 2))) (mul (mul t1 (var 4)) (var 3)))
    (Total.blended terms (var 4) (var 0) (var 1) (var 2) (var 3))
    tt tt tt

module _ (width t : Float) (W : ℚ) (ready : Ready width t W) where
  open ready use {width_fits, t_fits, width_within, low, high}

  hermite_within : (a b c d A B C D : ℚ) → Within a A → Within b B → Within c C → Within d D
      → Within (Exact.hermite rationals a b c d (value width) (value t)) (Total.blended rationals W A B C D)
  unfolding Exact.hermite
  hermite_within a b c d A B C D p q r s =
      subst (λ z. Within (Exact.hermite rationals a b c d (value width) (value t)) z) (ones A B C D W)
      (within_plus _ _ _ _ (within_plus _ _ _ _ (within_plus _ _ _ _
      (within_times _ _ _ _ (within_h00 t t_fits low high) p)
      (within_times _ _ _ _ (within_times _ _ _ _ (within_h10 t t_fits low high) width_within) q))
      (within_times _ _ _ _ (within_h01 t t_fits low high) r))
      (within_times _ _ _ _ (within_times _ _ _ _ (within_h11 t t_fits low high) width_within) s))

  hermite_fits : (p0 m0 p1 m1 : Float) → T (fits binary64 (Rules.hermite p0 m0 p1 m1 width t))
  unfolding Rules.hermite
  hermite_fits p0 m0 p1 m1 = add-fits binary64 _ _

  -- a blend of numbers that are themselves approximate
  pub approx_hermite : (p0 m0 p1 m1 : Float) (a b c d A B C D E F G H : ℚ) → Approx p0 a A E → Approx m0 b B F → Approx p1 c C G
      → Approx m1 d D H
      → T (finite (Rules.hermite p0 m0 p1 m1 width t))
      → Approx (Rules.hermite p0 m0 p1 m1 width t) (Exact.hermite rationals a b c d (value width) (value t))
      (Total.blended rationals W A B C D) (Total.passed_on rationals k j v W A B C D E F G H)
  approx_hermite p0 m0 p1 m1 a b c d A B C D E F G H p q r s f =
      let own = blend_near p0 m0 p1 m1 width t (plus A E) (plus B F) (plus C G) (plus D H) W p.fits q.fits r.fits
      s.fits width_fits t_fits
      (within_near _ _ _ _ p.near p.within) (within_near _ _ _ _ q.near q.within) (within_near _ _ _ _ r.near r.within)
      (within_near _ _ _ _ s.near s.within)
      width_within low high f in
      record {
        fits = hermite_fits p0 m0 p1 m1;
        within = hermite_within a b c d A B C D p.within q.within r.within s.within;
        near =
            near_through _ _ _ _ _ own
            (on _ _ _
            (subst (λ z. Within z (Total.blended rationals W E F G H))
            (linear (value p0) (value m0) (value p1) (value m1) a b c d (value width) (value t))
            (hermite_within _ _ _ _ E F G H (off _ _ _ p.near) (off _ _ _ q.near) (off _ _ _ r.near) (off _ _ _ s.near))));
      }

  -- a finite blend is of finite numbers
  pub record Inputs (p0 m0 p1 m1 : Float) : Type 0 where
    pub first : T (finite p0)
    pub second : T (finite m0)
    pub third : T (finite p1)
    pub fourth : T (finite m1)

  pub finite_inputs : (p0 m0 p1 m1 : Float) → T (finite (Rules.hermite p0 m0 p1 m1 width t)) → Inputs p0 m0 p1 m1
  unfolding Rules.hermite
  finite_inputs p0 m0 p1 m1 f =
      let a = add_finite _ _ f in
      let b = add_finite _ _ a.0 in
      let c = add_finite _ _ b.0 in
      record {
        first = (mul_finite _ _ c.0).1;
        second = (mul_finite _ _ c.1).1;
        third = (mul_finite _ _
            b.1).1;
        fourth = (mul_finite _ _ a.1).1;
      }

approx_of : (x x' : Float) (y b e : ℚ) → x ≡ x' → Approx x y b e → Approx x' y b e
approx_of x x' y b e is p = subst (λ z. Approx z y b e) is p

-- where the four numbers of a blend stand in a cell of one axis more
pub in_cell : (axes e : ℕ) → e < 4 ^ axes
    → (2 * e < 4 ^ suc axes) × (2 * e + 1 < 4 ^ suc axes) × (2 * 4 ^ axes + 2 * e < 4 ^ suc axes) ×
    (2 * 4 ^ axes + 2 * e + 1 < 4 ^ suc axes)
in_cell axes e l = go (4 ^ axes) (4 ^ suc axes) l (pow-succ' 4 axes)
  where
    go : (a b : ℕ) → e < a → b ≡ 4 * a → (2 * e < b) × (2 * e + 1 < b) × (2 * a + 2 * e < b) × (2 * a + 2 * e + 1 < b)
    go a b h q = (omega arith, omega arith, omega arith, omega arith)

module _ (widths ts : ℕ → Float) (W : ℕ → ℚ) (ready : (i : ℕ) → Ready (widths i) (ts i) (W i)) where
  lowest_is : (size : ℕ) (width t : Float) (cell : ℕ → Float) (e : ℕ)
      → Rules.without_lowest size width t cell e
      ≡ Rules.hermite (cell (2 * e)) (cell (2 * e + 1)) (cell (2 * size + 2 * e)) (cell (2 * size + 2 * e + 1)) width t
  unfolding Rules.without_lowest
  lowest_is size width t cell e = refl

  -- which of the four numbers of a blend a number of the cell is
  four : (P : ℕ → Type 0) (size : ℕ) → ((e : ℕ) → e < size → P (2 * e) × P (2 * e + 1) × P (2 * size + 2 * e) × P (2 * size + 2 * e + 1))
      → (e : ℕ) → e < 4 * size → P e
  four P size h e l = go (dec_lt e (2 * size)) (dec_lt (e % 2) 1)
    where
      go : Dec (e < 2 * size) → Dec (e % 2 < 1) → P e
      go (yes a) (yes b) = subst P (omega arith) (h (e / 2) (omega arith)).0
      go (yes a) (no b) = subst P (omega arith) (h (e / 2) (omega arith)).1
      go (no a) (yes b) = subst P (omega arith) (h ((e - 2 * size) / 2) (omega arith)).2
      go (no a) (no b) = subst P (omega arith) (h ((e - 2 * size) / 2) (omega arith)).3

  blend_finite : (axes lowest : ℕ) (cell : ℕ → Float) → T (finite (Rules.blend axes lowest widths ts cell)) → (e : ℕ) → e < 4 ^ axes
      → T (finite (cell e))
  unfolding Rules.blend
  blend_finite zero lowest cell f e l = subst (λ z. T (finite (cell z))) (first e l) f
    where
      first : (e : ℕ) → e < 1 → 0 ≡ e
      first e l = omega arith
  blend_finite (suc axes) lowest cell f e l =
      four (λ e. T (finite (cell e))) (4 ^ axes)
      (λ e l.
      let i = finite_inputs (widths lowest) (ts lowest) (W lowest) (ready lowest) _ _ _ _
      (subst (λ z. T (finite z)) (lowest_is (4 ^ axes) (widths lowest) (ts lowest) cell e)
      (blend_finite axes (suc lowest) (Rules.without_lowest (4 ^ axes) (widths lowest) (ts lowest) cell) f e l)) in
      (i.first, i.second, i.third, i.fourth))
      e (subst (λ z. e < z) (pow-succ' 4 axes) l)

  pub approx_blend : (axes lowest : ℕ) (cell : ℕ → Float) (exact B E : ℕ → ℚ)
      → ((e : ℕ) → e < 4 ^ axes → Approx (cell e) (exact e) (B e) (E e))
      → T (finite (Rules.blend axes lowest widths ts cell))
      → Approx (Rules.blend axes lowest widths ts cell)
      (Exact.blend rationals axes lowest (λ i. value (widths i)) (λ i. value (ts i)) exact)
      (Total.bounds rationals axes lowest W B) (Total.errors rationals k j v axes lowest W B E)
  unfolding Rules.blend Exact.blend Exact.without_lowest Total.bounds Total.errors
  approx_blend zero lowest cell exact B E h f = h 0 (omega arith)
  approx_blend (suc axes) lowest cell exact B E h f =
      approx_blend axes (suc lowest) (Rules.without_lowest (4 ^ axes) (widths lowest) (ts lowest) cell)
      (Exact.without_lowest rationals (4 ^ axes) (value (widths lowest)) (value (ts lowest)) exact) _ _
      (λ e l.
      let m = in_cell axes e l in
      let g = blend_finite axes (suc lowest) (Rules.without_lowest (4 ^ axes) (widths lowest) (ts lowest) cell) f e l in
      let is = lowest_is (4 ^ axes) (widths lowest) (ts lowest) cell e in
      approx_of _ _ _ _ _ (sym is)
      (approx_hermite (widths lowest) (ts lowest) (W lowest) (ready lowest) _ _ _ _ _ _ _ _ _ _ _ _ _ _ _ _
      (h (2 * e) m.0) (h (2 * e + 1) m.1) (h (2 * 4 ^ axes + 2 * e) m.2) (h (2 * 4 ^ axes + 2 * e + 1) m.3)
      (subst (λ z. T (finite z)) is g)))
      f

-- one axis, with the sizes of the floats themselves
pub hermite_near : (p0 m0 p1 m1 width t : Float) → T (fits binary64 p0) → T (fits binary64 m0) → T (fits binary64 p1) → T (fits binary64 m1)
    → T (fits binary64 width) → T (fits binary64 t)
    → Least (value t) → Least (minus (number 1) (value t)) → T (finite (Rules.hermite p0 m0 p1 m1 width t))
    → Near (value (Rules.hermite p0 m0 p1 m1 width t))
    (Exact.hermite rationals (value p0) (value m0) (value p1) (value m1) (value width) (value t))
    (plus (times k (plus (plus (size p0) (size p1)) (times (size width) (plus (size m0) (size m1)))))
    (times (times j v) (plus (plus (number 1) (size m0)) (size m1))))
hermite_near p0 m0 p1 m1 width t a b c d e f low high h =
    blend_near p0 m0 p1 m1 width t (size p0) (size m0) (size p1) (size m1) (size width) a b c d e f (within_size p0) (within_size m0)
    (within_size p1) (within_size m1) (within_size width) low high h
