-- The same on any number of axes: the blend of a cell, with the fractions and widths as the rules compute them, is the exact blend at the
-- exact
-- fractions. One axis is removed after the other; what is off already is blended on, and each axis adds its own.
use mathlib.Core.Path.{◌≡◌, subst}
use mathlib.Core.List.{[], ◌∷◌}
use Prim.Native.Nat.{ℕ, zero, suc, ◌+◌, ◌*◌, ◌^◌, ◌<◌}
use native.Mathlib.Omega.{arith}
use lib.Dec.{T}
use lib.Ieee.{Float, binary64, fits}
use lib.Ieee.Scale.{finite}
use Rattle.rules.specs.Query as Rules
use Rattle.exact_solver.specs.Expressions.{Term, var, t1, t2, t3, add, neg, sub, mul, terms, divides, same, meaning}
use Rattle.exact_rationals.specs.Rationals.{ℚ, Least, number, plus, minus, times, rationals}
use Rattle.exact_rationals.specs.Values.{value}
use Rattle.exact_rationals.proofs.Order.{least_plus, least_times, least_number, ring}
use Rattle.exact_spline.specs.Query as Exact
use Rattle.exact_rounding.specs.Near.{Near, Within, size}
use Rattle.exact_rounding.proofs.Approx.{v, within_times, within_plus, within_size, off, on, near_through, near_same}
use Rattle.exact_blend.specs.BlendErrors as Total
use Rattle.exact_blend.specs.BlendErrors.{moved_by, moved_errors, blended}
use Rattle.exact_blend.proofs.AnyAxes.{k, j, Ready, in_cell}
use Rattle.exact_blend.proofs.InClosedForm.{blend_near_exact}
use Rattle.exact_blend.proofs.AtThePoint.{within_w10, within_w11, moved_near}

-- the weights of the two values
abbrev h00 : Term → Term
h00 t = add (sub (mul t2 (mul (mul t t) t)) (mul t3 (mul t t))) t1

abbrev h01 : Term → Term
h01 t = add (mul (neg t2) (mul (mul t t) t)) (mul t3 (mul t t))

module _ (t : ℚ) (low : Least t) (high : Least (minus (number 1) t)) where
  by : (a b : Term) → T (divides 0 a) → T (divides 0 b) → T (same a b) → Least (meaning rationals (t ∷ []) a)
      → Least (meaning rationals (t ∷ []) b)
  by a b p q e l = subst Least (ring (t ∷ []) a b p q e) l

  abbrev x : Term
  x = var 0

  abbrev x' : Term
  x' = sub t1 (var 0)

  falls : Least (meaning rationals (t ∷ []) (mul (mul x' x') (add t1 (mul t2 x))))
  falls = least_times _ _ (least_times _ _ high high) (least_plus _ _ (least_number 1) (least_times _ _ (least_number 2) low))

  rises : Least (meaning rationals (t ∷ []) (mul (mul x x) (add t1 (mul t2 x'))))
  rises = least_times _ _ (least_times _ _ low low) (least_plus _ _ (least_number 1) (least_times _ _ (least_number 2) high))

  within_h00 : Within (meaning rationals (t ∷ []) (h00 x)) (number 1)
  within_h00 =
      record {
        under = by (mul (mul x x) (add t1 (mul t2 x'))) (sub t1 (h00 x)) tt tt tt rises;
        above = by (add t1 (mul (mul x' x') (add t1 (mul t2 x)))) (add t1 (h00 x)) tt tt tt (least_plus _ _ (least_number 1) falls);
      }

  within_h01 : Within (meaning rationals (t ∷ []) (h01 x)) (number 1)
  within_h01 =
      record {
        under = by (mul (mul x' x') (add t1 (mul t2 x))) (sub t1 (h01 x)) tt tt tt falls;
        above = by (add t1 (mul (mul x x) (add t1 (mul t2 x')))) (add t1 (h01 x)) tt tt tt (least_plus _ _ (least_number 1) rises);
      }

  -- a blend of four numbers is within their bounds, blended
  within_blend : (W P0 M0 P1 M1 A0 B0 A1 B1 : ℚ) → Within W W → Within P0 A0 → Within M0 B0 → Within P1 A1 → Within M1 B1
      → Within (Exact.hermite rationals P0 M0 P1 M1 W t) (blended rationals W A0 B0 A1 B1)
  unfolding Exact.hermite
  within_blend W P0 M0 P1 M1 A0 B0 A1 B1 wide p0 m0 p1 m1 =
      subst (Within _)
      (ring (W ∷ A0 ∷ B0 ∷ A1 ∷ B1 ∷ [])
      (add (add (add (mul t1 (var 1)) (mul (mul t1 (var 0)) (var 2))) (mul t1 (var 3))) (mul (mul t1 (var 0)) (var 4)))
      (add (add (var 1) (var 3)) (mul (var 0) (add (var 2) (var 4)))) tt tt tt)
      (within_plus _ _ _ _
      (within_plus _ _ _ _
      (within_plus _ _ _ _ (within_times _ _ _ _ within_h00 p0)
      (within_times _ _ _ _ (within_times _ _ _ _ (within_w10 t t low high low high) wide) m0))
      (within_times _ _ _ _ within_h01 p1))
      (within_times _ _ _ _ (within_times _ _ _ _ (within_w11 t t low high low high) wide) m1))

-- the blend of differences is the difference of the blends
apart : (U s p0 m0 p1 m1 P0 M0 P1 M1 : ℚ)
    → Exact.hermite rationals (minus p0 P0) (minus m0 M0) (minus p1 P1) (minus m1 M1) U s
    ≡ minus (Exact.hermite rationals p0 m0 p1 m1 U s) (Exact.hermite rationals P0 M0 P1 M1 U s)
unfolding Exact.hermite
apart U s p0 m0 p1 m1 P0 M0 P1 M1 =
    ring (U ∷ s ∷ p0 ∷ m0 ∷ p1 ∷ m1 ∷ P0 ∷ M0 ∷ P1 ∷ M1 ∷ [])
    (Exact.hermite terms (sub (var 2) (var 6)) (sub (var 3) (var 7)) (sub (var 4) (var 8)) (sub (var 5) (var 9)) (var 0) (var 1))
    (sub (Exact.hermite terms (var 2) (var 3) (var 4) (var 5) (var 0) (var 1))
    (Exact.hermite terms (var 6) (var 7) (var 8) (var 9) (var 0) (var 1))) tt tt tt

-- one axis: the exact fraction t and width W, and s and U in their place, off by d and e
pub record Moved (t s W U d e : ℚ) : Type 0 where
  pub t_low : Least t
  pub t_high : Least (minus (number 1) t)
  pub s_low : Least s
  pub s_high : Least (minus (number 1) s)
  pub fraction : Near s t d
  pub width : Near U W e
  pub wide : Within W W
  pub stretched : Within U U

module _ (t s W U d e : ℚ) (moved : Moved t s W U d e) where
  hermite_moved : (p0 m0 p1 m1 P0 M0 P1 M1 A0 B0 A1 B1 E0 F0 E1 F1 : ℚ)
      → Near p0 P0 E0 → Near m0 M0 F0 → Near p1 P1 E1 → Near m1 M1 F1 → Within P0 A0 → Within M0 B0 → Within P1 A1 → Within M1 B1
      → Near (Exact.hermite rationals p0 m0 p1 m1 U s) (Exact.hermite rationals P0 M0 P1 M1 W t)
      (plus (moved_by rationals d e W A0 B0 A1 B1) (blended rationals U E0 F0 E1 F1))
  hermite_moved p0 m0 p1 m1 P0 M0 P1 M1 A0 B0 A1 B1 E0 F0 E1 F1 a b c f p q r g =
      near_through _ _ _ _ _
      (on _ _ _
      (subst (λ z. Within z (blended rationals U E0 F0 E1 F1)) difference
      (within_blend s moved.s_low moved.s_high U (minus p0 P0) (minus m0 M0) (minus p1 P1) (minus m1 M1) E0 F0 E1 F1
      moved.stretched
      (off p0 P0 E0 a) (off m0 M0 F0 b) (off p1 P1 E1 c) (off m1 M1 F1 f))))
      (moved_near t s moved.t_low moved.t_high moved.s_low moved.s_high W U d e P0 M0 P1 M1 A0 B0 A1 B1
      moved.fraction moved.width moved.wide p q r g)
    where
      difference : Exact.hermite rationals (minus p0 P0) (minus m0 M0) (minus p1 P1) (minus m1 M1) U s
          ≡ minus (Exact.hermite rationals p0 m0 p1 m1 U s) (Exact.hermite rationals P0 M0 P1 M1 U s)
      difference = apart U s p0 m0 p1 m1 P0 M0 P1 M1

-- all axes
module _ (t s W U d e : ℕ → ℚ) (moved : (i : ℕ) → Moved (t i) (s i) (W i) (U i) (d i) (e i)) where
  blends_near : (axes lowest : ℕ) (near exact B E : ℕ → ℚ)
      → ((c : ℕ) → c < 4 ^ axes → Near (near c) (exact c) (E c)) → ((c : ℕ) → c < 4 ^ axes → Within (exact c) (B c))
      → Near (Exact.blend rationals axes lowest U s near) (Exact.blend rationals axes lowest W t exact)
      (moved_errors rationals axes lowest d e W U B E)
  unfolding Exact.blend Exact.without_lowest moved_errors
  blends_near zero lowest near exact B E h w = h 0 (omega arith)
  blends_near (suc axes) lowest near exact B E h w =
      blends_near axes (suc lowest) _ _ _ _
      (λ c l.
      let m = in_cell axes c l in
      hermite_moved (t lowest) (s lowest) (W lowest) (U lowest) (d lowest) (e lowest) (moved lowest)
      _ _ _ _ _ _ _ _ _ _ _ _ _ _ _ _
      (h (2 * c) m.0) (h (2 * c + 1) m.1) (h (2 * 4 ^ axes + 2 * c) m.2) (h (2 * 4 ^ axes + 2 * c + 1) m.3)
      (w (2 * c) m.0) (w (2 * c + 1) m.1) (w (2 * 4 ^ axes + 2 * c) m.2) (w (2 * 4 ^ axes + 2 * c + 1) m.3))
      (λ c l.
      let m = in_cell axes c l in
      within_blend (t lowest) (moved lowest).t_low (moved lowest).t_high (W lowest) _ _ _ _ _ _ _ _ (moved lowest).wide
      (w (2 * c) m.0) (w (2 * c + 1) m.1) (w (2 * 4 ^ axes + 2 * c) m.2) (w (2 * 4 ^ axes + 2 * c + 1) m.3))

-- the blend of a cell of floats: their fractions and widths as computed, and the exact ones
pub cell_near : (widths ts : ℕ → Float) (t W d e : ℕ → ℚ)
    → ((i : ℕ) → Ready (widths i) (ts i) (size (widths i)))
    → ((i : ℕ) → Moved (t i) (value (ts i)) (W i) (value (widths i)) (d i) (e i))
    → (axes : ℕ) (cell : ℕ → Float) → ((c : ℕ) → T (fits binary64 (cell c))) → T (finite (Rules.blend axes 0 widths ts cell))
    → Near (value (Rules.blend axes 0 widths ts cell)) (Exact.blend rationals axes 0 W t (λ c. value (cell c)))
    (plus (moved_errors rationals axes 0 d e W (λ i. value (widths i)) (λ c. size (cell c)) (λ c. number 0))
    (plus (times (Total.shares rationals k axes (number 0)) (Total.bounds rationals axes 0 (λ i. size (widths i)) (λ c. size (cell c))))
    (times v (Total.rests rationals k j v axes 0 (λ i. size (widths i)) (λ c. size (cell c)) (λ c. number 0) (number 0)))))
cell_near widths ts t W d e ready moved axes cell good f =
    near_through _ _ _ _ _ (blend_near_exact widths ts ready axes cell good f)
    (blends_near t (λ i. value (ts i)) W (λ i. value (widths i)) d e moved axes 0 (λ c. value (cell c)) (λ c. value (cell c))
    (λ c. size (cell c)) (λ c. number 0) (λ c l. near_same (value (cell c)) (number 0) (least_number 0)) (λ c l. within_size (cell c)))
