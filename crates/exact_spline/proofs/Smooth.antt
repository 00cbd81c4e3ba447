-- A surface is twice continuously differentiable along each axis: its derivatives along an axis are the spline of splines through those of
-- the lanes, they are its coefficients around any point, and at a knot value, slope and second derivative of two neighbouring cells meet.
use mathlib.Core.Path.{◌≡◌, refl, sym, ◌∙◌, ap, ap₂, fun_ext}
use mathlib.Core.Bool.{cond}
use mathlib.Core.List.{List, [], ◌∷◌}
use Prim.Native.Nat.{ℕ, zero, suc, ◌+◌, ◌-◌, ◌<◌, ◌≤◌}
use native.Mathlib.Omega.{arith}
use lib.Dec.{eqb, eqb-suc-suc, eqb-suc-zero, eqb-zero-suc}
use Rattle.rules.specs.Numbers.{table}
use Rattle.rules.specs.Sizes.{Place, moved}
use Rattle.rules.proofs.Tables.{at_table}
use Rattle.exact_arithmetic.specs.Arithmetic.{Arithmetic, IsField, IsOrdered}
use Rattle.exact_solver.specs.Expressions.{var, t0, t1, t2, t6, add, sub, mul, div}
use Rattle.exact_solver.proofs.Solver.{solve}
use Rattle.exact_spline.specs.Numbers.{at}
use Rattle.exact_spline.specs.Ends.{Condition, crossed, fewest_points}
use Rattle.exact_spline.specs.Sizes.{Grid}
use Rattle.exact_spline.specs.Steps as Steps
use Rattle.exact_spline.specs.Moments.{moments}
use Rattle.exact_spline.specs.Curve.{cubic, curve_in_cell, lane_slope}
use Rattle.exact_spline.specs.Query.{fraction}
use Rattle.exact_spline.specs.Derivatives.{slope_in_cell, second_in_cell, third_in_cell}
use Rattle.exact_spline.specs.Nested.{
  on_axes,
  other_axes,
  lowest_lane,
  along_lowest,
  nested_splines,
  crossed_grid,
  of_lowest,
  nested_derivative,
}
use Rattle.exact_spline.proofs.Cell as Cell
use Rattle.exact_spline.proofs.Knots as Knots
use Rattle.exact_spline.proofs.Mixtures.{mix, exchange, mix_ap, lane_mix, fewest_same}
use Rattle.exact_spline.proofs.OnALine as OnALine
use Rattle.exact_spline.proofs.LowestAxis.{w0, w1, w2, w3, hermite_mix}

module _ (A : Arithmetic) (F : IsField A) (O : IsOrdered A) where
  infixl 60 ◌⊕◌
  infixl 60 ◌⊖◌
  infixl 70 ◌⊗◌
  infixl 70 ◌⊘◌
  open A use {Number, nought, one, two, six, plus as ◌⊕◌, minus as ◌⊖◌, times as ◌⊗◌, over as ◌⊘◌}

  -- ---- mixtures

  -- the value of a lane that is a mixture of lanes
  module _ (x : ℕ → Number) (n size : ℕ) (full : size ≡ n + 1) (some : 1 ≤ n)
      (rising : (i : ℕ) → i < n → O.Positive (Steps.h A x i))
      (e : Condition Number) (enough : fewest_points e ≤ n + 1) (cell : ℕ) (inside : cell < n) (coordinate : Number) where
    abbrev pub value_of : Condition Number → (ℕ → Number) → Number
    value_of c f = curve_in_cell A x (at A (table size f)) (at A (moments A x n c (table size f))) cell coordinate

    abbrev pub W : Number
    W = Steps.h A x cell

    abbrev pub t : Number
    t = fraction A x cell coordinate

    read : (f : ℕ → Number) (k : ℕ) → k ≤ n → at A (table size f) k ≡ f k
    read f k h = at_table size f k A.absent (omega arith)

    pub blended : (c : Condition Number) → fewest_points c ≤ n + 1 → (f : ℕ → Number)
        → mix A F (w0 A F W t) (w1 A F W t) (w2 A F W t) (w3 A F W t) (f cell) (lane_slope A x n c (table size f) cell)
        (f (cell + 1)) (lane_slope A x n c (table size f) (cell + 1))
        ≡ value_of c f
    blended c few f =
        mix_ap A F (w0 A F W t) (w1 A F W t) (w2 A F W t) (w3 A F W t)
        (sym (read f cell (omega arith))) refl (sym (read f (cell + 1) (omega arith))) refl
        ∙ sym (hermite_mix A F W t _ _ _ _)
        ∙ OnALine.lane_blend A F O x (table size f) n rising c few cell inside coordinate

    pub value_mix : (a b c d : Number) → a ⊕ c ≡ one → (f0 g0 f1 g1 : ℕ → Number)
        → value_of e (λ k. mix A F a b c d (f0 k) (g0 k) (f1 k) (g1 k))
        ≡ mix A F a b c d (value_of e f0) (value_of (crossed A e) g0) (value_of e f1) (value_of (crossed A e) g1)
    value_mix a b c d whole f0 g0 f1 g1 =
        sym (blended e enough (λ k. mix A F a b c d (f0 k) (g0 k) (f1 k) (g1 k)))
        ∙ mix_ap A F (w0 A F W t) (w1 A F W t) (w2 A F W t) (w3 A F W t) refl (slope cell (omega arith)) refl
        (slope (cell + 1) (omega arith))
        ∙ exchange A F (w0 A F W t) (w1 A F W t) (w2 A F W t) (w3 A F W t) a b c d _ _ _ _ _ _ _ _ _ _ _ _ _ _ _ _
        ∙ mix_ap A F a b c d (blended e enough f0) (blended (crossed A e) few g0) (blended e enough f1) (blended (crossed A e) few g1)
      where
        few : fewest_points (crossed A e) ≤ n + 1
        few = omega (arith, enough, fewest_same A F e)

        slope : (i : ℕ) → i ≤ n
            → lane_slope A x n e (table size (λ k. mix A F a b c d (f0 k) (g0 k) (f1 k) (g1 k))) i
            ≡ mix A F a b c d (lane_slope A x n e (table size f0) i) (lane_slope A x n (crossed A e) (table size g0) i)
            (lane_slope A x n e (table size f1) i) (lane_slope A x n (crossed A e) (table size g1) i)
        slope i h = lane_mix A F O x n rising a b c d whole e enough size full some f0 g0 f1 g1 i h

  -- what is asked of the first axes of a grid, and of the others once the lowest is gone
  pub record On (axes : ℕ) (g : Grid A) (cells : Place) : Type 0 where
    pub rising : (i : ℕ) → i < axes → (k : ℕ) → k + 1 < g.points i → O.Positive (Steps.h A (g.knots i) k)
    pub enough : (i : ℕ) → i < axes → fewest_points (g.condition i) ≤ g.points i
    pub inside : (i : ℕ) → i < axes → cells i + 1 < g.points i

  pub others : (axes : ℕ) (g : Grid A) (cells : Place) → On (suc axes) g cells → On axes (other_axes A g axes) (λ i. cells (suc i))
  others axes g cells on =
      record {
        rising = λ i h. on.rising (suc i) (omega arith);
        enough = λ i h. on.enough (suc i) (omega arith);
        inside = λ i h. on.inside (suc i) (omega arith);
      }

  pub crossed_on : (axes : ℕ) (g : Grid A) (cells : Place) → On axes g cells → On axes (crossed_grid A g) cells
  crossed_on axes g cells on =
      record {
        rising = on.rising;
        enough = λ i h. omega (arith, on.enough i h, fewest_same A F (g.condition i));
        inside = on.inside;
      }

  -- the spline of splines through a mixture
  nested_mix : (a b c d : Number) → a ⊕ c ≡ one → (axes : ℕ) (g : Grid A) (f0 g0 f1 g1 : Place → Number) (cells : Place) → On axes g cells
      → (point : ℕ → Number)
      → nested_splines A axes g (λ p. mix A F a b c d (f0 p) (g0 p) (f1 p) (g1 p)) cells point
      ≡ mix A F a b c d (nested_splines A axes g f0 cells point) (nested_splines A axes (crossed_grid A g) g0 cells point)
      (nested_splines A axes g f1 cells point) (nested_splines A axes (crossed_grid A g) g1 cells point)
  unfolding nested_splines along_lowest
  nested_mix a b c d whole zero g f0 g0 f1 g1 cells on point = refl
  nested_mix a b c d whole (suc axes) g f0 g0 f1 g1 cells on point =
      ap (λ s. nested_splines A axes (other_axes A g axes) s (λ i. cells (suc i)) (λ i. point (suc i)))
      (fun_ext (λ p.
      value_mix (g.knots 0) (g.points 0 - 1) (g.points 0)
      (omega (arith, on.inside 0 (omega arith))) (omega (arith, on.inside 0 (omega arith)))
      (λ i h. on.rising 0 (omega arith) i (omega arith))
      (g.condition 0) (omega (arith, on.enough 0 (omega arith), on.inside 0 (omega arith)))
      (cells 0) (omega (arith, on.inside 0 (omega arith))) (point 0)
      a b c d whole (λ k. f0 (on_axes k p)) (λ k. g0 (on_axes k p)) (λ k. f1 (on_axes k p)) (λ k. g1 (on_axes k p))))
      ∙ nested_mix a b c d whole axes (other_axes A g axes) _ _ _ _ (λ i. cells (suc i)) (others axes g cells on) (λ i. point (suc i))

  -- ---- derivatives

  abbrev pub third : (ℕ → Number) → (ℕ → Number) → (ℕ → Number) → ℕ → Number → Number
  third x y m i point = third_in_cell A x y m i

  -- the curve of a lane around a point
  lane_taylor : (x y m : ℕ → Number) (i : ℕ) → ¬ (Steps.h A x i ≡ nought) → (point e : Number)
      → curve_in_cell A x y m i (point ⊕ e)
      ≡ mix A F one (e ⊗ e ⊗ e ⊘ six) nought nought
      (mix A F one e nought (e ⊗ e ⊘ two)
      (curve_in_cell A x y m i point) (slope_in_cell A x y m i point) (curve_in_cell A x y m i point) (second_in_cell A x y m i point))
      (third x y m i point) (curve_in_cell A x y m i point) (third x y m i point)
  unfolding curve_in_cell slope_in_cell second_in_cell third_in_cell
  lane_taylor x y m i wide point e =
      ap (λ d. cubic A (Steps.h A x i) (y i) (y (i + 1)) (m i) (m (i + 1)) d)
      (solve A F 0 (point ∷ e ∷ x i ∷ []) tt (sub (add (var 0) (var 1)) (var 2)) (add (sub (var 0) (var 2)) (var 1)) tt tt tt)
      ∙ Cell.taylor A F (Steps.h A x i) (y i) (y (i + 1)) (m i) (m (i + 1)) wide (point ⊖ x i) e
      ∙ gathered _ _ _ _ e
    where
      gathered : (v s b t e : Number)
          → v ⊕ s ⊗ e ⊕ b ⊗ e ⊗ e ⊘ two ⊕ t ⊗ e ⊗ e ⊗ e ⊘ six
          ≡ mix A F one (e ⊗ e ⊗ e ⊘ six) nought nought (mix A F one e nought (e ⊗ e ⊘ two) v s v b) t v t
      gathered v s b t e =
          solve A F 0 (v ∷ s ∷ b ∷ t ∷ e ∷ []) tt
          (add (add (add (var 0) (mul (var 1) (var 4))) (div (mul (mul (var 2) (var 4)) (var 4)) t2))
          (div (mul (mul (mul (var 3) (var 4)) (var 4)) (var 4)) t6))
          (add (add (add (mul t1
          (add (add (add (mul t1 (var 0)) (mul (var 4) (var 1))) (mul t0 (var 0))) (mul (div (mul (var 4) (var 4)) t2) (var 2))))
          (mul (div (mul (mul (var 4) (var 4)) (var 4)) t6) (var 3))) (mul t0 (var 0))) (mul t0 (var 3)))
          tt tt tt

  sum_of : (n s b t e : Number)
      → mix A F one (e ⊗ e ⊗ e ⊘ six) nought nought (mix A F one e nought (e ⊗ e ⊘ two) n s n b) t n t
      ≡ n ⊕ s ⊗ e ⊕ b ⊗ e ⊗ e ⊘ two ⊕ t ⊗ e ⊗ e ⊗ e ⊘ six
  sum_of v s b t e =
      solve A F 0 (v ∷ s ∷ b ∷ t ∷ e ∷ []) tt
      (add (add (add (mul t1
      (add (add (add (mul t1 (var 0)) (mul (var 4) (var 1))) (mul t0 (var 0))) (mul (div (mul (var 4) (var 4)) t2) (var 2))))
      (mul (div (mul (mul (var 4) (var 4)) (var 4)) t6) (var 3))) (mul t0 (var 0))) (mul t0 (var 3)))
      (add (add (add (var 0) (mul (var 1) (var 4))) (div (mul (mul (var 2) (var 4)) (var 4)) t2))
      (div (mul (mul (mul (var 3) (var 4)) (var 4)) (var 4)) t6))
      tt tt tt

  unit_whole : one ⊕ nought ≡ one
  unit_whole = solve A F 0 [] tt (add t1 t0) t1 tt tt tt

  -- the derivatives along an axis are the coefficients of the spline of splines around any point, along that axis
  pub surface_taylor : (axis axes : ℕ) → axis < axes → (g : Grid A) (samples : Place → Number) (cells : Place) → On axes g cells
      → (point : ℕ → Number) (e : Number)
      → nested_splines A axes g samples cells (λ i. cond (eqb i axis) (point i ⊕ e) (point i))
      ≡ nested_splines A axes g samples cells point
      ⊕ nested_derivative A (slope_in_cell A) axis axes g samples cells point ⊗ e
      ⊕ nested_derivative A (second_in_cell A) axis axes g samples cells point ⊗ e ⊗ e ⊘ two
      ⊕ nested_derivative A third axis axes g samples cells point ⊗ e ⊗ e ⊗ e ⊘ six
  unfolding nested_splines nested_derivative along_lowest of_lowest
  surface_taylor axis zero h g samples cells on point e = let z : ⊥ = omega arith in absurd z
  surface_taylor zero (suc axes) h g samples cells on point e =
      ap₂ (λ s q. nested_splines A axes (other_axes A g axes) s (λ i. cells (suc i)) q)
      (fun_ext (λ p.
      lane_taylor (g.knots 0) (at A (lowest_lane A g samples p))
      (at A (moments A (g.knots 0) (g.points 0 - 1) (g.condition 0) (lowest_lane A g samples p))) (cells 0)
      (O.positive_not_nought _ (on.rising 0 (omega arith) (cells 0) (on.inside 0 (omega arith)))) (point 0) e))
      (fun_ext (λ i. rw (eqb-suc-zero i) refl))
      ∙ nested_mix one (e ⊗ e ⊗ e ⊘ six) nought nought unit_whole axes (other_axes A g axes) _ _ _ _ (λ i. cells (suc i))
      (others axes g cells on) (λ i. point (suc i))
      ∙ mix_ap A F one (e ⊗ e ⊗ e ⊘ six) nought nought
      (nested_mix one e nought (e ⊗ e ⊘ two) unit_whole axes (other_axes A g axes) _ _ _ _ (λ i. cells (suc i))
      (others axes g cells on) (λ i. point (suc i)))
      refl refl refl
      ∙ sum_of _ _ _ _ e
  surface_taylor (suc axis) (suc axes) h g samples cells on point e =
      ap₂ (λ c q. nested_splines A axes (other_axes A g axes) (along_lowest A g samples (cells 0) c) (λ i. cells (suc i)) q)
      (rw (eqb-zero-suc axis) refl)
      (fun_ext (λ i. rw (eqb-suc-suc i axis) refl))
      ∙ surface_taylor axis axes (omega arith) (other_axes A g axes) (along_lowest A g samples (cells 0) (point 0)) (λ i. cells (suc i))
      (others axes g cells on) (λ i. point (suc i)) e

  -- ---- at a knot

  -- what is taken of a lane is the same on both sides of every knot between two cells
  abbrev pub Meets : ((ℕ → Number) → (ℕ → Number) → (ℕ → Number) → ℕ → Number → Number) → Type 0
  Meets D =
      (x : ℕ → Number) (y : List Number) (n : ℕ) → ((i : ℕ) → i < n → O.Positive (Steps.h A x i)) → (c : Condition Number)
      → fewest_points c ≤ n + 1 → (i : ℕ) → i + 1 < n
      → D x (at A y) (at A (moments A x n c y)) i (x (i + 1)) ≡ D x (at A y) (at A (moments A x n c y)) (i + 1) (x (i + 1))

  pub values_meet : Meets (curve_in_cell A)
  values_meet x y n rising c enough i h =
      Knots.at_upper_knot A F x (at A y) (at A (moments A x n c y)) i (O.positive_not_nought _ (rising i (omega arith)))
      ∙ sym (Knots.at_lower_knot A F x (at A y) (at A (moments A x n c y)) (i + 1) (O.positive_not_nought _ (rising (i + 1) h)))

  pub slopes_meet : Meets (slope_in_cell A)
  slopes_meet x y n rising c enough = OnALine.meet A F O x y n rising c enough

  pub seconds_meet : Meets (second_in_cell A)
  seconds_meet x y n rising c enough i h =
      Knots.seconds_always_meet A F x (at A y) (at A (moments A x n c y)) i (O.positive_not_nought _ (rising i (omega arith)))
      (O.positive_not_nought _ (rising (i + 1) h))

  -- so it is of the lanes along the lowest axis
  lowest_meets : (D : (ℕ → Number) → (ℕ → Number) → (ℕ → Number) → ℕ → Number → Number) → Meets D
      → (axes : ℕ) (g : Grid A) (samples : Place → Number) (cells : Place) → On (suc axes) g cells
      → cells 0 + 2 < g.points 0 → (coordinate : Number) → coordinate ≡ g.knots 0 (cells 0 + 1)
      → of_lowest A D g samples (cells 0) coordinate ≡ of_lowest A D g samples (cells 0 + 1) coordinate
  unfolding of_lowest
  lowest_meets D meets axes g samples cells on next coordinate knot =
      fun_ext (λ p.
      ap (lane p (cells 0)) knot
      ∙ meets (g.knots 0) (lowest_lane A g samples p) (g.points 0 - 1) (λ i h. on.rising 0 (omega arith) i (omega arith))
      (g.condition 0)
      (omega (arith, on.enough 0 (omega arith), next)) (cells 0) (omega arith)
      ∙ sym (ap (lane p (cells 0 + 1)) knot))
    where
      lane : Place → ℕ → Number → Number
      lane p =
          D (g.knots 0) (at A (lowest_lane A g samples p))
          (at A (moments A (g.knots 0) (g.points 0 - 1) (g.condition 0) (lowest_lane A g samples p)))

  rest_of_moved : (cells : Place) (k : ℕ) → ◌≡◌ {A = Place} (λ i. moved cells 0 k (suc i)) (λ i. cells (suc i))
  rest_of_moved cells k = fun_ext (λ i. rw (eqb-suc-zero i) refl)

  moved_rest : (cells : Place) (axis k : ℕ) → ◌≡◌ {A = Place} (λ i. moved cells (suc axis) k (suc i)) (moved (λ i. cells (suc i)) axis k)
  moved_rest cells axis k = fun_ext (λ i. rw (eqb-suc-suc i axis) refl)

  module _ (D : (ℕ → Number) → (ℕ → Number) → (ℕ → Number) → ℕ → Number → Number) (meets : Meets D) where
    -- a derivative along an axis at a knot of that axis is the same in the cells on both sides
    pub derivatives_meet : (axis axes : ℕ) → axis < axes → (g : Grid A) (samples : Place → Number) (cells : Place) → On axes g cells
        → cells axis + 2 < g.points axis → (point : ℕ → Number) → point axis ≡ g.knots axis (cells axis + 1)
        → nested_derivative A D axis axes g samples cells point
        ≡ nested_derivative A D axis axes g samples (moved cells axis (cells axis + 1)) point
    unfolding nested_derivative
    derivatives_meet axis zero h g samples cells on next point knot = let z : ⊥ = omega arith in absurd z
    derivatives_meet zero (suc axes) h g samples cells on next point knot =
        ap₂ (λ s c. nested_splines A axes (crossed_grid A (other_axes A g axes)) s c (λ i. point (suc i)))
        (lowest_meets D meets axes g samples cells on next (point 0) knot)
        (sym (rest_of_moved cells (cells 0 + 1)))
    derivatives_meet (suc axis) (suc axes) h g samples cells on next point knot =
        derivatives_meet axis axes (omega arith) (other_axes A g axes) (along_lowest A g samples (cells 0) (point 0)) (λ i. cells (suc i))
        (others axes g cells on) next (λ i. point (suc i)) knot
        ∙ ap₂ (λ c q. nested_derivative A D axis axes (other_axes A g axes) (along_lowest A g samples c (point 0)) q (λ i. point (suc i)))
        (rw (eqb-zero-suc axis) refl)
        (sym (moved_rest cells axis (cells (suc axis) + 1)))

  -- and so is the value
  pub surfaces_meet : (axis axes : ℕ) → axis < axes → (g : Grid A) (samples : Place → Number) (cells : Place) → On axes g cells
      → cells axis + 2 < g.points axis → (point : ℕ → Number) → point axis ≡ g.knots axis (cells axis + 1)
      → nested_splines A axes g samples cells point ≡ nested_splines A axes g samples (moved cells axis (cells axis + 1)) point
  unfolding nested_splines along_lowest of_lowest
  surfaces_meet axis zero h g samples cells on next point knot = let z : ⊥ = omega arith in absurd z
  surfaces_meet zero (suc axes) h g samples cells on next point knot =
      ap₂ (λ s c. nested_splines A axes (other_axes A g axes) s c (λ i. point (suc i)))
      (lowest_meets (curve_in_cell A) values_meet axes g samples cells on next (point 0) knot)
      (sym (rest_of_moved cells (cells 0 + 1)))
  surfaces_meet (suc axis) (suc axes) h g samples cells on next point knot =
      surfaces_meet axis axes (omega arith) (other_axes A g axes) (along_lowest A g samples (cells 0) (point 0)) (λ i. cells (suc i))
      (others axes g cells on) next (λ i. point (suc i)) knot
      ∙ ap₂ (λ c q. nested_splines A axes (other_axes A g axes) (along_lowest A g samples c (point 0)) q (λ i. point (suc i)))
      (rw (eqb-zero-suc axis) refl)
      (sym (moved_rest cells axis (cells (suc axis) + 1)))
