-- A surface where all coordinates but one are at knots: it is the spline along that line.
use mathlib.Core.Path.{◌≡◌, refl, sym, ◌∙◌, ap, ap₂, subst, fun_ext}
use mathlib.Core.Bool.{Bool, true, false, cond}
use mathlib.Core.List.{List, [], ◌∷◌}
use Prim.Native.Nat.{ℕ, zero, suc, ◌+◌, ◌-◌, ◌*◌, ◌/◌, ◌%◌, ◌^◌, ◌<◌, ◌≤◌}
use native.Mathlib.Decide.{dec_lt, ℕ_discrete}
use native.Mathlib.Omega.{arith}
use lib.Dec.{ltb, eqb}
use lib.Pow.{pow_pos, pow-lt}
use borrow.Author.Tests.{lt-ltb, le-ltb}
use Rattle.rules.specs.Numbers.{table}
use Rattle.rules.specs.Sizes.{Place, moved}
use Rattle.rules.specs.Query.{corner}
use Rattle.rules.proofs.Tables.{at_table, table_ext}
use Rattle.rules.proofs.Cases.{arms_one, not_both}
use Rattle.rules.proofs.Places.{moved_on, moved_off}
use Rattle.exact_arithmetic.specs.Arithmetic.{Arithmetic, IsField, IsOrdered}
use Rattle.exact_solver.specs.Expressions.{var, t0, t1, div, terms}
use Rattle.exact_solver.proofs.Solver.{solve}
use Rattle.exact_arithmetic.proofs.FieldLaws as Laws
use Rattle.exact_spline.specs.Steps as Steps
use Rattle.exact_spline.specs.Ends.{Condition, fewest_points}
use Rattle.exact_spline.specs.Moments.{moment, moments}
use Rattle.exact_spline.specs.Curve.{curve_in_cell, cubic, lane_slope}
use Rattle.exact_spline.specs.Derivatives.{slope_in_cell}
use Rattle.exact_spline.specs.Query.{hermite, without_lowest, blend, fraction, value_in}
use Rattle.exact_spline.specs.Sizes.{Grid}
use Rattle.exact_spline.specs.Numbers.{at}
use Rattle.exact_spline.specs.Tensor.{entry, slope_along}
use Rattle.exact_spline.proofs.Knots as Knots
use Rattle.exact_spline.proofs.OneAxis as OneAxis
use Rattle.exact_spline.proofs.TheSpline as TheSpline
use Rattle.exact_spline.proofs.Positions.{
  bit,
  total,
  total_is,
  fixed,
  free,
  number,
  with_bit,
  with_bit_on,
  with_bit_off,
  bit_of,
  corner_at,
  mask_at,
}

module _ (A : Arithmetic) (F : IsField A) where
  open A use {Number, nought, one}

  -- the blend at the lower knot, and at the upper
  pub hermite_lower : (p0 m0 p1 m1 w : Number) → hermite A p0 m0 p1 m1 w nought ≡ p0
  unfolding hermite
  hermite_lower p0 m0 p1 m1 w =
      solve A F 0 (p0 ∷ m0 ∷ p1 ∷ m1 ∷ w ∷ []) tt (hermite terms (var 0) (var 1) (var 2) (var 3) (var 4) t0) (var 0) tt tt tt

  pub hermite_upper : (p0 m0 p1 m1 w : Number) → hermite A p0 m0 p1 m1 w one ≡ p1
  unfolding hermite
  hermite_upper p0 m0 p1 m1 w =
      solve A F 0 (p0 ∷ m0 ∷ p1 ∷ m1 ∷ w ∷ []) tt (hermite terms (var 0) (var 1) (var 2) (var 3) (var 4) t1) (var 2) tt tt tt

  -- an axis at a knot leaves the numbers of that knot, at the masks without the axis
  at_knot : (size : ℕ) (w t : Number) (cell : ℕ → Number) (e : ℕ) (b : Bool) → t ≡ cond b one nought
      → without_lowest A size w t cell e ≡ cell (2 * size * bit b + 2 * e)
  unfolding without_lowest
  at_knot size w t cell e true h =
      ap (hermite A (cell (2 * e)) (cell (2 * e + 1)) (cell (2 * size + 2 * e)) (cell (2 * size + 2 * e + 1)) w) h
      ∙ hermite_upper (cell (2 * e)) (cell (2 * e + 1)) (cell (2 * size + 2 * e)) (cell (2 * size + 2 * e + 1)) w
      ∙ ap cell (omega arith)
  at_knot size w t cell e false h =
      ap (hermite A (cell (2 * e)) (cell (2 * e + 1)) (cell (2 * size + 2 * e)) (cell (2 * size + 2 * e + 1)) w) h
      ∙ hermite_lower (cell (2 * e)) (cell (2 * e + 1)) (cell (2 * size + 2 * e)) (cell (2 * size + 2 * e + 1)) w
      ∙ ap cell (omega arith)

  module _ (ws ts : ℕ → Number) (b : ℕ → Bool) where
    blend_fixed : (axes lowest : ℕ) (cell : ℕ → Number) → ((i : ℕ) → lowest ≤ i → i < lowest + axes → ts i ≡ cond (b i) one nought)
        → blend A axes lowest ws ts cell ≡ cell (fixed axes lowest b)
    unfolding blend
    blend_fixed zero lowest cell h = refl
    blend_fixed (suc axes) lowest cell h =
        blend_fixed axes (suc lowest) (without_lowest A (4 ^ axes) (ws lowest) (ts lowest) cell) (λ i p q. h i (omega arith) (omega arith))
        ∙ at_knot (4 ^ axes) (ws lowest) (ts lowest) cell (fixed axes (suc lowest) b) (b lowest) (h lowest (omega arith) (omega arith))

    blend_free : (d rest lowest a : ℕ) (cell : ℕ → Number) → a ≡ lowest + d
        → ((i : ℕ) → lowest ≤ i → i < lowest + total d rest → (i ≡ a → ⊥) → ts i ≡ cond (b i) one nought)
        → blend A (total d rest) lowest ws ts cell
        ≡ hermite A (cell (free d rest lowest b 0 0)) (cell (free d rest lowest b 0 1)) (cell (free d rest lowest b 1 0))
        (cell (free d rest lowest b 1 1)) (ws a) (ts a)
    unfolding blend without_lowest
    blend_free zero rest lowest a cell e h =
        let f : lowest ≡ a = omega arith in
        let g : ℕ = fixed rest (suc lowest) b in
        blend_fixed rest (suc lowest) (without_lowest A (4 ^ rest) (ws lowest) (ts lowest) cell)
        (λ i p q. h i (omega arith) (omega arith) (λ k. omega arith))
        ∙ ap₂ (λ p q. hermite A (cell (2 * g)) (cell (2 * g + 1)) (cell (2 * 4 ^ rest + 2 * g)) (cell (2 * 4 ^ rest + 2 * g + 1)) p q)
        (ap ws f) (ap ts f)
        ∙ ap₂ (λ i j. hermite A (cell i) (cell j) (cell (2 * 4 ^ rest + 2 * g)) (cell (2 * 4 ^ rest + 2 * g + 1)) (ws a) (ts a))
        (omega arith) (omega arith)
        ∙ ap₂ (λ i j. hermite A (cell (free zero rest lowest b 0 0)) (cell (free zero rest lowest b 0 1)) (cell i) (cell j) (ws a) (ts a))
        (omega arith) (omega arith)
    blend_free (suc d) rest lowest a cell e h =
        let step : (i : ℕ)
        → without_lowest A (4 ^ total d rest) (ws lowest) (ts lowest) cell i ≡ cell (2 * 4 ^ total d rest * bit (b lowest) + 2 * i)
        = λ i. at_knot (4 ^ total d rest) (ws lowest) (ts lowest) cell i (b lowest)
        (h lowest (omega arith) (omega arith) (λ k. omega arith)) in
        blend_free d rest (suc lowest) a (without_lowest A (4 ^ total d rest) (ws lowest) (ts lowest) cell) (omega arith)
        (λ i p q. h i (omega arith) (omega arith))
        ∙ ap₂ (λ p q. hermite A p q (without_lowest A (4 ^ total d rest) (ws lowest) (ts lowest) cell (free d rest (suc lowest) b 1 0))
        (without_lowest A (4 ^ total d rest) (ws lowest) (ts lowest) cell (free d rest (suc lowest) b 1 1)) (ws a) (ts a))
        (step (free d rest (suc lowest) b 0 0)) (step (free d rest (suc lowest) b 0 1))
        ∙ ap₂ (λ p q. hermite A (cell (free (suc d) rest lowest b 0 0)) (cell (free (suc d) rest lowest b 0 1)) p q (ws a) (ts a))
        (step (free d rest (suc lowest) b 1 0)) (step (free d rest (suc lowest) b 1 1))

  -- a point at a knot has the fraction nought or one
  fraction_at_knot : (x : ℕ → Number) (l : ℕ) (point : Number) (b : Bool) → ¬ (Steps.h A x l ≡ nought) → point ≡ x (l + bit b)
      → fraction A x l point ≡ cond b one nought
  unfolding fraction Steps.h
  fraction_at_knot x l point true w e =
      ap (λ p. A.over (A.minus p (x l)) (Steps.h A x l)) e
      ∙ solve A F 1 (Steps.h A x l ∷ []) (w, tt) (div (var 0) (var 0)) t1 tt tt tt
  fraction_at_knot x l point false w e =
      let f : l + 0 ≡ l = omega arith in
      ap (λ p. A.over (A.minus p (x l)) (Steps.h A x l)) (e ∙ ap x f)
      ∙ ap (λ p. A.over p (Steps.h A x l)) (Laws.minus_self A F (x l))
      ∙ solve A F 1 (Steps.h A x l ∷ []) (w, tt) (div t0 (var 0)) t0 tt tt tt

  -- the entries that a line meets
  pub entry_none : (g : Grid A) (samples : Place → Number) (i : ℕ) (p : Place) → entry A g samples i 0 p ≡ samples p
  unfolding entry
  entry_none g samples zero p = refl
  entry_none g samples (suc i) p =
      arms_one (ltb 0 (2 ^ i)) (λ f. entry_none g samples i p) (λ f. not_both (ltb 0 (2 ^ i)) (lt-ltb 0 (2 ^ i) (pow_pos i)) f)

  pub entry_one : (g : Grid A) (samples : Place → Number) (i a : ℕ) (p : Place) → a < i
      → entry A g samples i (2 ^ a) p ≡ slope_along A g a 0 samples p
  unfolding entry
  entry_one g samples zero a p h = let z : ⊥ = omega arith in absurd z
  entry_one g samples (suc i) a p h = go (dec_lt a i)
      (λ k. entry_one g samples i a p k)
    where
      go : Dec (a < i) → (a < i → entry A g samples i (2 ^ a) p ≡ slope_along A g a 0 samples p)
          → entry A g samples (suc i) (2 ^ a) p ≡ slope_along A g a 0 samples p
      go (yes k) ih =
          arms_one (ltb (2 ^ a) (2 ^ i)) (λ f. ih k) (λ f. not_both (ltb (2 ^ a) (2 ^ i)) (lt-ltb (2 ^ a) (2 ^ i) (pow-lt k)) f)
      go (no k) ih =
          let e : i ≡ a = omega arith in
          arms_one (ltb (2 ^ a) (2 ^ i))
          (λ f. not_both (ltb (2 ^ a) (2 ^ i)) f (ap (λ j. ltb (2 ^ a) (2 ^ j)) e ∙ le-ltb (2 ^ a) (2 ^ a) (omega arith)))
          (λ f.
          ap (λ j. slope_along A g j (2 ^ a - 2 ^ j) (entry A g samples j (2 ^ a - 2 ^ j)) p) e
          ∙ ap (λ j. slope_along A g a j (entry A g samples a j) p) (omega arith)
          ∙ ap (λ f. slope_along A g a 0 f p) (fun_ext (λ q. entry_none g samples a q)))

  -- the curve of lists, and a list of moments in place of a function
  module _ (O : IsOrdered A) (x : ℕ → Number) (y : List Number) (n : ℕ) (rising : (i : ℕ) → i < n → O.Positive (Steps.h A x i))
      (condition : Condition Number)
      (enough : fewest_points condition ≤ n + 1) where
    abbrev m : ℕ → Number
    m = at A (moments A x n condition y)

    pub moment_at : (k : ℕ) → k ≤ n → m k ≡ moment A x (at A y) n condition k
    unfolding moments
    moment_at k h = at_table (n + 1) (moment A x (at A y) n condition) k A.absent (omega arith)

    wide : (i : ℕ) → i < n → ¬ (Steps.h A x i ≡ nought)
    wide i h = O.positive_not_nought _ (rising i h)

    pub meet : (i : ℕ) → i + 1 < n → slope_in_cell A x (at A y) m i (x (i + 1)) ≡ slope_in_cell A x (at A y) m (i + 1) (x (i + 1))
    meet i h =
        Knots.meet_of_interior A F x (at A y) m i (wide i (omega arith)) (wide (i + 1) h)
        (ap₂ A.plus
        (ap₂ (λ p q. A.plus (A.times (Steps.h A x i) p) (A.times (A.times A.two (A.plus (Steps.h A x i) (Steps.h A x (i + 1)))) q))
        (moment_at i (omega arith)) (moment_at (i + 1) (omega arith)))
        (ap (λ p. A.times (Steps.h A x (i + 1)) p) (moment_at (i + 1 + 1) (omega arith)))
        ∙ Knots.interior_of_meet A F x (at A y) (moment A x (at A y) n condition) i (wide i (omega arith)) (wide (i + 1) h)
        ((TheSpline.moments_are_a_spline A F O x (at A y) n rising condition enough).spline.slopes_meet i h))

    -- the curve of the list of moments is that of the moments
    pub curve_of_the_list : (i : ℕ) → i < n → (point : Number)
        → curve_in_cell A x (at A y) m i point ≡ curve_in_cell A x (at A y) (moment A x (at A y) n condition) i point
    unfolding curve_in_cell
    curve_of_the_list i h point =
        ap₂ (λ p q. cubic A (Steps.h A x i) (at A y i) (at A y (i + 1)) p q (A.minus point (x i))) (moment_at i (omega arith))
        (moment_at (i + 1) (omega arith))

    pub lane_blend : (i : ℕ) → i < n → (point : Number) →
        hermite A (at A y i) (lane_slope A x n condition y i) (at A y (i + 1)) (lane_slope A x n condition y (i + 1)) (Steps.h A x i)
        (fraction A x i point)
        ≡ curve_in_cell A x (at A y) m i point
    unfolding lane_slope
    lane_blend = OneAxis.blend_is_curve A F x (at A y) m n wide meet

  module _ (O : IsOrdered A) (g : Grid A) (samples : Place → Number)
      (reads : (p q : Place) → ((i : ℕ) → i < g.axes → p i ≡ q i) → samples p ≡ samples q)
      (rising : (i : ℕ) → i < g.axes → (k : ℕ) → k + 1 < g.points i → O.Positive (Steps.h A (g.knots i) k))
      (a : ℕ) (axis : a < g.axes) (enough : fewest_points (g.condition a) ≤ g.points a)
      (cells : Place) (inside : (i : ℕ) → i < g.axes → cells i + 1 < g.points i)
      (point : ℕ → Number) (b : ℕ → Bool)
      (at_knots : (i : ℕ) → i < g.axes → (i ≡ a → ⊥) → point i ≡ g.knots i (cells i + bit (b i))) where
    abbrev rest : ℕ
    rest = g.axes - 1 - a

    axes_are : g.axes ≡ total a rest
    axes_are = omega (arith, total_is a rest)

    -- the place of the line, on the other axes
    abbrev q : Place
    q i = cells i + bit (b i)

    -- the samples on the line
    abbrev line : List Number
    line = table (g.points a) (λ k. samples (moved q a k))

    -- the corner with c on the free axis
    abbrev P : ℕ → Place
    P c = corner (total a rest) cells (number (total a rest) 0 (with_bit b a c))

    few : (c : ℕ) → c ≤ 1 → (i : ℕ) → with_bit b a c i ≤ 1
    few c h i = go (eqb i a) (b i)
      where
        go : (t u : Bool) → cond t c (bit u) ≤ 1
        go true u = h
        go false true = omega arith
        go false false = omega arith

    P_is : (c : ℕ) → c ≤ 1 → (i : ℕ) → i < g.axes → P c i ≡ cells i + with_bit b a c i
    unfolding corner
    P_is c h i k =
        ap (λ j. cells i + j)
        (bit_of (total a rest) 0 i (with_bit b a c) (few c h) (subst (λ j. i < j) axes_are k) ∙ ap (with_bit b a c) (omega arith))

    on_line : (c : ℕ) → c ≤ 1 → (i : ℕ) → i < g.axes → P c i ≡ moved q a (cells a + c) i
    on_line c h i k = go (ℕ_discrete i a)
      where
        go : Dec (i ≡ a) → P c i ≡ moved q a (cells a + c) i
        go (yes e) =
            P_is c h i k ∙ ap₂ ◌+◌ (ap cells e) (with_bit_on b a c i e) ∙ sym (ap (moved q a (cells a + c)) e ∙ moved_on q a (cells a + c))
        go (no e) = P_is c h i k ∙ ap (λ j. cells i + j) (with_bit_off b a c i e) ∙ sym (moved_off q a (cells a + c) i e)

    same_lane : (c : ℕ) → c ≤ 1 → (j i : ℕ) → i < g.axes → moved (P c) a j i ≡ moved q a j i
    same_lane c h j i k = go (ℕ_discrete i a)
      where
        go : Dec (i ≡ a) → moved (P c) a j i ≡ moved q a j i
        go (yes e) = ap (moved (P c) a j) e ∙ moved_on (P c) a j ∙ sym (ap (moved q a j) e ∙ moved_on q a j)
        go (no e) = moved_off (P c) a j i e ∙ P_is c h i k ∙ ap (λ j. cells i + j) (with_bit_off b a c i e) ∙ sym (moved_off q a j i e)

    abbrev numbers : Place → ℕ → Number
    numbers p mask = entry A g samples g.axes mask p

    abbrev cell : ℕ → Number
    cell e = numbers (corner (total a rest) cells (e / 2 ^ total a rest)) (e % 2 ^ total a rest)

    value_at : (c : ℕ) → c ≤ 1 → cell (free a rest 0 b c 0) ≡ at A line (cells a + c)
    value_at c h =
        ap₂ (λ bits mask. numbers (corner (total a rest) cells bits) mask)
        (corner_at a rest a b c (omega arith) 0 (omega arith)) (mask_at a rest a b c (omega arith) 0 (omega arith) ∙ omega arith)
        ∙ entry_none g samples g.axes (P c)
        ∙ reads (P c) (moved q a (cells a + c)) (on_line c h)
        ∙ sym (at_table (g.points a) (λ k. samples (moved q a k)) (cells a + c) A.absent (omega (arith, inside a axis)))

    slope_at : (c : ℕ) → c ≤ 1
        → cell (free a rest 0 b c 1) ≡ lane_slope A (g.knots a) (g.points a - 1) (g.condition a) line (cells a + c)
    unfolding slope_along
    slope_at c h =
        ap₂ (λ bits mask. numbers (corner (total a rest) cells bits) mask)
        (corner_at a rest a b c (omega arith) 1 (omega arith)) (mask_at a rest a b c (omega arith) 1 (omega arith) ∙ omega arith)
        ∙ entry_one g samples g.axes a (P c) axis
        ∙ ap₂ (λ l i. lane_slope A (g.knots a) (g.points a - 1) (g.condition a) l i)
        (table_ext (g.points a) _ _ (λ k i. reads (moved (P c) a k) (moved q a k) (same_lane c h k)))
        (P_is c h a axis ∙ ap (λ j. cells a + j) (with_bit_on b a c a refl))

    abbrev ws : ℕ → Number
    ws i = Steps.h A (g.knots i) (cells i)

    abbrev ts : ℕ → Number
    ts i = fraction A (g.knots i) (cells i) (point i)

    -- on the line the surface is the spline through the samples of the line
    pub surface_on_a_line :
        value_in A g numbers cells point
        ≡ curve_in_cell A (g.knots a) (at A line) (at A (moments A (g.knots a) (g.points a - 1) (g.condition a) line)) (cells a)
        (point a)
    unfolding value_in
    surface_on_a_line =
        let z : cells a + 0 ≡ cells a = omega arith in
        ap (λ axes. blend A axes 0 ws ts (λ e. numbers (corner axes cells (e / 2 ^ axes)) (e % 2 ^ axes))) axes_are
        ∙ blend_free ws ts b a rest 0 a cell (omega arith)
        (λ i _ k other.
        fraction_at_knot (g.knots i) (cells i) (point i) (b i)
        (O.positive_not_nought _
        (rising i (subst (λ j. i < j) (sym axes_are) (subst (λ j. i < j) (omega arith) k)) (cells i)
        (inside i (subst (λ j. i < j) (sym axes_are) (subst (λ j. i < j) (omega arith) k)))))
        (at_knots i (subst (λ j. i < j) (sym axes_are) (subst (λ j. i < j) (omega arith) k)) other))
        ∙ ap₂ (λ p s. hermite A p s (cell (free a rest 0 b 1 0)) (cell (free a rest 0 b 1 1)) (ws a) (ts a))
        (value_at 0 (omega arith) ∙ ap (at A line) z)
        (slope_at 0 (omega arith) ∙ ap (lane_slope A (g.knots a) (g.points a - 1) (g.condition a) line) z)
        ∙ ap₂
        (λ p s. hermite A (at A line (cells a)) (lane_slope A (g.knots a) (g.points a - 1) (g.condition a) line (cells a)) p s (ws a)
        (ts a))
        (value_at 1 (omega arith))
        (slope_at 1 (omega arith))
        ∙ lane_blend O (g.knots a) line (g.points a - 1) (λ i h. rising a axis i (omega arith)) (g.condition a)
        (omega (arith, inside a axis)) (cells a)
        (omega (arith, inside a axis)) (point a)
