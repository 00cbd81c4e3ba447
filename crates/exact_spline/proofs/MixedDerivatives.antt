-- The number of a tensor at a place and a mask is the mixed derivative that the mask names, of the spline of splines at that place.
use mathlib.Core.Path.{◌≡◌, refl, sym, ◌∙◌, ap, ap₂, fun_ext}
use mathlib.Core.List.{List}
use mathlib.Core.Logic.{◌⊎◌, inl, inr}
use Prim.Native.Nat.{ℕ, zero, suc, ◌+◌, ◌-◌, ◌*◌, ◌/◌, ◌%◌, ◌^◌, ◌<◌, ◌≤◌}
use native.Mathlib.Decide.{dec_lt, ℕ_discrete}
use native.Mathlib.Nat.{pow-suc}
use native.Mathlib.Omega.{arith}
use lib.Dec.{eqb}
use borrow.Author.Tests.{eq-eqb, ne_eqb}
use Rattle.rules.specs.Numbers.{table}
use Rattle.rules.specs.Sizes.{Place, moved}
use Rattle.rules.proofs.Tables.{at_table}
use Rattle.exact_arithmetic.specs.Arithmetic.{Arithmetic, IsField, IsOrdered}
use Rattle.exact_spline.specs.Numbers.{at}
use Rattle.exact_spline.specs.Ends.{Condition, crossed, condition_at, fewest_points}
use Rattle.exact_spline.specs.Sizes.{Grid}
use Rattle.exact_spline.specs.Steps as Steps
use Rattle.exact_spline.specs.Moments.{moments}
use Rattle.exact_spline.specs.Curve.{curve_in_cell, lane_slope}
use Rattle.exact_spline.specs.Tensor.{entry, slope_along}
use Rattle.exact_spline.specs.Derivatives.{slope_in_cell}
use Rattle.exact_spline.specs.Nested.{on_axes, other_axes, lowest_lane, along_lowest, crossed_grid, of_lowest, nested_mixed}
use Rattle.exact_spline.proofs.Tests.{cond_true, cond_false}
use Rattle.exact_spline.proofs.Knots as Knots
use Rattle.exact_spline.proofs.OneAxis as OneAxis
use Rattle.exact_spline.proofs.OnALine as OnALine
use Rattle.exact_spline.proofs.OnALine.{entry_none, entry_one}
use Rattle.exact_spline.proofs.LowestAxis.{entry_low, entry_high, condition_even, condition_odd, moved_other, moved_lowest}
use Rattle.exact_spline.proofs.Smooth as Smooth

module _ (A : Arithmetic) (F : IsField A) where
  open A use {Number, nought}

  -- ---- the numbers of a tensor at one index on the lowest axis

  -- masks without the lowest axis: the tensor of the others through the samples there
  module _ (g : Grid A) (axes : ℕ) (samples : Place → Number) (c : ℕ) where
    abbrev there : Place → Number
    there q = samples (on_axes c q)

    without_it : (i mask : ℕ) → mask < 2 ^ i → (p : Place)
        → entry A g samples (suc i) (2 * mask) (on_axes c p) ≡ entry A (other_axes A g axes) there i mask p
    unfolding entry slope_along
    without_it zero mask b p =
        let e : mask ≡ 0 = omega arith in
        ap (λ m. entry A g samples 1 (2 * m) (on_axes c p)) e ∙ entry_none A F g samples 1 (on_axes c p)
    without_it (suc i) mask b p = go (dec_lt mask (2 ^ i)) (λ m h q. without_it i m h q)
      where
        go : Dec (mask < 2 ^ i)
            → ((m : ℕ) → m < 2 ^ i → (q : Place) → entry A g samples (suc i) (2 * m) (on_axes c q) ≡ entry A
            (other_axes A g axes) there i m q)
            → entry A g samples (suc (suc i)) (2 * mask) (on_axes c p) ≡ entry A (other_axes A g axes) there (suc i) mask p
        go (yes k) ih =
            entry_low A F g samples (suc i) (2 * mask) (on_axes c p) (omega (arith, pow-suc 2 i))
            ∙ ih mask k p
            ∙ sym (entry_low A F (other_axes A g axes) there i mask p k)
        go (no k) ih =
            let rest : 2 * mask - 2 ^ suc i ≡ 2 * (mask - 2 ^ i) = omega (arith, pow-suc 2 i) in
            entry_high A F g samples (suc i) (2 * mask) (on_axes c p) (omega (arith, pow-suc 2 i))
            ∙ ap (λ m. slope_along A g (suc i) m (entry A g samples (suc i) m) (on_axes c p)) rest
            ∙ ap₂ (λ e f. lane_slope A (g.knots (suc i)) (g.points (suc i) - 1) e (table (g.points (suc i)) f) (p i))
            (condition_even A F (mask - 2 ^ i) (g.condition (suc i)))
            (fun_ext (λ k.
            ap (entry A g samples (suc i) (2 * (mask - 2 ^ i))) (sym (moved_other c p i k))
            ∙ ih (mask - 2 ^ i) (omega (arith, pow-suc 2 i)) (moved p i k)))
            ∙ sym (entry_high A F (other_axes A g axes) there i mask p (omega arith))

    -- masks with it: the tensor of the others, their conditions crossed, through the slopes there
    abbrev slopes : Place → Number
    slopes q = slope_along A g 0 0 samples (on_axes c q)

    crossed_at : (mask : ℕ) (e : Condition Number) → crossed A (condition_at A mask e) ≡ condition_at A mask (crossed A e)
    crossed_at zero e = refl
    crossed_at (suc mask) e = refl

    with_it : (i mask : ℕ) → mask < 2 ^ i → (p : Place)
        → entry A g samples (suc i) (2 * mask + 1) (on_axes c p) ≡ entry A (crossed_grid A (other_axes A g axes)) slopes i mask p
    unfolding entry slope_along
    with_it zero mask b p =
        let e : mask ≡ 0 = omega arith in
        ap (λ m. entry A g samples 1 (2 * m + 1) (on_axes c p)) e ∙ entry_one A F g samples 1 0 (on_axes c p) (omega arith)
    with_it (suc i) mask b p = go (dec_lt mask (2 ^ i)) (λ m h q. with_it i m h q)
      where
        go : Dec (mask < 2 ^ i)
            → ((m : ℕ) → m < 2 ^ i → (q : Place)
            → entry A g samples (suc i) (2 * m + 1) (on_axes c q) ≡ entry A (crossed_grid A (other_axes A g axes)) slopes i m q)
            → entry A g samples (suc (suc i)) (2 * mask + 1) (on_axes c p)
            ≡ entry A (crossed_grid A (other_axes A g axes)) slopes (suc i) mask p
        go (yes k) ih =
            entry_low A F g samples (suc i) (2 * mask + 1) (on_axes c p) (omega (arith, pow-suc 2 i))
            ∙ ih mask k p
            ∙ sym (entry_low A F (crossed_grid A (other_axes A g axes)) slopes i mask p k)
        go (no k) ih =
            let rest : 2 * mask + 1 - 2 ^ suc i ≡ 2 * (mask - 2 ^ i) + 1 = omega (arith, pow-suc 2 i) in
            entry_high A F g samples (suc i) (2 * mask + 1) (on_axes c p) (omega (arith, pow-suc 2 i))
            ∙ ap (λ m. slope_along A g (suc i) m (entry A g samples (suc i) m) (on_axes c p)) rest
            ∙ ap₂ (λ e f. lane_slope A (g.knots (suc i)) (g.points (suc i) - 1) e (table (g.points (suc i)) f) (p i))
            (condition_odd A F (mask - 2 ^ i) (g.condition (suc i)) ∙ crossed_at (mask - 2 ^ i) (g.condition (suc i)))
            (fun_ext (λ k.
            ap (entry A g samples (suc i) (2 * (mask - 2 ^ i) + 1)) (sym (moved_other c p i k))
            ∙ ih (mask - 2 ^ i) (omega (arith, pow-suc 2 i)) (moved p i k)))
            ∙ sym (entry_high A F (crossed_grid A (other_axes A g axes)) slopes i mask p (omega arith))

  -- ---- a lane at a knot of a cell

  module _ (O : IsOrdered A) (x : ℕ → Number) (y : List Number) (n : ℕ) (rising : (i : ℕ) → i < n → O.Positive (Steps.h A x i))
      (condition : Condition Number) (enough : fewest_points condition ≤ n + 1) (c : ℕ) (inside : c < n) where
    abbrev m : ℕ → Number
    m = at A (moments A x n condition y)

    wide : (i : ℕ) → i < n → ¬ (Steps.h A x i ≡ nought)
    wide i h = O.positive_not_nought _ (rising i h)

    value_at_knot : (k : ℕ) → (k ≡ c) ⊎ (k ≡ c + 1) → curve_in_cell A x (at A y) m c (x k) ≡ at A y k
    value_at_knot k (inl e) =
        ap (λ j. curve_in_cell A x (at A y) m c (x j)) e ∙ Knots.at_lower_knot A F x (at A y) m c (wide c inside) ∙ ap (at A y) (sym e)
    value_at_knot k (inr e) =
        ap (λ j. curve_in_cell A x (at A y) m c (x j)) e ∙ Knots.at_upper_knot A F x (at A y) m c (wide c inside) ∙ ap (at A y) (sym e)

    pub slope_at_knot : (k : ℕ) → (k ≡ c) ⊎ (k ≡ c + 1) → slope_in_cell A x (at A y) m c (x k) ≡ lane_slope A x n condition y k
    unfolding lane_slope
    slope_at_knot k (inl e) =
        ap (λ j. slope_in_cell A x (at A y) m c (x j)) e
        ∙ sym (OneAxis.knot_slope_lower A F x (at A y) m n wide (OnALine.meet A F O x y n rising condition enough) c inside)
        ∙ ap (lane_slope A x n condition y) (sym e)
    slope_at_knot k (inr e) =
        ap (λ j. slope_in_cell A x (at A y) m c (x j)) e
        ∙ sym (OneAxis.knot_slope_upper A F x (at A y) m n wide (OnALine.meet A F O x y n rising condition enough) c inside)
        ∙ ap (lane_slope A x n condition y) (sym e)

  -- ---- all masks

  -- a place at corners of the cells, at which the point lies
  pub record AtPlace (axes : ℕ) (g : Grid A) (cells p : Place) (point : ℕ → Number) : Type 0 where
    pub corner : (i : ℕ) → i < axes → (p i ≡ cells i) ⊎ (p i ≡ cells i + 1)
    pub beyond : (i : ℕ) → axes ≤ i → p i ≡ cells i
    pub lies : (i : ℕ) → i < axes → point i ≡ g.knots i (p i)

  module _ (O : IsOrdered A) (axes : ℕ) (g : Grid A) (samples : Place → Number) (cells p : Place) (on : Smooth.On A F O (suc axes) g cells)
      (point : ℕ → Number) (here : AtPlace (suc axes) g cells p point) where
    rising : (i : ℕ) → i < g.points 0 - 1 → O.Positive (Steps.h A (g.knots 0) i)
    rising i h = on.rising 0 (omega arith) i (omega arith)

    few : fewest_points (g.condition 0) ≤ g.points 0 - 1 + 1
    few = omega (arith, on.enough 0 (omega arith), on.inside 0 (omega arith))

    inside : cells 0 < g.points 0 - 1
    inside = omega (arith, on.inside 0 (omega arith))

    index : p 0 < g.points 0
    index = go (here.corner 0 (omega arith)) (on.inside 0 (omega arith))
      where
        go : (p 0 ≡ cells 0) ⊎ (p 0 ≡ cells 0 + 1) → cells 0 + 1 < g.points 0 → p 0 < g.points 0
        go (inl e) h = omega arith
        go (inr e) h = omega arith

    -- along the lowest axis, at its knot: the value is the sample, the slope the rules'
    values_here : (q : Place) → samples (on_axes (p 0) q) ≡ along_lowest A g samples (cells 0) (point 0) q
    unfolding along_lowest
    values_here q =
        let lane : List Number = lowest_lane A g samples q in
        sym
        (ap (curve_in_cell A (g.knots 0) (at A lane) (at A (moments A (g.knots 0) (g.points 0 - 1) (g.condition 0) lane)) (cells 0))
        (here.lies 0 (omega arith))
        ∙ value_at_knot O (g.knots 0) lane (g.points 0 - 1) rising (g.condition 0) few (cells 0) inside (p 0)
        (here.corner 0 (omega arith))
        ∙ at_table (g.points 0) (λ k. samples (on_axes k q)) (p 0) A.absent index)

    slopes_here : (q : Place)
        → slope_along A g 0 0 samples (on_axes (p 0) q) ≡ of_lowest A (slope_in_cell A) g samples (cells 0) (point 0) q
    unfolding slope_along of_lowest
    slopes_here q =
        let lane : List Number = lowest_lane A g samples q in
        ap (λ f. lane_slope A (g.knots 0) (g.points 0 - 1) (g.condition 0) (table (g.points 0) f) (p 0))
        (fun_ext (λ j. ap samples (moved_lowest (p 0) q j)))
        ∙ sym
        (ap (slope_in_cell A (g.knots 0) (at A lane) (at A (moments A (g.knots 0) (g.points 0 - 1) (g.condition 0) lane)) (cells 0))
        (here.lies 0 (omega arith))
        ∙ slope_at_knot O (g.knots 0) lane (g.points 0 - 1) rising (g.condition 0) few (cells 0) inside (p 0)
        (here.corner 0 (omega arith)))

    others_here : AtPlace axes (other_axes A g axes) (λ i. cells (suc i)) (λ i. p (suc i)) (λ i. point (suc i))
    others_here =
        record {
          corner = λ i h. here.corner (suc i) (omega arith);
          beyond = λ i h. here.beyond (suc i) (omega arith);
          lies = λ i h. here.lies (suc i) (omega arith);
        }

    whole_place : p ≡ on_axes (p 0) (λ i. p (suc i))
    whole_place = fun_ext go
      where
        go : (j : ℕ) → p j ≡ on_axes (p 0) (λ i. p (suc i)) j
        go zero = refl
        go (suc j) = refl

    one_more : (mask : ℕ) → mask / 2 < 2 ^ axes
        → ((s : Place → Number)
        → entry A (other_axes A g axes) s axes (mask / 2) (λ i. p (suc i))
        ≡ nested_mixed A (mask / 2) axes (other_axes A g axes) s (λ i. cells (suc i)) (λ i. point (suc i)))
        → ((s : Place → Number)
        → entry A (crossed_grid A (other_axes A g axes)) s axes (mask / 2) (λ i. p (suc i))
        ≡ nested_mixed A (mask / 2) axes (crossed_grid A (other_axes A g axes)) s (λ i. cells (suc i)) (λ i. point (suc i)))
        → entry A g samples (suc axes) mask p ≡ nested_mixed A mask (suc axes) g samples cells point
    unfolding nested_mixed
    one_more mask b own cross = go (ℕ_discrete (mask % 2) 1)
      where
        go : Dec (mask % 2 ≡ 1) → entry A g samples (suc axes) mask p ≡ nested_mixed A mask (suc axes) g samples cells point
        go (yes e) =
            let odd : mask ≡ 2 * (mask / 2) + 1 = omega arith in
            ap₂ (entry A g samples (suc axes)) odd whole_place
            ∙ with_it g axes samples (p 0) axes (mask / 2) b (λ i. p (suc i))
            ∙ ap (λ s. entry A (crossed_grid A (other_axes A g axes)) s axes (mask / 2) (λ i. p (suc i))) (fun_ext slopes_here)
            ∙ cross (of_lowest A (slope_in_cell A) g samples (cells 0) (point 0))
            ∙ sym (cond_true (eqb (mask % 2) 1) _ _ (eq-eqb (mask % 2) 1 e))
        go (no e) =
            let even : mask ≡ 2 * (mask / 2) = omega arith in
            ap₂ (entry A g samples (suc axes)) even whole_place
            ∙ without_it g axes samples (p 0) axes (mask / 2) b (λ i. p (suc i))
            ∙ ap (λ s. entry A (other_axes A g axes) s axes (mask / 2) (λ i. p (suc i))) (fun_ext values_here)
            ∙ own (along_lowest A g samples (cells 0) (point 0))
            ∙ sym (cond_false (eqb (mask % 2) 1) _ _ (ne_eqb (mask % 2) 1 e))

  pub tensor_has_the_derivatives : (O : IsOrdered A) (axes : ℕ) (g : Grid A) (samples : Place → Number) (cells p : Place)
      → Smooth.On A F O axes g cells → (point : ℕ → Number) → AtPlace axes g cells p point → (mask : ℕ) → mask < 2 ^ axes
      → entry A g samples axes mask p ≡ nested_mixed A mask axes g samples cells point
  unfolding nested_mixed entry
  tensor_has_the_derivatives O zero g samples cells p on point here mask b = ap samples (fun_ext (λ j. here.beyond j (omega arith)))
  tensor_has_the_derivatives O (suc axes) g samples cells p on point here mask b =
      let later : AtPlace axes (other_axes A g axes) (λ i. cells (suc i)) (λ i. p (suc i)) (λ i. point (suc i)) =
      others_here O axes g samples cells p on point here in
      let half : mask / 2 < 2 ^ axes = omega (arith, pow-suc 2 axes) in
      one_more O axes g samples cells p on point here mask half
      (λ s. tensor_has_the_derivatives O axes (other_axes A g axes) s (λ i. cells (suc i)) (λ i. p (suc i))
      (Smooth.others A F O axes g cells on) (λ i. point (suc i)) later (mask / 2) half)
      (λ s. tensor_has_the_derivatives O axes (crossed_grid A (other_axes A g axes)) s (λ i. cells (suc i)) (λ i. p (suc i))
      (Smooth.crossed_on A F O axes (other_axes A g axes) (λ i. cells (suc i)) (Smooth.others A F O axes g cells on)) (λ i. point (suc i))
      (record { corner = later.corner; beyond = later.beyond; lies = later.lies }) (mask / 2) half)
