-- A query inside its cell, from any tensor to its answer: the rules' value in a cell that holds the point on each axis is the exact blend
-- of the
-- tensor's numbers at the exact point, to within the errors of fractions, widths and roundings.
use mathlib.Core.Path.{◌≡◌, refl, sym, ◌∙◌, ap₂, subst}
use mathlib.Core.Quot.{sound}
use mathlib.Core.Bool.{Bool, true, false, cond}
use mathlib.Core.List.{List, [], ◌∷◌}
use Prim.Native.Nat.{ℕ, zero, suc, ◌+◌, ◌^◌, ◌<◌, ◌≤◌}
use native.Mathlib.Omega.{arith}
use lib.Dec.{T, ltb, leb→le}
use borrow.Author.Tests.{ltb-true, lt-ltb}
use lib.Ieee as Ieee
use lib.Ieee.{Float, binary64, fits, lt, le}
use lib.Ieee.Bits.{of_bits-fits}
use lib.Ieee.Fits.{sub-fits, div-fits}
use lib.Ieee.Scale.{finite}
use Rattle.rules.specs.Numbers.{◌⊖◌, ◌⊘◌, plus_zero, at}
use Rattle.rules.specs.Sizes as Sizes
use Rattle.rules.specs.Steps as Steps
use Rattle.rules.specs.Query as Rules
use Rattle.rules.proofs.Cells.{blend_ext}
use Rattle.base_floats.specs.Place.{AllFit}
use Rattle.exact_solver.specs.Expressions.{var, t1, add, sub, mul}
use Rattle.exact_rationals.specs.Rationals.{ℚ, Least, number, plus, minus, times, over, negative, rationals}
use Rattle.exact_rationals.specs.Values.{value}
use Rattle.exact_rationals.proofs.Order.{least_plus, least_times, least_number, positive_least, ring}
use Rattle.exact_spline.specs.Query as Exact
use Rattle.exact_spline.proofs.Tests.{cond_true}
use Rattle.exact_rounding.specs.Near.{Near, size}
use Rattle.exact_rounding.proofs.Approx.{u, v, within_size, near_same}
use Rattle.exact_blend.specs.BlendErrors as Total
use Rattle.exact_blend.specs.BlendErrors.{moved_errors}
use Rattle.exact_blend.proofs.Weights.{amount, within_self}
use Rattle.exact_blend.proofs.AnyAxes.{k, j, Ready}
use Rattle.exact_blend.proofs.AtThePoint as AtThePoint
use Rattle.exact_blend.proofs.AtAnyPoint.{Moved, cell_near}

-- the point p lies neither below the knot x nor above the next, y, and nothing on the way to its fraction overflows
pub record InCell (x p y : Float) : Type 0 where
  pub x_finite : finite x ≡ true
  pub p_finite : finite p ≡ true
  pub y_finite : finite y ≡ true
  pub above : le x p ≡ true
  pub wide : lt x y ≡ true
  pub under : le p y ≡ true
  pub first : finite (p ⊖ x) ≡ true
  pub second : finite (y ⊖ x) ≡ true
  pub whole : finite ((p ⊖ x) ⊘ (y ⊖ x)) ≡ true

-- the exact width, and the exact fraction
abbrev pub exact_width : (x y : Float) → ℚ
exact_width x y = minus (value y) (value x)

abbrev pub exact_fraction : (x p y : Float) → ℚ
exact_fraction x p y = over (minus (value p) (value x)) (minus (value y) (value x))

one_rounding : Least (minus (number 1) u)
unfolding Least minus plus negative number
one_rounding = leb→le _ _ tt

module _
    (x p y : Float) (x_fits : T (fits binary64 x)) (p_fits : T (fits binary64 p)) (y_fits : T (fits binary64 y)) (here : InCell x p y) where
  wide_enough : Least (exact_width x y)
  wide_enough =
      positive_least _
      (AtThePoint.rising x p y x_fits p_fits y_fits here.x_finite here.p_finite here.y_finite here.above here.wide
      here.under here.first here.second here.whole)

  width_off : Near (value (y ⊖ x)) (exact_width x y) (times u (exact_width x y))
  width_off =
      AtThePoint.width_off x p y x_fits p_fits y_fits here.x_finite here.p_finite here.y_finite here.above here.wide
      here.under here.first here.second here.whole

  -- the computed width is nought or more too
  computed_least : Least (value (y ⊖ x))
  computed_least =
      subst Least
      (ring (value (y ⊖ x) ∷ exact_width x y ∷ u ∷ [])
      (add (sub (add (var 0) (mul (var 2) (var 1))) (var 1)) (mul (sub t1 (var 2)) (var 1))) (var 0) tt tt tt)
      (least_plus _ _ width_off.above (least_times _ _ one_rounding wide_enough))

  axis_moved : Moved (exact_fraction x p y) (value ((p ⊖ x) ⊘ (y ⊖ x))) (exact_width x y) (value (y ⊖ x)) (amount 3074)
      (times u (exact_width x y))
  axis_moved =
      record {
        t_low = AtThePoint.t_low x p y x_fits p_fits y_fits here.x_finite here.p_finite here.y_finite here.above here.wide
            here.under here.first here.second here.whole;
        t_high = AtThePoint.t_high x p y x_fits p_fits y_fits here.x_finite here.p_finite here.y_finite here.above here.wide
            here.under here.first here.second here.whole;
        s_low = AtThePoint.s_low x p y x_fits p_fits y_fits here.x_finite here.p_finite here.y_finite here.above here.wide
            here.under here.first here.second here.whole;
        s_high = AtThePoint.s_high x p y x_fits p_fits y_fits here.x_finite here.p_finite here.y_finite here.above here.wide
            here.under here.first here.second here.whole;
        fraction = AtThePoint.fraction_off x p y x_fits p_fits y_fits here.x_finite here.p_finite here.y_finite here.above
            here.wide here.under here.first here.second here.whole;
        width = width_off;
        wide = within_self _ wide_enough;
        stretched = within_self _ computed_least;
      }

  axis_ready : Ready (y ⊖ x) ((p ⊖ x) ⊘ (y ⊖ x)) (size (y ⊖ x))
  axis_ready =
      record {
        width_fits = sub-fits binary64 y x;
        t_fits = div-fits binary64 (p ⊖ x) (y ⊖ x);
        width_within = within_size (y ⊖ x);
        low = axis_moved.s_low;
        high = axis_moved.s_high;
      }

-- ---- an axis that is not in use

pub value_nought : value plus_zero ≡ number 0
unfolding Ieee.of_bits number
value_nought = sound refl

pub share_least : Least u
unfolding Least
share_least = leb→le _ _ tt

amount_least : Least (amount 3074)
unfolding Least
amount_least = leb→le _ _ tt

one_least : Least (minus (number 1) (number 0))
unfolding Least minus plus negative number
one_least = leb→le _ _ tt

none_moved : Moved (number 0) (value plus_zero) (number 0) (value plus_zero) (amount 3074) (times u (number 0))
none_moved =
    subst (λ z. Moved (number 0) z (number 0) z (amount 3074) (times u (number 0))) (sym value_nought)
    (record {
      t_low = least_number 0;
      t_high = one_least;
      s_low = least_number 0;
      s_high = one_least;
      fraction = near_same (number 0) (amount 3074) amount_least;
      width = near_same (number 0) (times u (number 0)) (least_times _ _ share_least (least_number 0));
      wide = within_self (number 0) (least_number 0);
      stretched = within_self (number 0) (least_number 0);
    })

none_ready : Ready plus_zero plus_zero (size plus_zero)
none_ready =
    record {
      width_fits = of_bits-fits binary64 0;
      t_fits = of_bits-fits binary64 0;
      width_within = within_size plus_zero;
      low = none_moved.s_low;
      high = none_moved.s_high;
    }

-- two blends are equal where widths and fractions agree on the axes
exact_ext : (axes lowest : ℕ) (W W' t t' cell : ℕ → ℚ) → ((i : ℕ) → lowest ≤ i → i < lowest + axes → W i ≡ W' i)
    → ((i : ℕ) → lowest ≤ i → i < lowest + axes → t i ≡ t' i)
    → Exact.blend rationals axes lowest W t cell ≡ Exact.blend rationals axes lowest W' t' cell
unfolding Exact.blend
exact_ext zero lowest W W' t t' cell w s = refl
exact_ext (suc axes) lowest W W' t t' cell w s =
    ap₂ (λ a b. Exact.blend rationals axes (suc lowest) W t (Exact.without_lowest rationals (4 ^ axes) a b cell))
    (w lowest (omega arith) (omega arith)) (s lowest (omega arith) (omega arith))
    ∙ exact_ext axes (suc lowest) W W' t t' _ (λ i a b. w i (omega arith) (omega arith)) (λ i a b. s i (omega arith) (omega arith))

near_of : (r s : Float) (x y e : ℚ) → r ≡ s → x ≡ y → Near (value s) x e → Near (value r) y e
near_of r s x y e a b n = subst (λ z. Near (value z) y e) (sym a) (subst (λ z. Near (value s) z e) b n)

-- ---- the value in a cell

module _
    (g : Sizes.Grid) (tensor : List Float) (cells : Sizes.Place) (point : ℕ → Float)
    (tensor_fits : AllFit tensor) (knots_fit : (i : ℕ) → AllFit (Sizes.knots g i)) (point_fits : (i : ℕ) → T (fits binary64 (point i)))
    (inside : (i : ℕ) → i < g.axes → InCell (at (Sizes.knots g i) (cells i)) (point i) (at (Sizes.knots g i) (cells i + 1))) where
  abbrev pub lower : ℕ → Float
  lower i = at (Sizes.knots g i) (cells i)

  abbrev pub upper : ℕ → Float
  upper i = at (Sizes.knots g i) (cells i + 1)

  -- on the axes in use, and nothing past them
  abbrev pub widths : ℕ → Float
  widths i = cond (ltb i g.axes) (upper i ⊖ lower i) plus_zero

  abbrev pub fractions : ℕ → Float
  fractions i = cond (ltb i g.axes) ((point i ⊖ lower i) ⊘ (upper i ⊖ lower i)) plus_zero

  abbrev pub exact_widths : ℕ → ℚ
  exact_widths i = cond (ltb i g.axes) (exact_width (lower i) (upper i)) (number 0)

  abbrev pub exact_fractions : ℕ → ℚ
  exact_fractions i = cond (ltb i g.axes) (exact_fraction (lower i) (point i) (upper i)) (number 0)

  ready : (i : ℕ) → Ready (widths i) (fractions i) (size (widths i))
  ready i = go (ltb i g.axes) refl
    where
      go : (b : Bool) → ltb i g.axes ≡ b
          → Ready (cond b (upper i ⊖ lower i) plus_zero) (cond b ((point i ⊖ lower i) ⊘ (upper i ⊖ lower i)) plus_zero)
          (size (cond b (upper i ⊖ lower i) plus_zero))
      go true e =
          axis_ready (lower i) (point i) (upper i) (knots_fit i (cells i)) (point_fits i) (knots_fit i (cells i + 1))
          (inside i (ltb-true i g.axes e))
      go false e = none_ready

  moved : (i : ℕ)
      → Moved (exact_fractions i) (value (fractions i)) (exact_widths i) (value (widths i)) (amount 3074) (times u (exact_widths i))
  moved i = go (ltb i g.axes) refl
    where
      go : (b : Bool) → ltb i g.axes ≡ b
          → Moved (cond b (exact_fraction (lower i) (point i) (upper i)) (number 0))
          (value (cond b ((point i ⊖ lower i) ⊘ (upper i ⊖ lower i)) plus_zero)) (cond b (exact_width (lower i) (upper i)) (number 0))
          (value (cond b (upper i ⊖ lower i) plus_zero)) (amount 3074) (times u (cond b (exact_width (lower i) (upper i)) (number 0)))
      go true e =
          axis_moved (lower i) (point i) (upper i) (knots_fit i (cells i)) (point_fits i) (knots_fit i (cells i + 1))
          (inside i (ltb-true i g.axes e))
      go false e = none_moved

  cell_fits : (c : ℕ) → T (fits binary64 (Rules.cell g tensor cells c))
  unfolding Rules.cell
  cell_fits c = tensor_fits _

  as_blend : Rules.value_in g tensor cells point ≡ Rules.blend g.axes 0 widths fractions (Rules.cell g tensor cells)
  unfolding Rules.value_in Rules.fraction Steps.h
  as_blend =
      blend_ext g.axes 0 _ _ _ _ _ _
      (λ i a b. sym (cond_true (ltb i g.axes) _ _ (lt-ltb i g.axes (omega arith))))
      (λ i a b. sym (cond_true (ltb i g.axes) _ _ (lt-ltb i g.axes (omega arith))))
      (λ e b. refl)

  -- what fractions and widths move, what the roundings of the blend add, and tiny numbers
  abbrev pub query_error : ℚ
  query_error =
      plus
      (moved_errors rationals g.axes 0 (λ i. amount 3074) (λ i. times u (exact_widths i)) exact_widths (λ i. value (widths i))
      (λ c. size (Rules.cell g tensor cells c)) (λ c. number 0))
      (plus
      (times (Total.shares rationals k g.axes (number 0))
      (Total.bounds rationals g.axes 0 (λ i. size (widths i)) (λ c. size (Rules.cell g tensor cells c))))
      (times v
      (Total.rests rationals k j v g.axes 0 (λ i. size (widths i)) (λ c. size (Rules.cell g tensor cells c)) (λ c. number 0)
      (number 0))))

  pub query_near : T (finite (Rules.value_in g tensor cells point))
      → Near (value (Rules.value_in g tensor cells point))
      (Exact.blend rationals g.axes 0 (λ i. exact_width (lower i) (upper i)) (λ i. exact_fraction (lower i) (point i) (upper i))
      (λ c. value (Rules.cell g tensor cells c)))
      query_error
  query_near good =
      near_of (Rules.value_in g tensor cells point) _ _ _ query_error as_blend
      (exact_ext g.axes 0 exact_widths (λ i. exact_width (lower i) (upper i)) exact_fractions
      (λ i. exact_fraction (lower i) (point i) (upper i)) (λ c. value (Rules.cell g tensor cells c))
      (λ i a b. cond_true (ltb i g.axes) _ _ (lt-ltb i g.axes (omega arith)))
      (λ i a b. cond_true (ltb i g.axes) _ _ (lt-ltb i g.axes (omega arith))))
      (cell_near widths fractions exact_fractions exact_widths (λ i. amount 3074) (λ i. times u (exact_widths i)) ready moved g.axes
      (Rules.cell g tensor cells) cell_fits (subst (λ r. T (finite r)) as_blend good))
