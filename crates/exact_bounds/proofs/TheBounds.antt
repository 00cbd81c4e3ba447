-- How far the rules' numbers lie from exact ones: a moment, a knot slope, the curve, a number of the tensor and a value in a cell lie each
-- within the bound that the arithmetic of bounds has for it.
use mathlib.Core.Path.{◌≡◌, refl, sym, ◌∙◌, ap, ap₂, subst, fun_ext}
use mathlib.Core.List.{List, map}
use Prim.Native.Nat.{ℕ, ◌+◌, ◌<◌}
use lib.Dec.{T}
use native.Mathlib.Omega.{arith}
use lib.ListN.{get_or, get_or-map}
use lib.Ieee as Ieee
use lib.Ieee.{Float, nan, binary64, fits}
use Rattle.rules.specs.Numbers.{◌⊖◌, at}
use Rattle.rules.specs.Sizes as Sizes
use Rattle.rules.specs.Moments as RulesM
use Rattle.rules.specs.Curve as RulesC
use Rattle.rules.specs.Tensor as RulesT
use Rattle.rules.specs.Query as RulesQ
use Rattle.rules.specs.declared.End.{End}
use Rattle.rules.specs.declared.End.TheVariants.{NotAKnot, FirstDerivative, SecondDerivative}
use Rattle.rules.specs.declared.Condition.{Condition}
use Rattle.rules.specs.declared.Condition.TheVariants.{Endpoints, Periodic}
use Rattle.rules.proofs.Tables.{at_table}
use Rattle.base_floats.specs.Place.{AllFit}
use Rattle.base_floats.proofs.Parts.{part_fits}
use Rattle.exact_arithmetic.specs.Arithmetic.{Arithmetic}
use Rattle.exact_rationals.specs.Rationals.{ℚ, rationals, number}
use Rattle.exact_rationals.specs.Values.{value}
use Rattle.exact_spline.specs.Ends as Exact
use Rattle.exact_spline.specs.Sizes as ExactSizes
use Rattle.exact_spline.specs.Moments.{moment, moments}
use Rattle.exact_spline.specs.Steps as Steps
use Rattle.exact_spline.specs.Curve.{cubic, curve_in_cell, lane_slope}
use Rattle.exact_spline.specs.Tensor.{sample, entry}
use Rattle.exact_spline.specs.Query.{value_from}
use Rattle.exact_floats.specs.Floats as Floats
use Rattle.exact_floats.specs.Floats.{floats}
use Rattle.exact_floats.proofs.TheSame.{moment_same, entry_same, lane_slope_same, whole_curve_same, whole_surface_same}
use Rattle.exact_calls.specs.Exactly.{exact, values, exact_end, exact_condition, exact_grid}
use Rattle.exact_rounding.specs.Near.{Near}
use Rattle.exact_bounds.specs.Bounds.{within, Bounded, given, bounded, given_end, given_condition, given_grid, moment_bound, slope_bound, curve_bound, entry_bound, surface_bound, EndFits, ConditionFits}
use Rattle.exact_bounds.proofs.Relations as Relations
use Rattle.exact_bounds.proofs.Relations.{Respected}
use Rattle.exact_bounds.proofs.KeepsBounds.{Under, Stands, given_stands, operations_keep_bounds}

-- the floats of the arithmetic of bounds are those of the rules
abbrev pub Is : Bounded → Float → Type 0
Is a x = a.float ≡ x

pub floats_are_the_rules : Respected bounded floats Is
floats_are_the_rules =
    record {
      absent = refl;
      nought = refl;
      one = refl;
      two = refl;
      three = refl;
      six = refl;
      plus = λ a b x y p q. ap₂ (Ieee.add binary64) p q;
      minus = λ a b x y p q. ap₂ (Ieee.sub binary64) p q;
      times = λ a b x y p q. ap₂ (Ieee.mul binary64) p q;
      over = λ a b x y p q. ap₂ (Ieee.div binary64) p q;
      negative = λ a x p. ap Ieee.neg p;
    }

-- of equal floats
pub near_equal : (x y : Float) (Y e : ℚ) → x ≡ y → Near (value y) Y e → Near (value x) Y e
near_equal x y Y e same near = subst (λ z. Near (value z) Y e) (sym same) near

-- what stands within a bound, and is a float of the rules
near_of : (a : Bounded) (Y : ℚ) (x : Float) (e : ℚ) → Stands a Y → a.float ≡ x → a.bound ≡ within e → Near (value x) Y e
near_of a Y x e s f b =
    let h : Under a.float (within e) Y = subst (λ c. Under a.float c Y) b s.under in
    near_equal x a.float Y e (sym f) h.1

-- what holds of two things holds of their equals
across : {L M N K : Type 0} (R : N → K → Type 0) (f : L → N) (k : M → K) (a b : L) (c d : M) → a ≡ b → c ≡ d → R (f a) (k c) → R (f b) (k d)
across R f k a b c d p q r = subst (λ z. R (f b) (k z)) q (subst (λ z. R (f z) (k c)) p r)

-- ---- ends and conditions, with their exact values and as the rules have them

abbrev With : Type 0
With = Relations.Both bounded rationals Stands operations_keep_bounds

abbrev As : Type 0
As = Relations.Both bounded floats Is floats_are_the_rules

abbrev with_end : (e : End) → EndFits e → Exact.End With
with_end NotAKnot f = Exact.NotAKnot
with_end (FirstDerivative x) f = Exact.FirstDerivative (given x, (value x, given_stands x f))
with_end (SecondDerivative x) f = Exact.SecondDerivative (given x, (value x, given_stands x f))

abbrev with_condition : (c : Condition) → ConditionFits c → Exact.Condition With
with_condition (Endpoints lower upper) f = Exact.Endpoints (with_end lower f.0) (with_end upper f.1)
with_condition Periodic f = Exact.Periodic

abbrev as_end : End → Exact.End As
as_end NotAKnot = Exact.NotAKnot
as_end (FirstDerivative x) = Exact.FirstDerivative (given x, (x, refl))
as_end (SecondDerivative x) = Exact.SecondDerivative (given x, (x, refl))

abbrev as_condition : Condition → Exact.Condition As
as_condition (Endpoints lower upper) = Exact.Endpoints (as_end lower) (as_end upper)
as_condition Periodic = Exact.Periodic

end_bounds : (e : End) (f : EndFits e) → Relations.end_left bounded rationals Stands operations_keep_bounds (with_end e f) ≡ given_end e
end_bounds NotAKnot f = refl
end_bounds (FirstDerivative x) f = refl
end_bounds (SecondDerivative x) f = refl

end_exact : (e : End) (f : EndFits e) → Relations.end_right bounded rationals Stands operations_keep_bounds (with_end e f) ≡ exact_end e
end_exact NotAKnot f = refl
end_exact (FirstDerivative x) f = refl
end_exact (SecondDerivative x) f = refl

condition_bounds : (c : Condition) (f : ConditionFits c)
    → Relations.left bounded rationals Stands operations_keep_bounds (with_condition c f) ≡ given_condition c
condition_bounds (Endpoints lower upper) f = ap₂ Exact.Endpoints (end_bounds lower f.0) (end_bounds upper f.1)
condition_bounds Periodic f = refl

condition_exact : (c : Condition) (f : ConditionFits c)
    → Relations.right bounded rationals Stands operations_keep_bounds (with_condition c f) ≡ exact_condition c
condition_exact (Endpoints lower upper) f = ap₂ Exact.Endpoints (end_exact lower f.0) (end_exact upper f.1)
condition_exact Periodic f = refl

end_given : (e : End) → Relations.end_left bounded floats Is floats_are_the_rules (as_end e) ≡ given_end e
end_given NotAKnot = refl
end_given (FirstDerivative x) = refl
end_given (SecondDerivative x) = refl

end_float : (e : End) → Relations.end_right bounded floats Is floats_are_the_rules (as_end e) ≡ Floats.end e
end_float NotAKnot = refl
end_float (FirstDerivative x) = refl
end_float (SecondDerivative x) = refl

condition_given : (c : Condition) → Relations.left bounded floats Is floats_are_the_rules (as_condition c) ≡ given_condition c
condition_given (Endpoints lower upper) = ap₂ Exact.Endpoints (end_given lower) (end_given upper)
condition_given Periodic = refl

condition_float : (c : Condition) → Relations.right bounded floats Is floats_are_the_rules (as_condition c) ≡ Floats.condition c
condition_float (Endpoints lower upper) = ap₂ Exact.Endpoints (end_float lower) (end_float upper)
condition_float Periodic = refl

-- ---- the moments of a curve, and the curve

module _ (x y : List Float) (n : ℕ) (c : Condition) (x_fits : AllFit x) (y_fits : AllFit y) (c_fits : ConditionFits c) where
  abbrev in_bounds : ℕ → Bounded
  in_bounds = moment bounded (λ i. given (at x i)) (λ i. given (at y i)) n (given_condition c)

  stands : (k : ℕ) → Stands (in_bounds k) (moment rationals (exact x) (exact y) n (exact_condition c) k)
  stands k =
      across Stands (λ d. moment bounded (λ i. given (at x i)) (λ i. given (at y i)) n d k)
      (λ d. moment rationals (exact x) (exact y) n d k) _ _ _ _ (condition_bounds c c_fits) (condition_exact c c_fits)
      (Relations.moment_alike bounded rationals Stands operations_keep_bounds (λ i. given (at x i)) (exact x)
      (λ i. given_stands (at x i) (x_fits i)) (λ i. given (at y i)) (exact y) (λ i. given_stands (at y i) (y_fits i)) n
      (with_condition c c_fits) k)

  is : (k : ℕ) → Is (in_bounds k) (moment floats (at x) (at y) n (Floats.condition c) k)
  is k =
      across Is (λ d. moment bounded (λ i. given (at x i)) (λ i. given (at y i)) n d k) (λ d. moment floats (at x) (at y) n d k)
      _ _ _ _ (condition_given c) (condition_float c)
      (Relations.moment_alike bounded floats Is floats_are_the_rules (λ i. given (at x i)) (at x) (λ i. refl) (λ i. given (at y i)) (at y)
      (λ i. refl) n (as_condition c) k)

  -- a moment lies within its bound of the exact spline's
  pub moment_within : (k : ℕ) (e : ℚ) → moment_bound x y n c k ≡ within e
      → Near (value (RulesM.moment x y n c k)) (moment rationals (exact x) (exact y) n (exact_condition c) k) e
  moment_within k e b = near_of (in_bounds k) _ _ e (stands k) (is k ∙ sym (moment_same x y n c k)) b

  -- and a knot slope
  abbrev slope_there : ℕ → Bounded
  slope_there i = lane_slope bounded (λ k. given (at x k)) n (given_condition c) (map given y) i

  sample_at : (k : ℕ) → given (at y k) ≡ get_or (map given y) k (given nan)
  sample_at k = sym (get_or-map given y k nan)

  value_at : (k : ℕ) → value (at y k) ≡ get_or (values y) k (number 0)
  value_at k = sym (get_or-map value y k nan)

  slope_stands : (i : ℕ) → Stands (slope_there i) (lane_slope rationals (exact x) n (exact_condition c) (values y) i)
  slope_stands i =
      across Stands (λ d. lane_slope bounded (λ k. given (at x k)) n d (map given y) i)
      (λ d. lane_slope rationals (exact x) n d (values y) i) _ _ _ _ (condition_bounds c c_fits) (condition_exact c c_fits)
      (Relations.lane_slope_alike bounded rationals Stands operations_keep_bounds (λ k. given (at x k)) (exact x)
      (λ k. given_stands (at x k) (x_fits k)) n (with_condition c c_fits) (map given y) (values y)
      (λ k. across Stands (λ a. a) (λ a. a) _ _ _ _ (sample_at k) (value_at k) (given_stands (at y k) (y_fits k))) i)

  slope_is : (i : ℕ) → Is (slope_there i) (lane_slope floats (at x) n (Floats.condition c) y i)
  slope_is i =
      across Is (λ d. lane_slope bounded (λ k. given (at x k)) n d (map given y) i) (λ d. lane_slope floats (at x) n d y i)
      _ _ _ _ (condition_given c) (condition_float c)
      (Relations.lane_slope_alike bounded floats Is floats_are_the_rules (λ k. given (at x k)) (at x) (λ k. refl) n (as_condition c)
      (map given y) y (λ k. ap (λ (a : Bounded). a.float) (sym (sample_at k))) i)

  pub slope_within : (i : ℕ) (e : ℚ) → slope_bound x y n c i ≡ within e
      → Near (value (RulesC.lane_slope x n c y i)) (lane_slope rationals (exact x) n (exact_condition c) (values y) i) e
  slope_within i e b = near_of (slope_there i) _ _ e (slope_stands i) (slope_is i ∙ sym (lane_slope_same x n c y i)) b

  -- and the curve in a cell, at a point, of the exact spline's value there
  module _ (i : ℕ) (inside : i < n) (p : Float) (p_fits : T (fits binary64 p)) where
    abbrev curve_there : Bounded
    curve_there = curve_in_cell bounded (λ k. given (at x k)) (λ k. given (at y k)) in_bounds i (given p)

    curve_stands : Stands curve_there
        (curve_in_cell rationals (exact x) (exact y) (moment rationals (exact x) (exact y) n (exact_condition c)) i (value p))
    curve_stands =
        Relations.curve_alike bounded rationals Stands operations_keep_bounds (λ k. given (at x k)) (exact x)
        (λ k. given_stands (at x k) (x_fits k)) (λ k. given (at y k)) (exact y) (λ k. given_stands (at y k) (y_fits k)) in_bounds
        (moment rationals (exact x) (exact y) n (exact_condition c)) stands i (given p) (value p) (given_stands p p_fits)

    curve_is : Is curve_there (curve_in_cell floats (at x) (at y) (moment floats (at x) (at y) n (Floats.condition c)) i p)
    curve_is =
        Relations.curve_alike bounded floats Is floats_are_the_rules (λ k. given (at x k)) (at x) (λ k. refl) (λ k. given (at y k)) (at y)
        (λ k. refl) in_bounds (moment floats (at x) (at y) n (Floats.condition c)) is i (given p) p refl

    -- moments i and i + 1 of the list are those of the function
    from_list : curve_in_cell floats (at x) (at y) (at (moments floats (at x) n (Floats.condition c) y)) i p
        ≡ curve_in_cell floats (at x) (at y) (moment floats (at x) (at y) n (Floats.condition c)) i p
    unfolding curve_in_cell moments
    from_list =
        ap₂ (λ a b. cubic floats (Steps.h floats (at x) i) (at y i) (at y (i + 1)) a b (p ⊖ at x i))
        (at_table (n + 1) (moment floats (at x) (at y) n (Floats.condition c)) i nan (omega arith))
        (at_table (n + 1) (moment floats (at x) (at y) n (Floats.condition c)) (i + 1) nan (omega arith))

    pub curve_within : (e : ℚ) → curve_bound x y n c i p ≡ within e
        → Near (value (RulesC.curve_in_cell x y (RulesM.moments x n c y) i p))
        (curve_in_cell rationals (exact x) (exact y) (moment rationals (exact x) (exact y) n (exact_condition c)) i (value p)) e
    curve_within e b =
        near_of curve_there _ _ e curve_stands (curve_is ∙ sym (whole_curve_same x n c y i p ∙ from_list)) b

-- ---- the value in a cell, from the samples by way of their tensor

abbrev with_conditions : (A : Arithmetic) (axes : ℕ) (points : ℕ → ℕ) (knots : ℕ → ℕ → A.Number)
    → (ℕ → Exact.Condition A.Number) → ExactSizes.Grid A
with_conditions A axes points knots c = record { axes = axes; points = points; knots = knots; condition = c }

same_condition : (A : Arithmetic) (axes : ℕ) (points : ℕ → ℕ) (knots : ℕ → ℕ → A.Number) (c d : ℕ → Exact.Condition A.Number)
    → ((i : ℕ) → c i ≡ d i) → with_conditions A axes points knots c ≡ with_conditions A axes points knots d
same_condition A axes points knots c d e = ap (with_conditions A axes points knots) (fun_ext e)

module _ (g : Sizes.Grid) (samples : List Float) (cells : Sizes.Place) (point : ℕ → Float)
    (knots_fit : AllFit g.flat_knots) (samples_fit : AllFit samples) (ends_fit : (i : ℕ) → ConditionFits (Sizes.condition g i))
    (point_fits : (i : ℕ) → T (fits binary64 (point i))) where
  abbrev in_cell : Bounded
  in_cell = value_from bounded (given_grid g) (λ p. given (RulesT.sample g samples p)) cells (λ i. given (point i))

  sample_stands : (p : Sizes.Place) → Stands (given (RulesT.sample g samples p)) (sample rationals (exact_grid g) (values samples) p)
  unfolding sample RulesT.sample
  sample_stands p =
      subst (Stands (given (at samples (Sizes.flat (Sizes.points g) g.axes p))))
      (sym (get_or-map value samples (Sizes.flat (Sizes.points g) g.axes p) nan))
      (given_stands _ (samples_fit _))

  knots_stand : (i k : ℕ) → Stands (given (at (Sizes.knots g i) k)) (exact (Sizes.knots g i) k)
  knots_stand i k = given_stands _ (part_fits g.flat_knots (Sizes.sum_below (Sizes.points g) i) (Sizes.points g i) knots_fit k)

  abbrev with_conditions_of : ℕ → Exact.Condition With
  with_conditions_of i = with_condition (Sizes.condition g i) (ends_fit i)

  abbrev as_conditions_of : ℕ → Exact.Condition As
  as_conditions_of i = as_condition (Sizes.condition g i)

  abbrev given_knots : ℕ → ℕ → Bounded
  given_knots i k = given (at (Sizes.knots g i) k)

  abbrev given_samples : Sizes.Place → Bounded
  given_samples p = given (RulesT.sample g samples p)

  abbrev exact_samples : Sizes.Place → ℚ
  exact_samples = sample rationals (exact_grid g) (values samples)

  -- the grids that the relations speak of are those of the call
  bounds_grid : with_conditions bounded g.axes (Sizes.points g) given_knots
      (λ i. Relations.left bounded rationals Stands operations_keep_bounds (with_conditions_of i)) ≡ given_grid g
  bounds_grid = same_condition bounded g.axes (Sizes.points g) given_knots _ _ (λ i. condition_bounds (Sizes.condition g i) (ends_fit i))

  rational_grid : with_conditions rationals g.axes (Sizes.points g) (λ i. exact (Sizes.knots g i))
      (λ i. Relations.right bounded rationals Stands operations_keep_bounds (with_conditions_of i)) ≡ exact_grid g
  rational_grid =
      same_condition rationals g.axes (Sizes.points g) (λ i. exact (Sizes.knots g i)) _ _
      (λ i. condition_exact (Sizes.condition g i) (ends_fit i))

  rules_grid : with_conditions bounded g.axes (Sizes.points g) given_knots
      (λ i. Relations.left bounded floats Is floats_are_the_rules (as_conditions_of i)) ≡ given_grid g
  rules_grid = same_condition bounded g.axes (Sizes.points g) given_knots _ _ (λ i. condition_given (Sizes.condition g i))

  float_grid : with_conditions floats g.axes (Sizes.points g) (λ i. at (Sizes.knots g i))
      (λ i. Relations.right bounded floats Is floats_are_the_rules (as_conditions_of i)) ≡ Floats.grid g
  float_grid =
      same_condition floats g.axes (Sizes.points g) (λ i. at (Sizes.knots g i)) _ _ (λ i. condition_float (Sizes.condition g i))

  -- ---- a number of the tensor

  abbrev entry_there : ℕ → ℕ → Sizes.Place → Bounded
  entry_there i mask p = entry bounded (given_grid g) given_samples i mask p

  entry_stands : (i mask : ℕ) (p : Sizes.Place) → Stands (entry_there i mask p) (entry rationals (exact_grid g) exact_samples i mask p)
  entry_stands i mask p =
      across Stands (λ G. entry bounded G given_samples i mask p) (λ G. entry rationals G exact_samples i mask p) _ _ _ _ bounds_grid
      rational_grid
      (Relations.entry_alike bounded rationals Stands operations_keep_bounds g.axes (Sizes.points g) given_knots
      (λ i. exact (Sizes.knots g i)) knots_stand with_conditions_of given_samples exact_samples sample_stands i mask p)

  entry_is : (i mask : ℕ) (p : Sizes.Place)
      → Is (entry_there i mask p) (entry floats (Floats.grid g) (RulesT.sample g samples) i mask p)
  entry_is i mask p =
      across Is (λ G. entry bounded G given_samples i mask p) (λ G. entry floats G (RulesT.sample g samples) i mask p) _ _ _ _ rules_grid
      float_grid
      (Relations.entry_alike bounded floats Is floats_are_the_rules g.axes (Sizes.points g) given_knots
      (λ i. at (Sizes.knots g i)) (λ i k. refl) as_conditions_of given_samples (RulesT.sample g samples) (λ q. refl) i mask p)

  pub entry_within : (mask : ℕ) (p : Sizes.Place) (e : ℚ) → entry_bound g samples mask p ≡ within e
      → Near (value (RulesT.entry g (RulesT.sample g samples) g.axes mask p))
      (entry rationals (exact_grid g) exact_samples g.axes mask p) e
  entry_within mask p e b =
      near_of (entry_there g.axes mask p) _ _ e (entry_stands g.axes mask p)
      (entry_is g.axes mask p ∙ sym (entry_same g (RulesT.sample g samples) g.axes mask p)) b

  -- ---- the value

  in_cell_stands : Stands in_cell (value_from rationals (exact_grid g) exact_samples cells (λ i. value (point i)))
  in_cell_stands =
      across Stands (λ G. value_from bounded G given_samples cells (λ i. given (point i)))
      (λ G. value_from rationals G exact_samples cells (λ i. value (point i))) _ _ _ _ bounds_grid rational_grid
      (Relations.value_alike bounded rationals Stands operations_keep_bounds g.axes (Sizes.points g) given_knots
      (λ i. exact (Sizes.knots g i)) knots_stand with_conditions_of _ _
      (λ p mask. Relations.tensor_alike bounded rationals Stands operations_keep_bounds g.axes (Sizes.points g) given_knots
      (λ i. exact (Sizes.knots g i)) knots_stand with_conditions_of given_samples exact_samples sample_stands _)
      cells (λ i. given (point i)) (λ i. value (point i)) (λ i. given_stands (point i) (point_fits i)))

  in_cell_is : Is in_cell (value_from floats (Floats.grid g) (RulesT.sample g samples) cells point)
  in_cell_is =
      across Is (λ G. value_from bounded G given_samples cells (λ i. given (point i)))
      (λ G. value_from floats G (RulesT.sample g samples) cells point) _ _ _ _ rules_grid float_grid
      (Relations.value_alike bounded floats Is floats_are_the_rules g.axes (Sizes.points g) given_knots
      (λ i. at (Sizes.knots g i)) (λ i k. refl) as_conditions_of _ _
      (λ p mask. Relations.tensor_alike bounded floats Is floats_are_the_rules g.axes (Sizes.points g) given_knots
      (λ i. at (Sizes.knots g i)) (λ i k. refl) as_conditions_of given_samples (RulesT.sample g samples) (λ q. refl) _)
      cells (λ i. given (point i)) point (λ i. refl))

  same_surface : RulesQ.value_in g (RulesT.tensor g samples) cells point
      ≡ value_from floats (Floats.grid g) (RulesT.sample g samples) cells point
  unfolding sample RulesT.sample
  same_surface = whole_surface_same g samples cells point

  -- the value in any cell lies within its bound of the exact one, from the same samples
  pub surface_within : (e : ℚ) → surface_bound g samples cells point ≡ within e
      → Near (value (RulesQ.value_in g (RulesT.tensor g samples) cells point))
      (value_from rationals (exact_grid g) (sample rationals (exact_grid g) (values samples)) cells (λ i. value (point i))) e
  surface_within e b = near_of in_cell _ _ e in_cell_stands (in_cell_is ∙ sym same_surface) b
