-- At binary64 the formulas over any arithmetic are the rules, operation for operation: of the steps, the solves, the moments, the curve,
-- the
-- tensor and the blend; and so of the curve of the moments, and of the value from the tensor of the samples.
use mathlib.Core.Path.{◌≡◌, refl, ◌∙◌, ap, ap₂, fun_ext}
use mathlib.Core.List.{List}
use Prim.Native.Nat.{ℕ, zero, suc, ◌+◌, ◌-◌, ◌^◌}
use lib.Dec.{ltb}
use lib.Ieee.{Float}
use Rattle.rules.specs.Numbers.{at, table}
use Rattle.rules.specs.Ends as RulesE
use Rattle.rules.specs.Sizes as Sizes
use Rattle.rules.specs.Steps as Rules
use Rattle.rules.specs.Solve as RulesS
use Rattle.rules.specs.Moments as RulesM
use Rattle.rules.specs.Curve as RulesC
use Rattle.rules.specs.Tensor as RulesT
use Rattle.rules.specs.Query as RulesQ
use Rattle.rules.specs.declared.End.{End}
use Rattle.rules.specs.declared.End.TheVariants.{NotAKnot, FirstDerivative, SecondDerivative}
use Rattle.rules.specs.declared.Condition.{Condition}
use Rattle.rules.specs.declared.Condition.TheVariants.{Endpoints, Periodic}
use Rattle.rules.proofs.Cases.{arms_ext}
use Rattle.exact_spline.specs.Ends as ExactE
use Rattle.exact_spline.specs.Steps as Exact
use Rattle.exact_spline.specs.Solve as ExactS
use Rattle.exact_spline.specs.Moments as ExactM
use Rattle.exact_spline.specs.Curve as ExactC
use Rattle.exact_spline.specs.Tensor as ExactT
use Rattle.exact_spline.specs.Query as ExactQ
use Rattle.exact_floats.specs.Floats.{floats, end, condition, grid}

pub h_same : (x : List Float) (i : ℕ) → Rules.h x i ≡ Exact.h floats (at x) i
unfolding Rules.h Exact.h
h_same x i = refl

pub curve_same : (x y m : List Float) (i : ℕ) (p : Float)
    → RulesC.curve_in_cell x y m i p ≡ ExactC.curve_in_cell floats (at x) (at y) (at m) i p
unfolding RulesC.curve_in_cell ExactC.curve_in_cell Exact.h
curve_same x y m i p = refl

pub knot_slope_same : (x : List Float) (n : ℕ) (y m : List Float) (i : ℕ)
    → RulesC.knot_slope x n y m i ≡ ExactC.knot_slope floats (at x) (at y) (at m) n i
unfolding RulesC.knot_slope ExactC.knot_slope Exact.h Exact.s
knot_slope_same x n y m i = refl

pub w_same : (sub diag sup rhs : ℕ → Float) (k : ℕ) → RulesS.w sub diag sup rhs k ≡ ExactS.w floats sub diag sup rhs k
unfolding RulesS.w ExactS.w
w_same sub diag sup rhs k = refl

pub thomas_same : (sub diag sup rhs : ℕ → Float) (l k : ℕ) → RulesS.thomas sub diag sup rhs l k ≡ ExactS.thomas floats sub diag sup rhs l k
unfolding RulesS.thomas ExactS.thomas
thomas_same sub diag sup rhs l k = refl

pub cyclic_same : (sub diag sup rhs : ℕ → Float) (c : Float) (l k : ℕ)
    → RulesS.cyclic_thomas sub diag sup rhs c l k ≡ ExactS.cyclic_thomas floats sub diag sup rhs c l k
unfolding RulesS.cyclic_thomas ExactS.cyclic_thomas
cyclic_same sub diag sup rhs c l k = refl

pub moment_same : (x y : List Float) (n : ℕ) (c : Condition) (k : ℕ)
    → RulesM.moment x y n c k ≡ ExactM.moment floats (at x) (at y) n (condition c) k
unfolding RulesM.moment ExactM.moment Exact.h Exact.s Exact.u ExactS.thomas ExactS.cyclic_thomas
moment_same x y n (Endpoints NotAKnot NotAKnot) k = refl
moment_same x y n (Endpoints NotAKnot (FirstDerivative b)) k = refl
moment_same x y n (Endpoints NotAKnot (SecondDerivative b)) k = refl
moment_same x y n (Endpoints (FirstDerivative a) NotAKnot) k = refl
moment_same x y n (Endpoints (FirstDerivative a) (FirstDerivative b)) k = refl
moment_same x y n (Endpoints (FirstDerivative a) (SecondDerivative b)) k = refl
moment_same x y n (Endpoints (SecondDerivative a) NotAKnot) k = refl
moment_same x y n (Endpoints (SecondDerivative a) (FirstDerivative b)) k = refl
moment_same x y n (Endpoints (SecondDerivative a) (SecondDerivative b)) k = refl
moment_same x y n Periodic k = refl

pub hermite_same : (a b c d w t : Float) → RulesQ.hermite a b c d w t ≡ ExactQ.hermite floats a b c d w t
unfolding RulesQ.hermite ExactQ.hermite
hermite_same a b c d w t = refl

pub blend_same : (axes lowest : ℕ) (ws ts cell : ℕ → Float)
    → RulesQ.blend axes lowest ws ts cell ≡ ExactQ.blend floats axes lowest ws ts cell
unfolding RulesQ.blend ExactQ.blend
blend_same axes lowest ws ts cell = refl

pub fraction_same : (x : List Float) (l : ℕ) (p : Float) → RulesQ.fraction x l p ≡ ExactQ.fraction floats (at x) l p
unfolding RulesQ.fraction ExactQ.fraction Exact.h
fraction_same x l p = refl

pub moments_same : (x : List Float) (n : ℕ) (c : Condition) (y : List Float)
    → RulesM.moments x n c y ≡ ExactM.moments floats (at x) n (condition c) y
unfolding RulesM.moments ExactM.moments
moments_same x n c y = ap (table (n + 1)) (fun_ext (λ k. moment_same x y n c k))

end_zero_same : (e : End) → end (RulesE.zero_valued e) ≡ ExactE.zero_valued floats (end e)
end_zero_same NotAKnot = refl
end_zero_same (FirstDerivative v) = refl
end_zero_same (SecondDerivative v) = refl

condition_at_same : (mask : ℕ) (c : Condition) → condition (RulesE.condition_at mask c) ≡ ExactE.condition_at floats mask (condition c)
condition_at_same zero c = refl
condition_at_same (suc mask) (Endpoints lower upper) = ap₂ ExactE.Endpoints (end_zero_same lower) (end_zero_same upper)
condition_at_same (suc mask) Periodic = refl

pub lane_slope_same : (x : List Float) (n : ℕ) (c : Condition) (y : List Float) (i : ℕ)
    → RulesC.lane_slope x n c y i ≡ ExactC.lane_slope floats (at x) n (condition c) y i
unfolding RulesC.lane_slope ExactC.lane_slope
lane_slope_same x n c y i =
    ap (λ m. RulesC.knot_slope x n y m i) (moments_same x n c y) ∙ knot_slope_same x n y (ExactM.moments floats (at x) n (condition c) y) i

pub slope_along_same : (g : Sizes.Grid) (i mask : ℕ) (numbers : Sizes.Place → Float) (p : Sizes.Place)
    → RulesT.slope_along g i mask numbers p ≡ ExactT.slope_along floats (grid g) i mask numbers p
unfolding RulesT.slope_along ExactT.slope_along
slope_along_same g i mask numbers p =
    lane_slope_same (Sizes.knots g i) (Sizes.points g i - 1) (RulesE.condition_at mask (Sizes.condition g i))
    (table (Sizes.points g i) (λ k. numbers (Sizes.moved p i k))) (p i)
    ∙ ap (λ c. ExactC.lane_slope floats (at (Sizes.knots g i)) (Sizes.points g i - 1) c
    (table (Sizes.points g i) (λ k. numbers (Sizes.moved p i k))) (p i))
    (condition_at_same mask (Sizes.condition g i))

pub entry_same : (g : Sizes.Grid) (samples : Sizes.Place → Float) (i mask : ℕ) (p : Sizes.Place)
    → RulesT.entry g samples i mask p ≡ ExactT.entry floats (grid g) samples i mask p
unfolding RulesT.entry ExactT.entry
entry_same g samples zero mask p = refl
entry_same g samples (suc i) mask p =
    arms_ext (ltb mask (2 ^ i))
    (λ f. entry_same g samples i mask p)
    (λ f.
    ap (λ n. RulesT.slope_along g i (mask - 2 ^ i) n p) (fun_ext (λ q. entry_same g samples i (mask - 2 ^ i) q))
    ∙ slope_along_same g i (mask - 2 ^ i) (ExactT.entry floats (grid g) samples i (mask - 2 ^ i)) p)

pub value_in_same : (g : Sizes.Grid) (tensor : List Float) (cells : Sizes.Place) (point : ℕ → Float)
    → RulesQ.value_in g tensor cells point ≡ ExactQ.value_in floats (grid g) (λ p mask. at tensor (Sizes.spot g p mask)) cells point
unfolding RulesQ.value_in ExactQ.value_in RulesQ.cell RulesQ.fraction ExactQ.fraction Exact.h RulesQ.blend ExactQ.blend
value_in_same g tensor cells point = refl

pub tensor_same : (g : Sizes.Grid) (samples : List Float)
    → RulesT.tensor g samples ≡ ExactT.tensor floats (grid g) (ExactT.sample floats (grid g) samples)
unfolding RulesT.tensor ExactT.tensor ExactT.sample
tensor_same g samples =
    ap (table (Sizes.tensor_length g))
    (fun_ext (λ e. entry_same g (RulesT.sample g samples) g.axes (RulesT.mask_at g e) (RulesT.place_at g e)))

-- the curve of the moments, and the value from the tensor of the samples: what the calls compute
pub whole_curve_same : (x : List Float) (n : ℕ) (c : Condition) (y : List Float) (i : ℕ) (p : Float)
    → RulesC.curve_in_cell x y (RulesM.moments x n c y) i p
    ≡ ExactC.curve_in_cell floats (at x) (at y) (at (ExactM.moments floats (at x) n (condition c) y)) i p
whole_curve_same x n c y i p =
    ap (λ m. RulesC.curve_in_cell x y m i p) (moments_same x n c y) ∙ curve_same x y (ExactM.moments floats (at x) n (condition c) y) i p

pub whole_surface_same : (g : Sizes.Grid) (samples : List Float) (cells : Sizes.Place) (point : ℕ → Float)
    → RulesQ.value_in g (RulesT.tensor g samples) cells point
    ≡ ExactQ.value_from floats (grid g) (ExactT.sample floats (grid g) samples) cells point
whole_surface_same g samples cells point =
    ap (λ t. RulesQ.value_in g t cells point) (tensor_same g samples)
    ∙ value_in_same g (ExactT.tensor floats (grid g) (ExactT.sample floats (grid g) samples)) cells point
