-- That bound in closed form: a share of what is blended, which an axis more lets grow by 19 roundings, and tiny numbers.
use mathlib.Core.Path.{◌≡◌, refl, ap, ◌∙◌, subst, fun_ext}
use mathlib.Core.List.{[], ◌∷◌}
use Prim.Native.Nat.{ℕ, zero, suc, ◌+◌, ◌*◌, ◌^◌}
use lib.Dec.{T, leb→le}
use lib.Ieee.{Float, binary64, fits}
use lib.Ieee.Scale.{finite}
use Rattle.exact_solver.specs.Expressions.{var, t0, terms, add, mul}
use Rattle.exact_rationals.specs.Rationals.{ℚ, number, rationals, plus, minus, times, negative, Least}
use Rattle.exact_rationals.specs.Values.{value}
use Rattle.exact_rounding.specs.Near.{size, Near}
use Rattle.exact_rationals.proofs.Order.{ring}
use Rattle.exact_rounding.proofs.Approx.{v, within_size}
use Rattle.rules.specs.Query as Rules
use Rattle.exact_spline.specs.Query as Exact
use Rattle.exact_blend.specs.BlendErrors as Total
use Rattle.exact_blend.proofs.Weights.{amount, approx_exact}
use Rattle.exact_blend.proofs.AnyAxes.{k, j, Ready, approx_blend}

one_axis : (a W P0 M0 P1 M1 N0 O0 N1 O1 : ℚ)
    → Total.passed_on rationals k j v W P0 M0 P1 M1 (plus (times a P0) (times v N0)) (plus (times a M0) (times v O0))
    (plus (times a P1) (times v N1)) (plus (times a M1) (times v O1))
    ≡ plus (times (Total.again rationals k a) (Total.blended rationals W P0 M0 P1 M1))
    (times v (Total.rest rationals k j v a W M0 M1 N0 O0 N1 O1))
one_axis a W P0 M0 P1 M1 N0 O0 N1 O1 =
    ring (k ∷ j ∷ v ∷ a ∷ W ∷ P0 ∷ M0 ∷ P1 ∷ M1 ∷ N0 ∷ O0 ∷ N1 ∷ O1 ∷ [])
    (Total.passed_on terms (var 0) (var 1) (var 2) (var 4) (var 5) (var 6) (var 7) (var 8)
    (add (mul (var 3) (var 5)) (mul (var 2) (var 9))) (add (mul (var 3) (var 6)) (mul (var 2) (var 10)))
    (add (mul (var 3) (var 7)) (mul (var 2) (var 11))) (add (mul (var 3) (var 8)) (mul (var 2) (var 12))))
    (add (mul (Total.again terms (var 0) (var 3)) (Total.blended terms (var 4) (var 5) (var 6) (var 7) (var 8)))
    (mul (var 2) (Total.rest terms (var 0) (var 1) (var 2) (var 3) (var 4) (var 6) (var 8) (var 9) (var 10) (var 11) (var 12))))
    tt tt tt

pub errors_are : (axes lowest : ℕ) (W B N : ℕ → ℚ) (a : ℚ)
    → Total.errors rationals k j v axes lowest W B (λ e. plus (times a (B e)) (times v (N e)))
    ≡ plus (times (Total.shares rationals k axes a) (Total.bounds rationals axes lowest W B))
    (times v (Total.rests rationals k j v axes lowest W B N a))
unfolding Total.errors Total.bounds Total.shares Total.rests
errors_are zero lowest W B N a = refl
errors_are (suc axes) lowest W B N a =
    ap (Total.errors rationals k j v axes (suc lowest) W
    (λ e. Total.blended rationals (W lowest) (B (2 * e)) (B (2 * e + 1)) (B (2 * 4 ^ axes + 2 * e)) (B (2 * 4 ^ axes + 2 * e + 1))))
    (fun_ext (λ e. one_axis a (W lowest) (B (2 * e)) (B (2 * e + 1)) (B (2 * 4 ^ axes + 2 * e)) (B (2 * 4 ^ axes + 2 * e + 1)) (N (2 * e))
    (N (2 * e + 1)) (N (2 * 4 ^ axes + 2 * e)) (N (2 * 4 ^ axes + 2 * e + 1))))
    ∙ errors_are axes (suc lowest) W
    (λ e. Total.blended rationals (W lowest) (B (2 * e)) (B (2 * e + 1)) (B (2 * 4 ^ axes + 2 * e)) (B (2 * 4 ^ axes + 2 * e + 1)))
    (λ e. Total.rest rationals k j v a (W lowest) (B (2 * e + 1)) (B (2 * 4 ^ axes + 2 * e + 1)) (N (2 * e)) (N (2 * e + 1))
    (N (2 * 4 ^ axes + 2 * e)) (N (2 * 4 ^ axes + 2 * e + 1)))
    (Total.again rationals k a)

-- the shares of two, three and four axes
two_axes : Least (minus (amount 38913) (Total.shares rationals k 2 (number 0)))
unfolding Least minus plus times negative number Total.shares
two_axes = leb→le _ _ tt

four_axes : Least (minus (amount 77825) (Total.shares rationals k 4 (number 0)))
unfolding Least minus plus times negative number Total.shares
four_axes = leb→le _ _ tt

no_error : (B : ℕ → ℚ) → ◌≡◌ {A = ℕ → ℚ} (λ e. number 0) (λ e. plus (times (number 0) (B e)) (times v (number 0)))
no_error B = fun_ext (λ e. ring (B e ∷ v ∷ []) t0 (add (mul t0 (var 0)) (mul (var 1) t0)) tt tt tt)

-- the blend of a cell of floats, with their own sizes
pub blend_near_exact : (widths ts : ℕ → Float) → ((i : ℕ) → Ready (widths i) (ts i) (size (widths i))) → (axes : ℕ) (cell : ℕ → Float)
    → ((e : ℕ) → T (fits binary64 (cell e)))
    → T (finite (Rules.blend axes 0 widths ts cell))
    → Near (value (Rules.blend axes 0 widths ts cell))
    (Exact.blend rationals axes 0 (λ i. value (widths i)) (λ i. value (ts i)) (λ e. value (cell e)))
    (plus (times (Total.shares rationals k axes (number 0)) (Total.bounds rationals axes 0 (λ i. size (widths i)) (λ e. size (cell e))))
    (times v (Total.rests rationals k j v axes 0 (λ i. size (widths i)) (λ e. size (cell e)) (λ e. number 0) (number 0))))
blend_near_exact widths ts ready axes cell good f =
    subst (Near _ _)
    (ap (Total.errors rationals k j v axes 0 (λ i. size (widths i)) (λ e. size (cell e))) (no_error (λ e. size (cell e)))
    ∙ errors_are axes 0 (λ i. size (widths i)) (λ e. size (cell e)) (λ e. number 0) (number 0))
    (approx_blend widths ts (λ i. size (widths i)) ready axes 0 cell (λ e. value (cell e)) (λ e. size (cell e)) (λ e. number 0)
    (λ e l. approx_exact (cell e) (size (cell e)) (good e) (within_size (cell e))) f).near
