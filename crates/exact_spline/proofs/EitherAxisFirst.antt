-- The order of two axes does not matter: slopes along one axis of slopes along the other are the same either way, and so are the values of
-- splines of splines. A slope is linear in what its lane holds, so it takes the rows of the other axis's splines to rows of one spline.
use mathlib.Core.Path.{◌≡◌, refl, sym, ◌∙◌, ap, ap₂, fun_ext}
use mathlib.Core.List.{List, [], ◌∷◌}
use mathlib.Core.Logic.{◌⊎◌, inl, inr}
use Prim.Native.Nat.{ℕ, zero, suc, ◌+◌, ◌-◌, ◌<◌, ◌≤◌}
use native.Mathlib.Decide.{dec_lt}
use native.Mathlib.Omega.{arith}
use Rattle.rules.specs.Numbers.{table}
use Rattle.rules.specs.Sizes.{Place}
use Rattle.rules.proofs.Tables.{at_table}
use Rattle.exact_arithmetic.specs.Arithmetic.{Arithmetic, IsField, IsOrdered}
use Rattle.exact_solver.specs.Expressions.{Term, var, t0, t1, add, sub, mul, div, neg, terms}
use Rattle.exact_solver.proofs.Solver.{solve}
use Rattle.exact_spline.specs.Numbers.{at}
use Rattle.exact_spline.specs.Ends.{
  End,
  NotAKnot,
  FirstDerivative,
  SecondDerivative,
  Condition,
  Endpoints,
  Periodic,
  zero_valued,
  crossed,
  dropped,
  fewest_points,
}
use Rattle.exact_spline.specs.Steps as Steps
use Rattle.exact_spline.specs.Moments.{moment, moments}
use Rattle.exact_spline.specs.Sizes.{Grid}
use Rattle.exact_spline.specs.Curve.{curve_in_cell, lane_slope}
use Rattle.exact_spline.specs.Query.{fraction}
use Rattle.exact_spline.specs.Nested.{on_axes, other_axes, along_lowest, nested_splines, exchanged, exchanged_grid}
use Rattle.exact_spline.specs.Derivatives.{slope, bend, twist, slope_in_cell, second_in_cell, third_in_cell}
use Rattle.exact_spline.specs.Spline.{IsSplineUnder, LowerEnd, UpperEnd, EndsHold}
use Rattle.exact_spline.proofs.Knots as Knots
use Rattle.exact_spline.proofs.Mixtures.{mix, mix_ap, lane_mix, fewest_same, s0, s1, s2, s3, slope_mix, bend_mix, twist_mix}
use Rattle.exact_spline.proofs.TheSpline.{moments_are_a_spline, moments_are_the_only_spline}
use Rattle.exact_spline.proofs.OnALine as OnALine
use Rattle.exact_spline.proofs.LowestAxis.{w0, w1, w2, w3, unity}
use Rattle.exact_spline.proofs.Smooth as Smooth
use Rattle.exact_spline.proofs.MixedDerivatives.{slope_at_knot}

module _ (A : Arithmetic) (F : IsField A) (O : IsOrdered A) where
  infixl 60 ◌⊕◌
  infixl 60 ◌⊖◌
  infixl 70 ◌⊗◌
  infixl 70 ◌⊘◌
  open A use {Number, nought, one, two, six, plus as ◌⊕◌, minus as ◌⊖◌, times as ◌⊗◌, over as ◌⊘◌, negative as ~}

  abbrev mix_term : Term → Term → Term → Term → Term → Term → Term → Term → Term
  mix_term a b c d p q r s = add (add (add (mul a p) (mul b q)) (mul c r)) (mul d s)

  -- ---- a flat cell

  module _ (w v dx : Number) (wide : ¬ (w ≡ nought)) where
    flat_slope : slope A w v v nought nought dx ≡ nought
    flat_slope = solve A F 1 (w ∷ v ∷ dx ∷ []) (wide, tt) (slope terms (var 0) (var 1) (var 1) t0 t0 (var 2)) t0 tt tt tt

    flat_bend : bend A w nought nought dx ≡ nought
    flat_bend = solve A F 1 (w ∷ v ∷ dx ∷ []) (wide, tt) (bend terms (var 0) t0 t0 (var 2)) t0 tt tt tt

    flat_twist : twist A w nought nought ≡ nought
    flat_twist = solve A F 1 (w ∷ v ∷ dx ∷ []) (wide, tt) (twist terms (var 0) t0 t0) t0 tt tt tt

  -- ---- the slope of a lane at a knot, as a function of what the lane holds

  module _ (x : ℕ → Number) (n size : ℕ) (full : size ≡ n + 1) (some : 1 ≤ n)
      (rising : (i : ℕ) → i < n → O.Positive (Steps.h A x i))
      (e : Condition Number) (enough : fewest_points e ≤ n + 1) (i : ℕ) (within : i ≤ n) where
    -- under the condition itself, and under the crossed one
    abbrev own : (ℕ → Number) → Number
    own f = lane_slope A x n e (table size f) i

    abbrev linear : (ℕ → Number) → Number
    linear f = lane_slope A x n (crossed A e) (table size f) i

    unit_whole : one ⊕ nought ≡ one
    unit_whole = solve A F 0 [] tt (add t1 t0) t1 tt tt tt

    -- where the shares of samples sum to nought
    linear_of : (a b c d : Number) → a ⊕ b ≡ nought → (f0 f1 g0 g1 : ℕ → Number)
        → linear (λ k. mix A F a b c d (f0 k) (f1 k) (g0 k) (g1 k)) ≡ mix A F a b c d (own f0) (own f1) (linear g0) (linear g1)
    linear_of a b c d none f0 f1 g0 g1 =
        alone (own f0) (linear H)
        ∙ ap (λ z. z ⊖ own f0)
        (sym (lane_mix A F O x n rising one one nought nought unit_whole e enough size full some f0 H f0 H i within)
        ∙ ap (λ f. own f) (fun_ext (λ k. regrouped (f0 k) (f1 k) (g0 k) (g1 k)))
        ∙ lane_mix A F O x n rising (one ⊕ a) c b d whole e enough size full some f0 g0 f1 g1 i within)
        ∙ left (own f0) (own f1) (linear g0) (linear g1)
      where
        H : ℕ → Number
        H k = mix A F a b c d (f0 k) (f1 k) (g0 k) (g1 k)

        whole : one ⊕ a ⊕ b ≡ one
        whole =
            solve A F 0 (a ∷ b ∷ []) tt (add (add t1 (var 0)) (var 1)) (add t1 (add (var 0) (var 1))) tt tt tt
            ∙ ap (λ z. one ⊕ z) none
            ∙ unit_whole

        alone : (p l : Number) → l ≡ mix A F one one nought nought p l p l ⊖ p
        alone p l =
            solve A F 0 (p ∷ l ∷ []) tt (var 1)
            (sub (mix_term t1 t1 t0 t0 (var 0) (var 1) (var 0) (var 1)) (var 0)) tt tt tt

        regrouped : (p r q s : Number)
            → mix A F one one nought nought p (mix A F a b c d p r q s) p (mix A F a b c d p r q s) ≡ mix A F (one ⊕ a) c b d p q r s
        regrouped p r q s =
            solve A F 0 (a ∷ b ∷ c ∷ d ∷ p ∷ q ∷ r ∷ s ∷ []) tt
            (mix_term t1 t1 t0 t0 (var 4) inner (var 4) inner)
            (mix_term (add t1 (var 0)) (var 2) (var 1) (var 3) (var 4) (var 5) (var 6) (var 7)) tt tt tt
          where
            inner : Term
            inner = mix_term (var 0) (var 1) (var 2) (var 3) (var 4) (var 6) (var 5) (var 7)

        left : (p r q s : Number) → mix A F (one ⊕ a) c b d p q r s ⊖ p ≡ mix A F a b c d p r q s
        left p r q s =
            solve A F 0 (a ∷ b ∷ c ∷ d ∷ p ∷ q ∷ r ∷ s ∷ []) tt
            (sub (mix_term (add t1 (var 0)) (var 2) (var 1) (var 3) (var 4) (var 5) (var 6) (var 7)) (var 4))
            (mix_term (var 0) (var 1) (var 2) (var 3) (var 4) (var 6) (var 5) (var 7)) tt tt tt

    wide : (k : ℕ) → k < n → ¬ (Steps.h A x k ≡ nought)
    wide k h = O.positive_not_nought _ (rising k h)

    few : fewest_points (crossed A e) ≤ n + 1
    few = omega (arith, enough, fewest_same A F e)

    -- a cell at one of whose knots i stands
    abbrev Beside : ℕ → Type 0
    Beside c = (c < n) × ((i ≡ c) ⊎ (i ≡ c + 1))

    cell_beside : (c : ℕ) × Beside c
    cell_beside = go (dec_lt i n)
      where
        go : Dec (i < n) → (c : ℕ) × Beside c
        go (yes h) = (i, (h, inl refl))
        go (no h) = (n - 1, (omega arith, inr (omega arith)))

    -- the slope, from the cell beside it, by any moments that are the rules'
    slope_from : (c : ℕ) → Beside c → (condition : Condition Number) → fewest_points condition ≤ n + 1 → (y : List Number) (m : ℕ → Number)
        → ((k : ℕ) → k ≤ n → m k ≡ moment A x (at A y) n condition k)
        → slope_in_cell A x (at A y) m c (x i) ≡ lane_slope A x n condition y i
    unfolding slope_in_cell
    slope_from c beside condition ok y m are =
        ap₂ (λ p q. slope A (Steps.h A x c) (at A y c) (at A y (c + 1)) p q (x i ⊖ x c))
        (are c (omega (arith, beside.0)) ∙ sym (OnALine.moment_at A F O x y n rising condition ok c (omega (arith, beside.0))))
        (are (c + 1) (omega (arith, beside.0)) ∙ sym
        (OnALine.moment_at A F O x y n rising condition ok (c + 1) (omega (arith, beside.0))))
        ∙ slope_at_knot A F O x y n rising condition ok c beside.0 i beside.1

    -- a lane of one number has no slope under the crossed condition
    module _ (v : Number) where
      abbrev lane : List Number
      lane = table size (λ k. v)

      abbrev none : ℕ → Number
      none k = nought

      read : (k : ℕ) → k ≤ n → at A lane k ≡ v
      read k h = at_table size (λ j. v) k A.absent (omega arith)

      no_slope : (k : ℕ) → k < n → (t : Number) → slope_in_cell A x (at A lane) none k t ≡ nought
      unfolding slope_in_cell
      no_slope k h t =
          ap₂ (λ p q. slope A (Steps.h A x k) p q nought nought (t ⊖ x k)) (read k (omega arith)) (read (k + 1) (omega arith))
          ∙ flat_slope (Steps.h A x k) v (t ⊖ x k) (wide k h)

      no_second : (k : ℕ) → k < n → (t : Number) → second_in_cell A x (at A lane) none k t ≡ nought
      unfolding second_in_cell
      no_second k h t = flat_bend (Steps.h A x k) v (t ⊖ x k) (wide k h)

      no_third : (k : ℕ) → k < n → third_in_cell A x (at A lane) none k ≡ nought
      unfolding third_in_cell
      no_third k h = flat_twist (Steps.h A x k) v v (wide k h)

      flat_lower : (end : End Number) → 2 + dropped end ≤ n + 1
          → LowerEnd A x (at A lane) n none (zero_valued A end)
      flat_lower NotAKnot h = no_third 0 (omega arith) ∙ sym (no_third 1 (omega arith))
      flat_lower (FirstDerivative u) h = no_slope 0 (omega arith) (x 0)
      flat_lower (SecondDerivative u) h = no_second 0 (omega arith) (x 0)

      flat_upper : (end : End Number) → 2 + dropped end ≤ n + 1
          → UpperEnd A x (at A lane) n none (zero_valued A end)
      flat_upper NotAKnot h = no_third (n - 2) (omega arith) ∙ sym (no_third (n - 1) (omega arith))
      flat_upper (FirstDerivative u) h = no_slope (n - 1) (omega arith) (x n)
      flat_upper (SecondDerivative u) h = no_second (n - 1) (omega arith) (x n)

      flat_ends : (condition : Condition Number) → fewest_points condition ≤ n + 1 → EndsHold A x (at A lane) n none (crossed A condition)
      flat_ends (Endpoints lower upper) h = (flat_lower lower (omega arith), flat_upper upper (omega arith))
      flat_ends Periodic h =
          record {
            slopes_close = no_slope (n - 1) (omega arith) (x n) ∙ sym (no_slope 0 (omega arith) (x 0));
            seconds_close = no_second (n - 1) (omega arith) (x n) ∙ sym (no_second 0 (omega arith) (x 0));
          }

      flat : IsSplineUnder A x (at A lane) n none (crossed A e)
      flat =
          record {
            spline =
                record {
                  lower_sample = λ k h. Knots.at_lower_knot A F x (at A lane) none k (wide k h);
                  upper_sample = λ k h. Knots.at_upper_knot A F x (at A lane) none k (wide k h);
                  slopes_meet = λ k h. no_slope k (omega arith) (x (k + 1)) ∙ sym (no_slope (k + 1) h (x (k + 1)));
                  seconds_meet = λ k h. no_second k (omega arith) (x (k + 1)) ∙ sym (no_second (k + 1) h (x (k + 1)));
                };
            ends = flat_ends e enough;
          }

      linear_constant : linear (λ k. v) ≡ nought
      linear_constant =
          let c : (c : ℕ) × Beside c = cell_beside in
          sym (slope_from c.0 c.1 (crossed A e) few lane none
          (moments_are_the_only_spline A F O x (at A lane) n rising (crossed A e) few none flat))
          ∙ no_slope c.0 c.1.0 (x i)

    -- ---- lanes of another axis, and the slopes across them

    module _ (x1 : ℕ → Number) (n1 size1 : ℕ) (full1 : size1 ≡ n1 + 1) (some1 : 1 ≤ n1)
        (rising1 : (i : ℕ) → i < n1 → O.Positive (Steps.h A x1 i))
        (e1 : Condition Number) (enough1 : fewest_points e1 ≤ n1 + 1) (Y : ℕ → ℕ → Number) where
      abbrev row : ℕ → List Number
      row j = table size1 (λ k. Y j k)

      abbrev N : ℕ → ℕ → Number
      N j = moment A x1 (at A (row j)) n1 e1

      abbrev across : List Number
      across = table size1 (λ k. own (λ j. Y j k))

      abbrev α : ℕ → Number
      α k = linear (λ j. N j k)

      row_spline : (j : ℕ) → IsSplineUnder A x1 (at A (row j)) n1 (N j) e1
      row_spline j = moments_are_a_spline A F O x1 (at A (row j)) n1 rising1 e1 enough1

      read_row : (j k : ℕ) → k ≤ n1 → at A (row j) k ≡ Y j k
      read_row j k h = at_table size1 (λ k. Y j k) k A.absent (omega arith)

      read_across : (k : ℕ) → k ≤ n1 → at A across k ≡ own (λ j. Y j k)
      read_across k h = at_table size1 (λ k. own (λ j. Y j k)) k A.absent (omega arith)

      wide1 : (k : ℕ) → k < n1 → ¬ (Steps.h A x1 k ≡ nought)
      wide1 k h = O.positive_not_nought _ (rising1 k h)

      few1 : fewest_points (crossed A e1) ≤ n1 + 1
      few1 = omega (arith, enough1, fewest_same A F e1)

      -- a derivative of the lane across, by these moments, is the slope across the derivatives of the rows
      take : (a b c d : Number) → a ⊕ b ≡ nought → (k : ℕ) → k < n1
          → mix A F a b c d (at A across k) (at A across (k + 1)) (α k) (α (k + 1))
          ≡ linear (λ j. mix A F a b c d (at A (row j) k) (at A (row j) (k + 1)) (N j k) (N j (k + 1)))
      take a b c d balanced k h =
          mix_ap A F a b c d (read_across k (omega arith)) (read_across (k + 1) (omega arith)) refl refl
          ∙ sym (linear_of a b c d balanced (λ j. Y j k) (λ j. Y j (k + 1)) (λ j. N j k) (λ j. N j (k + 1)))
          ∙ ap (λ f. linear f)
          (fun_ext (λ j. mix_ap A F a b c d (sym (read_row j k (omega arith))) (sym (read_row j (k + 1) (omega arith))) refl refl))

      take_slope : (k : ℕ) → k < n1 → (t : Number)
          → slope_in_cell A x1 (at A across) α k t ≡ linear (λ j. slope_in_cell A x1 (at A (row j)) (N j) k t)
      unfolding slope_in_cell
      take_slope k h t =
          slope_mix A F w dx (wide1 k h) _ _ _ _
          ∙ take (s0 A F w dx (wide1 k h)) (s1 A F w dx (wide1 k h)) (s2 A F w dx (wide1 k h)) (s3 A F w dx (wide1 k h)) balanced k h
          ∙ ap (λ f. linear f) (fun_ext (λ j. sym (slope_mix A F w dx (wide1 k h) _ _ _ _)))
        where
          w : Number
          w = Steps.h A x1 k

          dx : Number
          dx = t ⊖ x1 k

          balanced : ~ one ⊘ Steps.h A x1 k ⊕ one ⊘ Steps.h A x1 k ≡ nought
          balanced =
              solve A F 1 (Steps.h A x1 k ∷ []) (wide1 k h, tt) (add (div (neg t1) (var 0)) (div t1 (var 0))) t0 tt tt tt

      nothing : nought ⊕ nought ≡ nought
      nothing = solve A F 0 [] tt (add t0 t0) t0 tt tt tt

      take_second : (k : ℕ) → k < n1 → (t : Number)
          → second_in_cell A x1 (at A across) α k t ≡ linear (λ j. second_in_cell A x1 (at A (row j)) (N j) k t)
      unfolding second_in_cell
      take_second k h t =
          bend_mix A F (Steps.h A x1 k) (t ⊖ x1 k) (wide1 k h) (at A across k) (at A across (k + 1)) _ _
          ∙ take nought nought _ _ nothing k h
          ∙ ap (λ f. linear f)
          (fun_ext (λ j. sym (bend_mix A F (Steps.h A x1 k) (t ⊖ x1 k) (wide1 k h) (at A (row j) k) (at A (row j) (k + 1)) _ _)))

      take_third : (k : ℕ) → k < n1
          → third_in_cell A x1 (at A across) α k ≡ linear (λ j. third_in_cell A x1 (at A (row j)) (N j) k)
      unfolding third_in_cell
      take_third k h =
          twist_mix A F (Steps.h A x1 k) nought (wide1 k h) (at A across k) (at A across (k + 1)) _ _
          ∙ take nought nought _ _ nothing k h
          ∙ ap (λ f. linear f)
          (fun_ext (λ j. sym (twist_mix A F (Steps.h A x1 k) nought (wide1 k h) (at A (row j) k) (at A (row j) (k + 1)) _ _)))

      -- so its ends are as the crossed condition has them
      lower_across : (end : End Number) → 2 + dropped end ≤ n1 + 1 → ((j : ℕ) → LowerEnd A x1 (at A (row j)) n1 (N j) end)
          → LowerEnd A x1 (at A across) n1 α (zero_valued A end)
      lower_across NotAKnot h holds =
          take_third 0 (omega arith) ∙ ap (λ f. linear f) (fun_ext holds) ∙ sym (take_third 1 (omega arith))
      lower_across (FirstDerivative v) h holds =
          take_slope 0 (omega arith) (x1 0) ∙ ap (λ f. linear f) (fun_ext holds) ∙ linear_constant v
      lower_across (SecondDerivative v) h holds =
          take_second 0 (omega arith) (x1 0) ∙ ap (λ f. linear f) (fun_ext holds) ∙ linear_constant v

      upper_across : (end : End Number) → 2 + dropped end ≤ n1 + 1 → ((j : ℕ) → UpperEnd A x1 (at A (row j)) n1 (N j) end)
          → UpperEnd A x1 (at A across) n1 α (zero_valued A end)
      upper_across NotAKnot h holds =
          take_third (n1 - 2) (omega arith) ∙ ap (λ f. linear f) (fun_ext holds) ∙ sym (take_third (n1 - 1) (omega arith))
      upper_across (FirstDerivative v) h holds =
          take_slope (n1 - 1) (omega arith) (x1 n1) ∙ ap (λ f. linear f) (fun_ext holds) ∙ linear_constant v
      upper_across (SecondDerivative v) h holds =
          take_second (n1 - 1) (omega arith) (x1 n1) ∙ ap (λ f. linear f) (fun_ext holds) ∙ linear_constant v

      ends_across : (condition : Condition Number) → fewest_points condition ≤ n1 + 1
          → ((j : ℕ) → EndsHold A x1 (at A (row j)) n1 (N j) condition) → EndsHold A x1 (at A across) n1 α (crossed A condition)
      ends_across (Endpoints lower upper) h holds =
          (lower_across lower (omega arith) (λ j. (holds j).0), upper_across upper (omega arith) (λ j. (holds j).1))
      ends_across Periodic h holds =
          record {
            slopes_close =
                take_slope (n1 - 1) (omega arith) (x1 n1)
                ∙ ap (λ f. linear f) (fun_ext (λ j. (holds j).slopes_close))
                ∙ sym (take_slope 0 (omega arith) (x1 0));
            seconds_close =
                take_second (n1 - 1) (omega arith) (x1 n1)
                ∙ ap (λ f. linear f) (fun_ext (λ j. (holds j).seconds_close))
                ∙ sym (take_second 0 (omega arith) (x1 0));
          }

      across_spline : IsSplineUnder A x1 (at A across) n1 α (crossed A e1)
      across_spline =
          record {
            spline =
                record {
                  lower_sample = λ k h. Knots.at_lower_knot A F x1 (at A across) α k (wide1 k h);
                  upper_sample = λ k h. Knots.at_upper_knot A F x1 (at A across) α k (wide1 k h);
                  slopes_meet =
                      λ k h.
                      take_slope k (omega arith) (x1 (k + 1))
                      ∙ ap (λ f. linear f) (fun_ext (λ j. (row_spline j).spline.slopes_meet k h))
                      ∙ sym (take_slope (k + 1) h (x1 (k + 1)));
                  seconds_meet =
                      λ k h. Knots.seconds_always_meet A F x1 (at A across) α k (wide1 k (omega arith)) (wide1 (k + 1) h);
                };
            ends = ends_across e1 enough1 (λ j. (row_spline j).ends);
          }

  -- slopes along one axis of slopes along the other, either way
  slopes_commute : (x : ℕ → Number) (n size : ℕ) (full : size ≡ n + 1) (some : 1 ≤ n)
      (rising : (i : ℕ) → i < n → O.Positive (Steps.h A x i)) (e : Condition Number) (enough : fewest_points e ≤ n + 1)
      (i : ℕ) (within : i ≤ n)
      (x1 : ℕ → Number) (n1 size1 : ℕ) (full1 : size1 ≡ n1 + 1) (some1 : 1 ≤ n1)
      (rising1 : (i : ℕ) → i < n1 → O.Positive (Steps.h A x1 i)) (e1 : Condition Number) (enough1 : fewest_points e1 ≤ n1 + 1)
      (Y : ℕ → ℕ → Number) (d : ℕ) (within1 : d ≤ n1)
      → lane_slope A x1 n1 (crossed A e1) (table size1 (λ k. lane_slope A x n e (table size (λ j. Y j k)) i)) d
      ≡ lane_slope A x n (crossed A e) (table size (λ j. lane_slope A x1 n1 e1 (table size1 (λ k. Y j k)) d)) i
  slopes_commute x n size full some rising e enough i within x1 n1 size1 full1 some1 rising1 e1 enough1 Y d within1 =
      let c : (c : ℕ) × Beside x1 n1 size1 full1 some1 rising1 e1 enough1 d within1 c =
      cell_beside x1 n1 size1 full1 some1 rising1 e1 enough1 d within1 in
      sym
      (slope_from x1 n1 size1 full1 some1 rising1 e1 enough1 d within1 c.0 c.1 (crossed A e1)
      (few x1 n1 size1 full1 some1 rising1 e1 enough1 d within1)
      (table size1 (λ k. lane_slope A x n e (table size (λ j. Y j k)) i))
      (α x n size full some rising e enough i within x1 n1 size1 full1 some1 rising1 e1 enough1 Y)
      (moments_are_the_only_spline A F O x1 _ n1 rising1 (crossed A e1) (few x1 n1 size1 full1 some1 rising1 e1 enough1 d within1) _
      (across_spline x n size full some rising e enough i within x1 n1 size1 full1 some1 rising1 e1 enough1 Y)))
      ∙ take_slope x n size full some rising e enough i within x1 n1 size1 full1 some1 rising1 e1 enough1 Y c.0 c.1.0 (x1 d)
      ∙ ap (λ f. lane_slope A x n (crossed A e) (table size f) i)
      (fun_ext (λ j.
      slope_from x1 n1 size1 full1 some1 rising1 e1 enough1 d within1 c.0 c.1 e1 enough1 (table size1 (λ k. Y j k))
      (moment A x1 (at A (table size1 (λ k. Y j k))) n1 e1) (λ k h. refl)))

  -- ---- values

  -- an axis with a coordinate in one of its cells
  record Lane : Type 0 where
    x : ℕ → Number
    n : ℕ
    size : ℕ
    full : size ≡ n + 1
    some : 1 ≤ n
    rising : (i : ℕ) → i < n → O.Positive (Steps.h A x i)
    e : Condition Number
    enough : fewest_points e ≤ n + 1
    cell : ℕ
    inside : cell < n
    coordinate : Number

  -- the value there of the spline through what a lane holds, and its slope at a knot
  abbrev value_on : Lane → Condition Number → (ℕ → Number) → Number
  value_on L c f =
      curve_in_cell A L.x (at A (table L.size f)) (at A (moments A L.x L.n c (table L.size f))) L.cell L.coordinate

  abbrev slope_on : Lane → Condition Number → ℕ → (ℕ → Number) → Number
  slope_on L c i f = lane_slope A L.x L.n c (table L.size f) i

  module _ (L : Lane) where
    abbrev width : Number
    width = Steps.h A L.x L.cell

    abbrev part : Number
    part = fraction A L.x L.cell L.coordinate

    abbrev weighted : Number → Number → Number → Number → Number
    weighted = mix A F (w0 A F width part) (w1 A F width part) (w2 A F width part) (w3 A F width part)

    blended_on : (c : Condition Number) → fewest_points c ≤ L.n + 1 → (f : ℕ → Number)
        → weighted (f L.cell) (slope_on L c L.cell f) (f (L.cell + 1)) (slope_on L c (L.cell + 1) f) ≡ value_on L c f
    blended_on =
        Smooth.blended A F O L.x L.n L.size L.full L.some L.rising L.e L.enough L.cell L.inside
        L.coordinate

    fewer : fewest_points (crossed A L.e) ≤ L.n + 1
    fewer = omega (arith, L.enough, fewest_same A F L.e)

  module _ (L K : Lane) (Y : ℕ → ℕ → Number) where
    -- a slope along one axis of values along the other
    slope_of_values : (i : ℕ) → i ≤ L.n
        → value_on K (crossed A K.e) (λ k. slope_on L L.e i (λ j. Y j k)) ≡ slope_on L L.e i (λ j. value_on K K.e (λ k. Y j k))
    slope_of_values i within =
        sym (blended_on K (crossed A K.e) (fewer K) (λ k. slope_on L L.e i (λ j. Y j k)))
        ∙ mix_ap A F _ _ _ _ refl (either K.cell (omega (arith, K.inside))) refl (either (K.cell + 1) (omega (arith, K.inside)))
        ∙ sym
        (lane_mix A F O L.x L.n L.rising _ _ _ _ (unity A F (width K) (part K)) L.e L.enough L.size L.full L.some
        (λ j. Y j K.cell) (λ j. slope_on K K.e K.cell (λ k. Y j k))
        (λ j. Y j (K.cell + 1)) (λ j. slope_on K K.e (K.cell + 1) (λ k. Y j k)) i within)
        ∙ ap (λ f. slope_on L L.e i f) (fun_ext (λ j. blended_on K K.e K.enough (λ k. Y j k)))
      where
        either : (d : ℕ) → d ≤ K.n
            → slope_on K (crossed A K.e) d (λ k. slope_on L L.e i (λ j. Y j k))
            ≡ slope_on L (crossed A L.e) i (λ j. slope_on K K.e d (λ k. Y j k))
        either d within1 =
            slopes_commute L.x L.n L.size L.full L.some L.rising L.e L.enough i within
            K.x K.n K.size K.full K.some K.rising K.e K.enough Y d within1

    -- values along one axis of values along the other, either way
    values_commute : value_on K K.e (λ k. value_on L L.e (λ j. Y j k)) ≡ value_on L L.e (λ j. value_on K K.e (λ k. Y j k))
    values_commute =
        ap (λ f. value_on K K.e f) (fun_ext (λ k. sym (blended_on L L.e L.enough (λ j. Y j k))))
        ∙ Smooth.value_mix A F O K.x K.n K.size K.full K.some K.rising K.e K.enough K.cell K.inside
        K.coordinate _ _ _ _ (unity A F (width L) (part L))
        (λ k. Y L.cell k) (λ k. slope_on L L.e L.cell (λ j. Y j k))
        (λ k. Y (L.cell + 1) k) (λ k. slope_on L L.e (L.cell + 1) (λ j. Y j k))
        ∙ mix_ap A F _ _ _ _ refl (slope_of_values L.cell (omega (arith, L.inside))) refl
        (slope_of_values (L.cell + 1) (omega (arith, L.inside)))
        ∙ blended_on L L.e L.enough (λ j. value_on K K.e (λ k. Y j k))

  -- ---- two neighbouring axes of a grid

  lane_of : (i axes : ℕ) → i < axes → (g : Grid A) (cells : Place) → Smooth.On A F O axes g cells → (point : ℕ → Number) → Lane
  lane_of i axes used g cells on point =
      record {
        x = g.knots i;
        n = g.points i - 1;
        size = g.points i;
        full = omega (arith, on.inside i used);
        some = omega (arith, on.inside i used);
        rising = λ k h. on.rising i used k (omega arith);
        e = g.condition i;
        enough = omega (arith, on.enough i used, on.inside i used);
        cell = cells i;
        inside = omega (arith, on.inside i used);
        coordinate = point i;
      }

  -- the spline of splines is the same with any two neighbouring axes exchanged, and so in any order of the axes
  pub axes_in_either_order : (d axes : ℕ) → d + 1 < axes → (g : Grid A) (samples : Place → Number) (cells : Place)
      → Smooth.On A F O axes g cells → (point : ℕ → Number)
      → nested_splines A axes g samples cells point
      ≡ nested_splines A axes (exchanged_grid A d g) (λ p. samples (exchanged d p)) (exchanged d cells) (exchanged d point)
  unfolding nested_splines along_lowest lane_of
  axes_in_either_order d zero h g samples cells on point = let z : ⊥ = omega arith in absurd z
  axes_in_either_order zero (suc zero) h g samples cells on point = let z : ⊥ = omega arith in absurd z
  axes_in_either_order zero (suc (suc axes)) h g samples cells on point =
      ap (λ s. nested_splines A axes (other_axes A (other_axes A g (suc axes)) axes) s (λ i. cells (suc (suc i)))
      (λ i. point (suc (suc i))))
      (fun_ext (λ q.
      values_commute (lane_of 0 (suc (suc axes)) (omega arith) g cells on point) (lane_of 1 (suc (suc axes)) (omega arith) g cells on point)
      (λ j k. samples (on_axes j (on_axes k q)))
      ∙ ap (λ (Y : ℕ → ℕ → Number).
      value_on (lane_of 0 (suc (suc axes)) (omega arith) g cells on point) (g.condition 0)
      (λ j. value_on (lane_of 1 (suc (suc axes)) (omega arith) g cells on point) (g.condition 1) (λ k. Y j k)))
      (fun_ext (λ j. fun_ext (λ k. ap samples (fun_ext (places j k q)))))))
    where
      places : (j k : ℕ) (q : Place) (i : ℕ) → on_axes j (on_axes k q) i ≡ exchanged 0 (on_axes k (on_axes j q)) i
      places j k q zero = refl
      places j k q (suc zero) = refl
      places j k q (suc (suc i)) = refl
  axes_in_either_order (suc d) (suc axes) h g samples cells on point =
      axes_in_either_order d axes (omega arith) (other_axes A g axes) (along_lowest A g samples (cells 0) (point 0)) (λ i. cells (suc i))
      (Smooth.others A F O axes g cells on) (λ i. point (suc i))
      ∙ ap (λ s. nested_splines A axes (exchanged_grid A d (other_axes A g axes)) s (exchanged d (λ i. cells (suc i)))
      (exchanged d (λ i. point (suc i))))
      (fun_ext (λ q.
      ap (λ (f : ℕ → Number).
      curve_in_cell A (g.knots 0) (at A (table (g.points 0) f))
      (at A (moments A (g.knots 0) (g.points 0 - 1) (g.condition 0) (table (g.points 0) f))) (cells 0) (point 0))
      (fun_ext (λ k. ap samples (fun_ext (places k q))))))
    where
      places : (k : ℕ) (q : Place) (i : ℕ) → on_axes k (exchanged d q) i ≡ exchanged (suc d) (on_axes k q) i
      places k q zero = refl
      places k q (suc i) = refl
