-- A surface without its lowest axis: it is the surface of the other axes through the values of splines along the lowest.
use mathlib.Core.Path.{◌≡◌, refl, sym, ◌∙◌, ap, ap₂, subst, fun_ext}
use mathlib.Core.Bool.{cond}
use mathlib.Core.List.{[], ◌∷◌}
use Prim.Native.Nat.{ℕ, zero, suc, ◌+◌, ◌-◌, ◌*◌, ◌/◌, ◌%◌, ◌^◌, ◌<◌, ◌≤◌}
use native.Mathlib.Decide.{dec_lt, ℕ_discrete}
use native.Mathlib.Nat.{pow-suc, div-eq_of_lt, mul-add-div, mul-add-mod_self_left, div-add-mod', mod-lt, div-lt_iff_lt-mul}
use native.Mathlib.Omega.{arith}
use lib.Dec.{ltb, eqb, eqb-suc-suc, eqb-suc-zero, eqb-zero-suc}
use lib.Pow.{pow_pos, pow-add}
use lib.Arith.{digits_div, digits_mod}
use Rattle.rules.specs.Query.{corner}
use borrow.Author.Tests.{lt-ltb, le-ltb}
use Rattle.rules.specs.Numbers.{table}
use Rattle.rules.specs.Sizes.{Place, moved}
use Rattle.rules.proofs.Tables.{at_table, table_ext}
use Rattle.rules.proofs.Cases.{arms_one, not_both}
use Rattle.rules.proofs.Places.{moved_on, moved_off}
use Rattle.exact_arithmetic.specs.Arithmetic.{Arithmetic, IsField, IsOrdered}
use Rattle.exact_solver.specs.Expressions.{Term, var, t1, t2, t3}
use Rattle.exact_solver.specs.Expressions as Ring
use Rattle.exact_solver.proofs.Solver.{solve}
use Rattle.exact_spline.specs.Steps as Steps
use Rattle.exact_spline.specs.Ends.{
  End,
  NotAKnot,
  FirstDerivative,
  SecondDerivative,
  Condition,
  Endpoints,
  Periodic,
  fewest_points,
  zero_valued,
  crossed,
  condition_at,
}
use Rattle.exact_spline.specs.Query.{hermite, without_lowest, blend, fraction, value_in}
use Rattle.exact_spline.specs.Sizes.{Grid}
use Rattle.exact_spline.specs.Numbers.{at}
use Rattle.exact_spline.specs.Tensor.{entry, slope_along}
use Rattle.exact_spline.specs.Curve.{lane_slope}
use Rattle.exact_spline.specs.Nested.{on_axes, other_axes, lowest_lane, along_lowest}
use Rattle.rules.proofs.Cells.{four_power}
use Rattle.exact_spline.proofs.OnALine.{entry_none, entry_one, lane_blend}
use Rattle.exact_spline.proofs.Mixtures.{mix, lane_mix, fewest_same}

-- a place moved on one of the other axes, or on the lowest
pub moved_other : (k : ℕ) (p : Place) (i j : ℕ) → on_axes k (moved p i j) ≡ moved (on_axes k p) (suc i) j
moved_other k p i j = fun_ext go
  where
    go : (a : ℕ) → on_axes k (moved p i j) a ≡ moved (on_axes k p) (suc i) j a
    go zero = rw (eqb-zero-suc i) refl
    go (suc a) = rw (eqb-suc-suc a i) refl

pub moved_lowest : (k : ℕ) (p : Place) (j : ℕ) → moved (on_axes k p) 0 j ≡ on_axes j p
moved_lowest k p j = fun_ext go
  where
    go : (a : ℕ) → moved (on_axes k p) 0 j a ≡ on_axes j p a
    go zero = refl
    go (suc a) = rw (eqb-suc-zero a) refl

-- the corners of the lower and of the upper knot on the lowest axis
module _ (axes : ℕ) (cells : Place) (bits : ℕ) (below : bits < 2 ^ axes) where
  corner_lower : (j : ℕ) → j < suc axes → corner (suc axes) cells bits j ≡ on_axes (cells 0) (corner axes (λ i. cells (suc i)) bits) j
  unfolding corner
  corner_lower zero h =
      let e : suc axes - 1 - 0 ≡ axes = omega arith in
      ap (λ k. cells 0 + bits / 2 ^ k % 2) e ∙ ap (λ k. cells 0 + k % 2) (div-eq_of_lt below) ∙ omega arith
  corner_lower (suc j) h = ap (λ k. cells (suc j) + bits / 2 ^ k % 2) (omega arith)

  corner_upper : (j : ℕ) → j < suc axes
      → corner (suc axes) cells (2 ^ axes + bits) j ≡ on_axes (cells 0 + 1) (corner axes (λ i. cells (suc i)) bits) j
  unfolding corner
  corner_upper zero h =
      let e : suc axes - 1 - 0 ≡ axes = omega arith in
      let f : 2 ^ axes + bits ≡ 2 ^ axes * 1 + bits = omega arith in
      ap₂ (λ k b. cells 0 + b / 2 ^ k % 2) e f
      ∙ ap (λ k. cells 0 + k % 2) (mul-add-div (pow_pos axes) 1 bits ∙ ap (λ k. 1 + k) (div-eq_of_lt below))
  corner_upper (suc j) h =
      let e : suc axes - 1 - suc j ≡ axes - 1 - j = omega arith in
      let f : axes ≡ (axes - 1 - j) + suc j = omega arith in
      ap (λ k. cells (suc j) + (2 ^ axes + bits) / 2 ^ k % 2) e
      ∙ ap (λ k. cells (suc j) + (k + bits) / 2 ^ (axes - 1 - j) % 2)
      (ap (λ k. 2 ^ k) f ∙ pow-add 2 (axes - 1 - j) (suc j) ∙ ap (λ k. 2 ^ (axes - 1 - j) * k) (pow-suc 2 j ∙ turned (2 ^ j)))
      ∙ ap (λ k. cells (suc j) + k % 2) (mul-add-div (pow_pos (axes - 1 - j)) (2 * 2 ^ j) bits)
      ∙ ap (λ k. cells (suc j) + k) (mul-add-mod_self_left 2 (2 ^ j) (bits / 2 ^ (axes - 1 - j)))
    where
      turned : (k : ℕ) → k * 2 ≡ 2 * k
      turned k = omega arith

-- the four positions that a position without the lowest axis comes from
module _ (axes e : ℕ) where
  abbrev bits_of : ℕ
  bits_of = e / 2 ^ axes

  abbrev rest_of : ℕ
  rest_of = e % 2 ^ axes

  whole : bits_of * 2 ^ axes + rest_of ≡ e
  whole = div-add-mod' e (2 ^ axes)

  lower_position : (m : ℕ) → 2 * e + m ≡ bits_of * 2 ^ suc axes + (2 * rest_of + m)
  lower_position m =
      ap (λ k. 2 * k + m) (sym whole)
      ∙ regroup bits_of (2 ^ axes) rest_of m
      ∙ ap (λ k. bits_of * k + (2 * rest_of + m)) (sym (pow-suc 2 axes))
    where
      regroup : (b p r m : ℕ) → 2 * (b * p + r) + m ≡ b * (p * 2) + (2 * r + m)
      regroup b p r m = omega arith

  upper_position : (m : ℕ) → 2 * 4 ^ axes + 2 * e + m ≡ (2 ^ axes + bits_of) * 2 ^ suc axes + (2 * rest_of + m)
  upper_position m =
      ap₂ (λ f k. 2 * f + 2 * k + m) (four_power axes) (sym whole)
      ∙ regroup bits_of (2 ^ axes) rest_of m
      ∙ ap (λ k. (2 ^ axes + bits_of) * k + (2 * rest_of + m)) (sym (pow-suc 2 axes))
    where
      regroup : (b p r m : ℕ) → 2 * (p * p) + 2 * (b * p + r) + m ≡ (p + b) * (p * 2) + (2 * r + m)
      regroup b p r m = omega arith

  rest_below : (m : ℕ) → m ≤ 1 → 2 * rest_of + m < 2 ^ suc axes
  rest_below m h = omega (arith, pow-suc 2 axes, mod-lt e (pow_pos axes))

  bits_below : e < 4 ^ axes → bits_of < 2 ^ axes
  bits_below h = (div-lt_iff_lt-mul (pow_pos axes)).1 (subst (λ k. e < k) (four_power axes) h)

module _ (A : Arithmetic) (F : IsField A) where
  infixl 60 ◌⊕◌
  infixl 60 ◌⊖◌
  infixl 70 ◌⊗◌
  open A use {Number, nought, one, two, three, plus as ◌⊕◌, minus as ◌⊖◌, times as ◌⊗◌, negative as ~}

  pub entry_low : (g : Grid A) (samples : Place → Number) (i mask : ℕ) (p : Place) → mask < 2 ^ i
      → entry A g samples (suc i) mask p ≡ entry A g samples i mask p
  unfolding entry
  entry_low g samples i mask p h = arms_one (ltb mask (2 ^ i)) (λ f. refl) (λ f. not_both (ltb mask (2 ^ i)) (lt-ltb mask (2 ^ i) h) f)

  pub entry_high : (g : Grid A) (samples : Place → Number) (i mask : ℕ) (p : Place) → 2 ^ i ≤ mask
      → entry A g samples (suc i) mask p ≡ slope_along A g i (mask - 2 ^ i) (entry A g samples i (mask - 2 ^ i)) p
  unfolding entry
  entry_high g samples i mask p h = arms_one (ltb mask (2 ^ i)) (λ f. not_both (ltb mask (2 ^ i)) f (le-ltb mask (2 ^ i) h)) (λ f. refl)

  -- conditions at masks
  zero_valued_twice : (e : End Number) → zero_valued A (zero_valued A e) ≡ zero_valued A e
  zero_valued_twice NotAKnot = refl
  zero_valued_twice (FirstDerivative v) = refl
  zero_valued_twice (SecondDerivative v) = refl

  crossed_twice : (c : Condition Number) → crossed A (crossed A c) ≡ crossed A c
  crossed_twice (Endpoints lower upper) = ap₂ Endpoints (zero_valued_twice lower) (zero_valued_twice upper)
  crossed_twice Periodic = refl

  condition_later : (mask : ℕ) (c : Condition Number) → 0 < mask → condition_at A mask c ≡ crossed A c
  condition_later zero c h = let z : ⊥ = omega arith in absurd z
  condition_later (suc mask) c h = refl

  pub condition_even : (mask : ℕ) (c : Condition Number) → condition_at A (2 * mask) c ≡ condition_at A mask c
  condition_even zero c = refl
  condition_even (suc mask) c = condition_later (2 * suc mask) c (omega arith)

  pub condition_odd : (mask : ℕ) (c : Condition Number) → condition_at A (2 * mask + 1) c ≡ crossed A (condition_at A mask c)
  condition_odd zero c = refl
  condition_odd (suc mask) c = condition_later (2 * suc mask + 1) c (omega arith) ∙ sym (crossed_twice c)

  fewest_at : (mask : ℕ) (c : Condition Number) → fewest_points (condition_at A mask c) ≡ fewest_points c
  fewest_at zero c = refl
  fewest_at (suc mask) c = fewest_same A F c

  -- the weights of the blend
  module _ (w t : Number) where
    abbrev pub w0 : Number
    w0 = two ⊗ (t ⊗ t ⊗ t) ⊖ three ⊗ (t ⊗ t) ⊕ one

    abbrev pub w1 : Number
    w1 = (t ⊗ t ⊗ t ⊖ two ⊗ (t ⊗ t) ⊕ t) ⊗ w

    abbrev pub w2 : Number
    w2 = ~ two ⊗ (t ⊗ t ⊗ t) ⊕ three ⊗ (t ⊗ t)

    abbrev pub w3 : Number
    w3 = (t ⊗ t ⊗ t ⊖ t ⊗ t) ⊗ w

    pub hermite_mix : (p0 m0 p1 m1 : Number) → hermite A p0 m0 p1 m1 w t ≡ mix A F w0 w1 w2 w3 p0 m0 p1 m1
    unfolding hermite
    hermite_mix p0 m0 p1 m1 = refl

    pub unity : w0 ⊕ w2 ≡ one
    unity =
        solve A F 0 (t ∷ []) tt
        (Ring.add (Ring.add (Ring.sub (Ring.mul t2 cube) (Ring.mul t3 square)) t1)
        (Ring.add (Ring.mul (Ring.neg t2) cube) (Ring.mul t3 square))) t1 tt tt tt
      where
        square : Term
        square = Ring.mul (var 0) (var 0)

        cube : Term
        cube = Ring.mul square (var 0)

  module _ (O : IsOrdered A) (g : Grid A) (axes : ℕ) (samples : Place → Number)
      (rising : (i : ℕ) → i < suc axes → (k : ℕ) → k + 1 < g.points i → O.Positive (Steps.h A (g.knots i) k))
      (enough : (i : ℕ) → i < suc axes → fewest_points (g.condition i) ≤ g.points i)
      (some : (i : ℕ) → i < suc axes → 2 ≤ g.points i)
      (cell : ℕ) (inside : cell + 1 < g.points 0) (coordinate : Number) where
    abbrev W : Number
    W = Steps.h A (g.knots 0) cell

    abbrev t : Number
    t = fraction A (g.knots 0) cell coordinate

    abbrev g' : Grid A
    g' = other_axes A g axes

    abbrev samples' : Place → Number
    samples' = along_lowest A g samples cell coordinate

    -- the blend along the lowest axis of the numbers at a mask of the others and at that mask with the lowest axis
    abbrev blended : ℕ → ℕ → Place → Number
    blended i mask p =
        hermite A (entry A g samples i (2 * mask) (on_axes cell p)) (entry A g samples i (2 * mask + 1) (on_axes cell p))
        (entry A g samples i (2 * mask) (on_axes (cell + 1) p)) (entry A g samples i (2 * mask + 1) (on_axes (cell + 1) p)) W t

    lowest_slope : (k : ℕ) (p : Place)
        → slope_along A g 0 0 samples (on_axes k p)
        ≡ lane_slope A (g.knots 0) (g.points 0 - 1) (g.condition 0) (lowest_lane A g samples p) k
    unfolding slope_along
    lowest_slope k p =
        ap (λ f. lane_slope A (g.knots 0) (g.points 0 - 1) (g.condition 0) (table (g.points 0) f) k)
        (fun_ext (λ j. ap samples (moved_lowest k p j)))

    base : (p : Place) → samples' p ≡ blended 1 0 p
    unfolding along_lowest
    base p =
        sym
        (lane_blend A F O (g.knots 0) (lowest_lane A g samples p) (g.points 0 - 1) (λ i h. rising 0 (omega arith) i (omega arith))
        (g.condition 0) (omega (arith, enough 0 (omega arith))) cell
        (omega arith) coordinate)
        ∙ ap₂ (λ q r. hermite A q r (at A (lowest_lane A g samples p) (cell + 1))
        (lane_slope A (g.knots 0) (g.points 0 - 1) (g.condition 0) (lowest_lane A g samples p) (cell + 1)) W t)
        (at_table (g.points 0) (λ k. samples (on_axes k p)) cell A.absent (omega arith) ∙ sym
        (entry_none A F g samples 1 (on_axes cell p)))
        (sym (entry_one A F g samples 1 0 (on_axes cell p) (omega arith) ∙ lowest_slope cell p))
        ∙ ap₂ (λ q r. hermite A (entry A g samples 1 0 (on_axes cell p)) (entry A g samples 1 1 (on_axes cell p)) q r W t)
        (at_table (g.points 0) (λ k. samples (on_axes k p)) (cell + 1) A.absent inside ∙ sym
        (entry_none A F g samples 1 (on_axes (cell + 1) p)))
        (sym (entry_one A F g samples 1 0 (on_axes (cell + 1) p) (omega arith) ∙ lowest_slope (cell + 1) p))

    -- an entry whose highest axis is suc i
    highest : (i mask rest c : ℕ) (p : Place) (e : Condition Number) → 2 ^ suc i ≤ mask → mask - 2 ^ suc i ≡ rest
        → condition_at A rest (g.condition (suc i)) ≡ e
        → lane_slope A (g.knots (suc i)) (g.points (suc i) - 1) e
        (table (g.points (suc i)) (λ k. entry A g samples (suc i) rest (moved (on_axes c p) (suc i) k))) (p i)
        ≡ entry A g samples (suc (suc i)) mask (on_axes c p)
    unfolding slope_along
    highest i mask rest c p e h f k =
        sym
        (entry_high g samples (suc i) mask (on_axes c p) h
        ∙ ap (λ m. slope_along A g (suc i) m (entry A g samples (suc i) m) (on_axes c p)) f
        ∙ ap (λ e. lane_slope A (g.knots (suc i)) (g.points (suc i) - 1) e
        (table (g.points (suc i)) (λ k. entry A g samples (suc i) rest (moved (on_axes c p) (suc i) k))) (p i)) k)

    hermite_ap : {p0 q0 m0 n0 p1 q1 m1 n1 : Number} → p0 ≡ q0 → m0 ≡ n0 → p1 ≡ q1 → m1 ≡ n1
        → hermite A p0 m0 p1 m1 W t ≡ hermite A q0 n0 q1 n1 W t
    hermite_ap a b c d = λ i. hermite A (a i) (b i) (c i) (d i) W t

    moved_inside : (i k : ℕ) (p : Place) → k < g.points (suc i) → ((j : ℕ) → j < axes → p j < g.points (suc j)) → (j : ℕ) → j < axes
        → moved p i k j < g.points (suc j)
    moved_inside i k p h on j b = go (ℕ_discrete j i)
      where
        go : Dec (j ≡ i) → moved p i k j < g.points (suc j)
        go (yes e) = subst (λ a. moved p i k a < g.points (suc a)) (sym e) (subst (λ a. a < g.points (suc i)) (sym (moved_on p i k)) h)
        go (no e) = subst (λ a. a < g.points (suc j)) (sym (moved_off p i k j e)) (on j b)

    -- the slope along one of the other axes of blended numbers is the blend of the slopes
    lanes : (i : ℕ) → i < axes → (p : Place) → ((j : ℕ) → j < axes → p j < g.points (suc j)) → (r : ℕ)
        → ((q : Place) → ((j : ℕ) → j < axes → q j < g.points (suc j)) → entry A g' samples' i r q ≡ blended (suc i) r q)
        → slope_along A g' i r (entry A g' samples' i r) p
        ≡ hermite A
        (lane_slope A (g.knots (suc i)) (g.points (suc i) - 1) (condition_at A r (g.condition (suc i)))
        (table (g.points (suc i)) (λ k. entry A g samples (suc i) (2 * r) (moved (on_axes cell p) (suc i) k))) (p i))
        (lane_slope A (g.knots (suc i)) (g.points (suc i) - 1) (crossed A (condition_at A r (g.condition (suc i))))
        (table (g.points (suc i)) (λ k. entry A g samples (suc i) (2 * r + 1) (moved (on_axes cell p) (suc i) k))) (p i))
        (lane_slope A (g.knots (suc i)) (g.points (suc i) - 1) (condition_at A r (g.condition (suc i)))
        (table (g.points (suc i)) (λ k. entry A g samples (suc i) (2 * r) (moved (on_axes (cell + 1) p) (suc i) k))) (p i))
        (lane_slope A (g.knots (suc i)) (g.points (suc i) - 1) (crossed A (condition_at A r (g.condition (suc i))))
        (table (g.points (suc i)) (λ k. entry A g samples (suc i) (2 * r + 1) (moved (on_axes (cell + 1) p) (suc i) k))) (p i))
        W t
    unfolding slope_along
    lanes i h p on r ih =
        let e : Condition Number = condition_at A r (g.condition (suc i)) in
        ap (λ l. lane_slope A (g.knots (suc i)) (g.points (suc i) - 1) e l (p i))
        (table_ext (g.points (suc i)) _ _ (λ k b.
        ih (moved p i k) (moved_inside i k p b on)
        ∙ hermite_ap
        (ap (entry A g samples (suc i) (2 * r)) (moved_other cell p i k))
        (ap (entry A g samples (suc i) (2 * r + 1)) (moved_other cell p i k))
        (ap (entry A g samples (suc i) (2 * r)) (moved_other (cell + 1) p i k))
        (ap (entry A g samples (suc i) (2 * r + 1)) (moved_other (cell + 1) p i k))
        ∙ hermite_mix W t _ _ _ _))
        ∙ lane_mix A F O (g.knots (suc i)) (g.points (suc i) - 1) (λ j b. rising (suc i) (omega arith) j (omega arith))
        (w0 W t) (w1 W t) (w2 W t) (w3 W t) (unity W t) e
        (omega (arith, enough (suc i) (omega arith), fewest_at r (g.condition (suc i)), some (suc i) (omega arith)))
        (g.points (suc i)) (omega (arith, some (suc i) (omega arith))) (omega (arith, some (suc i) (omega arith)))
        (λ k. entry A g samples (suc i) (2 * r) (moved (on_axes cell p) (suc i) k))
        (λ k. entry A g samples (suc i) (2 * r + 1) (moved (on_axes cell p) (suc i) k))
        (λ k. entry A g samples (suc i) (2 * r) (moved (on_axes (cell + 1) p) (suc i) k))
        (λ k. entry A g samples (suc i) (2 * r + 1) (moved (on_axes (cell + 1) p) (suc i) k))
        (p i) (omega (arith, on i h))
        ∙ sym (hermite_mix W t _ _ _ _)

    -- the numbers of the other axes' tensor are the blends of the whole tensor's
    peel : (i : ℕ) → i ≤ axes → (mask : ℕ) → mask < 2 ^ i → (p : Place) → ((j : ℕ) → j < axes → p j < g.points (suc j))
        → entry A g' samples' i mask p ≡ blended (suc i) mask p
    unfolding entry
    peel zero h mask b p on =
        let e : mask ≡ 0 = omega arith in
        base p ∙ ap (λ m. blended 1 m p) (sym e)
    peel (suc i) h mask b p on =
        go (dec_lt mask (2 ^ i)) (λ m c q on. peel i (omega arith) m c q on)
      where
        go : Dec (mask < 2 ^ i)
            → ((m : ℕ) → m < 2 ^ i → (q : Place) → ((j : ℕ) → j < axes → q j < g.points (suc j)) → entry A g' samples' i m q ≡ blended
            (suc i) m q)
            → entry A g' samples' (suc i) mask p ≡ blended (suc (suc i)) mask p
        go (yes k) ih =
            entry_low g' samples' i mask p k
            ∙ ih mask k p on
            ∙ hermite_ap
            (sym (entry_low g samples (suc i) (2 * mask) (on_axes cell p) (omega (arith, pow-suc 2 i))))
            (sym (entry_low g samples (suc i) (2 * mask + 1) (on_axes cell p) (omega (arith, pow-suc 2 i))))
            (sym (entry_low g samples (suc i) (2 * mask) (on_axes (cell + 1) p) (omega (arith, pow-suc 2 i))))
            (sym (entry_low g samples (suc i) (2 * mask + 1) (on_axes (cell + 1) p) (omega (arith, pow-suc 2 i))))
        go (no k) ih =
            entry_high g' samples' i mask p (omega arith)
            ∙ lanes i h p on (mask - 2 ^ i) (ih (mask - 2 ^ i) (omega (arith, pow-suc 2 i)))
            ∙ hermite_ap
            (highest i (2 * mask) (2 * (mask - 2 ^ i)) cell p _ (omega (arith, pow-suc 2 i)) (omega (arith, pow-suc 2 i))
            (condition_even (mask - 2 ^ i) (g.condition (suc i))))
            (highest i (2 * mask + 1) (2 * (mask - 2 ^ i) + 1) cell p _ (omega (arith, pow-suc 2 i)) (omega (arith, pow-suc 2 i))
            (condition_odd (mask - 2 ^ i) (g.condition (suc i))))
            (highest i (2 * mask) (2 * (mask - 2 ^ i)) (cell + 1) p _ (omega (arith, pow-suc 2 i)) (omega (arith, pow-suc 2 i))
            (condition_even (mask - 2 ^ i) (g.condition (suc i))))
            (highest i (2 * mask + 1) (2 * (mask - 2 ^ i) + 1) (cell + 1) p _ (omega (arith, pow-suc 2 i)) (omega (arith, pow-suc 2 i))
            (condition_odd (mask - 2 ^ i) (g.condition (suc i))))

  -- a blend reads the numbers of its cell alone, and its axes may be counted from another
  pub blend_ext : (axes lowest : ℕ) (ws ts cell cell' : ℕ → Number) → ((e : ℕ) → e < 4 ^ axes → cell e ≡ cell' e)
      → blend A axes lowest ws ts cell ≡ blend A axes lowest ws ts cell'
  unfolding blend without_lowest
  blend_ext zero lowest ws ts cell cell' same = same 0 (omega arith)
  blend_ext (suc axes) lowest ws ts cell cell' same =
      blend_ext axes (suc lowest) ws ts (without_lowest A (4 ^ axes) (ws lowest) (ts lowest) cell)
      (without_lowest A (4 ^ axes) (ws lowest) (ts lowest) cell')
      (λ e h i.
      hermite A (same (2 * e) (omega (arith, pow-suc 4 axes)) i) (same (2 * e + 1) (omega (arith, pow-suc 4 axes)) i)
      (same (2 * 4 ^ axes + 2 * e) (omega (arith, pow-suc 4 axes)) i) (same (2 * 4 ^ axes + 2 * e + 1) (omega (arith, pow-suc 4 axes)) i)
      (ws lowest) (ts lowest))

  blend_shift : (axes lowest : ℕ) (ws ts cell : ℕ → Number)
      → blend A axes (suc lowest) ws ts cell ≡ blend A axes lowest (λ i. ws (suc i)) (λ i. ts (suc i)) cell
  unfolding blend
  blend_shift zero lowest ws ts cell = refl
  blend_shift (suc axes) lowest ws ts cell =
      blend_shift axes (suc lowest) ws ts (without_lowest A (4 ^ axes) (ws (suc lowest)) (ts (suc lowest)) cell)

  module _ (g : Grid A) (axes : ℕ) (samples : Place → Number)
      (reads : (p q : Place) → ((j : ℕ) → j < axes → p j ≡ q j) → samples p ≡ samples q) where
    moved_agree : (i k : ℕ) (p q : Place) → ((j : ℕ) → j < axes → p j ≡ q j) → (j : ℕ) → j < axes → moved p i k j ≡ moved q i k j
    moved_agree i k p q same j h = ap (cond (eqb j i) k) (same j h)

    -- a tensor's number is a matter of its place on the axes in use
    pub entry_ext : (i mask : ℕ) (p q : Place) → i ≤ axes → ((j : ℕ) → j < axes → p j ≡ q j)
        → entry A g samples i mask p ≡ entry A g samples i mask q
    unfolding entry slope_along
    entry_ext zero mask p q h same = reads p q same
    entry_ext (suc i) mask p q h same = go (dec_lt mask (2 ^ i)) (entry_ext i mask p q (omega arith) same)
        (λ k. entry_ext i (mask - 2 ^ i) (moved p i k) (moved q i k) (omega arith) (moved_agree i k p q same))
      where
        go : Dec (mask < 2 ^ i) → entry A g samples i mask p ≡ entry A g samples i mask q
            → ((k : ℕ) → entry A g samples i (mask - 2 ^ i) (moved p i k) ≡ entry A g samples i (mask - 2 ^ i) (moved q i k))
            → entry A g samples (suc i) mask p ≡ entry A g samples (suc i) mask q
        go (yes b) low high = entry_low g samples i mask p b ∙ low ∙ sym (entry_low g samples i mask q b)
        go (no b) low high =
            entry_high g samples i mask p (omega arith)
            ∙ ap₂ (λ f k. lane_slope A (g.knots i) (g.points i - 1) (condition_at A (mask - 2 ^ i) (g.condition i))
            (table (g.points i) f) k) (fun_ext high) (same i h)
            ∙ sym (entry_high g samples i mask q (omega arith))

  module _ (O : IsOrdered A) (g : Grid A) (axes : ℕ) (used : g.axes ≡ suc axes) (samples : Place → Number)
      (reads : (p q : Place) → ((j : ℕ) → j < suc axes → p j ≡ q j) → samples p ≡ samples q)
      (rising : (i : ℕ) → i < suc axes → (k : ℕ) → k + 1 < g.points i → O.Positive (Steps.h A (g.knots i) k))
      (enough : (i : ℕ) → i < suc axes → fewest_points (g.condition i) ≤ g.points i)
      (some : (i : ℕ) → i < suc axes → 2 ≤ g.points i)
      (cells : Place) (inside : (i : ℕ) → i < suc axes → cells i + 1 < g.points i) (point : ℕ → Number) where
    abbrev numbers : ℕ → Number
    numbers e = entry A g samples (suc axes) (e % 2 ^ suc axes) (corner (suc axes) cells (e / 2 ^ suc axes))

    abbrev numbers' : ℕ → Number
    numbers' e =
        entry A (other_axes A g axes) (along_lowest A g samples (cells 0) (point 0)) axes (e % 2 ^ axes)
        (corner axes (λ i. cells (suc i)) (e / 2 ^ axes))

    abbrev w : Number
    w = Steps.h A (g.knots 0) (cells 0)

    abbrev f : Number
    f = fraction A (g.knots 0) (cells 0) (point 0)

    at_position : (i k s : ℕ) → i ≡ k * 2 ^ suc axes + s → s < 2 ^ suc axes
        → numbers i ≡ entry A g samples (suc axes) s (corner (suc axes) cells k)
    at_position i k s e h =
        ap₂ (λ s k. entry A g samples (suc axes) s (corner (suc axes) cells k)) (ap (λ i. i % 2 ^ suc axes) e ∙ digits_mod k h)
        (ap (λ i. i / 2 ^ suc axes) e ∙ digits_div k h)

    corner_inside : (bits j : ℕ) → j < axes → corner axes (λ i. cells (suc i)) bits j < g.points (suc j)
    unfolding corner
    corner_inside bits j h = omega (arith, inside (suc j) (omega arith))

    without : (e : ℕ) → e < 4 ^ axes → without_lowest A (4 ^ axes) w f numbers e ≡ numbers' e
    unfolding without_lowest
    without e h =
        let bits : ℕ = e / 2 ^ axes in
        let s : ℕ = e % 2 ^ axes in
        let b : bits < 2 ^ axes = bits_below axes e h in
        (λ i.
        hermite A
        ((ap numbers (add_nought (2 * e)) ∙ at_position (2 * e + 0) bits (2 * s + 0) (lower_position axes e 0)
        (rest_below axes e 0 (omega arith))
        ∙ entry_ext g (suc axes) samples reads (suc axes) (2 * s + 0) _ _ (omega arith) (corner_lower axes cells bits b)
        ∙ ap (λ k. entry A g samples (suc axes) k (on_axes (cells 0) (corner axes (λ i. cells (suc i)) bits))) (sym (add_nought (2 * s))))
        i)
        ((at_position (2 * e + 1) bits (2 * s + 1) (lower_position axes e 1) (rest_below axes e 1 (omega arith)) ∙ entry_ext g
        (suc axes) samples reads (suc axes) (2 * s + 1) _ _ (omega arith) (corner_lower axes cells bits b)) i)
        ((ap numbers (add_nought (2 * 4 ^ axes + 2 * e)) ∙ at_position (2 * 4 ^ axes + 2 * e + 0) (2 ^ axes + bits) (2 * s + 0)
        (upper_position axes e 0) (rest_below axes e 0 (omega arith))
        ∙ entry_ext g (suc axes) samples reads (suc axes) (2 * s + 0) _ _ (omega arith) (corner_upper axes cells bits b)
        ∙ ap (λ k. entry A g samples (suc axes) k (on_axes (cells 0 + 1) (corner axes (λ i. cells (suc i)) bits)))
        (sym (add_nought (2 * s)))) i)
        ((at_position (2 * 4 ^ axes + 2 * e + 1) (2 ^ axes + bits) (2 * s + 1) (upper_position axes e 1)
        (rest_below axes e 1 (omega arith))
        ∙ entry_ext g (suc axes) samples reads (suc axes) (2 * s + 1) _ _ (omega arith) (corner_upper axes cells bits b)) i)
        w f)
        ∙ sym
        (peel O g axes samples rising enough some (cells 0) (inside 0 (omega arith)) (point 0) axes (omega arith) s
        (mod-lt e (pow_pos axes)) (corner axes (λ i. cells (suc i)) bits)
        (corner_inside bits))
      where
        add_nought : (k : ℕ) → k ≡ k + 0
        add_nought k = omega arith

    -- the surface is that of the other axes, through the values of the splines along the lowest axis
    pub surface_is_a_spline_of_splines :
        value_in A g (λ p mask. entry A g samples g.axes mask p) cells point
        ≡ value_in A (other_axes A g axes)
        (λ p mask. entry A (other_axes A g axes) (along_lowest A g samples (cells 0) (point 0)) axes mask p) (λ i. cells (suc i))
        (λ i. point (suc i))
    unfolding value_in blend
    surface_is_a_spline_of_splines =
        ap
        (λ a. blend A a 0 (λ i. Steps.h A (g.knots i) (cells i)) (λ i. fraction A (g.knots i) (cells i) (point i))
        (λ e. entry A g samples a (e % 2 ^ a) (corner a cells (e / 2 ^ a))))
        used
        ∙ blend_ext axes 1 (λ i. Steps.h A (g.knots i) (cells i)) (λ i. fraction A (g.knots i) (cells i) (point i))
        (without_lowest A (4 ^ axes) w f numbers) numbers' without
        ∙ blend_shift axes 0 (λ i. Steps.h A (g.knots i) (cells i)) (λ i. fraction A (g.knots i) (cells i) (point i)) numbers'
