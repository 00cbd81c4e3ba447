-- The rules are the same formulas over any arithmetic. So a relation between the numbers of two arithmetics that the operations respect is
-- respected by the rules: by the steps, the solves, the moments, the curve, the tensor and the value in a cell.
use mathlib.Core.Path.{◌≡◌, refl, ap, ap₂, subst}
use mathlib.Core.Bool.{Bool, true, false, cond}
use mathlib.Core.List.{List}
use Prim.Native.Nat.{ℕ, zero, suc, ◌+◌, ◌-◌, ◌*◌, ◌/◌, ◌%◌, ◌^◌}
use lib.Dec.{eqb, leb, ltb}
use lib.ListN.{get_or}
use Rattle.rules.specs.Numbers.{table, table_from}
use Rattle.rules.specs.Sizes.{Place, moved, unflat, product_below}
use Rattle.rules.specs.Query.{corner}
use Rattle.rules.proofs.Cases.{arms}
use Rattle.exact_arithmetic.specs.Arithmetic.{Arithmetic}
use Rattle.exact_spline.specs.Numbers.{at}
use Rattle.exact_spline.specs.Ends as Ends
use Rattle.exact_spline.specs.Ends.{End, NotAKnot, FirstDerivative, SecondDerivative, Condition, Endpoints, Periodic, dropped}
use Rattle.exact_spline.specs.Sizes as Sizes
use Rattle.exact_spline.specs.Steps as Steps
use Rattle.exact_spline.specs.Solve as Solve
use Rattle.exact_spline.specs.Moments as Moments
use Rattle.exact_spline.specs.Curve as Curve
use Rattle.exact_spline.specs.Tensor as Tensor
use Rattle.exact_spline.specs.Query as Query

-- what it is for the operations to respect a relation
pub record Respected (A B : Arithmetic) (R : A.Number → B.Number → Type 0) : Type 0 where
  pub absent : R A.absent B.absent
  pub nought : R A.nought B.nought
  pub one : R A.one B.one
  pub two : R A.two B.two
  pub three : R A.three B.three
  pub six : R A.six B.six
  pub plus : (a b : A.Number) (a' b' : B.Number) → R a a' → R b b' → R (A.plus a b) (B.plus a' b')
  pub minus : (a b : A.Number) (a' b' : B.Number) → R a a' → R b b' → R (A.minus a b) (B.minus a' b')
  pub times : (a b : A.Number) (a' b' : B.Number) → R a a' → R b b' → R (A.times a b) (B.times a' b')
  pub over : (a b : A.Number) (a' b' : B.Number) → R a a' → R b b' → R (A.over a b) (B.over a' b')
  pub negative : (a : A.Number) (a' : B.Number) → R a a' → R (A.negative a) (B.negative a')

module _ (A B : Arithmetic) (R : A.Number → B.Number → Type 0) (respected : Respected A B R) where
  infixl 60 ◌⊕◌
  infixl 60 ◌⊖◌
  infixl 70 ◌⊗◌
  infixl 70 ◌⊘◌
  -- related functions of an index
  abbrev pub Alike : (ℕ → A.Number) → (ℕ → B.Number) → Type 0
  Alike f g = (k : ℕ) → R (f k) (g k)

  -- two related numbers, and an end and a condition of such, by either
  abbrev pub Both : Type 0
  Both = (a : A.Number) × ((b : B.Number) × R a b)

  abbrev pub end_left : End Both → End A.Number
  end_left NotAKnot = NotAKnot
  end_left (FirstDerivative p) = FirstDerivative p.0
  end_left (SecondDerivative p) = SecondDerivative p.0

  abbrev pub end_right : End Both → End B.Number
  end_right NotAKnot = NotAKnot
  end_right (FirstDerivative p) = FirstDerivative p.1.0
  end_right (SecondDerivative p) = SecondDerivative p.1.0

  abbrev pub left : Condition Both → Condition A.Number
  left (Endpoints lower upper) = Endpoints (end_left lower) (end_left upper)
  left Periodic = Periodic

  abbrev pub right : Condition Both → Condition B.Number
  right (Endpoints lower upper) = Endpoints (end_right lower) (end_right upper)
  right Periodic = Periodic

  same_dropped : (e : End Both) → dropped (end_left e) ≡ dropped (end_right e)
  same_dropped NotAKnot = refl
  same_dropped (FirstDerivative p) = refl
  same_dropped (SecondDerivative p) = refl

  -- the operations, their numbers left to be found
  ◌⊕◌ : {a b : A.Number} {a' b' : B.Number} → R a a' → R b b' → R (A.plus a b) (B.plus a' b')
  ◌⊕◌ p q = respected.plus _ _ _ _ p q

  ◌⊖◌ : {a b : A.Number} {a' b' : B.Number} → R a a' → R b b' → R (A.minus a b) (B.minus a' b')
  ◌⊖◌ p q = respected.minus _ _ _ _ p q

  ◌⊗◌ : {a b : A.Number} {a' b' : B.Number} → R a a' → R b b' → R (A.times a b) (B.times a' b')
  ◌⊗◌ p q = respected.times _ _ _ _ p q

  ◌⊘◌ : {a b : A.Number} {a' b' : B.Number} → R a a' → R b b' → R (A.over a b) (B.over a' b')
  ◌⊘◌ p q = respected.over _ _ _ _ p q

  choice : (c : Bool) {a b : A.Number} {a' b' : B.Number} → R a a' → R b b' → R (cond c a b) (cond c a' b')
  choice true p q = p
  choice false p q = q

  -- lists of the same length, number by number
  table_from_alike : (n a : ℕ) (f : ℕ → A.Number) (g : ℕ → B.Number) → Alike f g → (k : ℕ)
      → R (get_or (table_from n a f) k A.absent) (get_or (table_from n a g) k B.absent)
  table_from_alike zero a f g p k = respected.absent
  table_from_alike (suc n) a f g p zero = p a
  table_from_alike (suc n) a f g p (suc k) = table_from_alike n (suc a) f g p k

  table_alike : (n : ℕ) (f : ℕ → A.Number) (g : ℕ → B.Number) → Alike f g → Alike (at A (table n f)) (at B (table n g))
  table_alike n = table_from_alike n 0

  -- ---- the two solves

  module _ (sub diag sup rhs : ℕ → A.Number) (sub' diag' sup' rhs' : ℕ → B.Number)
      (on_sub : Alike sub sub') (on_diag : Alike diag diag') (on_sup : Alike sup sup') (on_rhs : Alike rhs rhs') where
    w_alike : Alike (Solve.w A sub diag sup rhs) (Solve.w B sub' diag' sup' rhs')
    unfolding Solve.w
    w_alike zero = on_diag zero
    w_alike (suc k) = on_diag (suc k) ⊖ on_sub k ⊗ (on_sup k ⊘ w_alike k)

    dp_alike : Alike (Solve.dp A sub diag sup rhs) (Solve.dp B sub' diag' sup' rhs')
    unfolding Solve.dp
    dp_alike zero = on_rhs zero ⊘ on_diag zero
    dp_alike (suc k) = (on_rhs (suc k) ⊖ on_sub k ⊗ dp_alike k) ⊘ w_alike (suc k)

    before_last_alike : (l : ℕ) → Alike (Solve.before_last A sub diag sup rhs l) (Solve.before_last B sub' diag' sup' rhs' l)
    unfolding Solve.before_last Solve.cp
    before_last_alike l zero = dp_alike l
    before_last_alike l (suc j) =
        dp_alike (l - suc j) ⊖ (on_sup (l - suc j) ⊘ w_alike (l - suc j)) ⊗ before_last_alike l j

    pub thomas_alike : (l : ℕ) → Alike (Solve.thomas A sub diag sup rhs l) (Solve.thomas B sub' diag' sup' rhs' l)
    unfolding Solve.thomas
    thomas_alike l k = before_last_alike l (l - k)

  module _ (sub diag sup rhs : ℕ → A.Number) (sub' diag' sup' rhs' : ℕ → B.Number)
      (on_sub : Alike sub sub') (on_diag : Alike diag diag') (on_sup : Alike sup sup') (on_rhs : Alike rhs rhs')
      (corner : A.Number) (corner' : B.Number) (on_corner : R corner corner') (l : ℕ) where
    gamma_alike : R (A.negative (diag 0)) (B.negative (diag' 0))
    gamma_alike = respected.negative _ _ (on_diag 0)

    diag_mod_alike : Alike (Solve.diag_mod A sub diag sup rhs corner l) (Solve.diag_mod B sub' diag' sup' rhs' corner' l)
    unfolding Solve.diag_mod
    diag_mod_alike k =
        choice (eqb k 0) (on_diag k ⊖ gamma_alike)
        (choice (eqb k l) (on_diag k ⊖ on_corner ⊗ on_corner ⊘ gamma_alike) (on_diag k))

    u_vec_alike : Alike (Solve.u_vec A sub diag sup rhs corner l) (Solve.u_vec B sub' diag' sup' rhs' corner' l)
    unfolding Solve.u_vec
    u_vec_alike k = choice (eqb k 0) gamma_alike (choice (eqb k l) on_corner respected.nought)

    y_alike : Alike (Solve.y A sub diag sup rhs corner l) (Solve.y B sub' diag' sup' rhs' corner' l)
    unfolding Solve.y
    y_alike = thomas_alike _ _ _ _ _ _ _ _ on_sub diag_mod_alike on_sup on_rhs l

    z_alike : Alike (Solve.z A sub diag sup rhs corner l) (Solve.z B sub' diag' sup' rhs' corner' l)
    unfolding Solve.z
    z_alike = thomas_alike _ _ _ _ _ _ _ _ on_sub diag_mod_alike on_sup u_vec_alike l

    factor_alike : R (Solve.factor A sub diag sup rhs corner l) (Solve.factor B sub' diag' sup' rhs' corner' l)
    unfolding Solve.factor
    factor_alike =
        (y_alike 0 ⊕ on_corner ⊘ gamma_alike ⊗ y_alike l) ⊘ (respected.one ⊕ (z_alike 0 ⊕ on_corner ⊘ gamma_alike ⊗ z_alike l))

    pub cyclic_alike : Alike (Solve.cyclic_thomas A sub diag sup rhs corner l) (Solve.cyclic_thomas B sub' diag' sup' rhs' corner' l)
    unfolding Solve.cyclic_thomas
    cyclic_alike k = y_alike k ⊖ factor_alike ⊗ z_alike k

  -- ---- steps and moments

  module _ (x : ℕ → A.Number) (x' : ℕ → B.Number) (on_x : Alike x x') where
    h_alike : Alike (Steps.h A x) (Steps.h B x')
    unfolding Steps.h
    h_alike i = on_x (i + 1) ⊖ on_x i

    module _ (y : ℕ → A.Number) (y' : ℕ → B.Number) (on_y : Alike y y') where
      s_alike : Alike (Steps.s A x y) (Steps.s B x' y')
      unfolding Steps.s
      s_alike i = (on_y (i + 1) ⊖ on_y i) ⊘ h_alike i

      u_alike : Alike (Steps.u A x y) (Steps.u B x' y')
      unfolding Steps.u
      u_alike k = respected.six ⊗ (s_alike (k + 1) ⊖ s_alike k)

      module _ (n : ℕ) where
        record RowsAlike (r : Moments.Row A.Number) (r' : Moments.Row B.Number) : Type 0 where
          diagonal : R r.diagonal r'.diagonal
          neighbour : R r.neighbour r'.neighbour
          right : R r.right r'.right

        lower_alike : (e : End Both) → RowsAlike (Moments.lower_row A x y n (end_left e)) (Moments.lower_row B x' y' n (end_right e))
        unfolding Moments.lower_row
        lower_alike NotAKnot =
            record {
              diagonal = (h_alike 0 ⊕ h_alike 1) ⊗ (h_alike 0 ⊕ respected.two ⊗ h_alike 1);
              neighbour = h_alike 1 ⊗ h_alike 1 ⊖ h_alike 0 ⊗ h_alike 0;
              right = h_alike 1 ⊗ u_alike 0;
            }
        lower_alike (FirstDerivative p) =
            record { diagonal = respected.two ⊗ h_alike 0; neighbour = h_alike 0; right = respected.six ⊗ (s_alike 0 ⊖ p.1.1) }
        lower_alike (SecondDerivative p) = record { diagonal = respected.one; neighbour = respected.nought; right = p.1.1 }

        upper_alike : (e : End Both) → RowsAlike (Moments.upper_row A x y n (end_left e)) (Moments.upper_row B x' y' n (end_right e))
        unfolding Moments.upper_row
        upper_alike NotAKnot =
            record {
              diagonal = (h_alike (n - 2) ⊕ h_alike (n - 1)) ⊗ (respected.two ⊗ h_alike (n - 2) ⊕ h_alike (n - 1));
              neighbour = h_alike (n - 2) ⊗ h_alike (n - 2) ⊖ h_alike (n - 1) ⊗ h_alike (n - 1);
              right = h_alike (n - 2) ⊗ u_alike (n - 2);
            }
        upper_alike (FirstDerivative p) =
            record {
              diagonal = respected.two ⊗ h_alike (n - 1);
              neighbour = h_alike (n - 1);
              right = respected.six ⊗ (p.1.1 ⊖ s_alike (n - 1));
            }
        upper_alike (SecondDerivative p) = record { diagonal = respected.one; neighbour = respected.nought; right = p.1.1 }

        module _ (lower upper : End Both) where
          sub_alike : Alike (Moments.sub A x y n (end_left lower) (end_left upper))
              (Moments.sub B x' y' n (end_right lower) (end_right upper))
          unfolding Moments.sub
          sub_alike j =
              rw (same_dropped lower, same_dropped upper)
              (choice (eqb (j + 1) (n - dropped (end_right lower) - dropped (end_right upper))) (upper_alike upper).neighbour
              (h_alike (dropped (end_right lower) + j)))

          diag_alike : Alike (Moments.diag A x y n (end_left lower) (end_left upper))
              (Moments.diag B x' y' n (end_right lower) (end_right upper))
          unfolding Moments.diag
          diag_alike j =
              rw (same_dropped lower, same_dropped upper)
              (choice (eqb j 0) (lower_alike lower).diagonal
              (choice (eqb j (n - dropped (end_right lower) - dropped (end_right upper))) (upper_alike upper).diagonal
              (respected.two ⊗ (h_alike (dropped (end_right lower) + j - 1) ⊕ h_alike (dropped (end_right lower) + j)))))

          sup_alike : Alike (Moments.sup A x y n (end_left lower) (end_left upper))
              (Moments.sup B x' y' n (end_right lower) (end_right upper))
          unfolding Moments.sup
          sup_alike j =
              rw (same_dropped lower) (choice (eqb j 0) (lower_alike lower).neighbour (h_alike (dropped (end_right lower) + j)))

          rhs_alike : Alike (Moments.rhs A x y n (end_left lower) (end_left upper))
              (Moments.rhs B x' y' n (end_right lower) (end_right upper))
          unfolding Moments.rhs
          rhs_alike j =
              rw (same_dropped lower, same_dropped upper)
              (choice (eqb j 0) (lower_alike lower).right
              (choice (eqb j (n - dropped (end_right lower) - dropped (end_right upper))) (upper_alike upper).right
              (u_alike (dropped (end_right lower) + j - 1))))

          inner_alike : Alike (Moments.inner A x y n (end_left lower) (end_left upper))
              (Moments.inner B x' y' n (end_right lower) (end_right upper))
          unfolding Moments.inner
          inner_alike j =
              rw (same_dropped lower, same_dropped upper)
              (thomas_alike _ _ _ _ _ _ _ _ sub_alike diag_alike sup_alike rhs_alike
              (n - dropped (end_right lower) - dropped (end_right upper)) j)

        inner_at : (lower upper : End Both) (i j : ℕ) → i ≡ j
            → R (Moments.inner A x y n (end_left lower) (end_left upper) i) (Moments.inner B x' y' n (end_right lower) (end_right upper) j)
        inner_at lower upper i j e =
            subst (λ k. R (Moments.inner A x y n (end_left lower) (end_left upper) i)
            (Moments.inner B x' y' n (end_right lower) (end_right upper) k)) e (inner_alike lower upper i)

        first_alike : (lower upper : End Both)
            → R (Moments.first_moment A x y n (end_left lower) (end_left upper))
            (Moments.first_moment B x' y' n (end_right lower) (end_right upper))
        unfolding Moments.first_moment
        first_alike NotAKnot upper =
            ((h_alike 0 ⊕ h_alike 1) ⊗ inner_alike NotAKnot upper 0 ⊖ h_alike 0 ⊗ inner_alike NotAKnot upper 1) ⊘ h_alike 1
        first_alike (FirstDerivative p) upper = inner_alike (FirstDerivative p) upper 0
        first_alike (SecondDerivative p) upper = inner_alike (SecondDerivative p) upper 0

        last_alike : (lower upper : End Both)
            → R (Moments.last_moment A x y n (end_left lower) (end_left upper))
            (Moments.last_moment B x' y' n (end_right lower) (end_right upper))
        unfolding Moments.last_moment
        last_alike lower NotAKnot =
            ((h_alike (n - 2) ⊕ h_alike (n - 1)) ⊗ inner_at lower NotAKnot _ _ (ap (λ d. n - d - 1) (same_dropped lower))
            ⊖ h_alike (n - 1) ⊗ inner_at lower NotAKnot _ _ (ap (λ d. n - d - 1 - 1) (same_dropped lower))) ⊘ h_alike (n - 2)
        last_alike lower (FirstDerivative p) = inner_at lower (FirstDerivative p) _ _ (ap (λ d. n - d - 0) (same_dropped lower))
        last_alike lower (SecondDerivative p) = inner_at lower (SecondDerivative p) _ _ (ap (λ d. n - d - 0) (same_dropped lower))

        periodic_diag_alike : Alike (Moments.periodic_diag A x y n) (Moments.periodic_diag B x' y' n)
        unfolding Moments.periodic_diag
        periodic_diag_alike k =
            choice (eqb k 0) (respected.two ⊗ (h_alike (n - 1) ⊕ h_alike 0)) (respected.two ⊗ (h_alike (k - 1) ⊕ h_alike k))

        periodic_rhs_alike : Alike (Moments.periodic_rhs A x y n) (Moments.periodic_rhs B x' y' n)
        unfolding Moments.periodic_rhs
        periodic_rhs_alike k = choice (eqb k 0) (respected.six ⊗ (s_alike 0 ⊖ s_alike (n - 1))) (u_alike (k - 1))

        periodic_alike : Alike (Moments.periodic_moment A x y n) (Moments.periodic_moment B x' y' n)
        unfolding Moments.periodic_moment
        periodic_alike =
            cyclic_alike _ _ _ _ _ _ _ _ h_alike periodic_diag_alike h_alike periodic_rhs_alike _ _ (h_alike (n - 1)) (n - 1)

        pub moment_alike : (c : Condition Both) → Alike (Moments.moment A x y n (left c)) (Moments.moment B x' y' n (right c))
        unfolding Moments.moment
        moment_alike (Endpoints lower upper) k =
            choice (eqb k 0) (first_alike lower upper)
            (choice (eqb k n) (last_alike lower upper)
            (inner_at lower upper _ _ (ap (λ d. k - d) (same_dropped lower))))
        moment_alike Periodic k = choice (leb n 1) respected.nought (periodic_alike (cond (eqb k n) 0 k))

      -- ---- the curve

      module _ (m : ℕ → A.Number) (m' : ℕ → B.Number) (on_m : Alike m m') where
        cubic_alike : {w y0 y1 m0 m1 d : A.Number} {w' y0' y1' m0' m1' d' : B.Number}
            → R w w' → R y0 y0' → R y1 y1' → R m0 m0' → R m1 m1' → R d d'
            → R (Curve.cubic A w y0 y1 m0 m1 d) (Curve.cubic B w' y0' y1' m0' m1' d')
        cubic_alike w y0 y1 m0 m1 d =
            m0 ⊗ (w ⊖ d) ⊗ (w ⊖ d) ⊗ (w ⊖ d) ⊘ (respected.six ⊗ w)
            ⊕ m1 ⊗ d ⊗ d ⊗ d ⊘ (respected.six ⊗ w)
            ⊕ (y0 ⊖ m0 ⊗ (w ⊗ w ⊘ respected.six)) ⊗ (w ⊖ d) ⊘ w
            ⊕ (y1 ⊖ m1 ⊗ (w ⊗ w ⊘ respected.six)) ⊗ d ⊘ w

        pub curve_alike : (i : ℕ) (p : A.Number) (p' : B.Number) → R p p'
            → R (Curve.curve_in_cell A x y m i p) (Curve.curve_in_cell B x' y' m' i p')
        unfolding Curve.curve_in_cell
        curve_alike i p p' on_p = cubic_alike (h_alike i) (on_y i) (on_y (i + 1)) (on_m i) (on_m (i + 1)) (on_p ⊖ on_x i)

        knot_slope_alike : (n : ℕ) → Alike (Curve.knot_slope A x y m n) (Curve.knot_slope B x' y' m' n)
        unfolding Curve.knot_slope
        knot_slope_alike n i =
            choice (ltb i n)
            (s_alike i ⊖ h_alike i ⊗ (respected.two ⊗ on_m i ⊕ on_m (i + 1)) ⊘ respected.six)
            (s_alike (n - 1) ⊕ h_alike (n - 1) ⊗ (on_m (n - 1) ⊕ respected.two ⊗ on_m n) ⊘ respected.six)

    pub lane_slope_alike : (n : ℕ) (c : Condition Both) (y : List A.Number) (y' : List B.Number) → Alike (at A y) (at B y')
        → Alike (Curve.lane_slope A x n (left c) y) (Curve.lane_slope B x' n (right c) y')
    unfolding Curve.lane_slope Moments.moments
    lane_slope_alike n c y y' on_y =
        knot_slope_alike (at A y) (at B y') on_y _ _
        (table_alike (n + 1) _ _ (moment_alike (at A y) (at B y') on_y n c)) n

  -- ---- the tensor, and the value in a cell

  arms_alike : (c : Bool) {a b : A.Number} {a' b' : B.Number} → R a a' → R b b' → R (arms c a b) (arms c a' b')
  arms_alike true p q = p
  arms_alike false p q = q

  -- the ends of a spline through derivatives
  abbrev zero_end : End Both → End Both
  zero_end NotAKnot = NotAKnot
  zero_end (FirstDerivative p) = FirstDerivative (A.nought, (B.nought, respected.nought))
  zero_end (SecondDerivative p) = SecondDerivative (A.nought, (B.nought, respected.nought))

  abbrev at_mask : ℕ → Condition Both → Condition Both
  at_mask zero c = c
  at_mask (suc mask) (Endpoints lower upper) = Endpoints (zero_end lower) (zero_end upper)
  at_mask (suc mask) Periodic = Periodic

  zero_left : (e : End Both) → end_left (zero_end e) ≡ Ends.zero_valued A (end_left e)
  zero_left NotAKnot = refl
  zero_left (FirstDerivative p) = refl
  zero_left (SecondDerivative p) = refl

  zero_right : (e : End Both) → end_right (zero_end e) ≡ Ends.zero_valued B (end_right e)
  zero_right NotAKnot = refl
  zero_right (FirstDerivative p) = refl
  zero_right (SecondDerivative p) = refl

  at_mask_left : (mask : ℕ) (c : Condition Both) → left (at_mask mask c) ≡ Ends.condition_at A mask (left c)
  at_mask_left zero c = refl
  at_mask_left (suc mask) (Endpoints lower upper) = ap₂ Endpoints (zero_left lower) (zero_left upper)
  at_mask_left (suc mask) Periodic = refl

  at_mask_right : (mask : ℕ) (c : Condition Both) → right (at_mask mask c) ≡ Ends.condition_at B mask (right c)
  at_mask_right zero c = refl
  at_mask_right (suc mask) (Endpoints lower upper) = ap₂ Endpoints (zero_right lower) (zero_right upper)
  at_mask_right (suc mask) Periodic = refl

  module _ (axes : ℕ) (points : ℕ → ℕ) (knots : ℕ → ℕ → A.Number) (knots' : ℕ → ℕ → B.Number)
      (on_knots : (i : ℕ) → Alike (knots i) (knots' i)) (conditions : ℕ → Condition Both) where
    abbrev pub left_grid : Sizes.Grid A
    left_grid = record { axes = axes; points = points; knots = knots; condition = λ i. left (conditions i) }

    abbrev pub right_grid : Sizes.Grid B
    right_grid = record { axes = axes; points = points; knots = knots'; condition = λ i. right (conditions i) }

    slope_along_alike : (i mask : ℕ) (f : Place → A.Number) (g : Place → B.Number) → ((p : Place) → R (f p) (g p)) → (p : Place)
        → R (Tensor.slope_along A left_grid i mask f p) (Tensor.slope_along B right_grid i mask g p)
    unfolding Tensor.slope_along
    slope_along_alike i mask f g on_f p =
        subst (λ c. R (Curve.lane_slope A (knots i) (points i - 1) c (table (points i) (λ k. f (moved p i k))) (p i))
        (Tensor.slope_along B right_grid i mask g p)) (at_mask_left mask (conditions i))
        (subst (λ c. R (Curve.lane_slope A (knots i) (points i - 1) (left (at_mask mask (conditions i)))
        (table (points i) (λ k. f (moved p i k))) (p i))
        (Curve.lane_slope B (knots' i) (points i - 1) c (table (points i) (λ k. g (moved p i k))) (p i)))
        (at_mask_right mask (conditions i))
        (lane_slope_alike (knots i) (knots' i) (on_knots i) (points i - 1) (at_mask mask (conditions i))
        (table (points i) (λ k. f (moved p i k))) (table (points i) (λ k. g (moved p i k)))
        (table_alike (points i) (λ k. f (moved p i k)) (λ k. g (moved p i k)) (λ k. on_f (moved p i k))) (p i)))

    module _ (samples : Place → A.Number) (samples' : Place → B.Number) (on_samples : (p : Place) → R (samples p) (samples' p)) where
      pub entry_alike : (i mask : ℕ) (p : Place)
          → R (Tensor.entry A left_grid samples i mask p) (Tensor.entry B right_grid samples' i mask p)
      unfolding Tensor.entry
      entry_alike zero mask p = on_samples p
      entry_alike (suc i) mask p =
          arms_alike (ltb mask (2 ^ i)) (entry_alike i mask p)
          (slope_along_alike i (mask - 2 ^ i) _ _ (entry_alike i (mask - 2 ^ i)) p)

      pub tensor_alike : Alike (at A (Tensor.tensor A left_grid samples)) (at B (Tensor.tensor B right_grid samples'))
      unfolding Tensor.tensor
      tensor_alike =
          table_alike (product_below points axes * 2 ^ axes) _ _
          (λ e. entry_alike axes (e % 2 ^ axes) (unflat points axes (e / 2 ^ axes)))

    hermite_alike : {p0 m0 p1 m1 w t : A.Number} {p0' m0' p1' m1' w' t' : B.Number}
        → R p0 p0' → R m0 m0' → R p1 p1' → R m1 m1' → R w w' → R t t'
        → R (Query.hermite A p0 m0 p1 m1 w t) (Query.hermite B p0' m0' p1' m1' w' t')
    unfolding Query.hermite
    hermite_alike p0 m0 p1 m1 w t =
        (respected.two ⊗ (t ⊗ t ⊗ t) ⊖ respected.three ⊗ (t ⊗ t) ⊕ respected.one) ⊗ p0
        ⊕ (t ⊗ t ⊗ t ⊖ respected.two ⊗ (t ⊗ t) ⊕ t) ⊗ w ⊗ m0
        ⊕ (respected.negative _ _ respected.two ⊗ (t ⊗ t ⊗ t) ⊕ respected.three ⊗ (t ⊗ t)) ⊗ p1
        ⊕ (t ⊗ t ⊗ t ⊖ t ⊗ t) ⊗ w ⊗ m1

    blend_alike : (axes lowest : ℕ) (w t cell : ℕ → A.Number) (w' t' cell' : ℕ → B.Number)
        → Alike w w' → Alike t t' → Alike cell cell' → R (Query.blend A axes lowest w t cell) (Query.blend B axes lowest w' t' cell')
    unfolding Query.blend Query.without_lowest
    blend_alike zero lowest w t cell w' t' cell' on_w on_t on_cell = on_cell 0
    blend_alike (suc axes) lowest w t cell w' t' cell' on_w on_t on_cell =
        blend_alike axes (suc lowest) w t _ w' t' _ on_w on_t
        (λ e. hermite_alike (on_cell (2 * e)) (on_cell (2 * e + 1)) (on_cell (2 * 4 ^ axes + 2 * e)) (on_cell (2 * 4 ^ axes + 2 * e + 1))
        (on_w lowest) (on_t lowest))

    -- the value in a cell, from numbers at places and masks
    pub value_alike : (f : Place → ℕ → A.Number) (g : Place → ℕ → B.Number) → ((p : Place) (mask : ℕ) → R (f p mask) (g p mask))
        → (cells : Place) (point : ℕ → A.Number) (point' : ℕ → B.Number) → Alike point point'
        → R (Query.value_in A left_grid f cells point) (Query.value_in B right_grid g cells point')
    unfolding Query.value_in Query.fraction
    value_alike f g on_f cells point point' on_point =
        blend_alike axes 0 _ _ _ _ _ _
        (λ i. h_alike (knots i) (knots' i) (on_knots i) (cells i))
        (λ i. (on_point i ⊖ on_knots i (cells i)) ⊘ h_alike (knots i) (knots' i) (on_knots i) (cells i))
        (λ e. on_f (corner axes cells (e / 2 ^ axes)) (e % 2 ^ axes))
