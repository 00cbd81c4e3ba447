-- A periodic axis on rising knots: both solves have dominant rows and the factor's divisor is positive, so the curve of the moments is a
-- periodic spline.
use mathlib.Core.Path.{◌≡◌, refl, sym, ◌∙◌, ap, ap₂, subst}
use mathlib.Core.List.{List, [], ◌∷◌}
use Prim.Native.Nat.{ℕ, suc, ◌+◌, ◌-◌, ◌<◌, ◌≤◌}
use native.Mathlib.Decide.{dec_lt, dec_le}
use native.Mathlib.Omega.{arith}
use lib.Dec.{eqb, leb}
use borrow.Author.Tests.{eq-eqb, ne_eqb, le-leb, lt-leb}
use Rattle.exact_arithmetic.specs.Arithmetic.{Arithmetic, IsField, IsOrdered}
use Rattle.exact_solver.specs.Expressions.{Term, var, t0, t1, t2, t3, add, sub, mul, div, neg, terms}
use Rattle.exact_solver.proofs.Solver.{solve}
use Rattle.exact_arithmetic.proofs.FieldLaws as Laws
use Rattle.exact_spline.specs.Steps as Steps
use Rattle.exact_spline.specs.Solve as Solve
use Rattle.exact_spline.specs.Rows.{Solves, SolvesCyclic, Dominant, Bounded}
use Rattle.exact_spline.specs.Moments as Moments
use Rattle.exact_spline.specs.Ends.{Periodic}
use Rattle.exact_spline.specs.Curve.{lower_slope, upper_slope}
use Rattle.exact_spline.specs.Derivatives.{slope_in_cell, second_in_cell}
use Rattle.exact_spline.specs.Spline.{IsSpline, Closed}
use Rattle.exact_spline.proofs.Thomas as Thomas
use Rattle.exact_spline.proofs.Knots as Knots
use Rattle.exact_spline.proofs.Bounds as Bounds
use Rattle.exact_spline.proofs.Cyclic as Cyclic
use Rattle.exact_spline.proofs.Tests.{cond_true, cond_false}
use Rattle.exact_spline.proofs.Endpoints.{positive_two, positive_three, minus_minus, minus_plus, plus_minus, plus_plus}

module _ (A : Arithmetic) (F : IsField A) (O : IsOrdered A) where
  infixl 60 ◌⊕◌
  infixl 60 ◌⊖◌
  infixl 70 ◌⊗◌
  infixl 70 ◌⊘◌
  open A use {Number, nought, one, two, three, six, plus as ◌⊕◌, minus as ◌⊖◌, times as ◌⊗◌, over as ◌⊘◌, negative as ~}
  open O use {Positive, positive_one, positive_plus, positive_times, positive_over, positive_not_nought}

  p2 : Positive two
  p2 = positive_two A F O

  p3 : Positive three
  p3 = positive_three A F O

  -- two thirds
  abbrev b : Number
  b = two ⊘ three

  pb : Positive b
  pb = positive_over _ _ p2 p3

  -- the first row: c is the last step, a the first
  module _ (c a : Number) (p : Positive c) (q : Positive a) where
    d_positive : Positive (two ⊗ (c ⊕ a))
    d_positive = positive_times _ _ p2 (positive_plus _ _ p q)

    abbrev d_term : Term
    d_term = mul t2 (add (var 0) (var 1))

    first_minus : Positive (two ⊗ (c ⊕ a) ⊖ ~ (two ⊗ (c ⊕ a)) ⊖ a)
    first_minus =
        subst Positive
        (solve A F 0 (c ∷ a ∷ []) tt (add (mul t2 (mul t2 (var 0))) (mul t3 (var 1))) (sub (sub d_term (neg d_term)) (var 1)) tt tt tt)
        (positive_plus _ _ (positive_times _ _ p2 (positive_times _ _ p2 p)) (positive_times _ _ p3 q))

    first_plus : Positive (two ⊗ (c ⊕ a) ⊖ ~ (two ⊗ (c ⊕ a)) ⊕ a)
    first_plus =
        subst Positive
        (solve A F 0 (c ∷ a ∷ []) tt (add (add d_term d_term) (var 1)) (add (sub d_term (neg d_term)) (var 1)) tt tt tt)
        (positive_plus _ _ (positive_plus _ _ d_positive d_positive) q)

    first_below : Positive (b ⊗ (two ⊗ (c ⊕ a) ⊖ ~ (two ⊗ (c ⊕ a)) ⊖ a) ⊖ ~ (two ⊗ (c ⊕ a)))
    first_below =
        subst Positive
        (solve A F 0 (c ∷ a ∷ []) tt
        (add (mul (div t2 t3) (sub (sub d_term (neg d_term)) (var 1))) d_term)
        (sub (mul (div t2 t3) (sub (sub d_term (neg d_term)) (var 1))) (neg d_term)) tt tt tt)
        (positive_plus _ _ (positive_times _ _ pb first_minus) d_positive)

    first_above : Positive (b ⊗ (two ⊗ (c ⊕ a) ⊖ ~ (two ⊗ (c ⊕ a)) ⊖ a) ⊕ ~ (two ⊗ (c ⊕ a)))
    first_above =
        subst Positive
        (solve A F 0 (c ∷ a ∷ []) tt
        (div (mul t2 (var 0)) t3)
        (add (mul (div t2 t3) (sub (sub d_term (neg d_term)) (var 1))) (neg d_term)) tt tt tt)
        (positive_over _ _ (positive_times _ _ p2 p) p3)

  -- the last row: a is the step before the last, c the last, d the first number of the diagonal
  module _ (a c d : Number) (p : Positive a) (q : Positive c) (r : Positive d) where
    abbrev env : List Number
    env = d ∷ a ∷ c ∷ []

    abbrev mod_term : Term
    mod_term = sub (mul t2 (add (var 1) (var 2))) (div (mul (var 2) (var 2)) (neg (var 0)))

    abbrev square_term : Term
    square_term = div (mul (var 2) (var 2)) (var 0)

    square : Positive (c ⊗ c ⊘ d)
    square = positive_over _ _ (positive_times _ _ q q) r

    last_minus : Positive (two ⊗ (a ⊕ c) ⊖ c ⊗ c ⊘ ~ d ⊖ a)
    last_minus =
        subst Positive
        (solve A F 1 env (positive_not_nought d r, tt) (add (add (var 1) (mul t2 (var 2))) square_term) (sub mod_term (var 1)) tt tt tt)
        (positive_plus _ _ (positive_plus _ _ p (positive_times _ _ p2 q)) square)

    last_plus : Positive (two ⊗ (a ⊕ c) ⊖ c ⊗ c ⊘ ~ d ⊕ a)
    last_plus =
        subst Positive
        (solve A F 1 env (positive_not_nought d r, tt) (add (add (mul t3 (var 1)) (mul t2 (var 2))) square_term)
        (add mod_term (var 1)) tt tt tt)
        (positive_plus _ _ (positive_plus _ _ (positive_times _ _ p3 p) (positive_times _ _ p2 q)) square)

    last_below : Positive (b ⊗ (two ⊗ (a ⊕ c) ⊖ c ⊗ c ⊘ ~ d ⊖ a) ⊖ c)
    last_below =
        subst Positive
        (solve A F 1 env (positive_not_nought d r, tt)
        (div (add (add (mul t2 (var 1)) (var 2)) (mul t2 square_term)) t3)
        (sub (mul (div t2 t3) (sub mod_term (var 1))) (var 2)) tt tt tt)
        (positive_over _ _ (positive_plus _ _ (positive_plus _ _ (positive_times _ _ p2 p) q) (positive_times _ _ p2 square)) p3)

    last_above : Positive (b ⊗ (two ⊗ (a ⊕ c) ⊖ c ⊗ c ⊘ ~ d ⊖ a) ⊕ c)
    last_above = positive_plus _ _ (positive_times _ _ pb last_minus) q

  minus_nought : (a : Number) → Positive a → Positive (a ⊖ nought)
  minus_nought a p = subst Positive (solve A F 0 (a ∷ []) tt (var 0) (sub (var 0) t0) tt tt tt) p

  plus_nought : (a : Number) → Positive a → Positive (a ⊕ nought)
  plus_nought a p = subst Positive (sym (F.plus_nought a)) p

  -- what the factor is divided by, where d is twice the sum of the steps c and a
  divisor_positive : (c a d v w : Number) → Positive a → Positive c → Positive d → d ≡ two ⊗ (c ⊕ a) → Positive (b ⊕ v) → Positive (b ⊖ w)
      → Positive (one ⊕ (v ⊕ c ⊘ ~ d ⊗ w))
  divisor_positive c a d v w p q r e i j =
      subst Positive
      (solve A F 1 (d ∷ c ∷ v ∷ w ∷ []) (positive_not_nought d r, tt)
      (add (add (add (div t2 t3) (var 2)) (mul (div (var 1) (var 0)) (sub (div t2 t3) (var 3))))
      (div (sub (var 0) (mul t2 (var 1))) (mul t3 (var 0))))
      (add t1 (add (var 2) (mul (div (var 1) (neg (var 0))) (var 3)))) tt tt tt)
      (positive_plus _ _ (positive_plus _ _ i (positive_times _ _ (positive_over _ _ q r) j))
      (positive_over _ _
      (subst Positive
      (solve A F 0 (c ∷ a ∷ []) tt (mul t2 (var 1)) (sub (mul t2 (add (var 0) (var 1))) (mul t2 (var 0))) tt tt tt ∙ ap (λ z. z ⊖ two ⊗ c)
      (sym e))
      (positive_times _ _ p2 p))
      (positive_times _ _ p3 r)))

  pub negative_not_nought : (d : Number) → Positive d → ¬ (~ d ≡ nought)
  negative_not_nought d p e =
      positive_not_nought d p (sym (Laws.negative_negative A F d) ∙ ap ~ e ∙ Laws.negative_nought A F)

  module _ (x y : ℕ → Number) (n : ℕ) (rising : (i : ℕ) → i < n → Positive (Steps.h A x i)) where
    abbrev h : ℕ → Number
    h = Steps.h A x

    abbrev diag : ℕ → Number
    diag = Moments.periodic_diag A x y n

    abbrev rhs : ℕ → Number
    rhs = Moments.periodic_rhs A x y n

    pub diag_first : diag 0 ≡ two ⊗ (h (n - 1) ⊕ h 0)
    unfolding Moments.periodic_diag
    diag_first = refl

    pub diag_next : (k : ℕ) → diag (suc k) ≡ two ⊗ (h k ⊕ h (suc k))
    unfolding Moments.periodic_diag
    diag_next k =
        cond_false (eqb (suc k) 0) _ _ (ne_eqb (suc k) 0 (λ e. omega arith))
        ∙ ap (λ j. two ⊗ (h j ⊕ h (suc k))) (omega arith)

    pub rhs_first : rhs 0 ≡ six ⊗ (Steps.s A x y 0 ⊖ Steps.s A x y (n - 1))
    unfolding Moments.periodic_rhs
    rhs_first = refl

    pub rhs_next : (k : ℕ) → rhs (suc k) ≡ Steps.u A x y k
    unfolding Moments.periodic_rhs
    rhs_next k =
        cond_false (eqb (suc k) 0) _ _ (ne_eqb (suc k) 0 (λ e. omega arith))
        ∙ ap (Steps.u A x y) (omega arith)

    module _ (two_cells : 2 ≤ n) where
      abbrev l : ℕ
      l = n - 2

      abbrev c : Number
      c = h (n - 1)

      corner_is : h (suc l) ≡ c
      corner_is = ap h (omega arith)

      pc : Positive c
      pc = rising (n - 1) (omega arith)

      pa : Positive (h 0)
      pa = rising 0 (omega arith)

      pub pd : Positive (diag 0)
      pd = subst Positive (sym diag_first) (d_positive c (h 0) pc pa)

      abbrev diag_mod : ℕ → Number
      diag_mod = Solve.diag_mod A h diag h rhs c (suc l)

      abbrev u_vec : ℕ → Number
      u_vec = Solve.u_vec A h diag h rhs c (suc l)

      mod_first : diag_mod 0 ≡ two ⊗ (c ⊕ h 0) ⊖ ~ (two ⊗ (c ⊕ h 0))
      mod_first = Cyclic.diag_mod_first A F h diag h rhs c l ∙ ap (λ d. d ⊖ ~ d) diag_first

      mod_middle : (k : ℕ) → k < l → diag_mod (suc k) ≡ two ⊗ (h k ⊕ h (suc k))
      mod_middle k i = Cyclic.diag_mod_middle A F h diag h rhs c l k i ∙ diag_next k

      mod_last : diag_mod (suc l) ≡ two ⊗ (h l ⊕ c) ⊖ c ⊗ c ⊘ ~ (diag 0)
      mod_last =
          Cyclic.diag_mod_last A F h diag h rhs c l
          ∙ ap (λ d. d ⊖ c ⊗ c ⊘ ~ (diag 0)) (diag_next l ∙ ap (λ e. two ⊗ (h l ⊕ e)) corner_is)

      dominant : Dominant A h diag_mod h O l
      dominant =
          record {
            first_minus = subst (λ d. Positive (d ⊖ h 0)) (sym mod_first) (first_minus c (h 0) pc pa);
            first_plus = subst (λ d. Positive (d ⊕ h 0)) (sym mod_first) (first_plus c (h 0) pc pa);
            middle_minus_minus = λ k i.
                subst (λ d. Positive (d ⊖ h (suc k) ⊖ h k)) (sym (mod_middle k i))
                (minus_minus A F O (h k) (h (suc k)) (rising k (omega arith)) (rising (suc k) (omega arith)));
            middle_minus_plus = λ k i.
                subst (λ d. Positive (d ⊖ h (suc k) ⊕ h k)) (sym (mod_middle k i))
                (minus_plus A F O (h k) (h (suc k)) (rising k (omega arith)) (rising (suc k) (omega arith)));
            middle_plus_minus = λ k i.
                subst (λ d. Positive (d ⊕ h (suc k) ⊖ h k)) (sym (mod_middle k i))
                (plus_minus A F O (h k) (h (suc k)) (rising k (omega arith)) (rising (suc k) (omega arith)));
            middle_plus_plus = λ k i.
                subst (λ d. Positive (d ⊕ h (suc k) ⊕ h k)) (sym (mod_middle k i))
                (plus_plus A F O (h k) (h (suc k)) (rising k (omega arith)) (rising (suc k) (omega arith)));
            last_minus = subst (λ d. Positive (d ⊖ h l)) (sym mod_last) (last_minus (h l) c (diag 0) (rising l (omega arith)) pc pd);
            last_plus = subst (λ d. Positive (d ⊕ h l)) (sym mod_last) (last_plus (h l) c (diag 0) (rising l (omega arith)) pc pd);
          }

      bounded : Bounded A h diag_mod h O u_vec b l
      bounded =
          record {
            sub_positive = λ k i. rising k (omega arith);
            sup_positive = λ k i. rising k (omega arith);
            first_below =
                subst Positive (sym (ap₂ (λ d r. b ⊗ (d ⊖ h 0) ⊖ r) mod_first (Cyclic.u_vec_first A F h diag h rhs c l ∙ ap ~ diag_first)))
                (first_below c (h 0) pc pa);
            first_above =
                subst Positive (sym (ap₂ (λ d r. b ⊗ (d ⊖ h 0) ⊕ r) mod_first (Cyclic.u_vec_first A F h diag h rhs c l ∙ ap ~ diag_first)))
                (first_above c (h 0) pc pa);
            middle_below = λ k i.
                subst Positive (sym (ap₂ (λ d r. b ⊗ (d ⊖ h (suc k) ⊖ h k) ⊖ r) (mod_middle k i)
                (Cyclic.u_vec_middle A F h diag h rhs c l k i)))
                (minus_nought _
                (positive_times _ _ pb (minus_minus A F O (h k) (h (suc k)) (rising k (omega arith)) (rising (suc k) (omega arith)))));
            middle_above = λ k i.
                subst Positive (sym (ap₂ (λ d r. b ⊗ (d ⊖ h (suc k) ⊖ h k) ⊕ r) (mod_middle k i)
                (Cyclic.u_vec_middle A F h diag h rhs c l k i)))
                (plus_nought _
                (positive_times _ _ pb (minus_minus A F O (h k) (h (suc k)) (rising k (omega arith)) (rising (suc k) (omega arith)))));
            last_below =
                subst Positive (sym (ap₂ (λ d r. b ⊗ (d ⊖ h l) ⊖ r) mod_last (Cyclic.u_vec_last A F h diag h rhs c l)))
                (last_below (h l) c (diag 0) (rising l (omega arith)) pc pd);
            last_above =
                subst Positive (sym (ap₂ (λ d r. b ⊗ (d ⊖ h l) ⊕ r) mod_last (Cyclic.u_vec_last A F h diag h rhs c l)))
                (last_above (h l) c (diag 0) (rising l (omega arith)) pc pd);
          }

      abbrev z : ℕ → Number
      z = Solve.z A h diag h rhs c (suc l)

      pub pivots : (r : ℕ → Number) (k : ℕ) → k ≤ suc l → ¬ (Solve.w A h diag_mod h r k ≡ nought)
      pivots r k i = positive_not_nought _ (Thomas.pivots_positive A F O h diag_mod h r l dominant k i)

      ys : Solves A h diag_mod h rhs l (Solve.y A h diag h rhs c (suc l))
      unfolding Solve.y
      ys = Thomas.thomas_solves A F h diag_mod h rhs l (pivots rhs)

      pub zs : Solves A h diag_mod h u_vec l z
      unfolding Solve.z
      zs = Thomas.thomas_solves A F h diag_mod h u_vec l (pivots u_vec)

      z_bounded : (k : ℕ) → k ≤ suc l → Positive (b ⊖ z k) × Positive (b ⊕ z k)
      unfolding Solve.z
      z_bounded = Bounds.thomas_bounded A F O h diag_mod h u_vec b l dominant bounded

      pub divisor : ¬ (one ⊕ (z 0 ⊕ c ⊘ ~ (diag 0) ⊗ z (suc l)) ≡ nought)
      divisor =
          positive_not_nought _
          (divisor_positive c (h 0) (diag 0) (z 0) (z (suc l)) pa pc pd diag_first (z_bounded 0 (omega arith)).1
          (z_bounded (suc l) (omega arith)).0)

      pub cyclic : SolvesCyclic A h diag h rhs c l (Solve.cyclic_thomas A h diag h rhs c (suc l))
      cyclic = Cyclic.cyclic_solves A F h diag h rhs c l (negative_not_nought (diag 0) pd) divisor ys zs

      abbrev v : ℕ → Number
      v = Solve.cyclic_thomas A h diag h rhs c (suc l)

      abbrev m : ℕ → Number
      m = Moments.moment A x y n Periodic

      pub moment_is : (k : ℕ) → k < n → m k ≡ v k
      unfolding Moments.moment Moments.periodic_moment
      moment_is k i =
          cond_false (leb n 1) _ _ (lt-leb n 1 (omega arith))
          ∙ ap (Moments.periodic_moment A x y n) (cond_false (eqb k n) 0 k (ne_eqb k n (λ e. omega arith)))
          ∙ ap (λ a. Solve.cyclic_thomas A h diag h rhs c a k) (omega arith)

      pub moment_last : m n ≡ v 0
      unfolding Moments.moment Moments.periodic_moment
      moment_last =
          cond_false (leb n 1) _ _ (lt-leb n 1 (omega arith))
          ∙ ap (Moments.periodic_moment A x y n) (cond_true (eqb n n) 0 n (eq-eqb n n refl))
          ∙ ap (λ a. Solve.cyclic_thomas A h diag h rhs c a 0) (omega arith)

      interior : (k : ℕ) → k + 1 < n → Knots.Interior A F x y m k
      interior k i = go (dec_lt k l)
        where
          e1 : k + 1 ≡ suc k
          e1 = omega arith

          go : Dec (k < l) → Knots.Interior A F x y m k
          go (yes j) =
              ap₂ ◌⊕◌
              (ap₂ ◌⊕◌
              (ap (λ z. h k ⊗ z) (moment_is k (omega arith)))
              (ap₂ ◌⊗◌ (ap (λ j. two ⊗ (h k ⊕ h j)) e1 ∙ sym (diag_next k)) (moment_is (k + 1) i ∙ ap v e1)))
              (ap₂ ◌⊗◌ (ap h e1) (moment_is (k + 1 + 1) (omega arith) ∙ ap v (omega arith)))
              ∙ cyclic.middle k j
              ∙ rhs_next k
          go (no j) =
              let e : k ≡ l = omega arith in
              let f : k + 1 ≡ suc l = omega arith in
              let g : k + 1 + 1 ≡ n = omega arith in
              ap₂ ◌⊕◌
              (ap₂ ◌⊕◌
              (ap₂ ◌⊗◌ (ap h e) (moment_is k (omega arith) ∙ ap v e))
              (ap₂ ◌⊗◌ (ap₂ (λ p q. two ⊗ (h p ⊕ h q)) e f ∙ sym (diag_next l)) (moment_is (k + 1) i ∙ ap v f)))
              (ap₂ ◌⊗◌ (ap h f ∙ corner_is) (ap m g ∙ moment_last))
              ∙ cyclic.last
              ∙ rhs_next l
              ∙ ap (Steps.u A x y) (sym e)

      wide : (i : ℕ) → i < n → ¬ (h i ≡ nought)
      wide i j = positive_not_nought _ (rising i j)

      spline : IsSpline A x y n m
      spline =
          record {
            lower_sample = λ i j. Knots.at_lower_knot A F x y m i (wide i j);
            upper_sample = λ i j. Knots.at_upper_knot A F x y m i (wide i j);
            slopes_meet = λ i j. Knots.meet_of_interior A F x y m i (wide i (omega arith)) (wide (i + 1) j) (interior i j);
            seconds_meet = λ i j. Knots.seconds_always_meet A F x y m i (wide i (omega arith)) (wide (i + 1) j);
          }

      -- the row of the knot where the curve closes
      closing : c ⊗ v (suc l) ⊕ two ⊗ (c ⊕ h 0) ⊗ v 0 ⊕ h 0 ⊗ v 1 ≡ six ⊗ (Steps.s A x y 0 ⊖ Steps.s A x y (n - 1))
      closing =
          solve A F 0 (c ∷ h 0 ∷ v (suc l) ∷ v 0 ∷ v 1 ∷ []) tt
          (add (add (mul (var 0) (var 2)) (mul (mul t2 (add (var 0) (var 1))) (var 3))) (mul (var 1) (var 4)))
          (add (add (mul (mul t2 (add (var 0) (var 1))) (var 3)) (mul (var 1) (var 4))) (mul (var 0) (var 2)))
          tt tt tt
          ∙ ap (λ d. d ⊗ v 0 ⊕ h 0 ⊗ v 1 ⊕ c ⊗ v (suc l)) (sym diag_first)
          ∙ cyclic.first
          ∙ rhs_first

      closed : Closed A x y n m
      closed =
          record {
            slopes_close =
                let f : n - 1 + 1 ≡ n = omega arith in
                let g : n - 1 ≡ suc l = omega arith in
                ap (λ k. slope_in_cell A x y m (n - 1) (x k)) (sym f)
                ∙ Knots.slope_at_upper_knot A F x y m (n - 1) (wide (n - 1) (omega arith))
                ∙ ap₂ (λ p q. upper_slope A c (Steps.s A x y (n - 1)) p q) (moment_is (n - 1) (omega arith) ∙ ap v g) (ap m f ∙ moment_last)
                ∙ Knots.slopes_of_row A F c (h 0) (Steps.s A x y (n - 1)) (Steps.s A x y 0) (v (suc l)) (v 0) (v 1) closing
                ∙ ap₂ (λ p q. lower_slope A (h 0) (Steps.s A x y 0) p q) (sym (moment_is 0 (omega arith))) (sym (moment_is 1 (omega arith)))
                ∙ sym (Knots.slope_at_lower_knot A F x y m 0 (wide 0 (omega arith)));
            seconds_close =
                let f : n - 1 + 1 ≡ n = omega arith in
                ap (λ k. second_in_cell A x y m (n - 1) (x k)) (sym f)
                ∙ Knots.second_at_upper_knot A F x y m (n - 1) (wide (n - 1) (omega arith))
                ∙ ap m f
                ∙ moment_last
                ∙ sym (moment_is 0 (omega arith))
                ∙ sym (Knots.second_at_lower_knot A F x y m 0 (wide 0 (omega arith)));
          }

    -- one cell: the moments are nought, and the curve is a straight line
    module _ (one_cell : n ≡ 1) where
      abbrev m1 : ℕ → Number
      m1 = Moments.moment A x y n Periodic

      pub moment_nought : (k : ℕ) → m1 k ≡ nought
      unfolding Moments.moment
      moment_nought k = cond_true (leb n 1) _ _ (le-leb n 1 (omega arith))

      wide1 : (i : ℕ) → i < n → ¬ (h i ≡ nought)
      wide1 i j = positive_not_nought _ (rising i j)

      spline1 : IsSpline A x y n m1
      spline1 =
          record {
            lower_sample = λ i j. Knots.at_lower_knot A F x y m1 i (wide1 i j);
            upper_sample = λ i j. Knots.at_upper_knot A F x y m1 i (wide1 i j);
            slopes_meet = λ i j. let z : ⊥ = omega arith in absurd z;
            seconds_meet = λ i j. let z : ⊥ = omega arith in absurd z;
          }

      straight : (a t : Number) → upper_slope A a t nought nought ≡ lower_slope A a t nought nought
      straight a t =
          solve A F 0 (a ∷ t ∷ []) tt (upper_slope terms (var 0) (var 1) t0 t0) (lower_slope terms (var 0) (var 1) t0 t0) tt tt tt

      closed1 : Closed A x y n m1
      closed1 =
          record {
            slopes_close =
                let e : n - 1 ≡ 0 = omega arith in
                ap₂ (λ i k. slope_in_cell A x y m1 i (x k)) e one_cell
                ∙ Knots.slope_at_upper_knot A F x y m1 0 (wide1 0 (omega arith))
                ∙ ap₂ (upper_slope A (h 0) (Steps.s A x y 0)) (moment_nought 0) (moment_nought 1)
                ∙ straight (h 0) (Steps.s A x y 0)
                ∙ sym (ap₂ (lower_slope A (h 0) (Steps.s A x y 0)) (moment_nought 0) (moment_nought 1))
                ∙ sym (Knots.slope_at_lower_knot A F x y m1 0 (wide1 0 (omega arith)));
            seconds_close =
                let e : n - 1 ≡ 0 = omega arith in
                ap₂ (λ i k. second_in_cell A x y m1 i (x k)) e one_cell
                ∙ Knots.second_at_upper_knot A F x y m1 0 (wide1 0 (omega arith))
                ∙ moment_nought 1
                ∙ sym (moment_nought 0)
                ∙ sym (Knots.second_at_lower_knot A F x y m1 0 (wide1 0 (omega arith)));
          }

    pub periodic_spline : 1 ≤ n → IsSpline A x y n (Moments.moment A x y n Periodic) × Closed A x y n (Moments.moment A x y n Periodic)
    periodic_spline i = go (dec_le 2 n)
      where
        go : Dec (2 ≤ n) → IsSpline A x y n (Moments.moment A x y n Periodic) × Closed A x y n (Moments.moment A x y n Periodic)
        go (yes j) = (spline j, closed j)
        go (no j) = (spline1 (omega arith), closed1 (omega arith))
